-- What a board stands for: its sheet, and the older sheets that its journal leads back to. Assumes nothing.
use Rattle.std.specs.Prelude.{List, [], ◌∷◌}
use Rattle.sheet.specs.declared.undo.Undo.{Undo}
use Rattle.sheet.specs.Contents.{Contents, contents}
use Rattle.sheet.specs.Undoing.{undone}
use Rattle.board.specs.declared.settled.Settled.{Settled}
use Rattle.board.specs.declared.trial.Trial.{Trial}
use Rattle.board.specs.Noted.{noted}
use Rattle.board.specs.Past.{Left, left}

-- the sheets that undoing one entry after the other comes through
abbrev pub unwound : List Undo → Contents → List Contents
unwound [] s = []
unwound (u ∷ us) s = undone u s ∷ unwound us (undone u s)

abbrev pub settled_view : Settled → Left
settled_view b = left (contents b.sheet) []

abbrev pub trial_view : Trial → Left
trial_view t = left (contents t.sheet) (unwound (noted t.journal) (contents t.sheet))
