use Rattle.std.proofs.Common.{◌≡◌, length}
use Rattle.sheet.specs.Contents.{contents}
use Rattle.board.specs.Noted.{noted}
use Rattle.board.specs.Past.{first_sheet}
use Rattle.board.specs.Views.{unwound}
use Rattle.board.proofs.trial.Trial.revert.Given as goal

-- the first sheet of the trial is where the entries that are left lead to
abbrev pub invariant-loop-entry : goal.invariant-loop-entry
invariant-loop-entry l =
    first_sheet (contents l.sheet) (unwound (noted l.journal) (contents l.sheet))
    ≡ first_sheet (contents l.initial.sheet) (unwound (noted l.initial.journal) (contents l.initial.sheet))

abbrev pub decreases-loop-entry : goal.decreases-loop-entry
decreases-loop-entry l = length (noted l.journal)
