-- What a trial remembers. Assumes nothing.
use Rattle.std.specs.Prelude.{List, reverse}
use Rattle.arrayvec.specs.ArrayVec.{ArrayVec}
use Rattle.sheet.specs.declared.undo.Undo.{Undo}

-- the entries of a journal, the latest first
abbrev pub noted : ArrayVec Undo → List Undo
noted j = reverse j.items
