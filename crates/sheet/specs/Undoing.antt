-- What an undo entry makes of a sheet. Assumes nothing.
use Rattle.std.specs.Prelude.{cond, nat_lt}
use Rattle.std.specs.Option.{option_map}
use Rattle.sheet.specs.declared.undo.Undo.{Undo}
use Rattle.sheet.specs.declared.undo.Undo.TheVariants.{Row, Slot}
use Rattle.sheet.specs.Contents.{Contents, entry, amount, with_row, with_slot}

-- the row or the slot holds again what the entry says; an entry for no row and no slot does nothing
abbrev pub undone : Undo → Contents → Contents
undone (Row row case) s = cond (nat_lt 15 row) s (with_row s row (option_map entry case))
undone (Slot slot price) s = cond (nat_lt 63 slot) s (with_slot s slot (option_map amount price))
