use Rattle.std.proofs.Common.{◌≡◌, ◌≤◌, map, take}
use Rattle.std.specs.Option.{option_map}
use Rattle.slot_set.specs.Sets.{has, keep}
use Rattle.sheet.specs.Contents.{entry}
use Rattle.planning.specs.Standing.{standing_from}
use Rattle.planning.specs.Working.{sets_in}
use Rattle.planning.proofs.working_sheet.WorkingSheet.with_rows.Given as goal

-- the cases of the rows passed so far
abbrev pub invariant-loop-row : goal.invariant-loop-row
invariant-loop-row l =
    (l.work.count ≤ l.row)
    × (take l.work.count l.work.rows ≡ map (λ c. c.row) (standing_from 0 (take l.row (map (option_map entry) l.rows))))
    × (take l.work.count l.work.needs ≡ map (λ c. c.entry.need) (standing_from 0 (take l.row (map (option_map entry) l.rows))))
    × (sets_in l.work ≡ map (λ c. keep (has l.initial.work.opened) c.entry.allowed) (standing_from 0 (take l.row (map (option_map entry) l.rows))))
    × (l.work.prices ≡ l.initial.work.prices)
    × (l.work.opened ≡ l.initial.work.opened)
