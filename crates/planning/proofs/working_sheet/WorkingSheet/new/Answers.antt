use Rattle.std.proofs.Common.{ℕ, Bool, map, ap, ◌∙◌}
use Rattle.slot_set.specs.Sets.{has, keep}
use Rattle.sheet.specs.Contents.{contents}
use Rattle.planning.specs.Standing.{Standing, standing_from}
use Rattle.planning.proofs.working_sheet.WorkingSheet.new.Goals as goal

pub returns-clause-sets : goal.returns-clause-sets
returns-clause-sets c =
    let s = contents c.args.sheet.now in
    c.with_rows.ensures.sets
    ∙ ap (λ es. map (λ (x : Standing). keep (has c.without_cases.result.opened) x.entry.allowed) (standing_from 0 es)) c.rows.ensures
    ∙ ap (λ (f : ℕ → Bool). map (λ (x : Standing). keep f x.entry.allowed) (standing_from 0 s.rows)) (λ j slot. c.without_cases.ensures.opened slot j)
