use Rattle.std.proofs.Common.{◌^◌, ◌<◌, ◌≤◌, [], ◌∷◌, ◌++◌, take, ap, ◌∙◌, arith}
use lib.Bits.{bit_and, and_le_l}
use Rattle.std.proofs.lemmas.List.{length-set, take_more_set}
use Rattle.slot_set.specs.Sets.{has, keep}
use Rattle.slot_set.proofs.Words.{has_and}
use Rattle.slot_set.proofs.Keeps.{is_keep}
use Rattle.planning.proofs.WorkingTables.{open_set, needed_more, and_right}
use Rattle.planning.proofs.working_sheet.WorkingSheet.with_case.Goals as goal

pub invariant_of-result : goal.invariant_of-result
invariant_of-result c =
    let w = c.args.self in
    let low : 1 ≤ c.args.case.need = c.args.case.needs_some in
    let high : c.args.case.need ≤ 20000 = c.args.case.needs_at_most in
    let some : (1 ≤ c.need.result) × (c.need.result ≤ 20000) = (omega (arith, c.need.ensures), omega (arith, c.need.ensures)) in
    record {
      places = length-set w.needs w.count c.need.result ∙ w.places;
      sized = length-set w.sets w.count (bit_and c.from.result w.opened) ∙ w.sized;
      few = omega arith;
      needed = needed_more w.count c.need.result w.needs (omega arith) w.needed some;
      priced = w.priced;
      usable = open_set w.opened w.count (bit_and c.from.result w.opened) w.sets w.usable (and_right c.from.result w.opened);
    }

pub returns-clause-sets : goal.returns-clause-sets
returns-clause-sets c =
    let w = c.args.self in
    let small : bit_and c.from.result w.opened < 2 ^ 64 = omega (arith, and_le_l c.from.result w.opened) in
    take_more_set w.sets w.count (bit_and c.from.result w.opened) (omega arith)
    ∙ ap (λ x. take w.count w.sets ++ (x ∷ [])) (is_keep (has w.opened) c.from.result (bit_and c.from.result w.opened) small (λ s l. has_and c.from.result w.opened s))
    ∙ ap (λ x. take w.count w.sets ++ (keep (has w.opened) x ∷ [])) (c.from.ensures ∙ c.allowed.ensures)
