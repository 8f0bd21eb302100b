use Rattle.std.proofs.Common.{◌≡◌, get_or, length, take, ◌+ℤ◌, sym, ap, ◌∙◌, arith, w64, SFits, to_z, of_z, rules}
use Rattle.std.proofs.lemmas.Int.{ints, to_z-of_z}
use Rattle.std.proofs.lemmas.List.{length_push, length-take-le, get_or-take}
use Rattle.std.proofs.lemmas.Slice.Zip.{zip_turn}
use Rattle.planning.specs.Plans.{at_slot, sum_of}
use Rattle.planning.specs.Working.{given as sheet_given}
use Rattle.search.proofs.Sums.{sum_more}
use Rattle.search.proofs.totals.added_up.Goals as goal

pub overflow_add-sum : goal.overflow_add-sum
overflow_add-sum g c =
    let h = c.args.sheet.now in
    let t = zip_turn (take h.count h.needs) c.args.plan.now c.loop-need.yielded c.into_iter-need-iterator.result c.loop-need.need-iterator c.next.new.self _ (cc) (cc) c.loop-need.yielded_by _ c.in-Some.is c.next.ensures.steps in
    let b = c.charge_at-sum.ensures.small in
    omega (arith, ints)

pub loop-need-preserved : goal.loop-need-preserved
loop-need-preserved g c =
    let h = c.args.sheet.now in
    let charge = at_slot (sheet_given h (g.T.Tariff.charges c.args.tariff.now)) in
    let k = length c.loop-need.yielded in
    let t = zip_turn (take h.count h.needs) c.args.plan.now c.loop-need.yielded c.into_iter-need-iterator.result c.loop-need.need-iterator c.next.new.self _ (cc) (cc) c.loop-need.yielded_by _ c.in-Some.is c.next.ensures.steps in
    let b = c.charge_at-sum.ensures.small in
    let n = length_push c.loop-need.yielded (c.in-Some.need, c.in-Some.slot) in
    let r : SFits w64 c.charge_at-sum.result = search rules in
    let len = length-take-le h.count h.needs (omega arith) in
    let one : to_z w64 (of_z w64 c.charge_at-sum.result) ≡ charge (get_or h.needs k 0) (get_or c.args.plan.now k 0) =
    to_z-of_z w64 c.charge_at-sum.result r
    ∙ c.charge_at-sum.ensures.charge
    ∙ ap (λ x. charge x c.in-Some.slot.now) (t.2 0 ∙ get_or-take h.count h.needs k 0 (omega arith))
    ∙ ap (charge (get_or h.needs k 0)) (t.3 0) in
    record {
      charged =
          to_z-of_z w64 (to_z w64 c.loop-need.sum-bits +ℤ to_z w64 (of_z w64 c.charge_at-sum.result)) (overflow_add-sum g c)
          ∙ ap (λ x. to_z w64 c.loop-need.sum-bits +ℤ x) one
          ∙ ap (λ x. x +ℤ charge (get_or h.needs k 0) (get_or c.args.plan.now k 0)) c.loop-need.invariant.charged
          ∙ sym (sum_more charge h.needs c.args.plan.now k (omega arith) (omega arith))
          ∙ ap (λ j. sum_of charge (take j h.needs) (take j c.args.plan.now)) (sym n);
      above = omega (arith, ints);
      below = omega (arith, ints);
    }
