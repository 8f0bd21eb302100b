use Rattle.std.proofs.Common.{rules, w64, pos, get_or, ◌≡◌, ◌+◌, ◌++◌, [], ◌∷◌, length, take, sym, ap, ◌∙◌, subst, length-append, length-take-le, arith}
use Rattle.std.proofs.lemmas.Int.{ints, to_z-of_z}
use Rattle.std.proofs.lemmas.Slice.Zip.{zip_end, zip_turn}
use Rattle.slot_set.specs.Sets.{has, single, OnlySlot}
use Rattle.planning.specs.Working.{given as given_in, sets_in}
use Rattle.bound.proofs.Filling.{fixed_none, fixed_skip, fixed_take, pair_read}
use Rattle.bound.proofs.running.sum_of_fixed.Goals as goal

pub loop-set-preserved-in-Some-only : goal.loop-set-preserved-in-Some-only
loop-set-preserved-in-Some-only g c =
    let w = c.args.work.now in
    let given = given_in w (g.T.Tariff.charges c.args.tariff.now) in
    let seen = c.loop-set.yielded in
    let n = length seen in
    let turn = zip_turn (sets_in w) (take w.count w.needs) seen c.into_iter-set-iterator.result c.loop-set.set-iterator c.next.new.self c.next.result (search rules) (search rules) c.loop-set.yielded_by (c.in-Some.set, c.in-Some.need) c.in-Some.is c.next.ensures.steps in
    let read = pair_read w n c.in-Some.set.now c.in-Some.need.now turn in
    let next : length (seen ++ (c.in-Some.set, c.in-Some.need) ∷ []) ≡ n + 1 = length-append seen ((c.in-Some.set, c.in-Some.need) ∷ []) in
    let small = c.loop-set.invariant.small in
    let only = subst (OnlySlot c.from.result.word) c.in-Some-only.is c.only.ensures in
    let z = c.charge_of-sum.result in
    let more = fixed_take given w n _ c.in-Some.set.now c.in-Some.need.now _ _ next read.0 read.1 read.2 c.loop-set.invariant.sum c.in-Some-only.slot z
    (ap single (sym c.from.ensures) ∙ only.0) only.1 (ap (λ d. has d c.in-Some-only.slot) (sym c.from.ensures) ∙ only.2) (c.charge_of-sum.ensures.charge ∙ ap (λ p. g.T.Tariff.charges c.args.tariff.now c.in-Some.need.now p) (to_z-of_z w64 (get_or w.prices c.in-Some-only.slot (pos 0)) (search rules))) in
    let little = c.charge_of-sum.ensures.small in
    record {
      seen = omega (arith, next, read.0);
      sum = omega (arith, ints, more, read.0);
      small = record { low = omega (arith, ints, next, read.0); high = omega (arith, ints, next, read.0) };
    }

pub loop-set-preserved : goal.loop-set-preserved
loop-set-preserved g c =
    let w = c.args.work.now in
    let given = given_in w (g.T.Tariff.charges c.args.tariff.now) in
    let seen = c.loop-set.yielded in
    let n = length seen in
    let turn = zip_turn (sets_in w) (take w.count w.needs) seen c.into_iter-set-iterator.result c.loop-set.set-iterator c.next.new.self c.next.result (search rules) (search rules) c.loop-set.yielded_by (c.in-Some.set, c.in-Some.need) c.in-Some.is c.next.ensures.steps in
    let read = pair_read w n c.in-Some.set.now c.in-Some.need.now turn in
    let next : length (seen ++ (c.in-Some.set, c.in-Some.need) ∷ []) ≡ n + 1 = length-append seen ((c.in-Some.set, c.in-Some.need) ∷ []) in
    let small = c.loop-set.invariant.small in
    record {
      seen = omega (arith, next, read.0);
      sum = fixed_skip given w n _ c.in-Some.set.now c.in-Some.need.now _ _ next read.0 read.1 read.2 c.loop-set.invariant.sum (sym (ap single c.from.ensures) ∙ c.in_default.ensures);
      small = record { low = omega (arith, ints, next, read.0); high = omega (arith, ints, next, read.0) };
    }

pub returns-clause-sum : goal.returns-clause-sum
returns-clause-sum g c =
    let w = c.args.work.now in
    let given = given_in w (g.T.Tariff.charges c.args.tariff.now) in
    let seen = c.loop-set.yielded in
    let sets : length (sets_in w) ≡ w.count = length-take-le w.count w.sets (omega arith) in
    let needs : length (take w.count w.needs) ≡ w.count = length-take-le w.count w.needs (omega arith) in
    let end = zip_end (sets_in w) (take w.count w.needs) seen c.into_iter-set-iterator.result c.loop-set.set-iterator c.next.new.self c.next.result (search rules) (search rules) c.loop-set.yielded_by c.in-None.is c.next.ensures.steps in
    let none = fixed_none given w (length seen) (omega (arith, end)) in
    omega (arith, ints, none, c.loop-set.invariant.sum)
