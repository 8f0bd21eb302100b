use Rattle.std.proofs.Common.{◌≡◌, ℕ, ◌+◌, ◌<◌, ◌≢◌, ◌++◌, [], ◌∷◌, length, get_or, set, ℤ, pos, ◌+ℤ◌, sym, ap, ap₂, ◌∙◌, ⊎_elim, add-one, add-zero, arith, rules, w64, to_z, of_z}
use Rattle.std.specs.List.{zip}
use Rattle.std.proofs.lemmas.Iterator.{YieldsList-from_slice, YieldsList-from_zip}
use Rattle.std.proofs.lemmas.Iterator.Consumers.{YieldsList-at, YieldsList-end, YieldsList-from_enumerate, YieldsList-turn}
use Rattle.std.proofs.lemmas.List.{get_or-set_other, get_or-set_same, length-append, length-set}
use Rattle.std.proofs.lemmas.List.FromFn.{length-enumerate_from}
use Rattle.std.proofs.lemmas.Slice.Zip.{length-zip}
use Rattle.std.proofs.lemmas.Int.{ints, to_z-of_z}
use Rattle.std.proofs.lemmas.Bool.{cases_eq}
use Rattle.bound.specs.Tables.{beside, sum_below}
use Rattle.bound.proofs.Filling.{below_within, number_at, pair_at, sums_small}
use Rattle.bound.proofs.running.running_sums.Goals as goal

pub overflow_add-sums : goal.overflow_add-sums
overflow_add-sums g c =
    let ns = c.args.needs.now in
    let qs = c.args.prices.now in
    let n = length c.loop-j.yielded in
    let turn = number_at (zip ns qs) n c.in-Some.j (c.in-Some.need.now, c.in-Some.price.now)
    (YieldsList-turn (YieldsList-at c.into_iter-j-iterator.ensures.into_iter_gives (YieldsList-from_enumerate (YieldsList-at c.enumerate-j-items.ensures.source (YieldsList-from_zip (YieldsList-from_slice ns cc) (YieldsList-from_slice qs cc))) cc))
    c.loop-j.yielded c.loop-j.j-iterator c.loop-j.yielded_by c.next.result c.next.new.self (c.in-Some.j, (c.in-Some.need, c.in-Some.price)) c.in-Some.is c.next.ensures.steps) in
    let few : n < 16 = omega (arith, c.requires.few, turn.1, length-zip ns qs) in
    let b = below_within (g.T.Tariff.charges c.args.tariff.now) g.T.Tariff.greatest (g.met.T.Tariff.lawful c.args.tariff.now) ns qs 0 0 n in
    let e = ap (λ (i : ℕ). get_or c.loop-j.sums i (pos 0)) turn.0 ∙ c.loop-j.invariant.1 n (omega arith) in
    let s = c.charge_of.ensures.small in
    omega (arith, ints)

pub loop-j-preserved : goal.loop-j-preserved
loop-j-preserved g c =
    let charges = g.T.Tariff.charges c.args.tariff.now in
    let ns = c.args.needs.now in
    let qs = c.args.prices.now in
    let n = length c.loop-j.yielded in
    let zs = c.loop-j.sums in
    let f : ℕ → ℤ = beside charges ns qs 0 0 in
    let turn = number_at (zip ns qs) n c.in-Some.j (c.in-Some.need.now, c.in-Some.price.now)
    (YieldsList-turn (YieldsList-at c.into_iter-j-iterator.ensures.into_iter_gives (YieldsList-from_enumerate (YieldsList-at c.enumerate-j-items.ensures.source (YieldsList-from_zip (YieldsList-from_slice ns cc) (YieldsList-from_slice qs cc))) cc))
    c.loop-j.yielded c.loop-j.j-iterator c.loop-j.yielded_by c.next.result c.next.new.self (c.in-Some.j, (c.in-Some.need, c.in-Some.price)) c.in-Some.is c.next.ensures.steps) in
    let pair = pair_at ns qs n c.in-Some.need.now 0 c.in-Some.price.now (pos 0) (turn.1, turn.2) in
    let few : n < 16 = omega (arith, c.requires.few, pair.0) in
    let next : length (c.loop-j.yielded ++ (c.in-Some.j, (c.in-Some.need, c.in-Some.price)) ∷ []) ≡ n + 1 = length-append c.loop-j.yielded ((c.in-Some.j, (c.in-Some.need, c.in-Some.price)) ∷ []) in
    let b = below_within charges g.T.Tariff.greatest (g.met.T.Tariff.lawful c.args.tariff.now) ns qs 0 0 n in
    let e = ap (λ (i : ℕ). get_or zs i (pos 0)) turn.0 ∙ c.loop-j.invariant.1 n (omega arith) in
    let s = c.charge_of.ensures.small in
    let q : c.charge_of.result ≡ f n =
    c.charge_of.ensures.charge
    ∙ ap₂ charges (pair.2 ∙ ap (λ (i : ℕ). get_or ns i 0) (sym (add-zero n)))
    (to_z-of_z w64 c.in-Some.price.now (search rules) ∙ pair.3 ∙ ap (λ (i : ℕ). get_or qs i (pos 0)) (sym (add-zero n))) in
    let v : ℤ = to_z w64 (of_z w64 (to_z w64 (of_z w64 (get_or zs c.in-Some.j (pos 0))) +ℤ to_z w64 (of_z w64 c.charge_of.result))) in
    let is : v ≡ (sum_below f n +ℤ f n) = omega (arith, ints) in
    let here : v ≡ sum_below f (n + 1) = is ∙ ap (sum_below f) (sym (add-one n)) in
    let j = c.in-Some.j + 1 in
    let at : j ≡ n + 1 = omega (arith, turn.0) in (
      length-set zs j v ∙ c.loop-j.invariant.0,
      λ k l. ⊎_elim
          (λ m. ap (λ (i : ℕ). get_or (set zs j v) i (pos 0)) m ∙ get_or-set_same zs j v (pos 0) (omega (arith, at)) ∙ here ∙ ap (sum_below f) (sym (m ∙ at)))
          (λ m. get_or-set_other zs j k v (pos 0) m ∙ c.loop-j.invariant.1 k (omega (arith, next, at)))
          (cases_eq k j),
      λ k l. let other : k ≢ j = omega (arith, next, at) in get_or-set_other zs j k v (pos 0) other ∙ c.loop-j.invariant.2 k (omega (arith, next)),
    )

pub returns-clause-small : goal.returns-clause-small
returns-clause-small g c =
    let ns = c.args.needs.now in
    let qs = c.args.prices.now in
    let end = YieldsList-end (YieldsList-at c.into_iter-j-iterator.ensures.into_iter_gives (YieldsList-from_enumerate (YieldsList-at c.enumerate-j-items.ensures.source (YieldsList-from_zip (YieldsList-from_slice ns cc) (YieldsList-from_slice qs cc))) cc))
    c.loop-j.yielded c.loop-j.j-iterator c.loop-j.yielded_by c.next.result c.next.new.self c.in-None.is c.next.ensures.steps in
    sums_small (g.T.Tariff.charges c.args.tariff.now) g.T.Tariff.greatest (g.met.T.Tariff.lawful c.args.tariff.now) ns qs 0 0 (length c.loop-j.yielded) c.loop-j.sums
    (omega (arith, end.1, length-enumerate_from 0 (zip ns qs), length-zip ns qs, c.requires.few)) c.loop-j.invariant.1 c.loop-j.invariant.2
