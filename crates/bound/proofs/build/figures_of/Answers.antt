use Rattle.std.proofs.Common.{◌≡◌, ◌+◌, ◌-◌, ◌≤◌, length, get_or, take, drop, pos, sym, ◌∙◌, arith, w64, rules}
use Rattle.std.proofs.lemmas.Int.{to_z-of_z}
use Rattle.std.proofs.lemmas.List.{length-drop, length-take, length-take-le}
use Rattle.bound.specs.Bound.{free_of, union}
use Rattle.bound.specs.Tables.{rows_in}
use Rattle.bound.proofs.Filling.{free_few}
use Rattle.bound.proofs.Summing.{below_part, from_start, level_is, lower_is, part_at, slots_are, upper_is}
use Rattle.bound.proofs.build.figures_of.Goals as goal

pub slice_bounds-running_sums-end : goal.slice_bounds-running_sums-end
slice_bounds-running_sums-end g c =
    let long : length c.needs_by_place-needs.result ≡ 17 = search rules in
    sym (length-take-le c.args.n c.needs_by_place-needs.result (omega (arith, free_few c.args.work.now, c.requires.cases)))

pub running_sums-level-requires-clause-few : goal.running_sums-level-requires-clause-few
running_sums-level-requires-clause-few g c = omega (arith, free_few c.args.work.now, c.requires.cases, length-take c.args.n c.needs_by_place-needs.result)

pub returns : goal.returns
returns g c =
    let w = c.args.work.now in
    let charges = g.T.Tariff.charges c.args.tariff.now in
    let word = c.args.slots.word in
    let ns = c.needs_by_place-needs.result in
    let qs = c.prices_by_place-prices.result in
    let placed = c.needs_by_place-needs.ensures in
    let priced = c.prices_by_place-prices.ensures in
    let few = free_few w in
    let n = c.requires.cases in
    let m = c.args.n in
    let enough : length (free_of (rows_in w)) ≤ length (union (rows_in w)) = let e = c.requires.enough in omega arith in
    let fixed = to_z-of_z w64 c.sum_of_fixed-fixed.result (search rules) in
    let long : length ns ≡ 17 = search rules in
    let front : length (take m ns) ≡ m = length-take-le m ns (omega (arith, few, n)) in
    let back : length (take (m + 1 - 1) (drop 1 ns)) ≡ m + 1 - 1 = length-take-le (m + 1 - 1) (drop 1 ns) (omega (arith, few, n, length-drop 1 ns)) in
    record {
      cases = n;
      fixed = fixed ∙ c.sum_of_fixed-fixed.ensures.sum;
      level = λ k l. level_is w charges word ns qs c.requires.slots placed priced enough k (get_or c.running_sums-level.result k (pos 0)) (omega arith)
          (c.running_sums-level.ensures.sums k (omega (arith, front))
          ∙ below_part charges ns (take m ns) qs qs 0 0 k (λ j h. part_at ns 0 0 m j (omega arith)) (λ j h. from_start qs (pos 0) j));
      lower = λ k l. lower_is w charges word ns qs c.requires.slots placed priced enough k (get_or c.running_sums-lower.result k (pos 0)) (omega arith)
          (c.running_sums-lower.ensures.sums k (omega (arith, back))
          ∙ below_part charges ns (take (m + 1 - 1) (drop 1 ns)) qs qs 1 0 k (λ j h. part_at ns 0 1 (m + 1 - 1) j (omega arith)) (λ j h. from_start qs (pos 0) j));
      upper = λ k l. upper_is w charges word ns qs c.requires.slots placed priced enough k (get_or c.running_sums-upper.result k (pos 0)) (omega arith)
          (c.running_sums-upper.ensures.sums k (omega (arith, front))
          ∙ below_part charges ns (take m ns) qs (take 63 (drop 1 qs)) 0 1 k (λ j h. part_at ns 0 0 m j (omega arith)) (λ j h. part_at qs (pos 0) 1 63 j (omega (arith, few, n))));
      ranks = c.case_ranks-case_ranks.ensures;
      slots = λ s l. slots_are w charges word ns qs c.requires.slots placed priced enough s (get_or c.slot_ranks-slot_ranks.result s 0) (c.slot_ranks-slot_ranks.ensures s l);
    }
