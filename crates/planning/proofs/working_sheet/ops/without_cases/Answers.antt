use Rattle.std.proofs.Common.{ℕ, List, map, get_or, ℤ, pos, neg_ℤ, ◌≤ℤ◌, unwrap_or, sym, refl, ap, ◌∙◌, subst, arith}
use mathlib.Core.List.{map-map}
use Rattle.std.specs.Option.{option_map}
use Rattle.sheet.specs.Contents.{amount}
use Rattle.planning.proofs.WorkingTables.{prices_in_range, open_none}
use Rattle.planning.proofs.working_sheet.ops.without_cases.Goals as goal

pub invariant_of-result : goal.invariant_of-result
invariant_of-result c =
    let priced = λ (s : ℕ). subst (λ (ps : List ℤ). (neg_ℤ (pos 50000) ≤ℤ get_or ps s (pos 0)) × (get_or ps s (pos 0) ≤ℤ pos 50000)) (sym c.prices_in-prices.ensures) (prices_in_range c.slots.result.now s) in
    record {
      places = refl;
      sized = refl;
      few = omega arith;
      needed = λ i l. absurd (omega arith);
      priced = λ s t. priced s;
      usable = open_none c.into-opened.result 16;
    }

pub returns-clause-prices : goal.returns-clause-prices
returns-clause-prices c =
    c.prices_in-prices.ensures
    ∙ sym (map-map (λ o. unwrap_or o (pos 0)) (option_map amount) c.slots.result.now)
    ∙ ap (map (λ o. unwrap_or o (pos 0))) c.slots.ensures
