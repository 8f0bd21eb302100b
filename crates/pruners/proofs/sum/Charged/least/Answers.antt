use Rattle.std.proofs.Common.{ℕ, get_or, ℤ, pos, arith, rules, refl, ◌∙◌, w64}
use borrow.Author.Tests.{tests}
use Rattle.std.proofs.lemmas.Int.{to_z-of_z}
use Rattle.std.proofs.lemmas.Iterator.{YieldsList-from_range, YieldsList-from_map}
use Rattle.std.proofs.lemmas.Iterator.Consumers.{YieldsList-at, YieldsList-from_filter}
use Rattle.slot_set.specs.Sets.{has}
use Rattle.pruners.proofs.Least.{least_in_set, reduced}
use Rattle.pruners.proofs.sum.Charged.least.Goals as goal

-- the chain gives the charges in the slots of the set, and what `reduce` answers is the least of them
pub returns : goal.returns
returns g c =
    let w = c.args.self.now.work.now in
    let charge : ℕ → ℤ = λ s. g.T.Tariff.charges c.args.self.now.tariff.now (get_or w.needs c.args.case 0) (get_or w.prices s (pos 0)) in
    let set = get_or w.sets c.args.case 0 in
    to_z-of_z w64 c.unwrap_or.result (search rules)
    ∙ c.unwrap_or.ensures
    ∙ least_in_set charge set 64 c.reduce.result refl
    (reduced _ (λ f x y z f' k. search (rules, tests)) _ _ _ c.reduce.ensures.ran
    (YieldsList-from_map _ charge
    (YieldsList-at c.map.ensures.source
    (YieldsList-from_filter _ (has set) (YieldsList-from_range 0 64 64 c.filter.ensures.source (omega arith)) c.filter.ensures.closure (λ s b f k. search (rules, tests))))
    c.map.ensures.closure
    (λ s z f k. search rules)))
