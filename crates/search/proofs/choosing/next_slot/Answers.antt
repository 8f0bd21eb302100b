use Rattle.std.proofs.Common.{◌≡◌, true, false, arith, rules, tests}
use Rattle.std.proofs.lemmas.Iterator.{first_from_Range}
use Rattle.slot_set.specs.Sets.{has}
use Rattle.planning.specs.Plans.{used}
use Rattle.search.proofs.Untried.{next_untried, used_any}
use Rattle.search.proofs.choosing.next_slot.Goals as goal

pub returns : goal.returns
returns c =
    let p = c.args.plan.now in
    let w = c.args.word in
    next_untried p w c.args.start c.find.result
    (first_from_Range _ _ _ _ (λ s. (has w s ≡ true) × (used s p ≡ false)) (λ s. has w s ≡ true → used s p ≡ true) c.find.ensures.ran
    (λ s q k. let u = used_any s p in grind (arith, tests))
    (λ s q k. (search rules, λ h. let u = used_any s p in grind (arith, tests))))
