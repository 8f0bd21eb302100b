-- A part of a set has fewer slots. Assumes nothing.
use Rattle.std.proofs.Common.{◌≡◌, ℕ, zero, suc, ◌/◌, ◌%◌, ◌^◌, ◌<◌, true, sym, ap, ◌∙◌, inl, inr, ⊎_elim, div-add-mod', arith}
use lib.Count.{ones, ones_step}
use Rattle.std.proofs.lemmas.Nat.{mod_below}
use Rattle.std.proofs.lemmas.Bool.{eqb-true, eq-eqb, cases_eq}
use Rattle.slot_set.specs.Sets.{has}
use Rattle.slot_set.proofs.Words.{has_suc, has_zero, has_pow, half_below}
use Rattle.planning.specs.Pruners.{Part}
use Rattle.search.specs.Saves.{Fewer}

-- a part of a set is the set or has fewer members
pub fewer_part : (k a b : ℕ) → a < 2 ^ k → b < 2 ^ k → ((s : ℕ) → s < k → has a s ≡ true → has b s ≡ true) → Fewer a b
fewer_part zero a b x y h = inl (omega arith)
fewer_part (suc k) a b x y h =
    let rest = fewer_part k (a / 2) (b / 2) (half_below a k x) (half_below b k y) (λ s l q. sym (has_suc b s) ∙ h (suc s) (omega arith) (has_suc a s ∙ q)) in
    let low : a % 2 ≡ 1 → b % 2 ≡ 1 = λ e. eqb-true (b % 2) 1 (sym (has_zero b) ∙ h 0 (omega arith) (has_zero a ∙ eq-eqb (a % 2) 1 e)) in
    let oa = ones_step a in
    let ob = ones_step b in
    let ma = mod_below a 2 (omega arith) in
    let mb = mod_below b 2 (omega arith) in
    let da = div-add-mod' a 2 in
    let db = div-add-mod' b 2 in
    ⊎_elim
    (λ e. let oe : ones (a / 2) ≡ ones (b / 2) = ap ones e in
    ⊎_elim (λ q. inl (omega arith)) (λ q. ⊎_elim (λ u. absurd (q (u ∙ sym (low u)))) (λ u. inr (omega arith)) (cases_eq (a % 2) 1)) (cases_eq (a % 2) (b % 2)))
    (λ l. ⊎_elim (λ u. let v = low u in inr (omega arith)) (λ u. inr (omega arith)) (cases_eq (a % 2) 1))
    rest

pub part_one : (w s : ℕ) → has w s ≡ true → Part (2 ^ s) w
part_one w s h t q = ap (has w) (eqb-true t s (sym (has_pow s t) ∙ q)) ∙ h

pub part_fewer : (a b : ℕ) → a < 2 ^ 64 → b < 2 ^ 64 → Part a b → Fewer a b
part_fewer a b x y p = fewer_part 64 a b x y (λ s l q. p s q)
