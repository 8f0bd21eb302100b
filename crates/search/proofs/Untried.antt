-- The slots that are still to try. Assumes nothing.
use Rattle.std.proofs.Common.{◌≡◌, ℕ, zero, suc, ◌+◌, ◌-◌, ◌<◌, ◌≤◌, Bool, true, false, not, ◌||◌, eqb, List, [], ◌∷◌, filter, Some, None, Option, MatchOption, sym, refl, ap, ◌∙◌, ⊎_elim, add-one, arith}
use Rattle.std.proofs.lemmas.Bool.{cases_Bool, cases_eq, cases_lt, cond-true, cond-false, eq-eqb, ne_eqb}
use Rattle.std.specs.List.{list_any}
use Rattle.slot_set.specs.Sets.{has, from, every_slot}
use Rattle.planning.specs.Plans.{used, choices}
use Rattle.search.specs.Frames.{slots_from, untried, NextUntried}

-- the code's search for a slot in the part-plan
eqb_sym : (a b : ℕ) → eqb a b ≡ eqb b a
eqb_sym a b = ⊎_elim (λ e. eq-eqb a b e ∙ sym (eq-eqb b a (sym e))) (λ n. ne_eqb a b n ∙ sym (ne_eqb b a (λ e. n (sym e)))) (cases_eq a b)

pub used_any : (s : ℕ) (p : List ℕ) → list_any (λ t. eqb t s) p ≡ used s p
used_any s [] = refl
used_any s (t ∷ p) = ap (λ b. b || list_any (λ t. eqb t s) p) (eqb_sym t s) ∙ ap (λ b. eqb s t || b) (used_any s p)

-- one slot less to try
from_step : (k : ℕ) → k < 64 → slots_from k ≡ k ∷ slots_from (k + 1)
unfolding slots_from
from_step k l =
    let e : 64 - k ≡ suc (64 - (k + 1)) = omega arith in
    ap (from k) e ∙ ap (λ j. k ∷ from j (64 - (k + 1))) (sym (add-one k))

keep_yes : (f : ℕ → Bool) (x : ℕ) (xs : List ℕ) → f x ≡ true → filter f (x ∷ xs) ≡ x ∷ filter f xs
keep_yes f x xs e = cond-true (f x) (x ∷ filter f xs) (filter f xs) e

keep_no : (f : ℕ → Bool) (x : ℕ) (xs : List ℕ) → f x ≡ false → filter f (x ∷ xs) ≡ filter f xs
keep_no f x xs e = cond-false (f x) (x ∷ filter f xs) (filter f xs) e

untried_absent : (p : List ℕ) (word k : ℕ) → k < 64 → has word k ≡ false → untried p word k ≡ untried p word (k + 1)
untried_absent p word k l e =
    ap (λ xs. filter (λ s. not (used s p)) (filter (has word) xs)) (from_step k l)
    ∙ ap (filter (λ s. not (used s p))) (keep_no (has word) k (slots_from (k + 1)) e)

untried_used : (p : List ℕ) (word k : ℕ) → k < 64 → has word k ≡ true → used k p ≡ true → untried p word k ≡ untried p word (k + 1)
untried_used p word k l e u =
    ap (λ xs. filter (λ s. not (used s p)) (filter (has word) xs)) (from_step k l)
    ∙ ap (filter (λ s. not (used s p))) (keep_yes (has word) k (slots_from (k + 1)) e)
    ∙ keep_no (λ s. not (used s p)) k (filter (has word) (slots_from (k + 1))) (ap not u)

untried_step : (p : List ℕ) (word k : ℕ) → k < 64 → (has word k ≡ true → used k p ≡ true) → untried p word k ≡ untried p word (k + 1)
untried_step p word k l h = ⊎_elim (λ e. untried_used p word k l e (h e)) (untried_absent p word k l) (cases_Bool (has word k))

untried_here : (p : List ℕ) (word k : ℕ) → k < 64 → has word k ≡ true → used k p ≡ false → untried p word k ≡ k ∷ untried p word (k + 1)
untried_here p word k l e u =
    ap (λ xs. filter (λ s. not (used s p)) (filter (has word) xs)) (from_step k l)
    ∙ ap (filter (λ s. not (used s p))) (keep_yes (has word) k (slots_from (k + 1)) e)
    ∙ keep_yes (λ s. not (used s p)) k (filter (has word) (slots_from (k + 1))) (ap not u)

-- nothing is left past the last slot
untried_none : (p : List ℕ) (word k : ℕ) → 64 ≤ k → untried p word k ≡ []
unfolding slots_from
untried_none p word k l =
    let e : 64 - k ≡ 0 = omega arith in
    ap (λ n. filter (λ s. not (used s p)) (filter (has word) (from k n))) e

-- no slot from k to m is to be tried
untried_skip : (p : List ℕ) (word n k m : ℕ) → k + n ≡ m → m ≤ 64 → ((j : ℕ) → k ≤ j → j < m → has word j ≡ true → used j p ≡ true) → untried p word k ≡ untried p word m
untried_skip p word zero k m e l h = let q : k ≡ m = omega arith in ap (untried p word) q
untried_skip p word (suc n) k m e l h =
    untried_step p word k (omega arith) (h k (omega arith) (omega arith))
    ∙ untried_skip p word n (k + 1) m (omega arith) l (λ j a b. h j (omega arith) b)

-- the first slot that is to be tried, or none
pub next_untried : (p : List ℕ) (word k : ℕ) (r : Option ℕ)
    → MatchOption r ((j : ℕ) → k ≤ j → j < 64 → has word j ≡ true → used j p ≡ true)
    (λ s. (k ≤ s) × (s < 64) × ((has word s ≡ true) × (used s p ≡ false)) × ((j : ℕ) → k ≤ j → j < s → has word j ≡ true → used j p ≡ true))
    → NextUntried p word k r
next_untried p word k None h = ⊎_elim
    (λ l. untried_skip p word (64 - k) k 64 (omega arith) (omega arith) h ∙ untried_none p word 64 (omega arith))
    (λ l. untried_none p word k l)
    (cases_lt k 64)
next_untried p word k (Some s) (a, b, (c, d), h) = (b, c, untried_skip p word (s - k) k s (omega arith) (omega arith) h ∙ untried_here p word s b c d)

all_slots : slots_from 0 ≡ every_slot
unfolding slots_from every_slot
all_slots = refl

-- from slot 0 on they are the choices
pub untried_all : (p : List ℕ) (word : ℕ) → untried p word 0 ≡ choices p word
untried_all p word = ap (λ xs. filter (λ s. not (used s p)) (filter (has word) xs)) all_slots
