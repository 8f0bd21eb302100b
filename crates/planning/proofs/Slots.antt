-- What a set has and counts. Assumes nothing.
use Rattle.std.proofs.Common.{◌≡◌, refl, ℕ, zero, suc, ◌+◌, ◌%◌, ◌^◌, ◌<◌, ◌≤◌, Bool, true, false, eqb, List, [], ◌∷◌, length, filter, sym, ap, ◌∙◌, subst, inl, inr, arith}
use native.Mathlib.Nat.{zero-div}
use Rattle.std.proofs.lemmas.Bool.{both_ways, cases_eq, eqb-true, ne_eqb, or_from}
use Rattle.std.specs.List.{AllByRecursion}
use Rattle.planning.specs.Lists.{In, Ordered}
use Rattle.slot_set.specs.Sets.{every_slot, from, has, members, single, some_empty}
use Rattle.planning.specs.Plans.{Drawn}
use Rattle.planning.proofs.Lists.{in_kept}

-- ---- the members of a set

in_from : (k n s : ℕ) → k ≤ s → s < k + n → In s (from k n)
in_from k zero s h l = absurd (omega arith)
in_from k (suc n) s h l = elim (cases_eq s k) [ inl e ↦ inl e | inr d ↦ inr (in_from (suc k) n s (omega arith) (omega arith)) ]

in_every : (s : ℕ) → s < 64 → In s every_slot
unfolding every_slot
in_every s h = in_from 0 64 s (omega arith) (omega arith)

below_from : (k n : ℕ) → AllByRecursion (λ s. s < k + n) (from k n)
below_from k zero = tt
below_from k (suc n) = (omega arith, subst (λ m. AllByRecursion (λ s. s < m) (from (suc k) n)) (omega arith) (below_from (suc k) n))

pub below_every : AllByRecursion (λ s. s < 64) every_slot
unfolding every_slot
below_every = below_from 0 64

above_from : (j k n : ℕ) → j < k → AllByRecursion (λ s. j < s) (from k n)
above_from j k zero h = tt
above_from j k (suc n) h = (h, above_from j (suc k) n (omega arith))

rising_from : (k n : ℕ) → Ordered (λ s t. s < t) (from k n)
rising_from k zero = tt
rising_from k (suc n) = (above_from k (suc k) n (omega arith), rising_from (suc k) n)

pub every_rises : Ordered (λ s t. s < t) every_slot
unfolding every_slot
every_rises = rising_from 0 64

pub in_slots : (f : ℕ → Bool) (s : ℕ) → s < 64 → f s ≡ true → In s (filter f every_slot)
in_slots f s h e = in_kept f every_slot s e (in_every s h)

one_member : (xs : List ℕ) → length xs ≡ 1 → (s t : ℕ) → In s xs → In t xs → s ≡ t
one_member [] e s t m n = absurd m
one_member (x ∷ []) e s t (inl m) (inl n) = m ∙ sym n
one_member (x ∷ []) e s t (inl m) (inr n) = absurd n
one_member (x ∷ []) e s t (inr m) n = absurd m
one_member (x ∷ (y ∷ xs)) e s t m n = absurd (omega arith)

-- of a set with one slot
pub single_one : (d s t : ℕ) → single d ≡ true → s < 64 → t < 64 → has d s ≡ true → has d t ≡ true → s ≡ t
single_one d s t e h k p q = one_member (members d) (eqb-true (length (members d)) 1 e) s t
    (in_slots (has d) s h p) (in_slots (has d) t k q)

-- sets from which a plan can be drawn are not empty
has_none : (s : ℕ) → has 0 s ≡ false
has_none s = ap (λ x. eqb (x % 2) 1) (zero-div (2 ^ s))

pub drawn_full : (ds p : List ℕ) → Drawn ds p → some_empty ds ≡ false
drawn_full [] p h = refl
drawn_full (d ∷ ds) [] h = absurd h
drawn_full (d ∷ ds) (s ∷ p) h = or_from (eqb d 0) (some_empty ds)
    (ne_eqb d 0 (λ e. both_ways (has 0 s) (has_none s) (subst (λ x. has x s ≡ true) e h.1))) (drawn_full ds p h.3)
