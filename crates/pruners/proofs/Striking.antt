-- The sets that Distinct leaves, place by place, by the slots that they have. Assumes nothing.
use Rattle.std.proofs.Common.{◌≡◌, ℕ, zero, suc, ◌+◌, ◌^◌, ◌<◌, Bool, true, false, not, ◌&&◌, ◌||◌, eqb, ltb, List, [], ◌∷◌, length, get_or, take, drop, sym, refl, ap, ◌∙◌, ⊎_elim, add-one, arith}
use Rattle.std.proofs.Math.Bool.{or-false, or_assoc, or_comm}
use Rattle.std.proofs.lemmas.List.{take_more}
use Rattle.std.proofs.lemmas.List.Recursion.{or_push}
use Rattle.std.proofs.lemmas.Bool.{and_from, and_right, cases_Bool, cases_eq, cases_lt, eq-eqb, lt-ltb, ne_eqb}
use Rattle.slot_set.specs.Sets.{has, single}
use Rattle.slot_set.proofs.Words.{has_beyond, same_word}
use Rattle.planning.proofs.Slots.{single_one}
use Rattle.pruners.specs.Distinct.{claimed, unclaimed}
use Rattle.slot_set.proofs.Keeps.{has_keep, keep_below}

-- ---- what is claimed by one set more

claimed_more : (s j : ℕ) (ds : List ℕ) → j < length ds → claimed s (take (j + 1) ds) ≡ (claimed s (take j ds) || (single (get_or ds j 0) && has (get_or ds j 0) s))
claimed_more s j ds l =
    ap (claimed s) (take_more ds j 0 l) ∙ or_push (claimed s) (λ d. single d && has d s) refl (λ _ _. refl) (take j ds) (get_or ds j 0)

-- of a set with one slot
only_has : (d slot s : ℕ) → d < 2 ^ 64 → single d ≡ true → slot < 64 → has d slot ≡ true → has d s ≡ (ltb slot 64 && eqb s slot)
only_has d slot s small e l t = ⊎_elim
    (λ q. ap (has d) q ∙ t ∙ sym (and_from (ltb slot 64) (eqb s slot) (lt-ltb slot 64 l) (eq-eqb s slot q)))
    (λ n. not_there n ∙ sym (and_right (ltb slot 64) (eqb s slot) (ne_eqb s slot n)))
    (cases_eq s slot)
  where
    not_there : (s ≡ slot → ⊥) → has d s ≡ false
    not_there n = ⊎_elim
        (λ k. ⊎_elim (λ h. absurd (n (single_one d s slot e k l h t))) (λ h. h) (cases_Bool (has d s)))
        (λ k. has_beyond 64 d s small k)
        (cases_lt s 64)

pub claimed_by : (s j slot : ℕ) (ds : List ℕ) → j < length ds → get_or ds j 0 < 18446744073709551616 → single (get_or ds j 0) ≡ true → slot < 64 → has (get_or ds j 0) slot ≡ true
    → claimed s (take (j + 1) ds) ≡ (claimed s (take j ds) || (ltb slot 64 && eqb s slot))
claimed_by s j slot ds l small e k t = claimed_more s j ds l ∙ ap (λ b. claimed s (take j ds) || b) (ap (λ b. b && has (get_or ds j 0) s) e ∙ only_has (get_or ds j 0) slot s small e k t)

pub claimed_not : (s j : ℕ) (ds : List ℕ) → j < length ds → single (get_or ds j 0) ≡ false → claimed s (take (j + 1) ds) ≡ claimed s (take j ds)
claimed_not s j ds l e = claimed_more s j ds l ∙ ap (λ b. claimed s (take j ds) || (b && has (get_or ds j 0) s)) e ∙ or-false (claimed s (take j ds))

-- ---- the sets that are left

or_swap : (a b c : Bool) → ((a || b) || c) ≡ (b || (a || c))
or_swap a b c = ap (λ x. x || c) (or_comm a b) ∙ or_assoc b a c

pub length_unclaimed : (before ds : List ℕ) → length (unclaimed before ds) ≡ length ds
length_unclaimed before [] = refl
length_unclaimed before (d ∷ ds) = ap suc (length_unclaimed (d ∷ before) ds)

place_below : (before ds : List ℕ) (i : ℕ) → get_or (unclaimed before ds) i 0 < 2 ^ 64
place_below before [] i = omega arith
place_below before (d ∷ ds) zero = keep_below (λ s. not (claimed s before || claimed s ds)) d
place_below before (d ∷ ds) (suc i) = place_below (d ∷ before) ds i

at_place : (s : ℕ) (before ds : List ℕ) (i : ℕ) → i < length ds
    → has (get_or (unclaimed before ds) i 0) s ≡ (ltb s 64 && (has (get_or ds i 0) s && not ((claimed s before || claimed s (take i ds)) || claimed s (drop (suc i) ds))))
at_place s before [] i l = absurd (omega arith)
at_place s before (d ∷ ds) zero l =
    has_keep (λ s. not (claimed s before || claimed s ds)) d s
    ∙ ap (λ b. ltb s 64 && (has d s && not (b || claimed s ds))) (sym (or-false (claimed s before)))
at_place s before (d ∷ ds) (suc i) l =
    at_place s (d ∷ before) ds i (omega arith)
    ∙ ap (λ b. ltb s 64 && (has (get_or ds i 0) s && not (b || claimed s (drop (suc i) ds)))) (or_swap (single d && has d s) (claimed s before) (claimed s (take i ds)))

-- a word with the slots of the set at a place that no other claims is the set left there
pub struck_is : (ds : List ℕ) (i r : ℕ) → i < length ds → r < 2 ^ 64
    → ((s : ℕ) → has r s ≡ (has (get_or ds i 0) s && not (claimed s (take i ds) || claimed s (drop (i + 1) ds))))
    → r ≡ get_or (unclaimed [] ds) i 0
struck_is ds i r l b e = same_word 64 r (get_or (unclaimed [] ds) i 0) b (place_below [] ds i) (λ s k.
    e s
    ∙ ap (λ j. has (get_or ds i 0) s && not (claimed s (take i ds) || claimed s (drop j ds))) (add-one i)
    ∙ sym (ap (λ t. t && (has (get_or ds i 0) s && not (claimed s (take i ds) || claimed s (drop (suc i) ds)))) (lt-ltb s 64 k))
    ∙ sym (at_place s [] ds i l))
