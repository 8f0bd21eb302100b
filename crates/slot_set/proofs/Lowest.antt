-- The lowest slot of a set. Assumes nothing.
use Rattle.std.specs.Prelude.{count_ones}
use Rattle.std.proofs.Common.{◌≡◌, false, eqb, sym, ap, ⊎_elim, ℕ, zero, suc, ◌/◌, ◌%◌, ◌^◌, ◌<◌, true, refl, ◌∙◌, div-add-mod', arith}
use lib.Count.{count_trailing_zeros, ones, ones-le, under}
use Rattle.std.proofs.lemmas.Nat.{mod_below}
use Rattle.std.proofs.lemmas.Bool.{cases_eq, eq-eqb, ne_eqb}
use Rattle.slot_set.specs.Sets.{has, single}
use Rattle.slot_set.proofs.Counts.{count_members}
use Rattle.slot_set.proofs.Words.{half_below, has_suc, has_zero}

under_set : (w t : ℕ) (d : ℕ) → w % 2 ≡ suc d → d < 1 → has w (under (suc d) t) ≡ true
under_set w t zero e l = has_zero w ∙ eq-eqb (w % 2) 1 e
under_set w t (suc d) e l = absurd (omega arith)

pub lowest_held : (k w : ℕ) → w < 2 ^ k → 0 < w → (count_trailing_zeros k w < k) × (has w (count_trailing_zeros k w) ≡ true)
unfolding count_trailing_zeros
lowest_held zero w h p = absurd (omega arith)
lowest_held (suc k) w h p = go (λ l. lowest_held k (w / 2) (half_below w k h) l) (w % 2) refl
  where
    go : (0 < w / 2 → (count_trailing_zeros k (w / 2) < k) × (has (w / 2) (count_trailing_zeros k (w / 2)) ≡ true)) → (d : ℕ) → w % 2 ≡ d → (under d (count_trailing_zeros k (w / 2)) < suc k) × (has w (under d (count_trailing_zeros k (w / 2))) ≡ true)
    go f zero e =
        let s = div-add-mod' w 2 in
        let r = f (omega arith) in
        (omega (arith, r.0), has_suc w (count_trailing_zeros k (w / 2)) ∙ r.1)
    go f (suc d) e = let m = mod_below w 2 (omega arith) in (omega arith, under_set w (count_trailing_zeros k (w / 2)) d e (omega arith))

one_full : (w : ℕ) → count_ones w ≡ 1 → 0 < w
one_full w one = ⊎_elim (λ e. let z : ones 0 ≡ 1 = ap ones (sym e) ∙ one in absurd (omega (arith, ones-le 0 0 (omega arith)))) (λ n. omega arith) (cases_eq w 0)

-- a set of one slot is single, and that slot is its lowest
pub one_single : (w : ℕ) → w < 18446744073709551616 → count_ones w ≡ 1 → single w ≡ true
one_single w small one = ap (λ n. eqb n 1) (count_members w small) ∙ eq-eqb (ones w) 1 one

pub one_below : (w : ℕ) → w < 18446744073709551616 → count_ones w ≡ 1 → count_trailing_zeros 64 w < 64
one_below w small one = (lowest_held 64 w small (one_full w one)).0

pub one_held : (w : ℕ) → w < 18446744073709551616 → count_ones w ≡ 1 → has w (count_trailing_zeros 64 w) ≡ true
one_held w small one = (lowest_held 64 w small (one_full w one)).1

pub not_single : (w : ℕ) → w < 18446744073709551616 → (count_ones w ≡ 1 → ⊥) → single w ≡ false
not_single w small n = ap (λ n. eqb n 1) (count_members w small) ∙ ne_eqb (ones w) 1 n
