-- What the plans that a search meets change, one after the other. Assumes nothing.
use Rattle.std.proofs.Common.{◌≡◌, ℕ, suc, ◌+◌, Bool, true, false, cond, List, [], ◌∷◌, ◌++◌, length, ℤ, pos, ◌-ℤ◌, ◌≤ℤ◌, Some, Option, refl, ap, arith}
use lib.Signed.{le_z, ≤ℤ_refl}
use Rattle.std.proofs.lemmas.Bool.{cond_both}
use Rattle.std.specs.List.{AllByRecursion}
use Rattle.tariff.specs.Orders.{true_le, ≤ℤ_trans}
use Rattle.planning.specs.Plans.{Given, total}
use Rattle.search_rules.specs.Search.{State}
use Rattle.search_rules.specs.Right.{last_of, minima}
use Rattle.search_rules.proofs.Orders.{below_le}

-- of a state, what the plans that are met change
pub record Tally : Type 0 where
  pub ceil : ℤ
  pub betters : ℕ
  pub top : Option (List ℕ)

abbrev pub tally : State → Tally
tally t = record { ceil = t.ceiling; betters = t.betterings; top = t.best }

module _ (g : Given) where
  abbrev pub bettered : List ℕ → Tally → Tally
  bettered q k = record { ceil = total g q -ℤ pos 1; betters = suc k.betters; top = Some q }

  abbrev meet : List ℕ → Tally → Tally
  meet q k = cond (le_z (total g q) k.ceil) (bettered q k) k

  abbrev pub meet_all : List (List ℕ) → Tally → Tally
  meet_all [] k = k
  meet_all (q ∷ qs) k = meet_all qs (meet q k)

  pub meet_append : (ps qs : List (List ℕ)) (k : Tally) → meet_all (ps ++ qs) k ≡ meet_all qs (meet_all ps k)
  meet_append [] qs k = refl
  meet_append (p ∷ ps) qs k = meet_append ps qs (meet p k)

  -- the ceiling never rises
  pub meet_lower : (qs : List (List ℕ)) (k : Tally) → (meet_all qs k).ceil ≤ℤ k.ceil
  meet_lower [] k = ≤ℤ_refl k.ceil
  meet_lower (q ∷ qs) k = cond_both (le_z (total g q) k.ceil) (bettered q k) k (λ j. (meet_all qs j).ceil ≤ℤ k.ceil)
      (λ e. ≤ℤ_trans (meet_lower qs (bettered q k)) (below_le (true_le (total g q) k.ceil e))) (λ _. meet_lower qs k)

  -- plans over the ceiling change nothing
  abbrev pub Over : ℤ → List (List ℕ) → Type 0
  Over c qs = AllByRecursion (λ q. total g q ≤ℤ c → ⊥) qs

  pub all_over : (qs : List (List ℕ)) (k : Tally) → Over k.ceil qs → meet_all qs k ≡ k
  all_over [] k h = refl
  all_over (q ∷ qs) k h = cond_both (le_z (total g q) k.ceil) (bettered q k) k (λ j. meet_all qs j ≡ k)
      (λ e. absurd (h.0 (true_le (total g q) k.ceil e))) (λ _. all_over qs k h.1)

  -- ---- in terms of the minima

  pub betters_are : (qs : List (List ℕ)) (k : Tally) → (meet_all qs k).betters ≡ k.betters + length (minima g k.ceil qs)
  betters_are [] k = omega arith
  betters_are (q ∷ qs) k = go (le_z (total g q) k.ceil) (betters_are qs (bettered q k)) (betters_are qs k)
    where
      go : (b : Bool) → (meet_all qs (bettered q k)).betters ≡ suc k.betters + length (minima g (total g q -ℤ pos 1) qs) →
          (meet_all qs k).betters ≡ k.betters + length (minima g k.ceil qs) →
          (meet_all qs (cond b (bettered q k) k)).betters ≡ k.betters + length (cond b (q ∷ minima g (total g q -ℤ pos 1) qs) (minima g k.ceil qs))
      go true x y = omega arith
      go false x y = y

  pub top_is : (qs : List (List ℕ)) (k : Tally) → (meet_all qs k).top ≡ last_of k.top (minima g k.ceil qs)
  top_is [] k = refl
  top_is (q ∷ qs) k = go (le_z (total g q) k.ceil) (top_is qs (bettered q k)) (top_is qs k)
    where
      go : (b : Bool) → (meet_all qs (bettered q k)).top ≡ last_of (Some q) (minima g (total g q -ℤ pos 1) qs) →
          (meet_all qs k).top ≡ last_of k.top (minima g k.ceil qs) →
          (meet_all qs (cond b (bettered q k) k)).top ≡ last_of k.top (cond b (q ∷ minima g (total g q -ℤ pos 1) qs) (minima g k.ceil qs))
      go true x y = x
      go false x y = y

  -- the minima of a first part come first
  pub minima_first : (ps rs : List (List ℕ)) (c : ℤ) → (ms : List (List ℕ)) × (minima g c (ps ++ rs) ≡ minima g c ps ++ ms)
  minima_first [] rs c = (minima g c rs, refl)
  minima_first (p ∷ ps) rs c = go (le_z (total g p) c) (minima_first ps rs (total g p -ℤ pos 1)) (minima_first ps rs c)
    where
      go : (b : Bool) → (ms : List (List ℕ)) × (minima g (total g p -ℤ pos 1) (ps ++ rs) ≡ minima g (total g p -ℤ pos 1) ps ++ ms) →
          (ms : List (List ℕ)) × (minima g c (ps ++ rs) ≡ minima g c ps ++ ms) →
          (ms : List (List ℕ)) × (cond b (p ∷ minima g (total g p -ℤ pos 1) (ps ++ rs)) (minima g c (ps ++ rs)) ≡ cond b (p ∷ minima g (total g p -ℤ pos 1) ps) (minima g c ps) ++ ms)
      go true (ms, e) y = (ms, ap (λ (xs : List (List ℕ)). p ∷ xs) e)
      go false x (ms, e) = (ms, e)
