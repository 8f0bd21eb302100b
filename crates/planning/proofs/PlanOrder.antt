-- The order of plans. Assumes nothing.
use Rattle.std.proofs.Common.{◌≡◌, ℕ, suc, ◌<◌, ◌⊎◌, List, [], ◌∷◌, get_or, sym, refl, inl, inr, arith}
use Rattle.std.proofs.lemmas.Bool.{cases_order}
use Rattle.planning.specs.Plans.{Before, Drawn, PlansAreOrdered}

strict : (p q : List ℕ) → Before p q → Before q p → ⊥
strict [] q b c = b
strict (s ∷ p) [] b c = b
strict (s ∷ p) (t ∷ q) (inl l) (inl m) = omega arith
strict (s ∷ p) (t ∷ q) (inl l) (inr (e, m)) = omega arith
strict (s ∷ p) (t ∷ q) (inr (e, l)) (inl m) = omega arith
strict (s ∷ p) (t ∷ q) (inr (e, l)) (inr (f, m)) = strict p q l m

never : (p : List ℕ) → Before p p → ⊥
never p b = strict p p b b

pub other : (p q : List ℕ) → Before p q → p ≡ q → ⊥
other p q b e = never q (rw e at b)

total : (us p q : List ℕ) → Drawn us p → Drawn us q → (p ≡ q) ⊎ (Before p q ⊎ Before q p)
total [] [] [] a b = inl refl
total [] [] (t ∷ q) a b = absurd b
total [] (s ∷ p) q a b = absurd a
total (d ∷ us) [] q a b = absurd a
total (d ∷ us) (s ∷ p) [] a b = absurd b
total (d ∷ us) (s ∷ p) (t ∷ q) a b = go (cases_order s t) (total us p q a.3 b.3)
  where
    go : (s ≡ t) ⊎ ((s < t) ⊎ (t < s)) → (p ≡ q) ⊎ (Before p q ⊎ Before q p) →
        (s ∷ p ≡ t ∷ q) ⊎ (Before (s ∷ p) (t ∷ q) ⊎ Before (t ∷ q) (s ∷ p))
    go (inl e) (inl h) = inl (cc)
    go (inl e) (inr (inl h)) = inr (inl (inr (e, h)))
    go (inl e) (inr (inr h)) = inr (inr (inr (sym e, h)))
    go (inr (inl l)) _ = inr (inl (inl l))
    go (inr (inr l)) _ = inr (inr (inl l))

agree : (us p q : List ℕ) → Drawn us p → Drawn us q → ((k : ℕ) → get_or p k 0 ≡ get_or q k 0) → p ≡ q
agree [] [] [] a b h = refl
agree [] [] (t ∷ q) a b h = absurd b
agree [] (s ∷ p) q a b h = absurd a
agree (d ∷ us) [] q a b h = absurd a
agree (d ∷ us) (s ∷ p) [] a b h = absurd b
agree (d ∷ us) (s ∷ p) (t ∷ q) a b h = let e = h 0 in let k = agree us p q a.3 b.3 (λ k. h (suc k)) in cc

pub plans_are_ordered : PlansAreOrdered
plans_are_ordered us = record { total = total us; strict = strict; never = never; agree = agree us }
