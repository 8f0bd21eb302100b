-- The last of the running minima of a list of plans in plan order is the cheapest, and of the cheapest the first. Assumes nothing.
use Rattle.std.proofs.Common.{◌≡◌, ℕ, ◌⊎◌, List, [], ◌∷◌, ℤ, pos, ◌-ℤ◌, ◌≤ℤ◌, ◌<ℤ◌, Some, Option, sym, refl, subst, inl, inr, arith}
use lib.Signed.{le_z}
use Rattle.std.proofs.lemmas.Int.{by_lt_z, ints}
use Rattle.std.proofs.lemmas.Bool.{cond_both}
use Rattle.std.specs.List.{AllByRecursion}
use Rattle.tariff.specs.Orders.{true_le, ≤ℤ_trans}
use Rattle.planning.specs.Lists.{In, Ordered}
use Rattle.planning.specs.Plans.{Before, Given, total}
use Rattle.planning.proofs.Lists.{all_in}
use Rattle.search_rules.specs.Right.{last_of, minima}
use Rattle.search_rules.proofs.Orders.{below_le, false_lt}

split : (a b : ℤ) → (a -ℤ pos 1) <ℤ b → (a <ℤ b) ⊎ (a ≡ b)
split a b h = by_lt_z a b inl (λ k. inr (omega (arith, ints)))

module _ (g : Given) where
  -- p costs less than q, or as much and comes first, or is q
  abbrev Ahead : List ℕ → List ℕ → Type 0
  Ahead p q = (q ≡ p) ⊎ ((total g p <ℤ total g q) ⊎ ((total g p ≡ total g q) × Before p q))

  -- what is kept of the plans qs under the ceiling c: the best b from before, where all cost more
  pub record Old (c : ℤ) (qs : List (List ℕ)) (b r : Option (List ℕ)) : Type 0 where
    pub best_is : r ≡ b
    pub over : (q : List ℕ) → In q qs → c <ℤ total g q

  -- or one of them
  pub record New (c : ℤ) (qs : List (List ℕ)) (r : Option (List ℕ)) : Type 0 where
    pub plan : List ℕ
    pub best_is : r ≡ Some plan
    pub listed : In plan qs
    pub fits : total g plan ≤ℤ c
    pub ahead : (q : List ℕ) → In q qs → Ahead plan q

  abbrev pub Kept : ℤ → List (List ℕ) → Option (List ℕ) → Option (List ℕ) → Type 0
  Kept c qs b r = Old c qs b r ⊎ New c qs r

  -- a new best that costs less than one more plan
  still : (c c' : ℤ) (x : List ℕ) (xs : List (List ℕ)) (r : Option (List ℕ)) (k : New c' xs r) → total g k.plan ≤ℤ c → total g k.plan <ℤ total g x → New c (x ∷ xs) r
  still c c' x xs r k l less = record { plan = k.plan; best_is = k.best_is; listed = inr k.listed; fits = l; ahead = ahead }
    where
      ahead : (q : List ℕ) → In q (x ∷ xs) → Ahead k.plan q
      ahead q (inl e) = inr (inl (subst (λ (y : List ℕ). total g k.plan <ℤ total g y) (sym e) less))
      ahead q (inr m) = k.ahead q m

  -- the first plan fits, and the others are kept below it
  fits_first : (c : ℤ) (x : List ℕ) (xs : List (List ℕ)) (b r : Option (List ℕ)) → AllByRecursion (Before x) xs → total g x ≤ℤ c →
      Kept (total g x -ℤ pos 1) xs (Some x) r → Kept c (x ∷ xs) b r
  fits_first c x xs b r o l (inl k) = inr (record { plan = x; best_is = k.best_is; listed = inl refl; fits = l; ahead = ahead })
    where
      later : (q : List ℕ) → In q xs → (total g x <ℤ total g q) ⊎ (total g x ≡ total g q) → Ahead x q
      later q m (inl h) = inr (inl h)
      later q m (inr h) = inr (inr (h, all_in (Before x) xs o q m))

      ahead : (q : List ℕ) → In q (x ∷ xs) → Ahead x q
      ahead q (inl e) = inl e
      ahead q (inr m) = later q m (split (total g x) (total g q) (k.over q m))
  fits_first c x xs b r o l (inr k) = inr (still c (total g x -ℤ pos 1) x xs r k (≤ℤ_trans k.fits (below_le l)) (omega (arith, ints, k.fits)))

  -- the first plan is over the ceiling
  over_first : (c : ℤ) (x : List ℕ) (xs : List (List ℕ)) (b r : Option (List ℕ)) → c <ℤ total g x → Kept c xs b r → Kept c (x ∷ xs) b r
  over_first c x xs b r l (inl k) = inl (record { best_is = k.best_is; over = over })
    where
      over : (q : List ℕ) → In q (x ∷ xs) → c <ℤ total g q
      over q (inl e) = subst (λ (y : List ℕ). c <ℤ total g y) (sym e) l
      over q (inr m) = k.over q m
  over_first c x xs b r l (inr k) = inr (still c c x xs r k k.fits (omega (arith, ints, k.fits)))

  pub minima_keep : (qs : List (List ℕ)) → Ordered Before qs → (c : ℤ) (b : Option (List ℕ)) → Kept c qs b (last_of b (minima g c qs))
  minima_keep [] o c b = inl (record { best_is = refl; over = λ q m. absurd m })
  minima_keep (x ∷ xs) o c b = cond_both (le_z (total g x) c) (x ∷ minima g (total g x -ℤ pos 1) xs) (minima g c xs) (λ ms. Kept c (x ∷ xs) b (last_of b ms))
      (λ e. fits_first c x xs b (last_of (Some x) (minima g (total g x -ℤ pos 1) xs)) o.0 (true_le (total g x) c e) (minima_keep xs o.1 (total g x -ℤ pos 1) (Some x)))
      (λ e. over_first c x xs b (last_of b (minima g c xs)) (false_lt (total g x) c e) (minima_keep xs o.1 c b))
