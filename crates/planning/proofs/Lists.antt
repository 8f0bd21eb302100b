-- What holds of the elements of a list, and of those that a test keeps. Assumes nothing.
use Rattle.std.proofs.Common.{◌≡◌, Bool, true, List, [], ◌∷◌, ◌++◌, filter, sym, refl, ap, ◌∙◌, subst, inl, inr, ⊎_elim}
use Rattle.std.proofs.ByRecursion.{All-append, All-weaker}
use Rattle.std.proofs.lemmas.Bool.{cond_both, true≢false}
use Rattle.std.specs.List.{AllByRecursion}
use Rattle.planning.specs.Lists.{In, Ordered}

pub all_in : {A : Type 0} (P : A → Type 0) (xs : List A) → AllByRecursion P xs → (x : A) → In x xs → P x
all_in P [] h x m = absurd m
all_in P (y ∷ ys) h x (inl e) = subst P (sym e) h.0
all_in P (y ∷ ys) h x (inr m) = all_in P ys h.1 x m

pub all_from_in : {A : Type 0} (P : A → Type 0) (xs : List A) → ((x : A) → In x xs → P x) → AllByRecursion P xs
all_from_in P [] h = tt
all_from_in P (x ∷ xs) h = (h x (inl refl), all_from_in P xs (λ y m. h y (inr m)))

pub ordered_weaker : {A : Type 0} (R S : A → A → Type 0) → ((x y : A) → R x y → S x y) → (xs : List A) → Ordered R xs → Ordered S xs
ordered_weaker R S w [] h = tt
ordered_weaker R S w (x ∷ xs) h = (All-weaker (R x) (S x) (w x) xs h.0, ordered_weaker R S w xs h.1)

pub ordered_append : {A : Type 0} (R : A → A → Type 0) (xs ys : List A) → Ordered R xs → Ordered R ys → AllByRecursion (λ x. AllByRecursion (R x) ys) xs → Ordered R (xs ++ ys)
ordered_append R [] ys a b c = b
ordered_append R (x ∷ xs) ys a b c = (All-append (R x) xs ys a.0 c.0, ordered_append R xs ys a.1 b c.1)

-- ---- tests

module _ {A : Type 0} (f : A → Bool) where
  pub in_kept : (xs : List A) (x : A) → f x ≡ true → In x xs → In x (filter f xs)
  in_kept [] x e m = m
  in_kept (y ∷ xs) x e m = cond_both (f y) (y ∷ filter f xs) (filter f xs) (In x)
      (λ _. ⊎_elim (λ k. inl k) (λ k. inr (in_kept xs x e k)) m)
      (λ n. ⊎_elim (λ k. absurd (true≢false (sym e ∙ ap f k ∙ n))) (λ k. in_kept xs x e k) m)

  pub all_kept : (P : A → Type 0) (xs : List A) → AllByRecursion P xs → AllByRecursion (λ x. P x × (f x ≡ true)) (filter f xs)
  all_kept P [] h = tt
  all_kept P (x ∷ xs) h = cond_both (f x) (x ∷ filter f xs) (filter f xs) (AllByRecursion (λ y. P y × (f y ≡ true)))
      (λ e. ((h.0, e), all_kept P xs h.1)) (λ _. all_kept P xs h.1)

  pub ordered_kept : (R : A → A → Type 0) (xs : List A) → Ordered R xs → Ordered R (filter f xs)
  ordered_kept R [] h = tt
  ordered_kept R (x ∷ xs) h = cond_both (f x) (x ∷ filter f xs) (filter f xs) (Ordered R)
      (λ e. (All-weaker (λ y. R x y × (f y ≡ true)) (R x) (λ y k. k.0) (filter f xs) (all_kept (R x) xs h.0), ordered_kept R xs h.1))
      (λ _. ordered_kept R xs h.1)
