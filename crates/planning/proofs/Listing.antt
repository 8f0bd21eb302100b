-- The list of all plans. Assumes nothing.
use Rattle.std.proofs.Common.{◌≡◌, ℕ, ◌<◌, List, [], ◌∷◌, ◌++◌, refl, subst, inl, inr}
use Rattle.std.proofs.ByRecursion.{All-append, All-weaker}
use Rattle.std.specs.List.{AllByRecursion}
use Rattle.planning.specs.Lists.{In, Ordered}
use Rattle.planning.specs.Plans.{Before, PlansListed, choices, gather, plans}
use Rattle.planning.proofs.Lists.{all_from_in, all_in, ordered_append, ordered_weaker}
use Rattle.planning.proofs.PlanOrder.{other}
use Rattle.planning.proofs.Below.{Below, Starts, all_below, below_all, below_choice, below_drawn, choice_below, choices_open, choices_rise, drawn_below, in_choices, starts_order}

pub in_left : (q : List ℕ) (xs ys : List (List ℕ)) → In q xs → In q (xs ++ ys)
in_left q [] ys i = absurd i
in_left q (x ∷ xs) ys (inl e) = inl e
in_left q (x ∷ xs) ys (inr i) = inr (in_left q xs ys i)

pub in_right : (q : List ℕ) (xs ys : List (List ℕ)) → In q ys → In q (xs ++ ys)
in_right q [] ys i = i
in_right q (x ∷ xs) ys i = inr (in_right q xs ys i)

-- ---- what each slot of a list leads to

module _ (L : ℕ → List (List ℕ)) where
  pub gather_all : (P : List ℕ → Type 0) (cs : List ℕ) → ((s : ℕ) → In s cs → AllByRecursion P (L s)) → AllByRecursion P (gather L cs)
  gather_all P [] h = tt
  gather_all P (c ∷ cs) h = All-append P (L c) (gather L cs) (h c (inl refl)) (gather_all P cs (λ s i. h s (inr i)))

  pub gather_in : (q : List ℕ) (s : ℕ) (cs : List ℕ) → In s cs → In q (L s) → In q (gather L cs)
  gather_in q s [] i m = absurd i
  gather_in q s (c ∷ cs) (inl e) m = in_left q (L c) (gather L cs) (subst (λ (x : ℕ). In q (L x)) e m)
  gather_in q s (c ∷ cs) (inr i) m = in_right q (L c) (gather L cs) (gather_in q s cs i m)

  pub in_gather : (q : List ℕ) (cs : List ℕ) → In q (gather L cs) → (s : ℕ) × In s cs × In q (L s)
  in_gather q cs i = all_in P (gather L cs) (gather_all P cs (λ s j. all_from_in P (L s) (λ x m. (s, j, m)))) q i
    where
      P : List ℕ → Type 0
      P x = (s : ℕ) × In s cs × In x (L s)

  -- in the order R, if what a smaller slot leads to comes first
  pub gather_ordered : (R : List ℕ → List ℕ → Type 0) (Q : ℕ → List ℕ → Type 0) →
      ((s s' : ℕ) (q q' : List ℕ) → s < s' → Q s q → Q s' q' → R q q') → ((s : ℕ) → AllByRecursion (Q s) (L s)) → ((s : ℕ) → Ordered R (L s)) →
      (cs : List ℕ) → Ordered (λ s t. s < t) cs → Ordered R (gather L cs)
  gather_ordered R Q order leads rises [] h = tt
  gather_ordered R Q order leads rises (c ∷ cs) h =
      ordered_append R (L c) (gather L cs) (rises c) (gather_ordered R Q order leads rises cs h.1) (All-weaker (Q c) (λ x. AllByRecursion (R x) (gather L cs)) past (L c) (leads c))
    where
      past : (x : List ℕ) → Q c x → AllByRecursion (R x) (gather L cs)
      past x m = gather_all (R x) cs (λ s i. All-weaker (Q s) (R x) (λ y k. order c s x y (all_in (λ t. c < t) cs h.0 s i) m k) (L s) (leads s))

-- ---- the plans

pub plans_below : (D p : List ℕ) → AllByRecursion (Below p D) (plans D p)
plans_below [] p = (all_below p, tt)
plans_below (d ∷ D) p =
    gather_all (λ s. plans D (p ++ (s ∷ []))) (Below p (d ∷ D)) (choices p d)
    (λ s i. let (h, t, u) = choices_open p d s i in
    All-weaker (Below (p ++ (s ∷ [])) D) (Below p (d ∷ D)) (λ q b. choice_below p d D s q h (t, u, b)) (plans D (p ++ (s ∷ []))) (plans_below D (p ++ (s ∷ []))))

plans_in : (D p q : List ℕ) → Below p D q → In q (plans D p)
plans_in [] p q b = inl (below_all p q b)
plans_in (d ∷ D) p q b =
    let (s, h, (t, u, c)) = below_choice p d D q b in
    gather_in (λ s. plans D (p ++ (s ∷ []))) q s (choices p d) (in_choices p d s h t u) (plans_in D (p ++ (s ∷ [])) q c)

plans_ordered : (D p : List ℕ) → Ordered Before (plans D p)
plans_ordered [] p = (tt, tt)
plans_ordered (d ∷ D) p =
    gather_ordered (λ s. plans D (p ++ (s ∷ []))) Before (λ s. Starts (p ++ (s ∷ []))) (starts_order p)
    (λ s. All-weaker (Below (p ++ (s ∷ [])) D) (Starts (p ++ (s ∷ []))) (λ q b. (b.0, b.1)) (plans D (p ++ (s ∷ []))) (plans_below D (p ++ (s ∷ []))))
    (λ s. plans_ordered D (p ++ (s ∷ []))) (choices p d) (choices_rise p d)

pub plans_listed : PlansListed
plans_listed us = record {
  only = λ q i. below_drawn us q (all_in (Below [] us) (plans us []) (plans_below us []) q i);
  all = λ q d. plans_in us [] q (drawn_below us q d);
  order = plans_ordered us [];
  once = ordered_weaker Before (λ p q. p ≡ q → ⊥) other (plans us []) (plans_ordered us []);
}
