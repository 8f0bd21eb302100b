-- The core of Bound: first to first, second to second costs the least. Assumes nothing.
use Rattle.std.specs.Prelude.{◌≡◌, ℕ, suc, ◌≤◌, cond, List, [], ◌∷◌, length, ℤ, pos, ◌+ℤ◌, ◌≤ℤ◌, ◌==◌, ◌≢◌, refl}
use Rattle.std.proofs.Common.{inl, inr, ap, subst, sym, arith}
use Rattle.std.specs.Int.Signed.{≤ℤ_refl}
use Rattle.std.proofs.lemmas.Int.{ints}
use Rattle.std.proofs.lemmas.Bool.{cond_both, eqb-false, eqb-true}
use Rattle.std.specs.List.{AllByRecursion}
use Rattle.planning.specs.Lists.{In, Ordered}
use Rattle.planning.specs.Plans.{Absent, sum_of}
use Rattle.planning.proofs.Lists.{all_in}

-- no two alike
abbrev pub Unlike : List ℕ → Type 0
Unlike ss = Ordered (λ s t. s ≢ t) ss

-- the first v becomes q
abbrev replaced : ℕ → ℕ → List ℕ → List ℕ
replaced v q [] = []
replaced v q (x ∷ xs) = cond (x == v) (q ∷ xs) (x ∷ replaced v q xs)

length_replaced : (v q : ℕ) (xs : List ℕ) → length (replaced v q xs) ≡ length xs
length_replaced v q [] = refl
length_replaced v q (x ∷ xs) = cond_both (x == v) (q ∷ xs) (x ∷ replaced v q xs) (λ ys. length ys ≡ suc (length xs)) (λ _. refl) (λ _. ap suc (length_replaced v q xs))

absent_replaced : (y v q : ℕ) → (y ≢ q) → (xs : List ℕ) → Absent y xs → Absent y (replaced v q xs)
absent_replaced y v q n [] h = tt
absent_replaced y v q n (x ∷ xs) h = cond_both (x == v) (q ∷ xs) (x ∷ replaced v q xs) (Absent y) (λ _. (n, h.1)) (λ _. (h.0, absent_replaced y v q n xs h.1))

unlike_replaced : (v q : ℕ) (xs : List ℕ) → Absent q xs → Unlike xs → Unlike (replaced v q xs)
unlike_replaced v q [] a h = tt
unlike_replaced v q (x ∷ xs) a h = cond_both (x == v) (q ∷ xs) (x ∷ replaced v q xs) Unlike (λ _. (a.1, h.1))
    (λ _. (absent_replaced x v q (λ e. a.0 (sym e)) xs h.0, unlike_replaced v q xs a.1 h.1))

other : (x v : ℕ) (vs : List ℕ) → (x ≢ v) → In x (v ∷ vs) → In x vs
other x v vs n (inl e) = absurd (n e)
other x v vs n (inr m) = m

others : (v : ℕ) (vs xs : List ℕ) → Absent v xs → AllByRecursion (λ x. In x (v ∷ vs)) xs → AllByRecursion (λ x. In x vs) xs
others v vs [] a h = tt
others v vs (x ∷ xs) a h = (other x v vs (λ e. a.0 (sym e)) h.0, others v vs xs a.1 h.1)

in_replaced : (v q : ℕ) (vs xs : List ℕ) → In q (v ∷ vs) → Absent q xs → Unlike xs → AllByRecursion (λ x. In x (v ∷ vs)) xs → AllByRecursion (λ x. In x vs) (replaced v q xs)
in_replaced v q vs [] m a d h = tt
in_replaced v q vs (x ∷ xs) m a d h = cond_both (x == v) (q ∷ xs) (x ∷ replaced v q xs) (AllByRecursion (λ x. In x vs))
    (λ e. (other q v vs (λ k. a.0 (omega (arith, eqb-true x v e))) m, others v vs xs (subst (λ (y : ℕ). Absent y xs) (eqb-true x v e) d.0) h.1))
    (λ e. (other x v vs (eqb-false x v e) h.0, in_replaced v q vs xs m a.1 d.1 h.1))

module _ (w : ℕ → ℕ → ℤ) (N S : ℕ → Type 0) (R : ℕ → ℕ → Type 0)
    (same : (s : ℕ) → R s s)
    (order : (a s t : ℕ) → N a → S s → S t → R s t → w a s ≤ℤ w a t)
    (exchange : (a b s t : ℕ) → N a → N b → b ≤ a → S s → S t → R s t → (w a s +ℤ w b t) ≤ℤ (w a t +ℤ w b s)) where
  -- u moves to v, and whoever was there takes u's old slot
  moved : (u v q : ℕ) → N u → S v → S q → R v q → (us qs : List ℕ) → AllByRecursion N us → AllByRecursion (λ a. a ≤ u) us →
      (w u v +ℤ sum_of w us (replaced v q qs)) ≤ℤ (w u q +ℤ sum_of w us qs)
  moved u v q nu sv sq r [] qs ns le = omega (arith, ints, order u v q nu sv sq r)
  moved u v q nu sv sq r (a ∷ us) [] ns le = omega (arith, ints, order u v q nu sv sq r)
  moved u v q nu sv sq r (a ∷ us) (x ∷ qs) ns le =
      cond_both (x == v) (q ∷ qs) (x ∷ replaced v q qs) (λ ys. (w u v +ℤ sum_of w (a ∷ us) ys) ≤ℤ (w u q +ℤ (w a x +ℤ sum_of w us qs)))
      (λ e. subst (λ (y : ℕ). (w u v +ℤ (w a q +ℤ sum_of w us qs)) ≤ℤ (w u q +ℤ (w a y +ℤ sum_of w us qs))) (sym (eqb-true x v e))
      (omega (arith, ints, exchange u a v q nu ns.0 le.0 sv sq r)))
      (λ e. omega (arith, ints, moved u v q nu sv sq r us qs ns.1 le.1))

  pub matched_least : (us qs vs : List ℕ) → AllByRecursion N us → Ordered (λ a b. b ≤ a) us → AllByRecursion S vs → Ordered R vs →
      length qs ≡ length us → Unlike qs → AllByRecursion (λ q. In q vs) qs → (length us ≤ length vs) × (sum_of w us vs ≤ℤ sum_of w us qs)
  matched_least [] qs vs nu ou sv ov e d m = (omega arith, ≤ℤ_refl (pos 0))
  matched_least (u ∷ us) [] vs nu ou sv ov e d m = absurd (omega arith)
  matched_least (u ∷ us) (q ∷ qs) [] nu ou sv ov e d m = absurd m.0
  matched_least (u ∷ us) (q ∷ qs) (v ∷ vs) nu ou sv ov e d m =
      let ih = matched_least us (replaced v q qs) vs nu.1 ou.1 sv.1 ov.1 (rest e) (unlike_replaced v q qs d.0 d.1) (in_replaced v q vs qs m.0 d.0 d.1 m.1) in
      let step = moved u v q nu.0 sv.0 (all_in S (v ∷ vs) sv q m.0) (all_in (R v) (v ∷ vs) (same v, ov.0) q m.0) us qs nu.1 ou.0 in
      (omega (arith, ih.0), omega (arith, ints, ih.1, step))
    where
      rest : suc (length qs) ≡ suc (length us) → length (replaced v q qs) ≡ length us
      rest k = omega (arith, length_replaced v q qs)
