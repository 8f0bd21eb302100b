-- The plans that begin with a part-plan. Assumes nothing.
use Rattle.std.proofs.Common.{◌≡◌, ℕ, ◌<◌, Bool, true, false, not, ◌&&◌, eqb, List, [], ◌∷◌, ◌++◌, filter, sym, refl, ◌∙◌, subst, inl, inr, append_assoc, append-nil}
use Rattle.std.proofs.lemmas.Bool.{and_from, and_parts, eqb-false, ne_eqb, not_from_false, not-true, or_from, or_parts}
use Rattle.std.specs.List.{AllByRecursion}
use Rattle.planning.specs.Lists.{In, Ordered}
use Rattle.slot_set.specs.Sets.{every_slot, has}
use Rattle.planning.specs.Plans.{Absent, Before, Drawn, choices, used}
use Rattle.planning.proofs.Lists.{all_in, all_kept, ordered_kept}
use Rattle.slot_set.proofs.Keeps.{kept_twice}
use Rattle.planning.proofs.Slots.{below_every, every_rises, in_slots}

-- a slot that may be chosen next
abbrev pub open_slot : List ℕ → ℕ → ℕ → Bool
open_slot p d s = has d s && not (used s p)

pub open_is : (p : List ℕ) (d s : ℕ) → open_slot p d s ≡ true → (has d s ≡ true) × (used s p ≡ false)
open_is p d s e = let x = and_parts (has d s) (not (used s p)) e in (x.0, not-true (used s p) x.1)

pub is_open : (p : List ℕ) (d s : ℕ) → has d s ≡ true → used s p ≡ false → open_slot p d s ≡ true
is_open p d s t u = and_from (has d s) (not (used s p)) (t) (not_from_false (used s p) u)

-- the choices are the open slots, rising
choices_are : (p : List ℕ) (d : ℕ) → choices p d ≡ filter (open_slot p d) every_slot
choices_are p d = kept_twice (λ s. not (used s p)) (has d) every_slot

pub choices_open : (p : List ℕ) (d s : ℕ) → In s (choices p d) → (s < 64) × (has d s ≡ true) × (used s p ≡ false)
choices_open p d s i =
    let (h, o) = all_in (λ x. (x < 64) × (open_slot p d x ≡ true)) (filter (open_slot p d) every_slot) (all_kept (open_slot p d) (λ x. x < 64) every_slot below_every) s
    (subst (In s) (choices_are p d) i) in
    let (t, u) = open_is p d s o in
    (h, t, u)

pub in_choices : (p : List ℕ) (d s : ℕ) → s < 64 → has d s ≡ true → used s p ≡ false → In s (choices p d)
in_choices p d s h t u = subst (In s) (sym (choices_are p d)) (in_slots (open_slot p d) s h (is_open p d s t u))

pub choices_rise : (p : List ℕ) (d : ℕ) → Ordered (λ s t. s < t) (choices p d)
choices_rise p d = subst (Ordered (λ s t. s < t)) (sym (choices_are p d)) (ordered_kept (open_slot p d) (λ s t. s < t) every_slot every_rises)

-- ---- what is drawn after a part-plan p

-- r goes on from p: each slot lies in its set, is not used in p, and no two are alike
abbrev pub GoesOn : List ℕ → List ℕ → List ℕ → Type 0
GoesOn p [] [] = Unit {0}
GoesOn p [] (s ∷ r) = ⊥
GoesOn p (d ∷ ds) [] = ⊥
GoesOn p (d ∷ ds) (s ∷ r) = (s < 64) × (has d s ≡ true) × (used s p ≡ false) × GoesOn (p ++ (s ∷ [])) ds r

-- the plans that begin with p
abbrev pub Below : List ℕ → List ℕ → List ℕ → Type 0
Below p ds q = (r : List ℕ) × (q ≡ p ++ r) × GoesOn p ds r

abbrev Unused : List ℕ → List ℕ → Type 0
Unused p r = AllByRecursion (λ s. used s p ≡ false) r

used_snoc : (s x : ℕ) (p : List ℕ) → used s (p ++ (x ∷ [])) ≡ false → (used s p ≡ false) × (s ≡ x → ⊥)
used_snoc s x [] e = (refl, eqb-false s x (or_parts (eqb s x) false e).0)
used_snoc s x (y ∷ p) e =
    let h = or_parts (eqb s y) (used s (p ++ (x ∷ []))) e in
    let k = used_snoc s x p h.1 in
    (or_from (eqb s y) (used s p) h.0 k.0, k.1)

snoc_used : (s x : ℕ) (p : List ℕ) → used s p ≡ false → (s ≡ x → ⊥) → used s (p ++ (x ∷ [])) ≡ false
snoc_used s x [] e h = or_from (eqb s x) false (ne_eqb s x h) refl
snoc_used s x (y ∷ p) e h =
    let k = or_parts (eqb s y) (used s p) e in
    or_from (eqb s y) (used s (p ++ (x ∷ []))) k.0 (snoc_used s x p k.1 h)

unused_snoc : (p : List ℕ) (x : ℕ) (r : List ℕ) → Unused (p ++ (x ∷ [])) r → Unused p r × Absent x r
unused_snoc p x [] u = (tt, tt)
unused_snoc p x (s ∷ r) u =
    let h = used_snoc s x p u.0 in
    let k = unused_snoc p x r u.1 in
    ((h.0, k.0), ((λ e. h.1 (sym e)), k.1))

snoc_unused : (p : List ℕ) (x : ℕ) (r : List ℕ) → Unused p r → Absent x r → Unused (p ++ (x ∷ [])) r
snoc_unused p x [] u a = tt
snoc_unused p x (s ∷ r) u a = (snoc_used s x p u.0 (λ e. a.0 (sym e)), snoc_unused p x r u.1 a.1)

after_drawn : (p ds r : List ℕ) → GoesOn p ds r → Drawn ds r × Unused p r
after_drawn p [] [] a = (tt, tt)
after_drawn p [] (s ∷ r) a = absurd a
after_drawn p (d ∷ ds) [] a = absurd a
after_drawn p (d ∷ ds) (s ∷ r) a =
    let h = after_drawn (p ++ (s ∷ [])) ds r a.3 in
    let k = unused_snoc p s r h.1 in
    ((a.0, a.1, k.1, h.0), (a.2, k.0))

drawn_after : (p ds r : List ℕ) → Drawn ds r → Unused p r → GoesOn p ds r
drawn_after p [] [] a u = tt
drawn_after p [] (s ∷ r) a u = absurd a
drawn_after p (d ∷ ds) [] a u = absurd a
drawn_after p (d ∷ ds) (s ∷ r) a u = (a.0, a.1, u.0, drawn_after (p ++ (s ∷ [])) ds r a.3 (snoc_unused p s r u.1 a.2))

unused_none : (r : List ℕ) → Unused [] r
unused_none [] = tt
unused_none (s ∷ r) = (refl, unused_none r)

-- those that begin with the empty part-plan are all that are drawn
pub below_drawn : (ds q : List ℕ) → Below [] ds q → Drawn ds q
below_drawn ds q (r, e, a) = subst (Drawn ds) (sym e) (after_drawn [] ds r a).0

pub drawn_below : (ds q : List ℕ) → Drawn ds q → Below [] ds q
drawn_below ds q a = (q, refl, drawn_after [] ds q a (unused_none q))

-- a complete part-plan
pub below_all : (p q : List ℕ) → Below p [] q → q ≡ p
below_all p q (r, e, a) = go r e a
  where
    go : (r : List ℕ) → q ≡ p ++ r → GoesOn p [] r → q ≡ p
    go [] e a = e ∙ append-nil p
    go (s ∷ r) e a = absurd a

pub all_below : (p : List ℕ) → Below p [] p
all_below p = ([], sym (append-nil p), tt)

-- ---- the choice of the next slot

-- the plans that begin with p and s
abbrev pub Choice : List ℕ → ℕ → List ℕ → ℕ → List ℕ → Type 0
Choice p d ds s q = (has d s ≡ true) × (used s p ≡ false) × Below (p ++ (s ∷ [])) ds q

pub before_after : (p : List ℕ) (s s' : ℕ) (r r' : List ℕ) → s < s' → Before (p ++ (s ∷ r)) (p ++ (s' ∷ r'))
before_after [] s s' r r' h = inl h
before_after (x ∷ p) s s' r r' h = inr (refl, before_after p s s' r r' h)

-- q begins with p
abbrev pub Starts : List ℕ → List ℕ → Type 0
Starts p q = (r : List ℕ) × (q ≡ p ++ r)

pub starts_order : (p : List ℕ) (s s' : ℕ) (q q' : List ℕ) → s < s' → Starts (p ++ (s ∷ [])) q → Starts (p ++ (s' ∷ [])) q' → Before q q'
starts_order p s s' q q' h (r, e) (r', e') = rw (e, e', append_assoc p (s ∷ []) r, append_assoc p (s' ∷ []) r') (before_after p s s' r r' h)

pub choice_below : (p : List ℕ) (d : ℕ) (ds : List ℕ) (s : ℕ) (q : List ℕ) → s < 64 → Choice p d ds s q → Below p (d ∷ ds) q
choice_below p d ds s q h (t, u, (r, e, a)) = (s ∷ r, e ∙ append_assoc p (s ∷ []) r, (h, t, u, a))

pub below_choice : (p : List ℕ) (d : ℕ) (ds q : List ℕ) → Below p (d ∷ ds) q → (s : ℕ) × (s < 64) × Choice p d ds s q
below_choice p d ds q (r, e, a) = go r e a
  where
    go : (r : List ℕ) → q ≡ p ++ r → GoesOn p (d ∷ ds) r → (s : ℕ) × (s < 64) × Choice p d ds s q
    go [] e a = absurd a
    go (s ∷ r) e a = (s, a.0, (a.1, a.2, (r, e ∙ sym (append_assoc p (s ∷ []) r), a.3)))
