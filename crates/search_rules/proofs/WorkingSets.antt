-- The sets that a search works with after a part-plan. Assumes nothing.
use Rattle.std.proofs.Common.{◌≡◌, ℕ, zero, suc, ◌^◌, true, not, List, [], ◌∷◌, ◌++◌, length, get_or, set, filter, sym, refl, ◌∙◌, subst, subst₂, append_assoc}
use Rattle.std.proofs.lemmas.Bool.{eq-eqb, eqb-true}
use Rattle.slot_set.specs.Sets.{every_slot, has}
use Rattle.slot_set.proofs.Words.{has_pow}
use Rattle.planning.specs.Plans.{Drawn, choices, used}
use Rattle.planning.specs.Pruners.{Part, Parts}
use Rattle.slot_set.proofs.Keeps.{kept_twice}
use Rattle.planning.specs.Parts.{parts_refl, parts_trans}
use Rattle.planning.proofs.Below.{Below, open_slot}

-- a fact of the choices from two sets, shown of the open slots of each
pub by_choices : (p : List ℕ) (d e : ℕ) (X : List ℕ → List ℕ → Type 0) → X (filter (open_slot p d) every_slot) (filter (open_slot p e) every_slot) →
    X (choices p d) (choices p e)
by_choices p d e X h = subst₂ X (sym (are d)) (sym (are e)) h
  where
    are : (d : ℕ) → choices p d ≡ filter (open_slot p d) every_slot
    are d = kept_twice (λ s. not (used s p)) (has d) every_slot

-- past the cases that p has decided, the sets es are parts of ds
abbrev pub Inside : List ℕ → List ℕ → List ℕ → Type 0
Inside [] es ds = Parts es ds
Inside (s ∷ p) [] ds = ⊥
Inside (s ∷ p) (e ∷ es) ds = Inside p es ds

pub inside_part : (p fs es ds : List ℕ) → Parts fs es → Inside p es ds → Inside p fs ds
inside_part [] fs es ds a i = parts_trans fs es ds a i
inside_part (s ∷ p) [] [] ds a i = i
inside_part (s ∷ p) [] (e ∷ es) ds a i = absurd a
inside_part (s ∷ p) (f ∷ fs) [] ds a i = absurd a
inside_part (s ∷ p) (f ∷ fs) (e ∷ es) ds a i = inside_part p fs es ds a.1 i

-- the next set
pub inside_head : (p es : List ℕ) (d : ℕ) (ds : List ℕ) → Inside p es (d ∷ ds) → Part (get_or es (length p) 0) d
inside_head [] [] d ds i = absurd i
inside_head [] (e ∷ es) d ds i = i.0
inside_head (x ∷ p) [] d ds i = absurd i
inside_head (x ∷ p) (e ∷ es) d ds i = inside_head p es d ds i

-- and the rest, whatever the next set becomes
pub inside_next : (p es : List ℕ) (d : ℕ) (ds : List ℕ) (s v : ℕ) → Inside p es (d ∷ ds) → Inside (p ++ (s ∷ [])) (set es (length p) v) ds
inside_next [] [] d ds s v i = absurd i
inside_next [] (e ∷ es) d ds s v i = i.1
inside_next (x ∷ p) [] d ds s v i = absurd i
inside_next (x ∷ p) (e ∷ es) d ds s v i = inside_next p es d ds s v i

-- a set reduced to one of its slots
pub parts_set : (es : List ℕ) (k s : ℕ) → has (get_or es k 0) s ≡ true → Parts (set es k (2 ^ s)) es
parts_set [] k s h = tt
parts_set (e ∷ es) zero s h = ((λ x t. subst (λ (y : ℕ). has e y ≡ true) (sym (eqb-true x s (sym (has_pow s x) ∙ t))) h), parts_refl es)
parts_set (e ∷ es) (suc k) s h = ((λ x t. t), parts_set es k s h)

-- ---- a plan drawn from the working sets, that begins with p and s

drawn_head : (p es : List ℕ) (s : ℕ) (r : List ℕ) → Drawn es (p ++ (s ∷ r)) → has (get_or es (length p) 0) s ≡ true
drawn_head [] [] s r a = absurd a
drawn_head [] (e ∷ es) s r a = a.1
drawn_head (x ∷ p) [] s r a = absurd a
drawn_head (x ∷ p) (e ∷ es) s r a = drawn_head p es s r a.3

drawn_set : (p es : List ℕ) (s : ℕ) (r : List ℕ) → Drawn es (p ++ (s ∷ r)) → Drawn (set es (length p) (2 ^ s)) (p ++ (s ∷ r))
drawn_set [] [] s r a = absurd a
drawn_set [] (e ∷ es) s r a = (a.0, has_pow s s ∙ eq-eqb s s refl, a.2, a.3)
drawn_set (x ∷ p) [] s r a = absurd a
drawn_set (x ∷ p) (e ∷ es) s r a = (a.0, a.1, a.2, drawn_set p es s r a.3)

pub choice_head : (p es : List ℕ) (s : ℕ) (ds q : List ℕ) → Below (p ++ (s ∷ [])) ds q → Drawn es q → has (get_or es (length p) 0) s ≡ true
choice_head p es s ds q (r, e, a) h = drawn_head p es s r (rw (e, append_assoc p (s ∷ []) r) at h)

pub choice_set : (p es : List ℕ) (s : ℕ) (ds q : List ℕ) → Below (p ++ (s ∷ [])) ds q → Drawn es q → Drawn (set es (length p) (2 ^ s)) q
choice_set p es s ds q (r, e, a) h = rw (e, append_assoc p (s ∷ []) r) (drawn_set p es s r (rw (e, append_assoc p (s ∷ []) r) at h))
