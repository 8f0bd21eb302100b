-- Distinct is lawful. Assumes nothing.
use Rattle.std.specs.Prelude.{◌≡◌, ℕ, ◌<◌, Bool, true, false, not, ◌&&◌, ◌||◌, List, [], ◌∷◌, ℤ, ◌≢◌, refl}
use Rattle.std.proofs.Common.{subst, sym}
use Rattle.std.proofs.lemmas.Bool.{and_parts, not_from_false, or_from}
use Rattle.std.specs.List.{AllByRecursion}
use Rattle.slot_set.specs.Sets.{has, single, some_empty}
use Rattle.planning.specs.Plans.{Absent, Drawn, Given}
use Rattle.planning.specs.Pruners.{Lawful, Parts, Points, Proper}
use Rattle.pruners.specs.Distinct.{claimed, distinct, unclaimed}
use Rattle.slot_set.proofs.Keeps.{keep_has, keep_part}
use Rattle.planning.proofs.Slots.{drawn_full, single_one}
use Rattle.planning.specs.Verdicts.{none_not, some_is}
use Rattle.planning.specs.Parts.{lawful_from}

isnt : (b : Bool) → (b ≢ true) → b ≡ false
isnt true h = absurd (h refl)
isnt false h = refl

-- a set that holds s claims no other slot
alone : (d s t : ℕ) → s < 64 → has d s ≡ true → t < 64 → (s ≢ t) → (single d && has d t) ≡ false
alone d s t l h k n = isnt (single d && has d t) (λ e.
    let w = and_parts (single d) (has d t) e in n (single_one d s t w.0 l k h w.1))

not_claimed : (t : ℕ) (ds p : List ℕ) → t < 64 → Drawn ds p → Absent t p → claimed t ds ≡ false
not_claimed t [] p l h n = refl
not_claimed t (d ∷ ds) [] l h n = absurd h
not_claimed t (d ∷ ds) (s ∷ p) l h n = or_from (single d && has d t) (claimed t ds) (alone d s t h.0 h.1 l (λ e. n.0 (sym e))) (not_claimed t ds p l h.3 n.1)

not_claimed_more : (d s : ℕ) → s < 64 → has d s ≡ true → (before ds p : List ℕ) → Drawn ds p → Absent s p → AllByRecursion (λ t. claimed t before ≡ false) p → AllByRecursion (λ t. claimed t (d ∷ before) ≡ false) p
not_claimed_more d s l k before ds [] h n a = tt
not_claimed_more d s l k before [] (t ∷ p) h n a = absurd h
not_claimed_more d s l k before (e ∷ ds) (t ∷ p) h n a =
    (or_from (single d && has d t) (claimed t before) (alone d s t l k h.0 n.0) a.0, not_claimed_more d s l k before ds p h.3 n.1 a.1)

from_drawn : (before ds p : List ℕ) → Drawn ds p → AllByRecursion (λ t. claimed t before ≡ false) p → Drawn (unclaimed before ds) p
from_drawn before [] p h a = h
from_drawn before (d ∷ ds) [] h a = h
from_drawn before (d ∷ ds) (s ∷ p) h a = (
  h.0,
  keep_has (λ t. not (claimed t before || claimed t ds)) d s h.0 h.1
      (not_from_false (claimed s before || claimed s ds) (or_from (claimed s before) (claimed s ds) a.0 (not_claimed s ds p h.0 h.3 h.2))),
  h.2,
  from_drawn (d ∷ before) ds p h.3 (not_claimed_more d s h.0 h.1 before ds p h.3 h.2 a.1),
)

from_parts : (before ds : List ℕ) → Parts (unclaimed before ds) ds
from_parts before [] = tt
from_parts before (d ∷ ds) = ((λ s t. keep_part (λ t. not (claimed t before || claimed t ds)) d s t), from_parts (d ∷ before) ds)

none_claimed : (p : List ℕ) → AllByRecursion (λ t. claimed t [] ≡ false) p
none_claimed [] = tt
none_claimed (s ∷ p) = (refl, none_claimed p)

distinct_points : (g : Given) (c : ℤ) (ds : List ℕ) → Proper g ds → Points distinct g c ds
distinct_points g c ds ok =
    let fs : List ℕ = unclaimed [] ds in
    record {
      part = λ es e. subst (λ (xs : List ℕ). Parts xs ds) (sym (some_is false (some_empty fs) es fs e)) (from_parts [] ds);
      keeps = λ es e p h t. subst (λ (xs : List ℕ). Drawn xs p) (sym (some_is false (some_empty fs) es fs e)) (from_drawn [] ds p h (none_claimed p));
      dead = λ e p h t. none_not false (some_empty fs) fs e refl (drawn_full fs p (from_drawn [] ds p h (none_claimed p)));
    }

pub distinct_lawful : Lawful distinct
distinct_lawful = lawful_from distinct distinct_points
