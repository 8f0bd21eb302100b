-- The least charge over a set. Assumes nothing.
use denote.Param.Members.{Mut, Called}
use Rattle.std.specs.Iterator.{ReducesItems}
use Rattle.std.specs.List.{FoldsTo, fold, reduce, range_with_len}
use Rattle.std.proofs.Common.{◌≡◌, ℕ, zero, suc, cond, List, [], ◌∷◌, ℤ, pos, Option, None, Some, unwrap_or, map, filter, refl, ap, ◌∙◌, add-one, arith}
use lib.Signed.{le_z}
use Rattle.std.proofs.lemmas.Int.{ints}
use Rattle.std.proofs.lemmas.Bool.{cond_both}
use Rattle.std.proofs.lemmas.Iterator.{YieldsList}
use Rattle.std.proofs.lemmas.Iterator.Consumers.{reduce_from_yields_List}
use Rattle.slot_set.specs.Sets.{every_slot, from, has, members}
use Rattle.tariff.specs.Charges.{Within}
use Rattle.pruners.specs.Sum.{least}

-- ---- the least of some charges, one after the other

-- the lesser of two charges
abbrev pub lesser : ℤ → ℤ → ℤ
lesser x y = cond (le_z x y) x y

lesser_assoc : (x y z : ℤ) → cond (le_z (cond (le_z x y) x y) z) (cond (le_z x y) x y) z ≡ cond (le_z x (cond (le_z y z) y z)) x (cond (le_z y z) y z)
lesser_assoc x y z = grind (arith, ints)

fold_least : (w : ℕ → ℤ) (x : ℤ) (s : ℕ) (ss : List ℕ) → fold lesser x (map w (s ∷ ss)) ≡ cond (le_z x (least w (s ∷ ss))) x (least w (s ∷ ss))
fold_least w x s [] = refl
fold_least w x s (t ∷ ts) =
    fold_least w (lesser x (w s)) t ts
    ∙ lesser_assoc x (w s) (least w (t ∷ ts))

least_reduced : (w : ℕ → ℤ) (ss : List ℕ) → unwrap_or (reduce lesser (map w ss)) (pos 0) ≡ least w ss
least_reduced w [] = refl
least_reduced w (s ∷ []) = refl
least_reduced w (s ∷ (t ∷ ts)) = fold_least w (w s) t ts

from_range : (s n : ℕ) → range_with_len s n ≡ from s n
from_range s zero = refl
from_range s (suc n) = ap (λ t. s ∷ range_with_len t n) (add-one s) ∙ ap (λ ss. s ∷ ss) (from_range (suc s) n)

members_range : (word n : ℕ) → n ≡ 64 → filter (has word) (range_with_len 0 n) ≡ members word
unfolding every_slot
members_range word n e = ap (filter (has word)) (ap (range_with_len 0) e ∙ from_range 0 64)

-- the turns of a `reduce` whose closure gives the lesser of two charges
turned : {F : Type 0} (g : Mut F (ℤ × (ℤ × Unit {0})) ℤ) → ((f : F) (x y z : ℤ) (f' : F) → Called g f (x, (y, tt)) z f' → z ≡ lesser x y)
    → (f : F) (x : ℤ) (xs : List ℤ) (f' : F) (y : ℤ) → FoldsTo {P = F × ℤ} (λ p x q. Called g p.0 (p.1, (x, tt)) q.1 q.0) (f, x) xs (f', y) → FoldsTo (λ p z c. c ≡ lesser p z) x xs y
turned g each f x [] f' y h = ap (λ p. p.1) h
turned g each f x (z ∷ zs) f' y h = (h.0.1, each f x z h.0.1 h.0.0 h.1, turned g each h.0.0 h.0.1 zs f' y h.2)

-- and what it answers
pub reduced : {S F : Type 0} {steps : S → Option ℤ → S → Type 0} {all : List ℤ} (g : Mut F (ℤ × (ℤ × Unit {0})) ℤ) → ((f : F) (x y z : ℤ) (f' : F) → Called g f (x, (y, tt)) z f' → z ≡ lesser x y)
    → (f : F) (s : S) (r : Option ℤ) → ReducesItems steps g s f r → YieldsList steps (λ x. x) s all → r ≡ reduce lesser all
reduced g each f s None h e = reduce_from_yields_List lesser s None h e
reduced g each f s (Some y) h e = reduce_from_yields_List lesser s (Some y) (h.0, h.1, h.3, turned g each f h.0 h.1 h.2 y h.4) e

-- of the charges w in the slots of a set
pub least_in_set : (w : ℕ → ℤ) (word n : ℕ) (r : Option ℤ) → n ≡ 64 → r ≡ reduce lesser (map w (filter (has word) (range_with_len 0 n))) → unwrap_or r (pos 0) ≡ least w (members word)
least_in_set w word n r e h = ap (λ o. unwrap_or o (pos 0)) h ∙ least_reduced w (filter (has word) (range_with_len 0 n)) ∙ ap (least w) (members_range word n e)

-- ---- where every charge is small, so is the least

pub least_within : (m : ℕ) (w : ℕ → ℤ) → ((s : ℕ) → Within m (w s)) → (xs : List ℕ) → Within m (least w xs)
least_within m w h [] = record { low = omega (arith, ints); high = omega (arith, ints) }
least_within m w h (x ∷ []) = h x
least_within m w h (x ∷ (y ∷ ys)) = cond_both (le_z (w x) (least w (y ∷ ys))) (w x) (least w (y ∷ ys)) (Within m) (λ _. h x) (λ _. least_within m w h (y ∷ ys))
