-- The tables that a working sheet is made of. Assumes nothing.
use Rattle.std.proofs.Common.{◌≡◌, ℕ, zero, suc, ◌+◌, ◌<◌, ◌≤◌, true, List, [], ◌∷◌, ◌++◌, map, length, get_or, take, set, replicate, ℤ, pos, neg_ℤ, ◌≤ℤ◌, Some, None, Option, unwrap_or, sym, refl, ap, ◌∙◌, ⊎_elim, add-zero, add-suc, suc-add, zero-add, arith}
use lib.Bits.{bit_and}
use Rattle.std.specs.Option.{option_map}
use Rattle.std.proofs.lemmas.List.{get_or-set_same, get_or-set_other, set_past, take_more, length-take-le, map-append}
use Rattle.std.proofs.lemmas.Int.{ints}
use Rattle.std.proofs.lemmas.Bool.{cases_eq, cases_lt, both_ways, and_parts}
use Rattle.slot_set.specs.Sets.{has}
use Rattle.slot_set.proofs.Words.{has_none, has_and}
use Rattle.sheet.specs.declared.slot_price.SlotPrice.{SlotPrice}
use Rattle.sheet.specs.Contents.{Entry, amount}
use Rattle.planning.specs.Invariants.{Open, Needed}
use Rattle.planning.specs.Standing.{Standing, standing_from, placed}

-- a price or 0
abbrev pub price_or_zero : Option SlotPrice → ℤ
price_or_zero o = unwrap_or (option_map amount o) (pos 0)

in_range : (o : Option SlotPrice) → (neg_ℤ (pos 50000) ≤ℤ price_or_zero o) × (price_or_zero o ≤ℤ pos 50000)
in_range None = (omega (arith, ints), omega (arith, ints))
in_range (Some p) = (p.at_least, p.at_most)

pub prices_in_range : (slots : List (Option SlotPrice)) (s : ℕ)
    → (neg_ℤ (pos 50000) ≤ℤ get_or (map price_or_zero slots) s (pos 0)) × (get_or (map price_or_zero slots) s (pos 0) ≤ℤ pos 50000)
prices_in_range [] s = (omega (arith, ints), omega (arith, ints))
prices_in_range (o ∷ os) zero = in_range o
prices_in_range (o ∷ os) (suc s) = prices_in_range os s

zeros : (n i : ℕ) → ◌≡◌ {A = ℕ} (get_or (replicate n 0) i 0) 0
zeros zero i = refl
zeros (suc n) zero = refl
zeros (suc n) (suc i) = zeros n i

-- empty sets hold no closed slot
pub open_none : (opened n : ℕ) → Open opened (replicate n 0)
open_none opened n i s t = absurd (both_ways (has 0 s) (has_none s) (sym (ap (λ x. has x s) (zeros n i)) ∙ t))

-- nor does one set changed to one that lies in the open slots
pub open_set : (opened n w : ℕ) (ds : List ℕ) → Open opened ds → ((s : ℕ) → has w s ≡ true → has opened s ≡ true) → Open opened (set ds n w)
open_set opened n w ds h k i s t = ⊎_elim
    (λ l. ⊎_elim
    (λ e. k s (sym (ap (λ x. has x s) (ap (λ j. get_or (set ds n w) j 0) e ∙ get_or-set_same ds n w 0 l)) ∙ t))
    (λ ne. h i s (sym (ap (λ x. has x s) (get_or-set_other ds n i w 0 ne)) ∙ t))
    (cases_eq i n))
    (λ l. h i s (sym (ap (λ xs. has (get_or xs i 0) s) (set_past ds n w l)) ∙ t))
    (cases_lt n (length ds))

and_left : (a b s : ℕ) → has (bit_and a b) s ≡ true → has a s ≡ true
and_left a b s t = (and_parts (has a s) (has b s) (sym (has_and a b s) ∙ t)).0

pub and_right : (a b s : ℕ) → has (bit_and a b) s ≡ true → has b s ≡ true
and_right a b s t = (and_parts (has a s) (has b s) (sym (has_and a b s) ∙ t)).1

-- nor does one set narrowed to what it has in common with a word
pub open_narrowed : (opened i word : ℕ) (ds : List ℕ) → Open opened ds → Open opened (set ds i (bit_and (get_or ds i 0) word))
open_narrowed opened i word ds h = open_set opened i (bit_and (get_or ds i 0) word) ds h (λ s t. h i s (and_left (get_or ds i 0) word s t))

-- one need more
pub needed_more : (n a : ℕ) (ns : List ℕ) → n < length ns → Needed n ns → (1 ≤ a) × (a ≤ 20000) → Needed (n + 1) (set ns n a)
needed_more n a ns l h k i m = ⊎_elim
    (λ e. let x : get_or (set ns n a) i 0 ≡ a = ap (λ j. get_or (set ns n a) j 0) e ∙ get_or-set_same ns n a 0 l in (omega (arith, k.0), omega (arith, k.1)))
    (λ ne. let x = get_or-set_other ns n i a 0 ne in let y = h i (omega arith) in (omega (arith, y.0), omega (arith, y.1)))
    (cases_eq i n)

-- ---- the standing cases of one row more

standing_push : (j : ℕ) (xs : List (Option Entry)) (o : Option Entry) → standing_from j (xs ++ (o ∷ [])) ≡ standing_from j xs ++ placed (j + length xs) o
standing_push j [] None = refl
standing_push j [] (Some e) = ap (λ i. record { row = i; entry = e } ∷ []) (sym (add-zero j))
standing_push j (None ∷ xs) o = standing_push (suc j) xs o ∙ ap (λ i. standing_from (suc j) xs ++ placed i o) (suc-add j (length xs) ∙ sym (add-suc j (length xs)))
standing_push j (Some e ∷ xs) o =
    ap (λ r. record { row = j; entry = e } ∷ r) (standing_push (suc j) xs o ∙ ap (λ i. standing_from (suc j) xs ++ placed i o) (suc-add j (length xs) ∙ sym (add-suc j (length xs))))

pub standing_more : (f : Standing → ℕ) (es : List (Option Entry)) (i : ℕ) (o : Option Entry) → i < length es → get_or es i None ≡ o
    → map f (standing_from 0 (take (i + 1) es)) ≡ map f (standing_from 0 (take i es)) ++ map f (placed i o)
standing_more f es i o h e =
    let size : 0 + length (take i es) ≡ i = zero-add (length (take i es)) ∙ length-take-le i es (omega arith) in
    ap (λ xs. map f (standing_from 0 xs)) (take_more es i None h ∙ ap (λ x. take i es ++ (x ∷ [])) e)
    ∙ ap (map f) (standing_push 0 (take i es) o ∙ ap (λ k. standing_from 0 (take i es) ++ placed k o) size)
    ∙ map-append f (standing_from 0 (take i es)) (placed i o)
