-- The running sums over the tables are those of the bound. Assumes nothing.
use Rattle.std.proofs.Common.{true, false, ltb, sym, ◌≡◌, ℕ, zero, suc, ◌+◌, ◌<◌, ◌≤◌, List, drop, map, take, length, get_or, ℤ, pos, ◌+ℤ◌, refl, ap, ◌∙◌, ap₂, add-zero, add-one, arith}
use Rattle.std.proofs.lemmas.Bool.{ltb-false, ltb-true}
use Rattle.std.proofs.lemmas.List.{get_or-drop, get_or-map, get_or-take}
use Rattle.std.proofs.lemmas.List.Elements.{filter_agree}
use Rattle.slot_set.specs.Sets.{every_slot, has, members}
use Rattle.tariff.specs.Charges.{Charge}
use Rattle.planning.specs.Plans.{Given}
use Rattle.planning.specs.Working.{given}
use Rattle.planning.specs.declared.working_sheet.WorkingSheet.{WorkingSheet}
use Rattle.bound.specs.Orderings.{count, in_order, sum_to}
use Rattle.bound.specs.Bound.{C, L, R, Row, V, free_of, in_some, pair, slot_before, union}
use Rattle.bound.specs.Tables.{NeedsPlaced, PricesPlaced, beside, rows_in, slot_rank, sooner, sum_below}
use Rattle.bound.specs.Sorting.{length_sorted}

sum_same : (f h : ℕ → ℤ) (k : ℕ) → ((j : ℕ) → j < k → f j ≡ h (suc j)) → sum_below f k ≡ sum_to h k
sum_same f h zero e = refl
sum_same f h (suc k) e = ap₂ (λ x y. x +ℤ y) (sum_same f h k (λ j l. e j (omega arith))) (e k (omega arith))

below_same : (f h : ℕ → ℤ) (k : ℕ) → ((j : ℕ) → j < k → f j ≡ h j) → sum_below f k ≡ sum_below h k
below_same f h zero e = refl
below_same f h (suc k) e = ap₂ (λ x y. x +ℤ y) (below_same f h k (λ j l. e j (omega arith))) (e k (omega arith))

-- the sums over parts of the tables that begin at places a and b
pub below_part : (charge : Charge) (ns xs : List ℕ) (qs zs : List ℤ) (a b k : ℕ) → ((j : ℕ) → j < k → get_or xs j 0 ≡ get_or ns (j + a) 0) → ((j : ℕ) → j < k → get_or zs j (pos 0) ≡ get_or qs (j + b) (pos 0)) →
    sum_below (beside charge xs zs 0 0) k ≡ sum_below (beside charge ns qs a b) k
below_part charge ns xs qs zs a b k e h = below_same (beside charge xs zs 0 0) (beside charge ns qs a b) k (λ j l.
    ap₂ charge (ap (λ (i : ℕ). get_or xs i 0) (add-zero j) ∙ e j l) (ap (λ (i : ℕ). get_or zs i (pos 0)) (add-zero j) ∙ h j l))

-- a part of a table: n of its entries from place a on
pub part_at : {A : Type 0} (xs : List A) (d : A) (a n j : ℕ) → j < n → get_or (take n (drop a xs)) j d ≡ get_or xs (j + a) d
part_at xs d a n j l = get_or-take n (drop a xs) j d l ∙ get_or-drop a xs j d ∙ ap (λ (i : ℕ). get_or xs i d) (omega arith)

-- the whole of a table, from place 0 on
pub from_start : {A : Type 0} (xs : List A) (d : A) (j : ℕ) → get_or xs j d ≡ get_or xs (j + 0) d
from_start xs d j = ap (λ (i : ℕ). get_or xs i d) (sym (add-zero j))

pub union_is : (rs : List Row) (word : ℕ) → ((s : ℕ) → has word s ≡ in_some (free_of rs) s) → members word ≡ union rs
union_is rs word e = filter_agree (has word) (in_some (free_of rs)) e every_slot

-- the test of the free cases and the slots of a word, which are theirs
module _ (rs : List Row) (word n : ℕ) (same : (s : ℕ) → has word s ≡ in_some (free_of rs) s) (cases : n ≡ length (free_of rs)) where
  pub slots_few : true ≡ ltb (length (members word)) n → length (union rs) < length (free_of rs)
  slots_few e = omega (arith, ltb-true (length (members word)) n (sym e), ap length (union_is rs word same), cases)

  pub slots_enough : false ≡ ltb (length (members word)) n → length (free_of rs) ≤ length (union rs)
  slots_enough e = omega (arith, ltb-false (length (members word)) n (sym e), ap length (union_is rs word same), cases)

module _ (w : WorkingSheet) (charge : Charge) (word : ℕ) (ns : List ℕ) (qs : List ℤ)
    (same : (s : ℕ) → has word s ≡ in_some (free_of (rows_in w)) s)
    (needs : NeedsPlaced w ns) (prices : PricesPlaced w.prices word qs)
    (enough : length (free_of (rows_in w)) ≤ length (union (rows_in w))) where
  abbrev g : Given
  g = given w charge

  abbrev rs : List Row
  rs = rows_in w

  price_placed : (k : ℕ) → k < length (union rs) → get_or qs k (pos 0) ≡ get_or w.prices (get_or (V g rs) k 0) (pos 0)
  price_placed k l =
      let long : length (members word) ≡ length (union rs) = ap length (union_is rs word same) in
      prices k (omega arith)
      ∙ ap (λ xs. get_or (map (λ s. get_or w.prices s (pos 0)) (in_order (sooner w.prices) xs)) k (pos 0)) (union_is rs word same)
      ∙ get_or-map (λ s. get_or w.prices s (pos 0)) (V g rs) k 0 (pos 0) (omega (arith, length_sorted (slot_before g) (union rs)))

  paired : (j k : ℕ) → j < length (free_of rs) → k < length (union rs) → charge (get_or ns j 0) (get_or qs k (pos 0)) ≡ pair g rs (suc j) (suc k)
  paired j k h l = ap₂ charge (needs j h) (price_placed k l)

  pub level_is : (k : ℕ) (z : ℤ) → k ≤ length (free_of rs) → z ≡ sum_below (beside charge ns qs 0 0) k → z ≡ C g rs k
  level_is k z l e = e ∙ sum_same (beside charge ns qs 0 0) (λ j. pair g rs j j) k (λ j h.
      ap₂ (λ (a b : ℕ). charge (get_or ns a 0) (get_or qs b (pos 0))) (add-zero j) (add-zero j) ∙ paired j j (omega arith) (omega arith))

  pub lower_is : (k : ℕ) (z : ℤ) → k < length (free_of rs) → z ≡ sum_below (beside charge ns qs 1 0) k → z ≡ L g rs k
  lower_is k z l e = e ∙ sum_same (beside charge ns qs 1 0) (λ j. pair g rs (suc j) j) k (λ j h.
      ap₂ (λ (a b : ℕ). charge (get_or ns a 0) (get_or qs b (pos 0))) (add-one j) (add-zero j) ∙ paired (suc j) j (omega arith) (omega arith))

  pub upper_is : (k : ℕ) (z : ℤ) → k < length (free_of rs) → z ≡ sum_below (beside charge ns qs 0 1) k → z ≡ R g rs k
  upper_is k z l e = e ∙ sum_same (beside charge ns qs 0 1) (λ j. pair g rs j (suc j)) k (λ j h.
      ap₂ (λ (a b : ℕ). charge (get_or ns a 0) (get_or qs b (pos 0))) (add-zero j) (add-one j) ∙ paired j (suc j) (omega arith) (omega arith))

  pub slots_are : (s j : ℕ) → j ≡ slot_rank w.prices word s → j ≡ count (λ t. slot_before g t s) (union rs)
  slots_are s j e = e ∙ ap (λ xs. count (λ t. slot_before g t s) xs) (union_is rs word same)
