-- The bound and the bound under a choice lie under the total of each plan. Assumes nothing.
use Rattle.std.specs.Prelude.{◌≡◌, ℕ, ◌<◌, ◌≤◌, Bool, true, false, List, [], ◌∷◌, map, length, ℤ, ◌+ℤ◌, ◌≤ℤ◌, ◌≢◌, nat_eq, slice_index}
use Rattle.std.proofs.Common.{inl, inr, ⊎_elim, ◌∙◌, ap, subst, sym, arith}
use Rattle.std.specs.Int.Signed.{≤ℤ_refl}
use Rattle.std.proofs.ByRecursion.{All-map, All-weaker}
use Rattle.std.proofs.lemmas.List.{length-map}
use Rattle.std.proofs.lemmas.Int.{ints}
use Rattle.std.proofs.lemmas.Bool.{false≢true, ne_eqb, not_from_false, or_cases, or_left, or_right}
use Rattle.std.proofs.lemmas.Bool.Decides.{nat_tests}
use Rattle.std.specs.List.{AllByRecursion}
use Rattle.planning.specs.Lists.{In, Ordered}
use Rattle.slot_set.specs.Sets.{every_slot, has, single}
use Rattle.tariff.specs.Charges.{LawfulTariff, Need, Price}
use Rattle.planning.specs.Plans.{Drawn, Given, at_slot, price, total}
use Rattle.planning.specs.Pruners.{Proper}
use Rattle.bound.specs.Bound.{Row, U, V, bound, bound_at, fixed_sum, free, free_of, in_some, matched, need_of, row_before, rows_from, slot_before, union, without_row, without_slot}
use Rattle.planning.proofs.Lists.{all_from_in, all_in, all_kept, in_kept, ordered_kept}
use Rattle.bound.specs.Sorting.{all_sorted, all_without, apart_sorted, apart_without, in_sorted, in_without, ordered_map, ordered_sorted, ordered_without, sum_of_map, sum_over, sum_sorted, sum_without}
use Rattle.planning.proofs.Slots.{below_every, in_slots}
use Rattle.bound.specs.Matching.{matched_least}
use Rattle.bound.specs.Rows.{Fine, U_numbered, charged, follows, rows_apart, rows_fine, rows_total, total_parts}

-- the two orders
row_yes : (r q : Row) → row_before r q ≡ true → q.need ≤ r.need
row_yes r q e = grind (arith, nat_tests)

row_no : (r q : Row) → row_before r q ≡ false → r.need ≤ q.need
row_no r q e = grind (arith, nat_tests)

abbrev BeforeSlot : Given → ℕ → ℕ → Type 0
BeforeSlot g s t = price g s ≤ℤ price g t

abbrev GoodSlot : Given → ℕ → Type 0
GoodSlot g s = Price (price g s)

abbrev BeforeRow : Row → Row → Type 0
BeforeRow r q = q.need ≤ r.need

abbrev ApartIn : (ℕ → ℕ) → Row → Row → Type 0
ApartIn f r q = f r.row ≡ f q.row → ⊥

slot_yes : (g : Given) (s t : ℕ) → slot_before g s t ≡ true → price g s ≤ℤ price g t
slot_yes g s t e = grind (arith, ints)

slot_no : (g : Given) (s t : ℕ) → slot_before g s t ≡ false → price g t ≤ℤ price g s
slot_no g s t e = grind (arith, ints)

-- the slots of a union
some_priced : (g : Given) (f : ℕ → ℕ) (rs : List Row) → AllByRecursion (Fine g f) rs → (s : ℕ) → s < 64 → in_some rs s ≡ true → Price (price g s)
some_priced g f [] h s l e = absurd (false≢true e)
some_priced g f (r ∷ rs) h s l e = ⊎_elim (λ k. h.0.priced s l k) (λ k. some_priced g f rs h.1 s l k) (or_cases (has r.slots s) (in_some rs s) e)

some_has : (rs : List Row) (s : ℕ) (r : Row) → In r rs → has r.slots s ≡ true → in_some rs s ≡ true
some_has [] s r m t = absurd m
some_has (q ∷ rs) s r (inl e) t = or_left (has q.slots s) (in_some rs s) (subst (λ (x : Row). has x.slots s ≡ true) e t)
some_has (q ∷ rs) s r (inr m) t = or_right (has q.slots s) (in_some rs s) (some_has rs s r m t)

-- rows in falling order and slots in rising order, among which each row finds its slot of the plan
under : (g : Given) (f : ℕ → ℕ) (greatest : ℕ) → LawfulTariff g.charge greatest → (us : List Row) (vs : List ℕ) → AllByRecursion (Fine g f) us → Ordered BeforeRow us → Ordered (ApartIn f) us →
    AllByRecursion (GoodSlot g) vs → Ordered (BeforeSlot g) vs → AllByRecursion (λ r. In (f r.row) vs) us → (length us ≤ length vs) × (matched g us vs ≤ℤ sum_over (charged g f) us)
under g f greatest law us vs fine fall apart good rise m =
    let slot : Row → ℕ = λ r. f r.row in
    let k = matched_least (at_slot g) Need (GoodSlot g) (BeforeSlot g)
    (λ s. ≤ℤ_refl (price g s))
    (λ a s t n x y r. law.order a (price g s) (price g t) n x y r)
    (λ a b s t n n' l x y r. law.exchange a b (price g s) (price g t) n n' x y l r)
    (map need_of us) (map slot us) vs
    (All-map Need need_of us (All-weaker (Fine g f) (λ r. Need r.need) (λ r h. h.need) us fine))
    (ordered_map need_of (λ a b. b ≤ a) us fall) good rise
    (length-map us slot ∙ sym (length-map us need_of)) (ordered_map slot (λ s t. s ≢ t) us apart) (All-map (λ q. In q vs) slot us m) in
    (omega (arith, k.0, length-map us need_of), omega (arith, ints, k.1, sum_of_map (at_slot g) need_of slot us))

module _ (g : Given) (ds p : List ℕ) (ok : Proper g ds) (h : Drawn ds p) where
  abbrev slot_in : ℕ → ℕ
  slot_in i = slice_index p i

  abbrev rs : List Row
  rs = rows_from 0 g.needs ds

  fine : AllByRecursion (Fine g slot_in) rs
  fine = rows_fine g slot_in 0 g.needs ds p (follows p) ok.needs ok.priced h

  free_fine : AllByRecursion (Fine g slot_in) (free_of rs)
  free_fine = All-weaker (λ r. Fine g slot_in r × (free r ≡ true)) (Fine g slot_in) (λ r k. k.0) (free_of rs) (all_kept free (Fine g slot_in) rs fine)

  U_fine : AllByRecursion (Fine g slot_in) (U rs)
  U_fine = all_sorted row_before (Fine g slot_in) (free_of rs) free_fine

  U_falls : Ordered BeforeRow (U rs)
  U_falls = ordered_sorted row_before BeforeRow (λ x y z a b. omega arith) row_yes row_no (free_of rs)

  U_apart : Ordered (ApartIn slot_in) (U rs)
  U_apart = apart_sorted row_before (ApartIn slot_in) (λ x y n e. n (sym e)) (free_of rs)
      (ordered_kept free (ApartIn slot_in) rs (rows_apart g slot_in 0 g.needs ds p (follows p) h))

  V_good : AllByRecursion (GoodSlot g) (V g rs)
  V_good = all_sorted (slot_before g) (GoodSlot g) (union rs)
      (All-weaker (λ s. (s < 64) × (in_some (free_of rs) s ≡ true)) (GoodSlot g) (λ s k. some_priced g slot_in (free_of rs) free_fine s k.0 k.1)
      (union rs) (all_kept (in_some (free_of rs)) (λ s. s < 64) every_slot below_every))

  V_rises : Ordered (BeforeSlot g) (V g rs)
  V_rises = ordered_sorted (slot_before g) (BeforeSlot g) (λ x y z a b. omega (arith, ints)) (slot_yes g) (slot_no g) (union rs)

  U_in_V : AllByRecursion (λ r. In (slot_in r.row) (V g rs)) (U rs)
  U_in_V = all_sorted row_before (λ r. In (slot_in r.row) (V g rs)) (free_of rs)
      (all_from_in (λ r. In (slot_in r.row) (V g rs)) (free_of rs) (λ r m.
      let k = all_in (Fine g slot_in) (free_of rs) free_fine r m in
      in_sorted (slot_before g) (union rs) (slot_in r.row)
      (in_slots (in_some (free_of rs)) (slot_in r.row) k.below (some_has (free_of rs) (slot_in r.row) r m k.drawn))))

  total_is : total g p ≡ (fixed_sum g rs +ℤ sum_over (charged g slot_in) (U rs))
  total_is = rows_total g slot_in 0 g.needs ds p (follows p) ok.sets h ∙ total_parts g slot_in rs fine
      ∙ ap (λ (z : ℤ). fixed_sum g rs +ℤ z) (sym (sum_sorted row_before (charged g slot_in) (free_of rs)))

  pub bound_under : (length (U rs) ≤ length (V g rs)) × (bound g rs ≤ℤ total g p)
  bound_under =
      let k = under g slot_in ok.greatest ok.tariff (U rs) (V g rs) U_fine U_falls U_apart V_good V_rises U_in_V in
      (k.0, omega (arith, ints, k.1, total_is))

  pub bound_at_under : (r : Row) → In r rs → single r.slots ≡ false → bound_at g rs r (slot_in r.row) ≤ℤ total g p
  bound_at_under r m e =
      let row_test : Row → Bool = λ q. nat_eq r.row q.row in
      let slot_test : ℕ → Bool = λ t. nat_eq (slot_in r.row) t in
      let inU : In r (U rs) = in_sorted row_before (free_of rs) r (in_kept free rs r (not_from_false (single r.slots) e) m) in
      let far = apart_without (λ (q : Row). q.row) r (ApartIn slot_in) (λ x y n e. n (sym e)) (U rs) (U_numbered g.needs ds) U_apart inU in
      let k = under g slot_in ok.greatest ok.tariff (without_row r.row (U rs)) (without_slot (slot_in r.row) (V g rs))
      (all_without row_test (Fine g slot_in) (U rs) U_fine) (ordered_without row_test BeforeRow (U rs) U_falls) (ordered_without row_test (ApartIn slot_in) (U rs) U_apart)
      (all_without slot_test (GoodSlot g) (V g rs) V_good) (ordered_without slot_test (BeforeSlot g) (V g rs) V_rises)
      (all_from_in (λ q. In (slot_in q.row) (without_slot (slot_in r.row) (V g rs))) (without_row r.row (U rs)) (λ q i.
      in_without slot_test (V g rs) (slot_in q.row)
      (ne_eqb (slot_in r.row) (slot_in q.row) (all_in (ApartIn slot_in r) (without_row r.row (U rs)) far q i))
      (all_in (λ q. In (slot_in q.row) (V g rs)) (without_row r.row (U rs)) (all_without row_test (λ q. In (slot_in q.row) (V g rs)) (U rs) U_in_V) q i))) in
      omega (arith, ints, k.1, total_is, sum_without (λ (q : Row). q.row) r (charged g slot_in) (U rs) (U_numbered g.needs ds) inU)
