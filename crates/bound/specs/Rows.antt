-- The rows of a plan: what a plan says of them, and its total over them. Assumes nothing.
use Rattle.std.specs.Prelude.{◌≡◌, ℕ, suc, ◌+◌, ◌<◌, Bool, true, false, cond, not, List, [], ◌∷◌, length, ℤ, ◌+ℤ◌, ◌≢◌, slice_index, refl}
use Rattle.std.proofs.Common.{◌∙◌, ap, subst, sym, add-suc, add-zero, suc-add, zero-add, arith}
use Rattle.std.proofs.lemmas.Int.{ints}
use Rattle.std.proofs.lemmas.Bool.{cond_both}
use Rattle.std.specs.List.{AllByRecursion}
use Rattle.planning.specs.Lists.{Ordered}
use Rattle.slot_set.specs.Sets.{has, keep, single}
use Rattle.tariff.specs.Charges.{Need}
use Rattle.planning.specs.Plans.{Absent, Drawn, Given, at_slot, sum_of}
use Rattle.planning.specs.Pruners.{Part, Parts, Priced}
use Rattle.pruners.specs.Sum.{least_in}
use Rattle.bound.specs.Bound.{Row, U, bound_strike, fixed_sum, free, free_of, row_before, rows_from}
use Rattle.planning.proofs.Lists.{ordered_kept}
use Rattle.bound.specs.Sorting.{apart_sorted, sum_over}
use Rattle.slot_set.proofs.Keeps.{keep_has, keep_part}
use Rattle.bound.specs.Singles.{single_least}

-- the slots of a plan from row i on, by row
abbrev pub Follows : (ℕ → ℕ) → ℕ → List ℕ → Type 0
Follows f i [] = Unit {0}
Follows f i (s ∷ p) = (f i ≡ s) × Follows f (suc i) p

follows_from : (f : ℕ → ℕ) (i : ℕ) (p : List ℕ) → ((k : ℕ) → f (i + k) ≡ slice_index p k) → Follows f i p
follows_from f i [] h = tt
follows_from f i (s ∷ p) h = (ap f (sym (add-zero i)) ∙ h 0, follows_from f (suc i) p (λ k. ap f (suc-add i k ∙ sym (add-suc i k)) ∙ h (suc k)))

pub follows : (p : List ℕ) → Follows (λ i. slice_index p i) 0 p
follows p = follows_from (λ i. slice_index p i) 0 p (λ k. ap (λ i. slice_index p i) (zero-add k))

-- rows have rising numbers
above : (j i : ℕ) (ns ds : List ℕ) → j < i → AllByRecursion (λ r. j ≢ r.row) (rows_from i ns ds)
above j i [] ds h = tt
above j i (a ∷ ns) [] h = tt
above j i (a ∷ ns) (d ∷ ds) h = ((λ e. omega arith), above j (suc i) ns ds (omega arith))

rows_numbered : (i : ℕ) (ns ds : List ℕ) → Ordered (λ r q. r.row ≢ q.row) (rows_from i ns ds)
rows_numbered i [] ds = tt
rows_numbered i (a ∷ ns) [] = tt
rows_numbered i (a ∷ ns) (d ∷ ds) = (above i (suc i) ns ds (omega arith), rows_numbered (suc i) ns ds)

pub free_numbered : (ns ds : List ℕ) → Ordered (λ r q. r.row ≢ q.row) (free_of (rows_from 0 ns ds))
free_numbered ns ds = ordered_kept free (λ r q. r.row ≢ q.row) (rows_from 0 ns ds) (rows_numbered 0 ns ds)

pub U_numbered : (ns ds : List ℕ) → Ordered (λ r q. r.row ≢ q.row) (U (rows_from 0 ns ds))
U_numbered ns ds = apart_sorted row_before (λ r q. r.row ≢ q.row) (λ x y n e. n (sym e)) (free_of (rows_from 0 ns ds)) (free_numbered ns ds)

-- what a plan and its sets say of a row
pub record Fine (g : Given) (f : ℕ → ℕ) (r : Row) : Type 0 where
  pub need : Need r.need
  pub priced : Priced g r.slots
  pub below : f r.row < 64
  pub drawn : has r.slots (f r.row) ≡ true

module _ (g : Given) (f : ℕ → ℕ) where
  pub rows_fine : (i : ℕ) (ns ds p : List ℕ) → Follows f i p → AllByRecursion Need ns → AllByRecursion (Priced g) ds → Drawn ds p → AllByRecursion (Fine g f) (rows_from i ns ds)
  rows_fine i [] ds p w n k h = tt
  rows_fine i (a ∷ ns) [] p w n k h = tt
  rows_fine i (a ∷ ns) (d ∷ ds) [] w n k h = absurd h
  rows_fine i (a ∷ ns) (d ∷ ds) (s ∷ p) w n k h = (
    record { need = n.0; priced = k.0; below = subst (λ (x : ℕ). x < 64) (sym w.0) h.0; drawn = subst (λ (x : ℕ). has d x ≡ true) (sym w.0) h.1 },
    rows_fine (suc i) ns ds p w.1 n.1 k.1 h.3,
  )

  rows_absent : (t i : ℕ) (ns ds p : List ℕ) → Follows f i p → Drawn ds p → Absent t p → AllByRecursion (λ r. t ≢ f r.row) (rows_from i ns ds)
  rows_absent t i [] ds p w h n = tt
  rows_absent t i (a ∷ ns) [] p w h n = tt
  rows_absent t i (a ∷ ns) (d ∷ ds) [] w h n = absurd h
  rows_absent t i (a ∷ ns) (d ∷ ds) (s ∷ p) w h n = ((λ e. n.0 (e ∙ w.0)), rows_absent t (suc i) ns ds p w.1 h.3 n.1)

  pub rows_apart : (i : ℕ) (ns ds p : List ℕ) → Follows f i p → Drawn ds p → Ordered (λ r q. f r.row ≢ f q.row) (rows_from i ns ds)
  rows_apart i [] ds p w h = tt
  rows_apart i (a ∷ ns) [] p w h = tt
  rows_apart i (a ∷ ns) (d ∷ ds) [] w h = absurd h
  rows_apart i (a ∷ ns) (d ∷ ds) (s ∷ p) w h =
      (rows_absent (f i) (suc i) ns ds p w.1 h.3 (subst (λ (x : ℕ). Absent x p) (sym w.0) h.2), rows_apart (suc i) ns ds p w.1 h.3)

  -- the charge of a row in its slot of the plan
  abbrev pub charged : Row → ℤ
  charged r = at_slot g r.need (f r.row)

  pub rows_total : (i : ℕ) (ns ds p : List ℕ) → Follows f i p → length ds ≡ length ns → Drawn ds p → sum_of (at_slot g) ns p ≡ sum_over charged (rows_from i ns ds)
  rows_total i [] ds p w e h = refl
  rows_total i (a ∷ ns) [] p w e h = absurd (omega arith)
  rows_total i (a ∷ ns) (d ∷ ds) [] w e h = absurd h
  rows_total i (a ∷ ns) (d ∷ ds) (s ∷ p) w e h = rw (w.0, rows_total (suc i) ns ds p w.1 (omega arith) h.3)

  -- the single rows bring the single sum
  part_step : (b : Bool) (r : Row) (rs : List Row) (m a s : ℤ) → (b ≡ true → m ≡ charged r) → s ≡ (a +ℤ sum_over charged rs) →
      (charged r +ℤ s) ≡ (cond b (m +ℤ a) a +ℤ sum_over charged (cond (not b) (r ∷ rs) rs))
  part_step true r rs m a s h e = omega (arith, ints, h refl)
  part_step false r rs m a s h e = omega (arith, ints)

  pub total_parts : (rs : List Row) → AllByRecursion (Fine g f) rs → sum_over charged rs ≡ (fixed_sum g rs +ℤ sum_over charged (free_of rs))
  total_parts [] h = refl
  total_parts (r ∷ rs) h = part_step (single r.slots) r (free_of rs) (least_in g r.need r.slots) (fixed_sum g rs) (sum_over charged rs)
      (λ e. single_least (at_slot g r.need) r.slots (f r.row) e h.0.below h.0.drawn) (total_parts rs h.1)

  pub strike_drawn : (keeps : Row → ℕ → Bool) (i : ℕ) (ns ds p : List ℕ) → Follows f i p → length ds ≡ length ns → Drawn ds p →
      AllByRecursion (λ r. single r.slots ≡ false → keeps r (f r.row) ≡ true) (rows_from i ns ds) → Drawn (bound_strike keeps (rows_from i ns ds)) p
  strike_drawn keeps i [] [] p w e h k = h
  strike_drawn keeps i [] (d ∷ ds) p w e h k = absurd (omega arith)
  strike_drawn keeps i (a ∷ ns) [] p w e h k = absurd (omega arith)
  strike_drawn keeps i (a ∷ ns) (d ∷ ds) [] w e h k = h
  strike_drawn keeps i (a ∷ ns) (d ∷ ds) (s ∷ p) w e h k =
      let r : Row = record { row = i; need = a; slots = d } in (
        h.0,
        cond_both (single d) d (keep (keeps r) d) (λ x. has x s ≡ true) (λ _. h.1) (λ n. keep_has (keeps r) d s h.0 h.1 (subst (λ (x : ℕ). keeps r x ≡ true) w.0 (k.0 n))),
        h.2,
        strike_drawn keeps (suc i) ns ds p w.1 (omega arith) h.3 k.1,
      )

pub strike_parts : (keeps : Row → ℕ → Bool) (i : ℕ) (ns ds : List ℕ) → length ds ≡ length ns → Parts (bound_strike keeps (rows_from i ns ds)) ds
strike_parts keeps i [] [] e = tt
strike_parts keeps i [] (d ∷ ds) e = absurd (omega arith)
strike_parts keeps i (a ∷ ns) [] e = absurd (omega arith)
strike_parts keeps i (a ∷ ns) (d ∷ ds) e =
    let r : Row = record { row = i; need = a; slots = d } in (
      cond_both (single d) d (keep (keeps r) d) (λ x. Part x d) (λ _ s t. t) (λ _ s t. keep_part (keeps r) d s t),
      strike_parts keeps (suc i) ns ds (omega arith),
    )
