-- The sets that Bound leaves, place by place. Assumes nothing.
use Rattle.std.proofs.Common.{filter, refl, ap₂, take, not, ◌≡◌, ℕ, zero, suc, ◌+◌, ◌<◌, ◌≤◌, Bool, true, false, cond, ◌||◌, ltb, List, [], ◌∷◌, length, get_or, drop, ℤ, Some, None, sym, ap, ◌∙◌, inl, inr, arith}
use lib.Signed.{le_z, lt_z}
use Rattle.std.proofs.lemmas.List.{drop-drop, get_or-drop}
use Rattle.std.proofs.lemmas.Bool.{cond_both, cond-false, cond-true, le-ltb, lt-ltb, or_from, or_left, or_right, not-true}
use Rattle.slot_set.specs.Sets.{has, keep, members, single, some_empty, word_of}
use Rattle.tariff.specs.Charges.{Charge}
use Rattle.planning.specs.Lists.{In}
use Rattle.planning.specs.Plans.{Given, at_slot}
use Rattle.planning.specs.Working.{given, sets_in}
use Rattle.planning.specs.declared.working_sheet.WorkingSheet.{WorkingSheet}
use Rattle.std.specs.List.{AllByRecursion}
use Rattle.planning.proofs.Lists.{all_from_in}
use Rattle.planning.proofs.Slots.{in_slots}
use Rattle.bound.specs.declared.figures.Figures.{Figures}
use Rattle.bound.specs.Bound.{Row, U, V, bound, bound_at, bound_new, bound_prune, bound_strike, free_of, in_some, row_before, rows_from, slot_before, union}
use Rattle.bound.specs.Figures.{RightFigures, affords, chosen}
use Rattle.bound.specs.Tables.{row_of, rows_in}
use Rattle.bound.proofs.Choosing.{chosen_right}
use Rattle.bound.proofs.Counting.{length_rows, row_get, some_row}
use Rattle.bound.proofs.Places.{row_rank_below}
use Rattle.bound.proofs.Filling.{free_case, member_is}
use Rattle.bound.specs.Sorting.{length_sorted}

-- two tests that agree on each of a list keep the same of it
kept_same_in : (f h : ℕ → Bool) (xs : List ℕ) → AllByRecursion (λ x. f x ≡ h x) xs → filter f xs ≡ filter h xs
kept_same_in f h [] e = refl
kept_same_in f h (x ∷ xs) e = ap₂ (λ b ys. cond b (x ∷ ys) ys) e.0 (kept_same_in f h xs e.1)

-- ---- lists with the same rest

pub drop_more_same : (i : ℕ) (xs ys : List ℕ) → drop i xs ≡ drop i ys → drop (i + 1) xs ≡ drop (i + 1) ys
drop_more_same i xs ys e = sym (drop-drop 1 i xs) ∙ ap (drop 1) e ∙ drop-drop 1 i ys

pub drop_reads : (i : ℕ) (xs ys : List ℕ) → drop i xs ≡ drop i ys → get_or xs i 0 ≡ get_or ys i 0
drop_reads i xs ys e =
    let k : i + 0 ≡ i = omega arith in
    ap (λ (j : ℕ). get_or xs j 0) (sym k) ∙ sym (get_or-drop i xs 0 0) ∙ ap (λ zs. get_or zs 0 0) e ∙ get_or-drop i ys 0 0 ∙ ap (λ (j : ℕ). get_or ys j 0) k

-- ---- the sets that are left

length_strike : (keeps : Row → ℕ → Bool) (rs : List Row) → length (bound_strike keeps rs) ≡ length rs
length_strike keeps [] = refl
length_strike keeps (r ∷ rs) = ap suc (length_strike keeps rs)

strike_at : (keeps : Row → ℕ → Bool) (rs : List Row) (i : ℕ) (z : Row) → i < length rs → let r : Row = get_or rs i z in
    get_or (bound_strike keeps rs) i 0 ≡ cond (single r.slots) r.slots (keep (keeps r) r.slots)
strike_at keeps [] i z l = absurd (omega arith)
strike_at keeps (r ∷ rs) zero z l = refl
strike_at keeps (r ∷ rs) (suc i) z l = strike_at keeps rs i z (omega arith)

in_some_of : (rs : List Row) (r : Row) (s : ℕ) → In r rs → has r.slots s ≡ true → in_some rs s ≡ true
in_some_of [] r s m e = absurd m
in_some_of (q ∷ rs) r s (inl m) e = or_left (has q.slots s) (in_some rs s) (ap (λ (x : Row). has x.slots s) (sym m) ∙ e)
in_some_of (q ∷ rs) r s (inr m) e = or_right (has q.slots s) (in_some rs s) (in_some_of rs r s m e)

module _ (w : WorkingSheet) (charge : Charge) (c : ℤ) where
  abbrev g : Given
  g = given w charge

  abbrev rs : List Row
  rs = rows_in w

  abbrev keeps : Row → ℕ → Bool
  keeps r s = le_z (bound_at g rs r s) c

  pub length_new : length (bound_new g c rs) ≡ w.count
  length_new = length_strike keeps rs ∙ length_rows w

  new_at : (i : ℕ) → i < w.count → let r : Row = row_of w i in get_or (bound_new g c rs) i 0 ≡ cond (single r.slots) r.slots (keep (keeps r) r.slots)
  new_at i l =
      strike_at keeps rs i some_row (omega (arith, length_rows w))
      ∙ ap (λ (r : Row). cond (single r.slots) r.slots (keep (keeps r) r.slots)) (row_get w i some_row l)

  pub new_fixed : (i : ℕ) → i < w.count → single (get_or w.sets i 0) ≡ true → get_or w.sets i 0 ≡ get_or (bound_new g c rs) i 0
  new_fixed i l e = sym (new_at i l ∙ cond-true (single (get_or w.sets i 0)) (get_or w.sets i 0) (keep (keeps (row_of w i)) (get_or w.sets i 0)) e)

  module _ (f : Figures) (h : RightFigures w charge f) (enough : length (free_of rs) ≤ length (union rs)) (i : ℕ) (l : i < w.count) (e : single (get_or w.sets i 0) ≡ false) where
    abbrev d : ℕ
    d = get_or w.sets i 0

    judged : (s : ℕ) → In s (members d) → affords w charge f c i s ≡ keeps (row_of w i) s
    judged s m =
        let b = member_is d s m in
        let mr : In (row_of w i) (free_of rs) = free_case w i l e in
        let ms : In s (union rs) = in_slots (in_some (free_of rs)) s b.0 (in_some_of (free_of rs) (row_of w i) s mr b.1) in
        ap (λ z. le_z z c)
        (ap₂ (λ (j k : ℕ). chosen f j k (at_slot g (get_or w.needs i 0) s)) (h.ranks i l) (h.slots s b.0)
        ∙ chosen_right w charge f h enough (row_of w i) s mr ms)

    pub new_free : (x : ℕ) → x ≡ keep (affords w charge f c i) d → x ≡ get_or (bound_new g c rs) i 0
    new_free x q =
        q
        ∙ ap word_of (kept_same_in (affords w charge f c i) (keeps (row_of w i)) (members d) (all_from_in (λ s. affords w charge f c i s ≡ keeps (row_of w i) s) (members d) judged))
        ∙ sym (new_at i l ∙ cond-false (single d) d (keep (keeps (row_of w i)) d) e)

-- the rank in the figures of a free case
pub free_ranked : (w : WorkingSheet) (charge : Charge) (f : Figures) → RightFigures w charge f → (i : ℕ) → i < w.count → not (single (get_or w.sets i 0)) ≡ true → get_or f.ranks i 0 < f.cases
free_ranked w charge f h i l e =
    omega (arith, row_rank_below (take w.count w.needs) (sets_in w) (row_of w i) (free_case w i l (not-true _ e)), h.ranks i l, h.cases)

-- ---- what Bound answers

module _ (g : Given) (c : ℤ) (ds : List ℕ) where
  abbrev all : List Row
  all = rows_from 0 g.needs ds

  abbrev fewer : Bool
  fewer = ltb (length (V g all)) (length (U all))

  abbrev over : Bool
  over = lt_z c (bound g all)

  abbrev new : List ℕ
  new = bound_new g c all

  at_once : ((some_empty ds || fewer) || over) ≡ true → None ≡ bound_prune g c ds
  at_once e = sym (cond-true ((some_empty ds || fewer) || over) None (cond (some_empty new) None (Some new)) e)

  at_last : ((some_empty ds || fewer) || over) ≡ false → cond (some_empty new) None (Some new) ≡ bound_prune g c ds
  at_last e = sym (cond-false ((some_empty ds || fewer) || over) None (cond (some_empty new) None (Some new)) e)

  pub dead_empty : some_empty ds ≡ true → None ≡ bound_prune g c ds
  dead_empty e = at_once (or_left (some_empty ds || fewer) over (or_left (some_empty ds) fewer e))

  pub dead_few : length (union all) < length (free_of all) → None ≡ bound_prune g c ds
  dead_few l = at_once (or_left (some_empty ds || fewer) over (or_right (some_empty ds) fewer
      (lt-ltb (length (V g all)) (length (U all)) (omega (arith, length_sorted (slot_before g) (union all), length_sorted row_before (free_of all))))))

  pub dead_over : (z : ℤ) → z ≡ bound g all → lt_z c z ≡ true → None ≡ bound_prune g c ds
  dead_over z q e = at_once (or_right (some_empty ds || fewer) over (ap (lt_z c) (sym q) ∙ e))

  pub dead_after : (es : List ℕ) (k : ℤ) → es ≡ bound_new g k all → k ≡ c → true ≡ some_empty es → None ≡ bound_prune g c ds
  dead_after es k q m e = sym (cond_both ((some_empty ds || fewer) || over) None (cond (some_empty new) None (Some new)) (λ r. r ≡ None) (λ _. refl)
      (λ _. cond-true (some_empty new) None (Some new) (ap some_empty (sym (q ∙ ap (λ x. bound_new g x all) m)) ∙ sym e)))

  module _ (full : some_empty ds ≡ false) (enough : length (free_of all) ≤ length (union all)) (z : ℤ) (q : z ≡ bound g all) (within : lt_z c z ≡ false) where
    lives : ((some_empty ds || fewer) || over) ≡ false
    lives = or_from (some_empty ds || fewer) over (or_from (some_empty ds) fewer full
        (le-ltb (length (V g all)) (length (U all)) (omega (arith, length_sorted (slot_before g) (union all), length_sorted row_before (free_of all)))))
        (ap (lt_z c) (sym q) ∙ within)

    pub new_sets : (es : List ℕ) (k : ℤ) → es ≡ bound_new g k all → k ≡ c → false ≡ some_empty es → Some es ≡ bound_prune g c ds
    new_sets es k p m e =
        let same : es ≡ new = p ∙ ap (λ x. bound_new g x all) m in
        ap (λ xs. Some xs) same ∙ sym (cond-false (some_empty new) None (Some new) (ap some_empty (sym same) ∙ sym e)) ∙ at_last lives
