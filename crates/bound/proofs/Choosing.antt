-- The bound under a choice, by the figures: its three cases, and that it is right. Assumes nothing.
use Rattle.std.proofs.Common.{◌≡◌, ℕ, suc, ◌+◌, ◌-◌, ◌<◌, ◌≤◌, cond, eqb, ltb, leb, List, length, get_or, take, ℤ, pos, ◌+ℤ◌, ◌-ℤ◌, sym, ap, ◌∙◌, ap₂, ⊎_elim, add-one, arith}
use Rattle.std.proofs.lemmas.Bool.{cond_both, cond-false, cond-true, eq-eqb, le-ltb, lt-ltb, ne_eqb, cases_order, ltb-true}
use Rattle.tariff.specs.Charges.{Charge}
use Rattle.planning.specs.Lists.{In}
use Rattle.planning.specs.Plans.{Given, at_slot}
use Rattle.planning.specs.Working.{given, sets_in}
use Rattle.planning.specs.declared.working_sheet.WorkingSheet.{WorkingSheet}
use Rattle.bound.specs.declared.figures.Figures.{Figures}
use Rattle.bound.specs.Orderings.{count}
use Rattle.bound.specs.Bound.{BySums, C, L, R, Row, bound, bound_at, free_of, pair, slot_before, smaller, union}
use Rattle.bound.specs.Figures.{Matching, RightFigures, chosen, shifted, whole}
use Rattle.bound.specs.Tables.{row_rank, rows_in}
use Rattle.bound.proofs.BySums.{bound_by_sums}
use Rattle.bound.proofs.Places.{place_is_count, row_rank_below}

-- ---- the three cases

module _ (f : Figures) (i j : ℕ) (w : ℤ) where
  abbrev later : ℤ
  later = shifted f.fixed f.level f.lower f.cases w i (cond (ltb j f.cases) j (f.cases - 1))

  abbrev earlier : ℤ
  earlier = shifted f.fixed f.level f.upper f.cases w j i

  pub chosen_same : j ≡ i → chosen f i j w ≡ whole f
  unfolding chosen
  chosen_same e = cond-true (eqb j i) (whole f) (cond (ltb i j) later earlier) (eq-eqb j i e)

  pub chosen_later : i < j → chosen f i j w ≡ later
  unfolding chosen
  chosen_later l = cond-false (eqb j i) (whole f) (cond (ltb i j) later earlier) (ne_eqb j i (λ e. omega arith)) ∙ cond-true (ltb i j) later earlier (lt-ltb i j l)

  pub chosen_earlier : j < i → chosen f i j w ≡ earlier
  unfolding chosen
  chosen_earlier l = cond-false (eqb j i) (whole f) (cond (ltb i j) later earlier) (ne_eqb j i (λ e. omega arith)) ∙ cond-false (ltb i j) later earlier (le-ltb i j (omega arith))

pub same_three : (a b c a' b' c' : ℤ) → a ≡ a' → b ≡ b' → c ≡ c' → ((a +ℤ b) +ℤ c) ≡ ((a' +ℤ b') +ℤ c')
same_three a b c a' b' c' p q r = rw (p, q, r)

-- ---- the figures are right

same_sum : (x a b c d e a' b' c' d' e' x' w w' : ℤ) → x ≡ x' → a ≡ a' → w ≡ w' → b ≡ b' → c ≡ c' → d ≡ d' → e ≡ e' →
    ((((x +ℤ a) +ℤ w) +ℤ (b -ℤ c)) +ℤ (d -ℤ e)) ≡ ((((x' +ℤ a') +ℤ w') +ℤ (b' -ℤ c')) +ℤ (d' -ℤ e'))
same_sum x a b c d e a' b' c' d' e' x' w w' p q r s t u v = rw (p, q, r, s, t, u, v)

pred_suc : (k : ℕ) → suc k - 1 ≡ k
pred_suc k = omega arith

last_is : (j n : ℕ) → 0 < n → smaller (suc j) n ≡ suc (cond (ltb j n) j (n - 1))
last_is j n h = cond_both (ltb j n) j (n - 1) (λ x. smaller (suc j) n ≡ suc x)
    (λ e. cond-true (leb (suc j) n) (suc j) n e)
    (λ e. cond-false (leb (suc j) n) (suc j) n e ∙ omega arith)

module _ (w : WorkingSheet) (charge : Charge) (f : Figures) (h : RightFigures w charge f) (enough : length (free_of (rows_in w)) ≤ length (union (rows_in w))) where
  abbrev g : Given
  g = given w charge

  abbrev rs : List Row
  rs = rows_in w

  pub whole_right : whole f ≡ bound g rs
  whole_right =
      ap₂ (λ x y. x +ℤ y) h.fixed (h.level f.cases (omega arith) ∙ ap (C g rs) h.cases)
      ∙ sym (bound_by_sums g (sets_in w) enough).whole

  module _ (r : Row) (s : ℕ) (mr : In r (free_of rs)) (ms : In s (union rs)) where
    abbrev i : ℕ
    i = row_rank rs r

    abbrev j : ℕ
    j = count (λ t. slot_before g t s) (union rs)

    abbrev by : BySums g rs (length (free_of rs)) (suc i) (suc j) (bound_at g rs r s)
    by = (bound_by_sums g (sets_in w) enough).choice r s mr ms

    here : i < f.cases
    here = omega (arith, row_rank_below (take w.count w.needs) (sets_in w) r mr, h.cases)

    charged : at_slot g r.need s ≡ pair g rs (suc i) (suc j)
    charged = sym ((place_is_count g (sets_in w)).charge_at r s mr ms)

    total_is : get_or f.level f.cases (pos 0) ≡ C g rs (length (free_of rs))
    total_is = h.level f.cases (omega arith) ∙ ap (C g rs) h.cases

    abbrev last : ℕ
    last = cond (ltb j f.cases) j (f.cases - 1)

    last_below : last < f.cases
    last_below = cond_both (ltb j f.cases) j (f.cases - 1) (λ x. x < f.cases) (ltb-true j f.cases) (λ e. omega (arith, here))

    right_later : i < j → shifted f.fixed f.level f.lower f.cases (at_slot g r.need s) i last ≡ bound_at g rs r s
    right_later l =
        let e : smaller (suc j) (length (free_of rs)) ≡ suc last = ap (smaller (suc j)) (sym h.cases) ∙ last_is j f.cases (omega (arith, here)) in
        let p : smaller (suc j) (length (free_of rs)) - 1 ≡ last = ap (λ (k : ℕ). k - 1) e ∙ pred_suc last in
        same_sum _ _ _ _ _ _ _ _ _ _ _ _ _ _
        h.fixed
        (h.level i (omega (arith, here)) ∙ ap (C g rs) (sym (pred_suc i)))
        charged
        (h.lower last last_below ∙ ap (L g rs) (sym p))
        (h.lower i here ∙ ap (L g rs) (sym (pred_suc i)))
        total_is
        (h.level (last + 1) (omega (arith, last_below)) ∙ ap (C g rs) (add-one last ∙ sym e))
        ∙ sym (by.later (omega arith))

    right_earlier : j < i → shifted f.fixed f.level f.upper f.cases (at_slot g r.need s) j i ≡ bound_at g rs r s
    right_earlier l =
        same_sum _ _ _ _ _ _ _ _ _ _ _ _ _ _
        h.fixed
        (h.level j (omega (arith, here)) ∙ ap (C g rs) (sym (pred_suc j)))
        charged
        (h.upper i here ∙ ap (R g rs) (sym (pred_suc i)))
        (h.upper j (omega (arith, here)) ∙ ap (R g rs) (sym (pred_suc j)))
        total_is
        (h.level (i + 1) (omega (arith, here)) ∙ ap (C g rs) (add-one i))
        ∙ sym (by.earlier (omega arith))

    pub chosen_right : chosen f (row_rank rs r) (count (λ t. slot_before g t s) (union rs)) (at_slot g r.need s) ≡ bound_at g rs r s
    chosen_right = ⊎_elim
        (λ e. chosen_same f i j (at_slot g r.need s) e ∙ ap₂ (λ x y. x +ℤ y) h.fixed total_is ∙ sym (by.same (ap suc e)))
        (λ o. ⊎_elim
        (λ l. chosen_earlier f i j (at_slot g r.need s) l ∙ right_earlier l)
        (λ l. chosen_later f i j (at_slot g r.need s) l ∙ right_later l)
        o)
        (cases_order j i)

-- so the formula's value is the matching's
pub matches : (f : Figures) (i j : ℕ) (z b : ℤ) → b ≡ chosen f i j z → Matching f i j z b
matches f i j z b e w charge h enough r s mr ms ei ej ez =
    let k = count (λ t. slot_before (given w charge) t s) (union (rows_in w)) in
    e
    ∙ ap (λ x. chosen f x j z) ei
    ∙ ap (λ x. chosen f (row_rank (rows_in w) r) x z) ej
    ∙ ap (λ x. chosen f (row_rank (rows_in w) r) k x) ez
    ∙ chosen_right w charge f h enough r s mr ms
