-- The bound and the bound under a choice, from the three sums. Assumes nothing.
use Rattle.std.proofs.Common.{◌≡◌, ℕ, zero, suc, ◌-◌, ◌<◌, ◌≤◌, eqb, leb, List, [], ◌∷◌, map, length, get_or, ℤ, ◌+ℤ◌, ◌-ℤ◌, sym, refl, ap, ◌∙◌, subst, arith}
use Rattle.std.proofs.lemmas.List.{length-map}
use Rattle.std.proofs.lemmas.Int.{ints}
use Rattle.std.proofs.lemmas.Bool.{cond_both, cond-false, cond-true, eq-eqb, le-leb, leb-false, leb-true, ne_eqb}
use Rattle.planning.specs.Lists.{In, Ordered}
use Rattle.bound.specs.Orderings.{After, count, kth, sum_to, without_first}
use Rattle.planning.specs.Plans.{Given, at_slot, sum_of}
use Rattle.bound.specs.Bound.{BoundBySums, BySums, C, Row, U, V, bound, bound_at, fixed_sum, free_of, matched, need_of, row_before, row_place, rows_from, slot_before, slot_place, smaller, union, without_row, without_slot}
use Rattle.planning.proofs.Lists.{all_in}
use Rattle.bound.specs.Sorting.{length_sorted}
use Rattle.bound.specs.Rows.{U_numbered}
use Rattle.bound.proofs.Places.{V_apart, after_below, after_get, after_in, after_map, place_is_count}

-- ---- one element taken out by its place

drop_at : {A : Type 0} → ℕ → List A → List A
drop_at i [] = []
drop_at zero (x ∷ xs) = xs
drop_at (suc i) (x ∷ xs) = x ∷ drop_at i xs

map_drop_at : {A : Type 0} (f : A → ℕ) (i : ℕ) (xs : List A) → map f (drop_at i xs) ≡ drop_at i (map f xs)
unfolding drop_at
map_drop_at f i [] = refl
map_drop_at f zero (x ∷ xs) = refl
map_drop_at f (suc i) (x ∷ xs) = ap (λ ys. f x ∷ ys) (map_drop_at f i xs)

without_is : {A : Type 0} (key : A → ℕ) (x : A) (xs : List A) → Ordered (λ y z. key y ≡ key z → ⊥) xs → (i : ℕ) → After i x xs →
    without_first (λ y. eqb (key x) (key y)) xs ≡ drop_at i xs
unfolding drop_at
without_is key x [] o i h = refl
without_is key x (y ∷ ys) o zero h = cond-true (eqb (key x) (key y)) ys (y ∷ without_first (λ z. eqb (key x) (key z)) ys) (eq-eqb (key x) (key y) (ap key h))
without_is key x (y ∷ ys) o (suc i) h =
    cond-false (eqb (key x) (key y)) ys (y ∷ without_first (λ z. eqb (key x) (key z)) ys)
    (ne_eqb (key x) (key y) (λ e. all_in (λ z. key y ≡ key z → ⊥) ys o.0 x (after_in ys i x h) (sym e)))
    ∙ ap (λ zs. y ∷ zs) (without_is key x ys o.1 i h)

-- ---- sums of charges of needs in slots, by places

sum_flip : (w : ℕ → ℕ → ℤ) (us vs : List ℕ) → sum_of w us vs ≡ sum_of (λ v u. w u v) vs us
sum_flip w [] [] = refl
sum_flip w [] (v ∷ vs) = refl
sum_flip w (u ∷ us) [] = refl
sum_flip w (u ∷ us) (v ∷ vs) = ap (λ z. w u v +ℤ z) (sum_flip w us vs)

low : ℕ → ℕ → ℕ
low zero b = zero
low (suc a) zero = zero
low (suc a) (suc b) = suc (low a b)

-- one more pair in front, with charge h on the diagonal and m beside it
one_more : (h m t s c c' l l' C C' L L' : ℤ) → t ≡ ((c +ℤ (l' -ℤ l)) +ℤ (s -ℤ c')) → C ≡ (h +ℤ c) → C' ≡ (h +ℤ c') → L ≡ (m +ℤ l) → L' ≡ (m +ℤ l') →
    (h +ℤ t) ≡ ((C +ℤ (L' -ℤ L)) +ℤ ((h +ℤ s) -ℤ C'))
one_more h m t s c c' l l' C C' L L' e a a' b b' = rw (e, a, a', b, b') (omega (arith, ints))

module _ (w : ℕ → ℕ → ℤ) where
  abbrev Cs : List ℕ → List ℕ → ℕ → ℤ
  Cs us vs = sum_to (λ j. w (kth us j) (kth vs j))

  abbrev Ls : List ℕ → List ℕ → ℕ → ℤ
  Ls us vs = sum_to (λ j. w (kth us (suc j)) (kth vs j))

  C_cons : (u v : ℕ) (us vs : List ℕ) (k : ℕ) → Cs (u ∷ us) (v ∷ vs) (suc k) ≡ (w u v +ℤ Cs us vs k)
  C_cons u v us vs zero = omega (arith, ints)
  C_cons u v us vs (suc k) = omega (arith, ints, C_cons u v us vs k)

  L_cons : (u v : ℕ) (us vs : List ℕ) (k : ℕ) → Ls (u ∷ us) (v ∷ vs) (suc k) ≡ (w (get_or us 0 0) v +ℤ Ls us vs k)
  L_cons u v us vs zero = omega (arith, ints)
  L_cons u v us vs (suc k) = omega (arith, ints, L_cons u v us vs k)

  all_matched : (us vs : List ℕ) → length us ≤ length vs → sum_of w us vs ≡ Cs us vs (length us)
  all_matched [] vs h = refl
  all_matched (u ∷ us) [] h = absurd (omega arith)
  all_matched (u ∷ us) (v ∷ vs) h = ap (λ z. w u v +ℤ z) (all_matched us vs (omega arith)) ∙ sym (C_cons u v us vs (length us))

  -- the same place taken out of both
  same_place : (i : ℕ) (us vs : List ℕ) → i < length us → i < length vs → (w (get_or us i 0) (get_or vs i 0) +ℤ sum_of w (drop_at i us) (drop_at i vs)) ≡ sum_of w us vs
  unfolding drop_at
  same_place i [] vs h k = absurd (omega arith)
  same_place i (u ∷ us) [] h k = absurd (omega arith)
  same_place zero (u ∷ us) (v ∷ vs) h k = refl
  same_place (suc i) (u ∷ us) (v ∷ vs) h k = omega (arith, ints, same_place i us vs (omega arith) (omega arith))

  -- the first of the needs and a later slot taken out: each need before that slot moves one slot down
  first_later : (j u v : ℕ) (us vs : List ℕ) → j < length vs →
      sum_of w us (v ∷ drop_at j vs) ≡ (Ls (u ∷ us) (v ∷ vs) (low (suc j) (length us)) +ℤ (sum_of w (u ∷ us) (v ∷ vs) -ℤ Cs (u ∷ us) (v ∷ vs) (suc (low (suc j) (length us)))))
  unfolding drop_at low
  first_later j u v [] vs h = omega (arith, ints)
  first_later j u v (u' ∷ us) [] h = absurd (omega arith)
  first_later zero u v (u' ∷ us) (v' ∷ vs) h = omega (arith, ints)
  first_later (suc j) u v (u' ∷ us) (v' ∷ vs) h =
      let m : ℕ = low (suc j) (length us) in
      omega (arith, ints, first_later j u' v' us vs (omega arith), L_cons u v (u' ∷ us) (v' ∷ vs) m, C_cons u v (u' ∷ us) (v' ∷ vs) (suc m))

  later_place : (i j u v : ℕ) (us vs : List ℕ) → i < j → i ≤ length us → j ≤ length vs → let e : ℕ = low j (length us) in
      sum_of w (drop_at i (u ∷ us)) (drop_at j (v ∷ vs)) ≡
      ((Cs (u ∷ us) (v ∷ vs) i +ℤ (Ls (u ∷ us) (v ∷ vs) e -ℤ Ls (u ∷ us) (v ∷ vs) i)) +ℤ (sum_of w (u ∷ us) (v ∷ vs) -ℤ Cs (u ∷ us) (v ∷ vs) (suc e)))
  unfolding drop_at low
  later_place i zero u v us vs h k l = absurd (omega arith)
  later_place zero (suc j) u v us vs h k l = omega (arith, ints, first_later j u v us vs (omega arith))
  later_place (suc i) (suc j) u v [] vs h k l = absurd (omega arith)
  later_place (suc i) (suc j) u v (u' ∷ us) [] h k l = absurd (omega arith)
  later_place (suc i) (suc j) u v (u' ∷ us) (v' ∷ vs) h k l =
      let e : ℕ = low j (length us) in
      one_more (w u v) (w u' v) (sum_of w (drop_at i (u' ∷ us)) (drop_at j (v' ∷ vs))) (sum_of w (u' ∷ us) (v' ∷ vs))
      (Cs (u' ∷ us) (v' ∷ vs) i) (Cs (u' ∷ us) (v' ∷ vs) (suc e)) (Ls (u' ∷ us) (v' ∷ vs) i) (Ls (u' ∷ us) (v' ∷ vs) e)
      (Cs (u ∷ (u' ∷ us)) (v ∷ (v' ∷ vs)) (suc i)) (Cs (u ∷ (u' ∷ us)) (v ∷ (v' ∷ vs)) (suc (suc e)))
      (Ls (u ∷ (u' ∷ us)) (v ∷ (v' ∷ vs)) (suc i)) (Ls (u ∷ (u' ∷ us)) (v ∷ (v' ∷ vs)) (suc e))
      (later_place i j u' v' us vs (omega arith) (omega arith) (omega arith))
      (C_cons u v (u' ∷ us) (v' ∷ vs) i) (C_cons u v (u' ∷ us) (v' ∷ vs) (suc e)) (L_cons u v (u' ∷ us) (v' ∷ vs) i) (L_cons u v (u' ∷ us) (v' ∷ vs) e)

-- ---- the three formulas, for needs us and slots vs; the need a stands after i others, the slot s after j

low_left : (a b : ℕ) → a ≤ b → low a b ≡ a
unfolding low
low_left zero b h = refl
low_left (suc a) zero h = absurd (omega arith)
low_left (suc a) (suc b) h = ap suc (low_left a b (omega arith))

low_right : (a b : ℕ) → b ≤ a → low a b ≡ b
unfolding low
low_right zero b h = omega arith
low_right (suc a) zero h = refl
low_right (suc a) (suc b) h = ap suc (low_right a b (omega arith))

low_smaller : (a b : ℕ) → smaller (suc a) (suc b) ≡ suc (low a b)
low_smaller a b = cond_both (leb (suc a) (suc b)) (suc a) (suc b) (λ x. x ≡ suc (low a b))
    (λ e. ap suc (sym (low_left a b (omega (arith, leb-true (suc a) (suc b) e))))) (λ e. ap suc (sym (low_right a b (omega (arith, leb-false (suc a) (suc b) e)))))

later_at : (w : ℕ → ℕ → ℤ) (us vs : List ℕ) (i j e : ℕ) → i < j → i < length us → j < length vs → smaller (suc j) (length us) ≡ suc e →
    sum_of w (drop_at i us) (drop_at j vs) ≡ ((Cs w us vs i +ℤ (Ls w us vs e -ℤ Ls w us vs i)) +ℤ (sum_of w us vs -ℤ Cs w us vs (suc e)))
later_at w [] vs i j e h k l m = absurd (omega arith)
later_at w (u ∷ us) [] i j e h k l m = absurd (omega arith)
later_at w (u ∷ us) (v ∷ vs) i j e h k l m =
    let q : low j (length us) ≡ e = omega (arith, low_smaller j (length us)) in
    subst (λ (x : ℕ). sum_of w (drop_at i (u ∷ us)) (drop_at j (v ∷ vs)) ≡
    ((Cs w (u ∷ us) (v ∷ vs) i +ℤ (Ls w (u ∷ us) (v ∷ vs) x -ℤ Ls w (u ∷ us) (v ∷ vs) i)) +ℤ (sum_of w (u ∷ us) (v ∷ vs) -ℤ Cs w (u ∷ us) (v ∷ vs) (suc x))))
    q (later_place w i j u v us vs h (omega arith) (omega arith))

regroup : (a x c l t : ℤ) → ((a +ℤ x) +ℤ ((c +ℤ l) +ℤ t)) ≡ ((((a +ℤ c) +ℤ x) +ℤ l) +ℤ t)
regroup a x c l t = omega (arith, ints)

pred_suc : (i : ℕ) → suc i - 1 ≡ i
pred_suc i = omega arith

smaller_suc : (a b : ℕ) → 0 < a → 0 < b → smaller a b ≡ suc (smaller a b - 1)
smaller_suc a b h k = cond_both (leb a b) a b (λ x. x ≡ suc (x - 1)) (λ _. omega arith) (λ _. omega arith)

module _ (w : ℕ → ℕ → ℤ) (us vs : List ℕ) (i j a s n : ℕ) (hu : After i a us) (hv : After j s vs) (len : length us ≡ n) (enough : length us ≤ length vs) (A : ℤ) where
  abbrev chosen : ℤ
  chosen = (A +ℤ w a s) +ℤ sum_of w (drop_at i us) (drop_at j vs)

  whole_is : sum_of w us vs ≡ Cs w us vs n
  whole_is = all_matched w us vs enough ∙ ap (Cs w us vs) len

  pair_is : w (get_or us i 0) (get_or vs j 0) ≡ w a s
  pair_is = rw (after_get us i a hu, after_get vs j s hv)

  by_parts : (c l t t' : ℤ) → sum_of w (drop_at i us) (drop_at j vs) ≡ ((c +ℤ l) +ℤ t) → t ≡ t' → chosen ≡ ((((A +ℤ c) +ℤ w a s) +ℤ l) +ℤ t')
  by_parts c l t t' e k = ap (λ z. (A +ℤ w a s) +ℤ z) (e ∙ ap (λ z. (c +ℤ l) +ℤ z) k) ∙ regroup A (w a s) c l t'

  at_same : suc j ≡ suc i → chosen ≡ (A +ℤ Cs w us vs n)
  at_same e =
      let q : j ≡ i = omega arith in
      let k : (w a s +ℤ sum_of w (drop_at i us) (drop_at j vs)) ≡ Cs w us vs n =
      ap (λ z. z +ℤ sum_of w (drop_at i us) (drop_at j vs)) (sym pair_is)
      ∙ subst (λ (x : ℕ). (w (get_or us i 0) (get_or vs x 0) +ℤ sum_of w (drop_at i us) (drop_at x vs)) ≡ sum_of w us vs) (sym q) (same_place w i us vs (after_below us i a hu) (omega (arith, after_below us i a hu)))
      ∙ whole_is in
      omega (arith, ints, k)

  at_later : suc i < suc j → let e : ℕ = smaller (suc j) n in
      chosen ≡ ((((A +ℤ Cs w us vs (suc i - 1)) +ℤ w (get_or us i 0) (get_or vs j 0)) +ℤ (Ls w us vs (e - 1) -ℤ Ls w us vs (suc i - 1))) +ℤ (Cs w us vs n -ℤ Cs w us vs e))
  at_later h =
      let x : ℕ = smaller (suc j) n in
      let p : x ≡ suc (x - 1) = smaller_suc (suc j) n (omega arith) (omega (arith, after_below us i a hu)) in
      let q : smaller (suc j) (length us) ≡ suc (x - 1) = ap (smaller (suc j)) len ∙ p in
      rw (pred_suc i, pair_is)
      (by_parts (Cs w us vs i) (Ls w us vs (x - 1) -ℤ Ls w us vs i) (sum_of w us vs -ℤ Cs w us vs (suc (x - 1))) (Cs w us vs n -ℤ Cs w us vs x)
      (later_at w us vs i j (x - 1) (omega arith) (after_below us i a hu) (after_below vs j s hv) q)
      (ap (λ z. z -ℤ Cs w us vs (suc (x - 1))) whole_is ∙ ap (λ (m : ℕ). Cs w us vs n -ℤ Cs w us vs m) (sym p)))

  at_earlier : suc j < suc i →
      chosen ≡ ((((A +ℤ Cs w us vs (suc j - 1)) +ℤ w (get_or us i 0) (get_or vs j 0)) +ℤ (Ls (λ v u. w u v) vs us (suc i - 1) -ℤ Ls (λ v u. w u v) vs us (suc j - 1))) +ℤ (Cs w us vs n -ℤ Cs w us vs (suc i)))
  at_earlier h =
      let back : ℕ → ℕ → ℤ = λ v u. w u v in
      let k : suc i ≤ length vs = omega (arith, after_below us i a hu) in
      rw (pred_suc i, pred_suc j, pair_is)
      (by_parts (Cs w us vs j) (Ls back vs us i -ℤ Ls back vs us j) (sum_of back vs us -ℤ Cs w us vs (suc i)) (Cs w us vs n -ℤ Cs w us vs (suc i))
      (sum_flip w (drop_at i us) (drop_at j vs)
      ∙ later_at back vs us j i i (omega arith) (after_below vs j s hv) (after_below us i a hu) (cond-true (leb (suc i) (length vs)) (suc i) (length vs) (le-leb (suc i) (length vs) k)))
      (ap (λ z. z -ℤ Cs w us vs (suc i)) (sym (sum_flip w us vs) ∙ whole_is)))

-- ---- at the rows of a sheet

module _ (g : Given) (ds : List ℕ) where
  abbrev rs : List Row
  rs = rows_from 0 g.needs ds

  abbrev us : List ℕ
  us = map need_of (U rs)

  us_length : length us ≡ length (free_of rs)
  us_length = length-map (U rs) need_of ∙ length_sorted row_before (free_of rs)

  module _ (enough : length (free_of rs) ≤ length (union rs)) where
    fits : length us ≤ length (V g rs)
    fits = omega (arith, us_length, length_sorted (slot_before g) (union rs))

    whole_by : bound g rs ≡ (fixed_sum g rs +ℤ C g rs (length (free_of rs)))
    whole_by = ap (λ z. fixed_sum g rs +ℤ z) (all_matched (at_slot g) us (V g rs) fits ∙ ap (C g rs) us_length)

    module _ (r : Row) (s : ℕ) (mr : In r (free_of rs)) (ms : In s (union rs)) where
      abbrev i : ℕ
      i = count (λ q. row_before q r) (free_of rs)

      abbrev j : ℕ
      j = count (λ t. slot_before g t s) (union rs)

      rest_is : matched g (without_row r.row (U rs)) (without_slot s (V g rs)) ≡ sum_of (at_slot g) (drop_at i us) (drop_at j (V g rs))
      rest_is =
          ap (λ qs. sum_of (at_slot g) (map need_of qs) (without_slot s (V g rs)))
          (without_is (λ q. q.row) r (U rs) (U_numbered g.needs ds) i ((place_is_count g ds).of_row r mr))
          ∙ ap (λ ns. sum_of (at_slot g) ns (without_slot s (V g rs))) (map_drop_at need_of i (U rs))
          ∙ ap (λ ts. sum_of (at_slot g) (drop_at i us) ts) (without_is (λ t. t) s (V g rs) (V_apart g rs) j ((place_is_count g ds).of_slot s ms))

      choice_by : BySums g rs (length (free_of rs)) (row_place rs r) (slot_place g rs s) (bound_at g rs r s)
      choice_by =
          let hu : After i r.need us = after_map need_of (U rs) i r ((place_is_count g ds).of_row r mr) in
          let hv : After j s (V g rs) = (place_is_count g ds).of_slot s ms in
          let n : ℕ = length (free_of rs) in
          let b : bound_at g rs r s ≡ chosen (at_slot g) us (V g rs) i j r.need s n hu hv us_length fits (fixed_sum g rs) =
          ap (λ z. (fixed_sum g rs +ℤ at_slot g r.need s) +ℤ z) rest_is in
          record {
            same = λ h. b ∙ at_same (at_slot g) us (V g rs) i j r.need s n hu hv us_length fits (fixed_sum g rs) h;
            later = λ h. b ∙ at_later (at_slot g) us (V g rs) i j r.need s n hu hv us_length fits (fixed_sum g rs) h;
            earlier = λ h. b ∙ at_earlier (at_slot g) us (V g rs) i j r.need s n hu hv us_length fits (fixed_sum g rs) h;
          }

pub bound_by_sums : BoundBySums
bound_by_sums g ds enough = record { whole = whole_by g ds enough; choice = choice_by g ds enough }
