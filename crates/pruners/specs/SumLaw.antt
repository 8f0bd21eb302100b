-- Sum is lawful. Assumes nothing.
use Rattle.std.specs.Prelude.{◌≡◌, ℕ, ◌<◌, true, List, [], ◌∷◌, length, ℤ, pos, ◌+ℤ◌, ◌-ℤ◌, ◌≤ℤ◌, int_le, int_lt}
use Rattle.std.proofs.Common.{inl, inr, subst, sym, arith}
use Rattle.std.specs.Int.Signed.{≤ℤ_refl}
use Rattle.std.proofs.lemmas.Int.{ints}
use Rattle.std.proofs.lemmas.Bool.{cond_both}
use Rattle.planning.specs.Lists.{In}
use Rattle.slot_set.specs.Sets.{has, members, some_empty}
use Rattle.planning.specs.Plans.{Drawn, Given, at_slot, sum_of}
use Rattle.planning.specs.Pruners.{Lawful, Parts, Points, Proper}
use Rattle.pruners.specs.Sum.{least, least_in, leasts, sum, sum_strike}
use Rattle.tariff.specs.Orders.{int_le_true, int_lt_false, ≤ℤ_trans}
use Rattle.slot_set.proofs.Keeps.{keep_has, keep_part}
use Rattle.planning.proofs.Slots.{drawn_full, in_slots}
use Rattle.planning.specs.Verdicts.{none_not, some_is}
use Rattle.planning.specs.Parts.{lawful_from}

least_le : (w : ℕ → ℤ) (xs : List ℕ) (s : ℕ) → In s xs → least w xs ≤ℤ w s
least_le w [] s m = absurd m
least_le w (x ∷ []) s (inl e) = subst (λ (y : ℕ). w x ≤ℤ w y) (sym e) (≤ℤ_refl (w x))
least_le w (x ∷ []) s (inr m) = absurd m
least_le w (x ∷ (y ∷ ys)) s (inl e) = subst (λ (z : ℕ). least w (x ∷ (y ∷ ys)) ≤ℤ w z) (sym e)
    (cond_both (int_le (w x) (least w (y ∷ ys))) (w x) (least w (y ∷ ys)) (λ z. z ≤ℤ w x) (λ _. ≤ℤ_refl (w x)) (λ k. grind (arith, ints)))
least_le w (x ∷ (y ∷ ys)) s (inr m) =
    let h = least_le w (y ∷ ys) s m in
    cond_both (int_le (w x) (least w (y ∷ ys))) (w x) (least w (y ∷ ys)) (λ z. z ≤ℤ w s) (λ k. grind (arith, ints)) (λ k. h)

module _ (g : Given) where
  member_least : (a d s : ℕ) → s < 64 → has d s ≡ true → least_in g a d ≤ℤ at_slot g a s
  member_least a d s l t = least_le (at_slot g a) (members d) s (in_slots (has d) s l t)

  leasts_le : (ns ds p : List ℕ) → Drawn ds p → leasts g ns ds ≤ℤ sum_of (at_slot g) ns p
  leasts_le [] ds p h = ≤ℤ_refl (pos 0)
  leasts_le (a ∷ ns) [] [] h = ≤ℤ_refl (pos 0)
  leasts_le (a ∷ ns) [] (s ∷ p) h = absurd h
  leasts_le (a ∷ ns) (d ∷ ds) [] h = absurd h
  leasts_le (a ∷ ns) (d ∷ ds) (s ∷ p) h = omega (arith, ints, member_least a d s h.0 h.1, leasts_le ns ds p h.3)

  strike_parts : (c m : ℤ) (ns ds : List ℕ) → length ds ≡ length ns → Parts (sum_strike g c m ns ds) ds
  strike_parts c m [] [] e = tt
  strike_parts c m [] (d ∷ ds) e = absurd (omega arith)
  strike_parts c m (a ∷ ns) [] e = tt
  strike_parts c m (a ∷ ns) (d ∷ ds) e =
      ((λ s t. keep_part (λ s. int_le ((m -ℤ least_in g a d) +ℤ at_slot g a s) c) d s t), strike_parts c m ns ds (omega arith))

  strike_drawn : (c m : ℤ) (ns ds p : List ℕ) → length ds ≡ length ns → Drawn ds p → ((m -ℤ leasts g ns ds) +ℤ sum_of (at_slot g) ns p) ≤ℤ c → Drawn (sum_strike g c m ns ds) p
  strike_drawn c m [] [] p e h k = h
  strike_drawn c m [] (d ∷ ds) p e h k = absurd (omega arith)
  strike_drawn c m (a ∷ ns) [] p e h k = absurd (omega arith)
  strike_drawn c m (a ∷ ns) (d ∷ ds) [] e h k = h
  strike_drawn c m (a ∷ ns) (d ∷ ds) (s ∷ p) e h k =
      let x = member_least a d s h.0 h.1 in
      let y = leasts_le ns ds p h.3 in (
        h.0,
        keep_has (λ s. int_le ((m -ℤ least_in g a d) +ℤ at_slot g a s) c) d s h.0 h.1
            (int_le_true ((m -ℤ least_in g a d) +ℤ at_slot g a s) c (omega (arith, ints, x, y, k))),
        h.2,
        strike_drawn c m ns ds p (omega arith) h.3 (omega (arith, ints, x, y, k)),
      )

sum_points : (g : Given) (c : ℤ) (ds : List ℕ) → Proper g ds → Points sum g c ds
sum_points g c ds ok =
    let m : ℤ = leasts g g.needs ds in
    let fs : List ℕ = sum_strike g c m g.needs ds in
    record {
      part = λ es e. subst (λ (xs : List ℕ). Parts xs ds) (sym (some_is (some_empty ds) (int_lt c m) es fs e)) (strike_parts g c m g.needs ds ok.sets);
      keeps = λ es e p h t. subst (λ (xs : List ℕ). Drawn xs p) (sym (some_is (some_empty ds) (int_lt c m) es fs e))
          (strike_drawn g c m g.needs ds p ok.sets h (omega (arith, ints, t)));
      dead = λ e p h t. none_not (some_empty ds) (int_lt c m) fs e (drawn_full ds p h) (int_lt_false c m (≤ℤ_trans (leasts_le g g.needs ds p h) t));
    }

pub sum_lawful : Lawful sum
sum_lawful = lawful_from sum sum_points
