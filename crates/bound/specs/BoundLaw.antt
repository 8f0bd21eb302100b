-- Bound is lawful. Assumes nothing.
use Rattle.std.specs.Prelude.{◌≡◌, ℕ, Bool, true, false, ◌||◌, List, length, ℤ, ◌≤ℤ◌, int_le, int_lt, nat_lt, slice_index}
use Rattle.std.proofs.Common.{subst, sym}
use Rattle.std.proofs.lemmas.Bool.{le-ltb, or_from}
use Rattle.slot_set.specs.Sets.{single, some_empty}
use Rattle.planning.specs.Plans.{Drawn, Given, total}
use Rattle.planning.specs.Pruners.{Lawful, Parts, Points, Proper}
use Rattle.bound.specs.Bound.{Row, U, V, bound, bound_at, bound_prune, bound_strike, rows_from}
use Rattle.tariff.specs.Orders.{int_le_true, int_lt_false, ≤ℤ_trans}
use Rattle.planning.proofs.Lists.{all_from_in}
use Rattle.planning.proofs.Slots.{drawn_full}
use Rattle.planning.specs.Verdicts.{none_not, some_is}
use Rattle.planning.specs.Parts.{lawful_from}
use Rattle.bound.specs.Rows.{follows, strike_drawn, strike_parts}
use Rattle.bound.specs.Bounds.{bound_at_under, bound_under}

module _ (g : Given) (c : ℤ) (ds : List ℕ) (ok : Proper g ds) where
  abbrev rs : List Row
  rs = rows_from 0 g.needs ds

  abbrev keeps_at : Row → ℕ → Bool
  keeps_at r s = int_le (bound_at g rs r s) c

  abbrev struck : List ℕ
  struck = bound_strike keeps_at rs

  abbrev dead_at_once : Bool
  dead_at_once = some_empty ds || nat_lt (length (V g rs)) (length (U rs)) || int_lt c (bound g rs)

  module _ (p : List ℕ) (h : Drawn ds p) (t : total g p ≤ℤ c) where
    stays : Drawn struck p
    stays = strike_drawn g (λ i. slice_index p i) keeps_at 0 g.needs ds p (follows p) ok.sets h
        (all_from_in (λ r. single r.slots ≡ false → keeps_at r (slice_index p r.row) ≡ true) rs
        (λ r m n. int_le_true (bound_at g rs r (slice_index p r.row)) c (≤ℤ_trans (bound_at_under g ds p ok h r m n) t)))

    lives : dead_at_once ≡ false
    lives = or_from (some_empty ds || nat_lt (length (V g rs)) (length (U rs))) (int_lt c (bound g rs))
        (or_from (some_empty ds) (nat_lt (length (V g rs)) (length (U rs))) (drawn_full ds p h) (le-ltb (length (V g rs)) (length (U rs)) (bound_under g ds p ok h).0))
        (int_lt_false c (bound g rs) (≤ℤ_trans (bound_under g ds p ok h).1 t))

  bound_points : Points bound_prune g c ds
  bound_points = record {
    part = λ es e. subst (λ fs. Parts fs ds) (sym (some_is dead_at_once (some_empty struck) es struck e)) (strike_parts keeps_at 0 g.needs ds ok.sets);
    keeps = λ es e p h t. subst (λ fs. Drawn fs p) (sym (some_is dead_at_once (some_empty struck) es struck e)) (stays p h t);
    dead = λ e p h t. none_not dead_at_once (some_empty struck) struck e (lives p h t) (drawn_full struck p (stays p h t));
  }

pub bound_lawful : Lawful bound_prune
bound_lawful = lawful_from bound_prune bound_points
