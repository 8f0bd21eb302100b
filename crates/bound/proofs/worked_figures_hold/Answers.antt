use Rattle.std.proofs.Common.{refl}
use Rattle.slot_set.specs.Sets.{every_slot}
use Rattle.bound.proofs.worked_figures_hold.Goals as goal

pub returns : goal.returns
unfolding every_slot
returns c = record {
  fixed = refl;
  matching = refl;
  whole = refl;
  under = refl;
  other = refl;
  struck = refl;
  alive = refl;
  kept = refl;
  dead = refl;
  not_dead = refl;
  small = refl;
  small_under = refl;
}
