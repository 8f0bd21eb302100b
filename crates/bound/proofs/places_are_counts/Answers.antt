use Rattle.bound.proofs.Places.{place_is_count}
use Rattle.bound.proofs.places_are_counts.Goals as goal

pub returns : goal.returns
returns c = place_is_count
