use Rattle.std.proofs.Common.{◌≡◌}
use Rattle.search.specs.Trails.{Alike, saved_at, sets_at}
use Rattle.search.proofs.trail.Trail.put_back.Given as goal

abbrev pub invariant-loop-self : goal.invariant-loop-self
invariant-loop-self l = record {
  sets : sets_at l.mark l.self ≡ sets_at l.mark l.initial.self;
  saved : saved_at l.mark l.self ≡ saved_at l.mark l.initial.self;
  sheet : Alike l.initial.self.sheet l.self.sheet;
}

abbrev pub decreases-loop-self : goal.decreases-loop-self
decreases-loop-self l = l.self.saved.height
