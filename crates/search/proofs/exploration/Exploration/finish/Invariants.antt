use Rattle.std.proofs.Common.{◌≡◌, false}
use Rattle.search.specs.Counts.{SameGuard, ceiling_of}
use Rattle.search.specs.Runs.{Kept, outcome_from, remaining, visited_from}
use Rattle.search.proofs.exploration.Exploration.finish.Given as goal

abbrev pub invariant-loop-self : goal.invariant-loop-self
invariant-loop-self g l = record {
  reached : outcome_from (g.T.Tariff.charges l.tariff) (g.P.Pruner.prunes l.pruner) false (ceiling_of l.guard) l.self ≡ visited_from (g.T.Tariff.charges l.tariff) (g.P.Pruner.prunes l.pruner) 0 (ceiling_of l.fn.guard) l.fn.self;
  kept : Kept l.fn.self l.self;
  guard : SameGuard l.fn.guard l.guard;
}

abbrev pub decreases-loop-self : goal.decreases-loop-self
decreases-loop-self g l = remaining l.self
