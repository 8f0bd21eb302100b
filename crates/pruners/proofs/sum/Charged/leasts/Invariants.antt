use Rattle.std.proofs.Common.{◌≡◌, ℕ, ◌<◌, get_or, pos}
use Rattle.planning.specs.Working.{given as given_in}
use Rattle.pruners.specs.Sum.{least_in}
use Rattle.pruners.proofs.sum.Charged.leasts.Given as goal

-- the places passed hold the least charges of their cases
abbrev pub invariant-loop-case : goal.invariant-loop-case
invariant-loop-case g l = (k : ℕ) → k < l.case → get_or l.least-items k (pos 0) ≡ least_in (given_in l.self.work.now (g.T.Tariff.charges l.self.tariff.now)) (get_or l.self.work.now.needs k 0) (get_or l.self.work.now.sets k 0)
