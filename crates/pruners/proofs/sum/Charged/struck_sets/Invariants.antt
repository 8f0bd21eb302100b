use Rattle.std.proofs.Common.{◌≡◌, take}
use Rattle.planning.specs.Working.{given as given_in, sets_in}
use Rattle.pruners.specs.Sum.{sum_strike}
use Rattle.pruners.proofs.sum.Charged.struck_sets.Given as goal

-- the places passed hold the new sets
abbrev pub invariant-loop-case : goal.invariant-loop-case
invariant-loop-case g l =
    let w = l.self.work.now in
    take l.case l.set-items ≡ take l.case (sum_strike (given_in w (g.T.Tariff.charges l.self.tariff.now)) l.ceiling l.total (take w.count w.needs) (sets_in w))
