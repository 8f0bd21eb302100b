use Rattle.std.proofs.Common.{◌≡◌, length, take, drop}
use Rattle.planning.specs.Working.{given as given_in}
use Rattle.bound.specs.Bound.{bound_new}
use Rattle.bound.specs.Tables.{rows_in}
use Rattle.bound.proofs.strike.Strike.struck_sets.Given as goal

-- the places passed hold the new sets, and the others what they held
abbrev pub invariant-loop-case : goal.invariant-loop-case
invariant-loop-case g l =
    (length l.next ≡ 16)
    × (take l.case l.next ≡ take l.case (bound_new (given_in l.self.work.now (g.T.Tariff.charges l.self.tariff.now)) l.self.ceiling (rows_in l.self.work.now)))
    × (drop l.case l.next ≡ drop l.case l.self.work.now.sets)
