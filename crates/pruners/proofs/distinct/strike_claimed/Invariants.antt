use Rattle.std.proofs.Common.{◌≡◌, [], take}
use Rattle.pruners.specs.Distinct.{unclaimed}
use Rattle.pruners.proofs.distinct.strike_claimed.Given as goal

-- the places passed hold the new sets
abbrev pub invariant-loop-case : goal.invariant-loop-case
invariant-loop-case l = take l.case l.next ≡ take l.case (unclaimed [] l.sets)
