use Rattle.std.proofs.Common.{◌≡◌, ℕ, take}
use Rattle.slot_set.specs.Sets.{has}
use Rattle.pruners.specs.Distinct.{claimed}
use Rattle.pruners.proofs.distinct.claims.Given as goal

-- the slots that the sets looked at so far claim
abbrev pub invariant-loop-set : goal.invariant-loop-set
invariant-loop-set l = (s : ℕ) → has l.claimed.word s ≡ claimed s (take l.set-index l.sets)
