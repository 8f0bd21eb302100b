use Rattle.std.proofs.Common.{◌≡◌, ℕ, take}
use Rattle.slot_set.specs.Sets.{has}
use Rattle.bound.specs.Bound.{free_of, in_some}
use Rattle.bound.specs.Tables.{rows_in}
use Rattle.bound.proofs.free.free_slots.Given as goal

-- the slots of the free cases looked at so far
abbrev pub invariant-loop-set : goal.invariant-loop-set
invariant-loop-set l = (s : ℕ) → has l.slots.word s ≡ in_some (free_of (take l.set-index (rows_in l.work))) s
