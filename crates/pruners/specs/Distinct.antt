-- The pruner Distinct: a slot that is the only one of a case is no other case's. Assumes nothing.
use Rattle.std.specs.Prelude.{ℕ, Bool, false, cond, not, ◌&&◌, ◌||◌, List, [], ◌∷◌, Some, None}
use Rattle.slot_set.specs.Sets.{has, keep, single, some_empty}
use Rattle.planning.specs.Pruners.{Prune}

-- s is the only member of one of the sets
abbrev pub claimed : ℕ → List ℕ → Bool
claimed s [] = false
claimed s (d ∷ ds) = (single d && has d s) || claimed s ds

-- each set without the slots that are the only member of another; before are the sets already passed
abbrev pub unclaimed : List ℕ → List ℕ → List ℕ
unclaimed before [] = []
unclaimed before (d ∷ ds) = keep (λ s. not (claimed s before || claimed s ds)) d ∷ unclaimed (d ∷ before) ds

-- dead if a set is then empty
abbrev pub distinct : Prune
distinct g c ds = cond (some_empty (unclaimed [] ds)) None (Some (unclaimed [] ds))
