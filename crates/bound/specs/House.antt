-- The house pruners, and all piles of them. Assumes nothing.
use Rattle.planning.specs.Pruners.{Prune, Lawful, pile}
use Rattle.pruners.specs.Distinct.{distinct}
use Rattle.pruners.specs.Sum.{sum}
use Rattle.bound.specs.Bound.{bound_prune}

-- a house pruner, or a pile of two that are of the house, to any depth
pub data House : Type 0 where
  Distinct : House
  Sum : House
  Bound : House
  Pile : House → House → House

-- what it means
abbrev pub prune_by : House → Prune
prune_by Distinct = distinct
prune_by Sum = sum
prune_by Bound = bound_prune
prune_by (Pile h k) = pile (prune_by h) (prune_by k)

-- each of them is lawful
abbrev pub HouseLawful : Type 0
HouseLawful = (h : House) → Lawful (prune_by h)
