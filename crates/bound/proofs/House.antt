-- Every house pruner is lawful. Assumes nothing.
use Rattle.planning.specs.Piles.{piles_lawful}
use Rattle.bound.specs.House.{Distinct, Sum, Bound, Pile, HouseLawful, prune_by}
use Rattle.bound.specs.BoundLaw.{bound_lawful}
use Rattle.pruners.specs.DistinctLaw.{distinct_lawful}
use Rattle.pruners.specs.SumLaw.{sum_lawful}

pub house_lawful : HouseLawful
house_lawful Distinct = distinct_lawful
house_lawful Sum = sum_lawful
house_lawful Bound = bound_lawful
house_lawful (Pile h k) = piles_lawful (prune_by h) (prune_by k) (house_lawful h) (house_lawful k)
