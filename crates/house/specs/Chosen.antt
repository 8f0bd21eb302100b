-- What a tariff or a pruner that is chosen by name means. Assumes nothing.
use Rattle.tariff.specs.Charges.{Charge, plain, block}
use Rattle.planning.specs.Pruners.{Prune}
use Rattle.bound.specs.House as house
use Rattle.house.specs.declared.named_tariffs.HouseTariff.{HouseTariff}
use Rattle.house.specs.declared.named_tariffs.HouseTariff.TheVariants.{Plain, Block}
use Rattle.house.specs.declared.named_pruners.HousePruner.{HousePruner}
use Rattle.house.specs.declared.named_pruners.HousePruner.TheVariants.{Distinct, Sum, Bound}
use Rattle.house.specs.declared.named_pruners.HousePile.{HousePile}
use Rattle.house.specs.declared.named_pruners.HousePile.TheVariants.{One, Two, Three}

abbrev pub charges_of : HouseTariff → Charge
charges_of Plain = plain
charges_of (Block b) = block b.length

abbrev pub named : HousePruner → house.House
named Distinct = house.Distinct
named Sum = house.Sum
named Bound = house.Bound

-- a pile of up to three, first to last
abbrev pub piled : HousePile → house.House
piled (One a) = named a
piled (Two a b) = house.Pile (named a) (named b)
piled (Three a b c) = house.Pile (named a) (house.Pile (named b) (named c))

abbrev pub pruner_of : HousePruner → Prune
pruner_of p = house.prune_by (named p)

abbrev pub pile_of : HousePile → Prune
pile_of p = house.prune_by (piled p)
