use Rattle.std.proofs.Common.{◌≡◌, ◌*◌, take}
use Rattle.tariff.specs.Charges.{Within}
use Rattle.tariff.specs.Sums.{sum_all}
use Rattle.pruners.proofs.sum.total_of.Given as goal

-- the sum of the charges added so far
abbrev pub invariant-loop-charge : goal.invariant-loop-charge
invariant-loop-charge l = record {
  added : l.sum ≡ sum_all (take l.charge-index l.charges);
  small : Within (l.charge-index * 1000000000000) l.sum;
}
