use Rattle.std.proofs.Common.{◌≡◌, ◌*◌, ◌≤◌, length, drop, ◌+ℤ◌}
use Rattle.tariff.specs.Charges.{Within}
use Rattle.planning.specs.Working.{given as given_in}
use Rattle.bound.specs.Bound.{fixed_sum}
use Rattle.bound.specs.Tables.{rows_in}
use Rattle.bound.proofs.running.sum_of_fixed.Given as goal

-- the sum of the fixed cases seen so far
abbrev pub invariant-loop-set : goal.invariant-loop-set
invariant-loop-set g l =
    record {
      seen : length l.yielded ≤ l.work.count;
      sum : (l.sum +ℤ fixed_sum (given_in l.work (g.T.Tariff.charges l.tariff)) (drop (length l.yielded) (rows_in l.work))) ≡ fixed_sum (given_in l.work (g.T.Tariff.charges l.tariff)) (rows_in l.work);
      small : Within (length l.yielded * 1000000000000) l.sum;
    }
