use Rattle.std.proofs.Common.{◌≡◌, ◌*◌, length, take, pos, neg_ℤ, ◌≤ℤ◌}
use Rattle.planning.specs.Plans.{sum_of, at_slot}
use Rattle.planning.specs.Working.{given as sheet_given}
use Rattle.search.proofs.totals.added_up.Given as goal

-- the charges of the cases passed so far
abbrev pub invariant-loop-need : goal.invariant-loop-need
invariant-loop-need g l = record {
  charged : l.sum ≡ sum_of (at_slot (sheet_given l.sheet (g.T.Tariff.charges l.tariff))) (take (length l.yielded) l.sheet.needs) (take (length l.yielded) l.plan);
  above : neg_ℤ (pos (1000000000000 * length l.yielded)) ≤ℤ l.sum;
  below : l.sum ≤ℤ pos (1000000000000 * length l.yielded);
}
