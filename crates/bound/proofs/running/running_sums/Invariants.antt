use Rattle.std.proofs.Common.{◌≡◌, ℕ, ◌<◌, ◌≤◌, length, get_or, pos}
use Rattle.bound.specs.Tables.{beside, sum_below}
use Rattle.bound.proofs.running.running_sums.Given as goal

-- the sums so far are in place, and 0 beyond
abbrev pub invariant-loop-j : goal.invariant-loop-j
invariant-loop-j g l =
    (length l.sums ≡ 17)
    × ((k : ℕ) → k ≤ length l.yielded → get_or l.sums k (pos 0) ≡ sum_below (beside (g.T.Tariff.charges l.tariff) l.needs l.prices 0 0) k)
    × ((k : ℕ) → length l.yielded < k → get_or l.sums k (pos 0) ≡ pos 0)
