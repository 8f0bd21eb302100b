use Rattle.bound.proofs.BySums.{bound_by_sums}
use Rattle.bound.proofs.bound_by_sums.Goals as goal

pub returns : goal.returns
returns c = bound_by_sums
