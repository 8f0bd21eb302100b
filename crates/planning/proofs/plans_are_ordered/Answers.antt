use Rattle.planning.proofs.PlanOrder.{plans_are_ordered}
use Rattle.planning.proofs.plans_are_ordered.Goals as goal

pub returns : goal.returns
returns c = plans_are_ordered
