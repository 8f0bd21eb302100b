use Rattle.planning.proofs.PartPlans.{part_plans_are_listed}
use Rattle.planning.proofs.part_plans_are_listed.Goals as goal

pub returns : goal.returns
returns c = part_plans_are_listed
