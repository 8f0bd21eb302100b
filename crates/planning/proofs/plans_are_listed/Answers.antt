use Rattle.planning.proofs.Listing.{plans_listed}
use Rattle.planning.proofs.plans_are_listed.Goals as goal

pub returns : goal.returns
returns c = plans_listed
