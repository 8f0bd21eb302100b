use Rattle.bound.proofs.House.{house_lawful}
use Rattle.bound.proofs.house_pruners_are_lawful.Goals as goal

pub returns : goal.returns
returns c = house_lawful
