use Rattle.planning.specs.Piles.{piles_lawful}
use Rattle.planning.proofs.piles_are_lawful.Goals as goal

pub returns : goal.returns
returns c = piles_lawful
