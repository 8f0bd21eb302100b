use Rattle.tariff.proofs.Counterexample.{rounded_is_unlawful}
use Rattle.tariff.proofs.rounding.rounding_is_unlawful.Goals as goal

pub returns-clause-unlawful : goal.returns-clause-unlawful
returns-clause-unlawful c = rounded_is_unlawful
