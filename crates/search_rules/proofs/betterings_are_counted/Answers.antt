use Rattle.search_rules.proofs.Solved.{betterings_counted}
use Rattle.search_rules.proofs.betterings_are_counted.Goals as goal

pub returns : goal.returns
returns c = betterings_counted
