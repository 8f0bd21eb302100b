use Rattle.search_rules.proofs.Solved.{search_right}
use Rattle.search_rules.proofs.search_is_right.Goals as goal

pub returns : goal.returns
returns c = search_right
