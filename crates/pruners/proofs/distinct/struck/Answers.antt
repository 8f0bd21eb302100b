use Rattle.std.proofs.Common.{◌+◌, arith}
use Rattle.std.proofs.lemmas.List.{take_rest}
use Rattle.pruners.proofs.Striking.{struck_is}
use Rattle.pruners.proofs.distinct.struck.Goals as goal

pub returns : goal.returns
returns c =
    let ds = c.args.sets.now in
    struck_is ds c.args.case c.into.result (omega arith) (omega arith) (λ s.
    let rest = take_rest ds (c.args.case + 1) in
    cc (c.claims.ensures s, c.claims-2.ensures s, c.union-others.ensures s, c.difference.ensures s))
