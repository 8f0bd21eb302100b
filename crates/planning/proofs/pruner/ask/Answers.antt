use Rattle.std.proofs.Common.{ℤ, ap, ◌∙◌, to_z-of_z, w64}
use Rattle.planning.specs.Working.{given, sets_in}
use Rattle.planning.proofs.Sheets.{points_kept}
use Rattle.planning.proofs.pruner.ask.Goals as goal

pub returns-clause-points : goal.returns-clause-points
returns-clause-points g c =
    let w = c.args.work.now in
    let charges = g.T.Tariff.charges c.args.tariff.now in
    let prunes = g.P.Pruner.prunes c.args.pruner.now in
    points_kept w charges g.T.Tariff.greatest (g.met.T.Tariff.lawful c.args.tariff.now) prunes (g.met.P.Pruner.lawful c.args.pruner.now) c.args.ceiling c.prune.result
    (c.prune.ensures.meaning ∙ ap (λ (z : ℤ). prunes (given w charges) z (sets_in w)) (to_z-of_z {w = w64} c.ranges.ceiling))
