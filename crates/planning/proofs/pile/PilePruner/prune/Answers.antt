use Rattle.std.proofs.Common.{w64, to_z, of_z}
use Rattle.planning.proofs.Sheets.{points_kept, open_parts}
use Rattle.planning.proofs.pile.PilePruner.prune.Goals as goal

-- the first pruner's new sets are parts of the old
pub with_sets-inner-requires : goal.with_sets-inner-requires
with_sets-inner-requires g c =
    let w = c.args.work.now in
    let points = points_kept w (g.T.Tariff.charges c.args.tariff.now) g.T.Tariff.greatest (g.met.T.Tariff.lawful c.args.tariff.now)
    (g.P.Pruner.prunes c.args.self.now.first) (g.met.P.Pruner.lawful c.args.self.now.first) (to_z w64 (of_z w64 c.args.ceiling)) c.prune.result c.prune.ensures.meaning in
    open_parts w.opened w.count c.in_ok-next.next w.sets w.usable (points.part c.in_ok-next.next c.in_ok-next.was) c.in_ok-next.ensures.rest
