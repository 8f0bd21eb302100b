use Rattle.std.proofs.Common.{◌<◌, pos, sym, subst, arith}
use Rattle.std.proofs.lemmas.List.{get_or-take, length-take}
use Rattle.tariff.specs.Charges.{Within}
use Rattle.pruners.proofs.Totals.{each_small}
use Rattle.pruners.proofs.sum.Charged.sum_sets.Goals as goal

pub total_of-total-requires-clause-small : goal.total_of-total-requires-clause-small
total_of-total-requires-clause-small g c i l =
    let w = c.args.self.now.work.now in
    let ms = c.leasts-leasts.result in
    let inside : i < w.count = omega (arith, length-take w.count ms) in
    subst (Within 1000000000000) (sym (get_or-take w.count ms i (pos 0) inside))
    (each_small w (g.T.Tariff.charges c.args.self.now.tariff.now) g.T.Tariff.greatest (g.met.T.Tariff.lawful c.args.self.now.tariff.now) ms c.leasts-leasts.ensures.least i inside)
