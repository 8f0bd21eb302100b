use Rattle.std.proofs.Common.{◌≡◌, sym, ◌∙◌, subst, w64, to_z, of_z, rules}
use Rattle.std.proofs.lemmas.Int.{to_z-of_z}
use Rattle.tariff.specs.Charges.{Within}
use Rattle.bound.proofs.Filling.{charge_small}
use Rattle.bound.proofs.running.charge_of.Goals as goal

pub returns-clause-small : goal.returns-clause-small
returns-clause-small g c =
    let charges = g.T.Tariff.charges c.args.tariff.now in
    let z = c.charge.result in
    let e : z ≡ charges c.args.need c.args.price = search rules in
    let back : to_z w64 (of_z w64 z) ≡ charges c.args.need c.args.price = to_z-of_z w64 z (search rules) ∙ e in
    subst (Within 1000000000000) (sym back) (charge_small charges g.T.Tariff.greatest (g.met.T.Tariff.lawful c.args.tariff.now) c.args.need c.args.price)
