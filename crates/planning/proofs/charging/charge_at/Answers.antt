use Rattle.std.proofs.Common.{sym, ◌∙◌, subst, w64, rules}
use Rattle.std.proofs.lemmas.Int.{to_z-of_z}
use Rattle.tariff.specs.Charges.{Within}
use Rattle.tariff.proofs.Sums.{charge_small}
use Rattle.planning.proofs.charging.charge_at.Goals as goal

pub returns-clause-small : goal.returns-clause-small
returns-clause-small g c =
    subst (Within 1000000000000) (sym (to_z-of_z w64 c.charge.result (search rules) ∙ c.charge.ensures))
    (charge_small (g.T.Tariff.charges c.args.tariff.now) g.T.Tariff.greatest (g.met.T.Tariff.lawful c.args.tariff.now) _ _)
