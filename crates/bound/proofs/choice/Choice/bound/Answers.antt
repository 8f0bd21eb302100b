use Rattle.std.proofs.Common.{◌≡◌, ◌∙◌, to_z-of_z, w64, to_z, of_z}
use Rattle.bound.specs.Figures.{chosen}
use Rattle.bound.proofs.Choosing.{matches}
use Rattle.bound.proofs.choice.Choice.bound.Goals as goal

pub returns-clause-matching : goal.returns-clause-matching
returns-clause-matching c =
    let o = c.args.self.now in
    let b = to_z w64 (of_z w64 c.bound_by_sums.result) in
    let formula : b ≡ chosen o.figures.now o.case o.slot o.charge = to_z-of_z {w = w64} (record { sfits = c.bound_by_sums.type_inv }) ∙ c.bound_by_sums.ensures in
    matches o.figures.now o.case o.slot o.charge b formula
