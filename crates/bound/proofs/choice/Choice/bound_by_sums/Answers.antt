use Rattle.std.proofs.Common.{sym, ◌∙◌, arith, w64, rules}
use Rattle.std.proofs.lemmas.Int.{to_z-of_z}
use Rattle.bound.proofs.Choosing.{chosen_earlier, chosen_later, chosen_same}
use Rattle.bound.proofs.choice.Choice.bound_by_sums.Goals as goal

pub returns-then-self : goal.returns-then-self
returns-then-self c =
    let o = c.args.self.now in
    to_z-of_z w64 c.whole_bound.result (search rules) ∙ c.whole_bound.ensures ∙ sym (chosen_same o.figures.now o.case o.slot o.charge c.if-self.true)

pub returns-then-self-2 : goal.returns-then-self-2
returns-then-self-2 c =
    let o = c.args.self.now in
    to_z-of_z w64 c.bound_at_later.result (search rules) ∙ c.bound_at_later.ensures ∙ sym (chosen_later o.figures.now o.case o.slot o.charge c.if-self-2.true)

pub returns : goal.returns
returns c =
    let o = c.args.self.now in
    to_z-of_z w64 c.bound_at_earlier.result (search rules) ∙ c.bound_at_earlier.ensures ∙ sym (chosen_earlier o.figures.now o.case o.slot o.charge (omega arith))
