use Rattle.std.proofs.Common.{take, sym, ap, ◌∙◌, ap₂, w64, SFits, to_z, of_z, rules}
use lib.Signed.{lt_z}
use Rattle.std.proofs.lemmas.Int.{to_z-of_z}
use Rattle.slot_set.specs.Sets.{some_empty}
use Rattle.planning.specs.Working.{given as given_in, sets_in}
use Rattle.bound.specs.Tables.{rows_in}
use Rattle.bound.proofs.Choosing.{whole_right}
use Rattle.bound.proofs.Strikes.{dead_few, dead_over, new_sets}
use Rattle.bound.proofs.Summing.{slots_enough, slots_few}
use Rattle.bound.proofs.pruner.bound_sets.Goals as goal

pub returns-then-too_few-clause-meaning : goal.returns-then-too_few-clause-meaning
returns-then-too_few-clause-meaning g c =
    let w = c.args.work.now in
    dead_few (given_in w (g.T.Tariff.charges c.args.tariff.now)) c.args.ceiling (sets_in w)
    (slots_few (rows_in w) c.free_slots-slots.result.word c.free_cases-n.result c.free_slots-slots.ensures c.free_cases-n.ensures c.if-too_few.ensures)

pub returns-then-ceiling-whole_bound-clause-meaning : goal.returns-then-ceiling-whole_bound-clause-meaning
returns-then-ceiling-whole_bound-clause-meaning g c =
    let w = c.args.work.now in
    let charges = g.T.Tariff.charges c.args.tariff.now in
    let enough = slots_enough (rows_in w) c.free_slots-slots.result.word c.free_cases-n.result c.free_slots-slots.ensures c.free_cases-n.ensures c.if-too_few.ensures in
    let z = c.whole_bound.result in
    let fits : SFits w64 z = search rules in
    dead_over (given_in w charges) c.args.ceiling (sets_in w) z
    (c.whole_bound.ensures ∙ whole_right w charges c.figures_of-figures.result c.figures_of-figures.ensures enough)
    (sym (ap₂ lt_z (to_z-of_z w64 c.args.ceiling c.ranges.ceiling) (to_z-of_z w64 z fits)) ∙ c.if-ceiling-whole_bound.true)

pub returns-clause-meaning : goal.returns-clause-meaning
returns-clause-meaning g c =
    let w = c.args.work.now in
    let charges = g.T.Tariff.charges c.args.tariff.now in
    let enough = slots_enough (rows_in w) c.free_slots-slots.result.word c.free_cases-n.result c.free_slots-slots.ensures c.free_cases-n.ensures c.if-too_few.ensures in
    let z = c.whole_bound.result in
    let fits : SFits w64 z = search rules in
    new_sets (given_in w charges) c.args.ceiling (sets_in w) (sym (c.if-any_empty.ensures ∙ ap some_empty c.sets.ensures)) enough z
    (c.whole_bound.ensures ∙ whole_right w charges c.figures_of-figures.result c.figures_of-figures.ensures enough)
    (sym (ap₂ lt_z (to_z-of_z w64 c.args.ceiling c.ranges.ceiling) (to_z-of_z w64 z fits)) ∙ c.if-ceiling-whole_bound.false)
    (take w.count c.struck_sets-next.result) (to_z w64 (of_z w64 c.args.ceiling))
    c.struck_sets-next.ensures.struck (to_z-of_z w64 c.args.ceiling c.ranges.ceiling)
    c.if-any_empty-2.ensures
