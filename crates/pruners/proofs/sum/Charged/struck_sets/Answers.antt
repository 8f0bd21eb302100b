use Rattle.std.proofs.Common.{◌≡◌, ◌<◌, length, take, drop, ◌∙◌, ap₂, arith, w64, to_z, of_z}
use Rattle.std.proofs.lemmas.Int.{ints, to_z-of_z}
use Rattle.std.proofs.lemmas.List.{length-take, take_at}
use Rattle.planning.specs.Working.{given as given_in, sets_in}
use Rattle.pruners.specs.Sum.{sum_strike}
use Rattle.pruners.proofs.Affording.{struck_more, struck_all}
use Rattle.pruners.proofs.Totals.{each_small}
use Rattle.pruners.proofs.sum.Charged.struck_sets.Goals as goal

pub overflow_sub-limit : goal.overflow_sub-limit
overflow_sub-limit g c =
    let t = c.args.self.now.tariff.now in
    let w = c.args.self.now.work.now in
    let m = each_small w (g.T.Tariff.charges t) g.T.Tariff.greatest (g.met.T.Tariff.lawful t) c.args.leasts.now c.requires.least c.loop-case.case (omega (arith, length-take w.count w.sets)) in
    omega (arith, ints)

pub invariant_of-limit : goal.invariant_of-limit
invariant_of-limit g c =
    let t = c.args.self.now.tariff.now in
    let w = c.args.self.now.work.now in
    let m = each_small w (g.T.Tariff.charges t) g.T.Tariff.greatest (g.met.T.Tariff.lawful t) c.args.leasts.now c.requires.least c.loop-case.case (omega (arith, length-take w.count w.sets)) in
    record { small = record { low = omega (arith, ints); high = omega (arith, ints) } }

pub loop-case-preserved : goal.loop-case-preserved
loop-case-preserved g c =
    let t = c.args.self.now.tariff.now in
    let w = c.args.self.now.work.now in
    let i = c.loop-case.case in
    let inside : i < w.count = omega (arith, length-take w.count w.sets) in
    let m = each_small w (g.T.Tariff.charges t) g.T.Tariff.greatest (g.met.T.Tariff.lawful t) c.args.leasts.now c.requires.least i inside in
    let e = c.requires.least i inside in
    struck_more w (g.T.Tariff.charges t) (to_z w64 (of_z w64 c.args.ceiling)) (to_z w64 (of_z w64 c.args.total)) _ i c.into.result c.loop-case.set-items inside (omega arith) c.loop-case.invariant (c.into.ensures ∙ c.affordable.ensures) (omega (arith, ints))

pub returns-clause-struck : goal.returns-clause-struck
returns-clause-struck g c =
    let w = c.args.self.now.work.now in
    let charges = g.T.Tariff.charges c.args.self.now.tariff.now in
    let next = c.loop-case.set-items in
    let long : length next ≡ w.count = omega (arith, length-take w.count w.sets) in
    take_at next (drop w.count w.sets) w.count long
    ∙ struck_all w charges (to_z w64 (of_z w64 c.args.ceiling)) (to_z w64 (of_z w64 c.args.total)) c.loop-case.case next long (omega arith) c.loop-case.invariant
    ∙ ap₂ (λ k m. sum_strike (given_in w charges) k m (take w.count w.needs) (sets_in w)) (to_z-of_z w64 c.args.ceiling c.ranges.ceiling) (to_z-of_z w64 c.args.total c.ranges.total)
