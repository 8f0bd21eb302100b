use Rattle.std.proofs.Common.{◌≡◌, length, take, None, Some, sym, ap, ◌∙◌}
use Rattle.std.proofs.lemmas.Bool.{both_ways}
use Rattle.sheet.specs.Contents.{contents}
use Rattle.planning.specs.Working.{given as sheet_given, sets_in}
use Rattle.search.specs.Outcomes.{enough}
use Rattle.search_rules.specs.Search.{searched}
use Rattle.solve.specs.Solved.{checked, listed, opening, request}
use Rattle.solve.proofs.Answering.{passed_plan, passed_said, refused_plan, refused_said, says_finished, untouched_passed}
use Rattle.solve.proofs.Checks.{enough_there, passed, passed_by, passed_on, refused_by}
use Rattle.solve.proofs.Sheets.{Made, made_opening, made_solves}
use Rattle.solve.proofs.solve.Goals as goal

pub returns-in_err-check_opening-clause-solves : goal.returns-in_err-check_opening-clause-solves
returns-in_err-check_opening-clause-solves g c =
    let w = c.new-work.result in
    let s = contents c.args.sheet.now in
    let made = c.new-work.ensures in
    let m : Made w s = record { rows = made.rows; needs = made.needs; sets = made.sets; prices = made.prices } in
    let charges = g.T.Tariff.charges c.args.tariff.now in
    let prunes = g.P.Pruner.prunes c.args.pruner.now in
    let q = request charges prunes c.args.ceiling.now.value c.args.limit (length c.args.lists.now.plan.now) (length c.args.lists.now.saved.now) (length c.args.lists.now.decisions.now) in
    let e = c.in_err-check_opening.field-0.0 in
    let hit : checked w.count q ≡ Some e = refused_by (checked w.count q) e (c.in_err-check_opening.ensures charges prunes) in
    made_solves w s m q g.T.Tariff.greatest (g.met.T.Tariff.lawful c.args.tariff.now) (g.met.P.Pruner.lawful c.args.pruner.now) c.args.lists.now.plan.now c.args.lists.now.plan.now c.from_residual.result
    (passed_on c.from_residual.result e c.from_residual.ensures.1 ∙ refused_said (sheet_given w charges) (take w.count w.rows) (sets_in w) w.count q c.args.lists.now.plan.now e hit)
    (refused_plan (sheet_given w charges) (take w.count w.rows) (sets_in w) w.count q c.args.lists.now.plan.now e hit)

pub unreachable-requires : goal.unreachable-requires
unreachable-requires g c =
    let w = c.new-work.result in
    let charges = g.T.Tariff.charges c.args.tariff.now in
    let prunes = g.P.Pruner.prunes c.args.pruner.now in
    let q = request charges prunes c.args.ceiling.now.value c.args.limit (length c.args.lists.now.plan.now) (length c.args.lists.now.saved.now) (length c.args.lists.now.decisions.now) in
    let p = passed w.count q (passed_by (checked w.count q) (c.in_ok-check_opening.ensures charges prunes)) in
    both_ways (enough c.args.lists.now.saved.now c.args.lists.now.decisions.now) c.in_default.ensures.answer (enough_there c.args.lists.now.saved.now c.args.lists.now.decisions.now p.saved p.decisions)

pub finish-requires : goal.finish-requires
finish-requires g c =
    let w = c.new-work.result in
    let charges = g.T.Tariff.charges c.args.tariff.now in
    let prunes = g.P.Pruner.prunes c.args.pruner.now in
    let q = request charges prunes c.args.ceiling.now.value c.args.limit (length c.args.lists.now.plan.now) (length c.args.lists.now.saved.now) (length c.args.lists.now.decisions.now) in
    (passed w.count q (passed_by (checked w.count q) (c.in_ok-check_opening.ensures charges prunes))).lines

pub returns-clause-solves : goal.returns-clause-solves
returns-clause-solves g c =
    let w = c.new-work.result in
    let s = contents c.args.sheet.now in
    let made = c.new-work.ensures in
    let m : Made w s = record { rows = made.rows; needs = made.needs; sets = made.sets; prices = made.prices } in
    let charges = g.T.Tariff.charges c.args.tariff.now in
    let prunes = g.P.Pruner.prunes c.args.pruner.now in
    let task = sheet_given w charges in
    let rows = take w.count w.rows in
    let q = request charges prunes c.args.ceiling.now.value c.args.limit (length c.args.lists.now.plan.now) (length c.args.lists.now.saved.now) (length c.args.lists.now.decisions.now) in
    let open' : checked w.count q ≡ None = passed_by (checked w.count q) (c.in_ok-check_opening.ensures charges prunes) in
    let t = searched task prunes c.args.limit c.args.ceiling.now.value (sets_in w) in
    let says = c.in-Some.ensures.answer.1 in
    made_solves w s m q g.T.Tariff.greatest (g.met.T.Tariff.lawful c.args.tariff.now) (g.met.P.Pruner.lawful c.args.pruner.now) c.args.lists.now.plan.now c.finish.new.plan c.finish.result
    (c.finish.ensures.answer ∙ says_finished task w.count c.in-Some.outcome t says ∙ passed_said task rows (sets_in w) w.count q c.args.lists.now.plan.now open')
    (c.finish.ensures.lines ∙ ap (λ b. listed task rows w.count b c.args.lists.now.plan.now) says.best ∙ passed_plan task rows (sets_in w) w.count q c.args.lists.now.plan.now open')

pub returns-clause-lists : goal.returns-clause-lists
returns-clause-lists g c =
    let w = c.new-work.result in
    let s = contents c.args.sheet.now in
    let made = c.new-work.ensures in
    let m : Made w s = record { rows = made.rows; needs = made.needs; sets = made.sets; prices = made.prices } in
    let charges = g.T.Tariff.charges c.args.tariff.now in
    let prunes = g.P.Pruner.prunes c.args.pruner.now in
    let q = request charges prunes c.args.ceiling.now.value c.args.limit (length c.args.lists.now.plan.now) (length c.args.lists.now.saved.now) (length c.args.lists.now.decisions.now) in
    let open' : checked w.count q ≡ None = passed_by (checked w.count q) (c.in_ok-check_opening.ensures charges prunes) in
    let none : opening s q ≡ None = sym (made_opening w s m q) ∙ open' in
    record { saved_kept = untouched_passed (opening s q) c.args.lists.now.saved.now _ none; decisions_kept = untouched_passed (opening s q) c.args.lists.now.decisions.now c.explore.new.decisions none }
