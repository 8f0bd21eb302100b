use Rattle.std.proofs.Common.{◌≡◌, ℕ, get_or, take, ℤ, sym, ap, ◌∙◌, arith, w64, SFits, to_z, of_z, rules}
use Rattle.std.proofs.lemmas.Int.{to_z-of_z}
use Rattle.std.proofs.lemmas.List.{get_or-take}
use Rattle.planning.specs.Plans.{at_slot}
use Rattle.planning.specs.Working.{given as sheet_given}
use Rattle.solve.specs.declared.line.Line.{Line}
use Rattle.solve.specs.Lines.{line_at}
use Rattle.solve.proofs.Written.{line_more}
use Rattle.solve.proofs.writing.write_lines.Goals as goal

pub loop-case-preserved : goal.loop-case-preserved
loop-case-preserved g c =
    let w = c.args.work.now in
    let task = sheet_given w (g.T.Tariff.charges c.args.tariff.now) in
    let k = c.loop-case.case in
    let slot = get_or c.args.slots.now k 0 in
    let r : SFits w64 c.charge_at.result = search rules in
    let charge : to_z w64 (of_z w64 c.charge_at.result) ≡ at_slot task (get_or task.needs k 0) slot =
    to_z-of_z w64 c.charge_at.result r ∙ c.charge_at.ensures.charge ∙ ap (λ (a : ℕ). at_slot task a slot) (sym (get_or-take w.count w.needs k 0 (omega arith))) in
    let line : ◌≡◌ {A = Line} (record { row = get_or w.rows k 0; slot = slot; charge = to_z w64 (of_z w64 c.charge_at.result) }) (line_at task (take w.count w.rows) c.args.slots.now k) =
    ap (λ (x : ℕ). record { row = x; slot = slot; charge = to_z w64 (of_z w64 c.charge_at.result) }) (sym (get_or-take w.count w.rows k 0 (omega arith)))
    ∙ ap (λ (z : ℤ). record { row = get_or (take w.count w.rows) k 0; slot = slot; charge = z }) charge in
    line_more task (take w.count w.rows) c.args.slots.now k c.args.plan.now c.loop-case.plan _ (omega arith) c.loop-case.invariant line
