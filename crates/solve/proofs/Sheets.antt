-- A working sheet made from a sheet is given what the sheet is. Assumes nothing.
use Rattle.std.proofs.Common.{◌≡◌, ℕ, List, length, take, ℤ, Result, sym, ap, ◌∙◌, ap₂, subst, arith}
use Rattle.std.proofs.lemmas.List.{length-map, length-take-le}
use Rattle.refusal.specs.declared.Refusal.{Refusal}
use Rattle.tariff.specs.Charges.{Charge, LawfulTariff}
use Rattle.sheet.specs.Contents.{Contents}
use Rattle.planning.specs.declared.working_sheet.WorkingSheet.{WorkingSheet}
use Rattle.planning.specs.Plans.{Given}
use Rattle.planning.specs.Pruners.{Lawful, Proper}
use Rattle.planning.specs.Standing.{Standing, needs_of, prices_of, rows_of, standing, usable_set, usable_sets}
use Rattle.planning.specs.Working.{given, sets_in}
use Rattle.planning.proofs.Sheets.{proper_sheet}
use Rattle.solve.specs.declared.answer.Answer.{Answer}
use Rattle.solve.specs.declared.line.Line.{Line}
use Rattle.solve.specs.Right.{Solves}
use Rattle.solve.specs.Solved.{Request, cases_of, checked, given_of, opening, plan_after, plan_by, solved, solved_by}
use Rattle.solve.proofs.Answering.{solve_right}

module _ (w : WorkingSheet) (s : Contents) where
  pub given_is : (charge : Charge) → take w.count w.needs ≡ needs_of s → w.prices ≡ prices_of s → given w charge ≡ given_of s charge
  given_is charge a b = ap₂ (λ (ns : List ℕ) (ps : List ℤ). record { needs = ns; prices = ps; charge = charge }) a b

  pub count_is : sets_in w ≡ usable_sets s → w.count ≡ cases_of s
  count_is e =
      sym (length-take-le w.count w.sets (omega arith))
      ∙ ap length e
      ∙ length-map (standing s) (usable_set s)
      ∙ sym (length-map (standing s) (λ (c : Standing). c.row))

-- what a solve comes to on the working sheet of a sheet is what it comes to on the sheet
pub record Made (w : WorkingSheet) (s : Contents) : Type 0 where
  pub rows : take w.count w.rows ≡ rows_of s
  pub needs : take w.count w.needs ≡ needs_of s
  pub sets : sets_in w ≡ usable_sets s
  pub prices : w.prices ≡ prices_of s

module _ (w : WorkingSheet) (s : Contents) (m : Made w s) (q : Request) where
  task : given w q.charge ≡ given_of s q.charge
  task = given_is w s q.charge m.needs m.prices

  count : w.count ≡ cases_of s
  count = count_is w s m.sets

  pub made_opening : checked w.count q ≡ opening s q
  made_opening = ap (λ (x : ℕ). checked x q) count

  pub made_solves : (greatest : ℕ) → LawfulTariff q.charge greatest → Lawful q.prune → (before after : List Line) (r : Result Answer Refusal)
      → r ≡ solved_by (given w q.charge) (sets_in w) w.count q → after ≡ plan_by (given w q.charge) (take w.count w.rows) (sets_in w) w.count q before → Solves s q before after r
  made_solves greatest law prune before after r e l =
      let said : r ≡ solved s q =
      e
      ∙ ap (λ (x : Given). solved_by x (sets_in w) w.count q) task
      ∙ ap (λ (x : List ℕ). solved_by (given_of s q.charge) x w.count q) m.sets
      ∙ ap (λ (x : ℕ). solved_by (given_of s q.charge) (usable_sets s) x q) count in
      let plan : after ≡ plan_after s q before =
      l
      ∙ ap (λ (x : Given). plan_by x (take w.count w.rows) (sets_in w) w.count q before) task
      ∙ ap (λ (x : List ℕ). plan_by (given_of s q.charge) x (sets_in w) w.count q before) m.rows
      ∙ ap (λ (x : List ℕ). plan_by (given_of s q.charge) (rows_of s) x w.count q before) m.sets
      ∙ ap (λ (x : ℕ). plan_by (given_of s q.charge) (rows_of s) (usable_sets s) x q before) count in
      let proper : Proper (given_of s q.charge) (usable_sets s) =
      subst (λ (x : List ℕ). Proper (given_of s q.charge) x) m.sets
      (subst (λ (x : Given). Proper x (sets_in w)) task (proper_sheet w q.charge greatest law)) in
      record { said = said; plan = plan; right = solve_right s q before after r proper prune said plan }
