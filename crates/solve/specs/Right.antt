-- What an answer to a solve means, in terms of the plans of the sheet. Assumes nothing.
use Rattle.std.specs.Prelude.{◌≡◌, ℕ, ◌≤◌, Bool, true, false, List, [], length, take, ℤ, ◌≤ℤ◌, Some, None, Ok, Err, Option, Result}
use Rattle.refusal.specs.declared.Refusal.{Refusal}
use Rattle.refusal.specs.declared.Refusal.TheVariants.{NoPlan}
use Rattle.tariff.specs.Charges.{Charge}
use Rattle.sheet.specs.Contents.{Contents}
use Rattle.planning.specs.Plans.{Drawn, parts, plans, total}
use Rattle.planning.specs.Standing.{rows_of, usable_sets}
use Rattle.search_rules.specs.Right.{last_of, minima}
use Rattle.search_rules.specs.Right as search
use Rattle.solve.specs.declared.answer.Answer.{Answer}
use Rattle.solve.specs.declared.answer.Answer.TheVariants.{Cheapest, Stopped, StoppedEmpty}
use Rattle.solve.specs.declared.answer.Best.{Best}
use Rattle.solve.specs.declared.line.Line.{Line}
use Rattle.solve.specs.declared.lists.Lists.{Lists}
use Rattle.solve.specs.Lines.{written}
use Rattle.solve.specs.Solved.{Request, cases_of, given_of, opening, plan_after, solved}

-- p is a plan of the sheet: each standing case has a slot of its usable set, and no two have the same
abbrev pub PlanOf : Contents → List ℕ → Type 0
PlanOf s p = Drawn (usable_sets s) p

-- the total of a plan of the sheet
abbrev pub total_of : Contents → Charge → List ℕ → ℤ
total_of s w p = total (given_of s w) p

-- no plan of the sheet is within the ceiling
abbrev pub NoPlanWithin : Contents → Charge → ℤ → Type 0
NoPlanWithin s w c = (p : List ℕ) → PlanOf s p → total_of s w p ≤ℤ c → ⊥

-- every other plan of the sheet costs more than p, or costs as much and comes later in plan order
abbrev pub CheapestPlan : Contents → Charge → List ℕ → Type 0
CheapestPlan s w p = search.Cheapest (given_of s w) (usable_sets s) p

-- the number of part-plans of the sheet
abbrev pub part_plans_of : Contents → ℕ
part_plans_of s = parts (usable_sets s) []

-- the plans of the sheet, in plan order, that are within the ceiling and cheaper than all before them
abbrev pub ever_cheaper : Contents → Charge → ℤ → List (List ℕ)
ever_cheaper s w c = minima (given_of s w) c (plans (usable_sets s) [])

-- what an answer with a best says: it is a plan p of the sheet, within the ceiling; its total is told, and its lines stand in the plan
-- list, whose later places are unchanged; with k betterings it is the k-th of the ever cheaper plans
pub record Shows (s : Contents) (w : Charge) (c : ℤ) (before after : List Line) (b : Best) (p : List ℕ) : Type 0 where
  pub plan : PlanOf s p
  pub within : total_of s w p ≤ℤ c
  pub total_is : b.total ≡ total_of s w p
  pub lines_are : after ≡ written (given_of s w) (rows_of s) p (cases_of s) before
  pub few : b.betterings ≤ length (ever_cheaper s w c)
  pub kth : last_of None (take b.betterings (ever_cheaper s w c)) ≡ Some p

-- the answer says that the search was stopped
abbrev pub was_stopped : Result Answer Refusal → Bool
was_stopped (Ok (Cheapest b)) = false
was_stopped (Ok (Stopped b)) = true
was_stopped (Ok (StoppedEmpty n)) = true
was_stopped (Err e) = false

-- an answer r to a solve of the sheet s under the ceiling c is right; the plan list held `before` at entry and `after` at exit
pub record RightAnswer (s : Contents) (w : Charge) (limit : ℕ) (c : ℤ) (before after : List Line) (r : Result Answer Refusal) : Type 0 where
  -- "cheapest" shows the cheapest plan, of equals the first, and has met every ever cheaper one
  pub cheapest : (b : Best) → r ≡ Ok (Cheapest b) → (p : List ℕ) × Shows s w c before after b p × CheapestPlan s w p × (b.betterings ≡ length (ever_cheaper s w c))
  -- "stopped" shows a plan within the ceiling
  pub stopped : (b : Best) → r ≡ Ok (Stopped b) → (p : List ℕ) × Shows s w c before after b p
  -- stopped without a plan, nothing is written
  pub empty : (n : ℕ) → r ≡ Ok (StoppedEmpty n) → after ≡ before
  -- refusal 17 says that there is no plan within the ceiling, and nothing is written
  pub no_plan : (n : ℕ) → r ≡ Err (NoPlan n) → NoPlanWithin s w c × (after ≡ before)
  -- and it is returned whenever there is none and the search was not stopped
  pub refuses : was_stopped r ≡ false → NoPlanWithin s w c → (n : ℕ) × (r ≡ Err (NoPlan n))
  -- a limit of at least the number of part-plans never stops it
  pub ends : part_plans_of s ≤ limit → was_stopped r ≡ false

-- the same of every request that passes the opening checks
abbrev pub RightSolve : Contents → Request → List Line → List Line → Result Answer Refusal → Type 0
RightSolve s q before after r = opening s q ≡ None → RightAnswer s q.charge q.limit q.ceiling before after r

-- all that a solve of the sheet promises of its answer r and of the plan list
pub record Solves (s : Contents) (q : Request) (before after : List Line) (r : Result Answer Refusal) : Type 0 where
  -- exactly what the written search comes to
  pub said : r ≡ solved s q
  pub plan : after ≡ plan_after s q before
  -- and right, in terms of the plans of the sheet
  pub right : RightSolve s q before after r

-- a list that a solve refused by an opening check leaves as it was
abbrev pub Untouched : {X : Type 0} → Option Refusal → List X → List X → Type 0
Untouched None before after = Unit {0}
Untouched (Some e) before after = after ≡ before

-- the same of its two work lists
pub record ListsKept {X Y : Type 0} (o : Option Refusal) (saved saved' : List X) (decisions decisions' : List Y) : Type 0 where
  pub saved_kept : Untouched o saved saved'
  pub decisions_kept : Untouched o decisions decisions'

-- the same three lists are lent, each as long as it was
pub record SameLists (a b : Lists) : Type 0 where
  pub plan : b.plan.ghost_name ≡ a.plan.ghost_name
  pub saved : b.saved.ghost_name ≡ a.saved.ghost_name
  pub decisions : b.decisions.ghost_name ≡ a.decisions.ghost_name
  pub plan_places : length b.plan.now ≡ length a.plan.now
  pub saved_places : length b.saved.now ≡ length a.saved.now
  pub decision_places : length b.decisions.now ≡ length a.decisions.now
