-- What a solve answers, and what it leaves in the plan list: the opening checks, and then what the written search comes to. Assumes nothing.
use Rattle.std.specs.Prelude.{ℕ, Bool, true, false, cond, ◌||◌, List, length, ℤ, pos, neg_ℤ, Some, None, Ok, Err, Option, Result, ◌==◌, int_lt, nat_lt}
use Rattle.refusal.specs.declared.Refusal.{Refusal}
use Rattle.refusal.specs.declared.Refusal.TheVariants.{PlanListShort, SavedListShort, DecisionListShort, LimitRange, CeilingRange, NoPlan}
use Rattle.tariff.specs.Charges.{Charge}
use Rattle.sheet.specs.Contents.{Contents}
use Rattle.planning.specs.Plans.{Given, total}
use Rattle.planning.specs.Pruners.{Prune}
use Rattle.planning.specs.Standing.{needs_of, prices_of, rows_of, usable_sets}
use Rattle.search_rules.specs.Search.{State, searched}
use Rattle.solve.specs.declared.answer.Answer.{Answer}
use Rattle.solve.specs.declared.answer.Answer.TheVariants.{Cheapest, Stopped, StoppedEmpty}
use Rattle.solve.specs.declared.answer.Best.{Best}
use Rattle.solve.specs.declared.line.Line.{Line}
use Rattle.solve.specs.Lines.{written}

-- all that a solve is given besides the sheet: the charges of its tariff, its pruner's meaning, the ceiling, the step limit, and
-- how many places its plan list, its saved list and its decision list have
pub record Request : Type 0 where
  pub charge : Charge
  pub prune : Prune
  pub ceiling : ℤ
  pub limit : ℕ
  pub lines : ℕ
  pub saved : ℕ
  pub decisions : ℕ

abbrev pub request : Charge → Prune → ℤ → ℕ → ℕ → ℕ → ℕ → Request
request w f c limit lines saved decisions = record { charge = w; prune = f; ceiling = c; limit = limit; lines = lines; saved = saved; decisions = decisions }

-- the opening checks: the first that hits, for n standing cases
abbrev pub checked : ℕ → Request → Option Refusal
checked n q =
    cond (nat_lt q.lines n) (Some PlanListShort)
    (cond (nat_lt q.saved 1024) (Some SavedListShort)
    (cond (nat_lt q.decisions 16) (Some DecisionListShort)
    (cond (q.limit == 0 || nat_lt 1000000000 q.limit) (Some LimitRange)
    (cond (int_lt q.ceiling (neg_ℤ (pos 1000000000000000)) || int_lt (pos 1000000000000000) q.ceiling) (Some CeilingRange) None))))

-- what the opening checks answer, by the first that hits
abbrev pub passed_or : Option Refusal → Result (Unit {0}) Refusal
passed_or None = Ok tt
passed_or (Some e) = Err e

-- how many cases stand
abbrev pub cases_of : Contents → ℕ
cases_of s = length (rows_of s)

-- why a solve of the sheet is refused at once, if it is
abbrev pub opening : Contents → Request → Option Refusal
opening s q = checked (cases_of s) q

abbrev pub best_of : ℤ → ℕ → ℕ → Best
best_of total steps betterings = record { total = total; steps = steps; betterings = betterings }

-- the answer with a best plan, stopped or not
abbrev pub some_best : Bool → Best → Answer
some_best true b = Stopped b
some_best false b = Cheapest b

-- and without one
abbrev pub no_best : Bool → ℕ → Result Answer Refusal
no_best true steps = Ok (StoppedEmpty steps)
no_best false steps = Err (NoPlan steps)

-- the answer to a search that ended with this best plan, stopped or not, after so many steps and betterings
abbrev pub answered : Given → Option (List ℕ) → Bool → ℕ → ℕ → Result Answer Refusal
answered g None stopped steps betterings = no_best stopped steps
answered g (Some p) stopped steps betterings = Ok (some_best stopped (best_of (total g p) steps betterings))

abbrev pub finished : Given → State → Result Answer Refusal
finished g t = answered g t.best t.stopped t.steps t.betterings

-- the plan list after it: the lines of the best plan, if there is one
abbrev pub listed : Given → List ℕ → ℕ → Option (List ℕ) → List Line → List Line
listed g rows n None list = list
listed g rows n (Some p) list = written g rows p n list

-- a refusal at the opening, or else what follows
abbrev pub unless : {X : Type 0} → Option Refusal → (Refusal → X) → X → X
unless None refused x = x
unless (Some e) refused x = refused e

-- what a solve of n cases with the usable sets us comes to
abbrev pub solved_by : Given → List ℕ → ℕ → Request → Result Answer Refusal
solved_by g us n q = unless (checked n q) (λ e. Err e) (finished g (searched g q.prune q.limit q.ceiling us))

-- and what the plan list holds after it
abbrev pub plan_by : Given → List ℕ → List ℕ → ℕ → Request → List Line → List Line
plan_by g rows us n q list = unless (checked n q) (λ _. list) (listed g rows n (searched g q.prune q.limit q.ceiling us).best list)

-- ---- of a sheet

-- what the search is given of a sheet: needs and prices, and the charges
abbrev pub given_of : Contents → Charge → Given
given_of s w = record { needs = needs_of s; prices = prices_of s; charge = w }

-- where the written search of the sheet ends
abbrev pub search_of : Contents → Request → State
search_of s q = searched (given_of s q.charge) q.prune q.limit q.ceiling (usable_sets s)

-- what a solve of the sheet answers
abbrev pub solved : Contents → Request → Result Answer Refusal
solved s q = solved_by (given_of s q.charge) (usable_sets s) (cases_of s) q

-- and what the plan list holds after it
abbrev pub plan_after : Contents → Request → List Line → List Line
plan_after s q list = plan_by (given_of s q.charge) (rows_of s) (usable_sets s) (cases_of s) q list
