-- What the written search comes to makes the answer right. Assumes nothing.
use Rattle.std.proofs.Common.{◌≡◌, ℕ, Bool, true, false, List, length, take, ℤ, Some, None, Err, Option, Result, sym, refl, ap, ◌∙◌, subst}
use Rattle.std.specs.Option.{option_map}
use Rattle.std.proofs.lemmas.Bool.{both_ways}
use Rattle.refusal.specs.declared.Refusal.{Refusal}
use Rattle.tariff.specs.Charges.{Charge}
use Rattle.sheet.specs.Contents.{Contents}
use Rattle.planning.specs.Plans.{Given, total}
use Rattle.planning.specs.Pruners.{Lawful, Proper}
use Rattle.planning.specs.Standing.{rows_of, usable_sets}
use Rattle.search.specs.declared.outcome.Outcome.{Outcome}
use Rattle.search.specs.Outcomes.{Says}
use Rattle.search_rules.specs.Search.{State, searched}
use Rattle.search_rules.specs.Right.{Counted, Right}
use Rattle.search_rules.proofs.Solved.{betterings_counted, search_right}
use Rattle.solve.specs.declared.answer.Answer.{Answer}
use Rattle.solve.specs.declared.answer.Best.{Best}
use Rattle.solve.specs.declared.line.Line.{Line}
use Rattle.solve.specs.Lines.{written}
use Rattle.solve.specs.Solved.{Request, answered, best_of, cases_of, finished, given_of, checked, listed, plan_after, plan_by, search_of, solved, solved_by, unless}
use Rattle.solve.specs.Right.{RightAnswer, RightSolve, Shows, Untouched, ever_cheaper}

module _ (s : Contents) (w : Charge) (limit : ℕ) (c : ℤ) (before : List Line) where
  abbrev g : Given
  g = given_of s w

  pub right_answer : (t : State) → Right g limit c (usable_sets s) t → Counted g c (usable_sets s) t
      → RightAnswer s w limit c before (listed g (rows_of s) (cases_of s) t.best before) (finished g t)
  right_answer t r k = go t.best t.stopped refl refl
    where
      shows : (p : List ℕ) → t.best ≡ Some p → (b : Best) → best_of (total g p) t.steps t.betterings ≡ b → Shows s w c before (written g (rows_of s) p (cases_of s) before) b p
      shows p e b q = subst (λ (x : Best). Shows s w c before (written g (rows_of s) p (cases_of s) before) x p) q (record {
        plan = (r.within p e).0;
        within = (r.within p e).1;
        total_is = refl;
        lines_are = refl;
        few = k.some_met;
        kth = sym k.best_is ∙ e;
      })

      go : (o : Option (List ℕ)) (b : Bool) → t.best ≡ o → t.stopped ≡ b
          → RightAnswer s w limit c before (listed g (rows_of s) (cases_of s) o before) (answered g o b t.steps t.betterings)
      go None true e x = record {
        cheapest = λ b q. cc;
        stopped = λ b q. cc;
        empty = λ n q. refl;
        no_plan = λ n q. cc;
        refuses = λ q none. cc;
        ends = λ h. absurd (both_ways t.stopped (r.ends h) x);
      }
      go None false e x = record {
        cheapest = λ b q. cc;
        stopped = λ b q. cc;
        empty = λ n q. cc;
        no_plan = λ n q. (r.none x e, refl);
        refuses = λ q none. (t.steps, refl);
        ends = λ h. refl;
      }
      go (Some p) true e x = record {
        cheapest = λ b q. cc;
        stopped = λ b q. (p, shows p e b (cc));
        empty = λ n q. cc;
        no_plan = λ n q. cc;
        refuses = λ q none. cc;
        ends = λ h. absurd (both_ways t.stopped (r.ends h) x);
      }
      go (Some p) false e x = record {
        cheapest = λ b q.
            let same : best_of (total g p) t.steps t.betterings ≡ b = cc in
            (p, shows p e b same, r.cheapest x p e, subst (λ (y : Best). y.betterings ≡ length (ever_cheaper s w c)) same (k.all_met x));
        stopped = λ b q. cc;
        empty = λ n q. cc;
        no_plan = λ n q. cc;
        refuses = λ q none. absurd (none p (r.within p e).0 (r.within p e).1);
        ends = λ h. refl;
      }

-- an exact answer is right, on a lawful sheet and with a lawful pruner
pub solve_right : (s : Contents) (q : Request) (before after : List Line) (r : Result Answer Refusal) → Proper (given_of s q.charge) (usable_sets s) → Lawful q.prune
    → r ≡ solved s q → after ≡ plan_after s q before → RightSolve s q before after r
solve_right s q before after r ok law e l passes =
    let w = q.charge in
    let g = given_of s w in
    let us = usable_sets s in
    let t = search_of s q in
    let right : RightAnswer s w q.limit q.ceiling before (listed g (rows_of s) (cases_of s) t.best before) (finished g t) =
    right_answer s w q.limit q.ceiling before t (search_right g us ok q.prune law q.limit q.ceiling) (betterings_counted g us ok q.prune law q.limit q.ceiling) in
    subst (λ (x : Result Answer Refusal). RightAnswer s w q.limit q.ceiling before after x) (sym (e ∙ ap (λ o. unless o (λ e. Err e) (finished g t)) passes))
    (subst (λ (x : List Line). RightAnswer s w q.limit q.ceiling before x (finished g t)) (sym (l ∙ ap (λ o. unless o (λ _. before) (listed g (rows_of s) (cases_of s) t.best before)) passes)) right)

-- an outcome that says what a search came to gives its answer and its lines
pub says_finished : (g : Given) (n : ℕ) (o : Outcome) (t : State) → Says n o t → answered g (option_map (take n) o.best) o.stopped o.steps o.betterings ≡ finished g t
says_finished g n o t h =
    ap (λ (x : Option (List ℕ)). answered g x o.stopped o.steps o.betterings) h.best
    ∙ ap (λ (x : Bool). answered g t.best x o.steps o.betterings) h.stopped
    ∙ ap (λ (x : ℕ). answered g t.best t.stopped x o.betterings) h.steps
    ∙ ap (λ (x : ℕ). answered g t.best t.stopped t.steps x) h.betterings

-- ---- by the opening checks

module _ (g : Given) (rows us : List ℕ) (n : ℕ) (q : Request) (list : List Line) where
  abbrev t : State
  t = searched g q.prune q.limit q.ceiling us

  -- a check that hits
  pub refused_said : (e : Refusal) → checked n q ≡ Some e → Err e ≡ solved_by g us n q
  refused_said e h = sym (ap (λ (o : Option Refusal). unless o (λ x. Err x) (finished g t)) h)

  pub refused_plan : (e : Refusal) → checked n q ≡ Some e → list ≡ plan_by g rows us n q list
  refused_plan e h = sym (ap (λ (o : Option Refusal). unless o (λ _. list) (listed g rows n t.best list)) h)

  -- none that hits
  pub passed_said : checked n q ≡ None → finished g t ≡ solved_by g us n q
  passed_said h = sym (ap (λ (o : Option Refusal). unless o (λ x. Err x) (finished g t)) h)

  pub passed_plan : checked n q ≡ None → listed g rows n t.best list ≡ plan_by g rows us n q list
  passed_plan h = sym (ap (λ (o : Option Refusal). unless o (λ _. list) (listed g rows n t.best list)) h)

pub untouched_same : {X : Type 0} (o : Option Refusal) (xs : List X) → Untouched o xs xs
untouched_same None xs = tt
untouched_same (Some e) xs = refl

pub untouched_passed : {X : Type 0} (o : Option Refusal) (xs ys : List X) → o ≡ None → Untouched o xs ys
untouched_passed None xs ys h = tt
untouched_passed (Some e) xs ys h = cc
