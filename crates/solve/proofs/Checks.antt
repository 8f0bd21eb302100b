-- What the opening checks let pass. Assumes nothing.
use Rattle.std.proofs.Common.{◌≡◌, ℕ, ◌≤◌, Bool, true, false, cond, ltb, leb, List, length, Some, None, Ok, Err, Option, Result, refl, ap}
use Rattle.std.specs.Result.{IsErrAnd}
use Rattle.std.proofs.lemmas.Bool.{and_from, le-leb, ltb-false}
use Rattle.refusal.specs.declared.Refusal.{Refusal}
use Rattle.search.specs.declared.deciding.Decision.{Decision}
use Rattle.search.specs.declared.saving.Saved.{Saved}
use Rattle.search.specs.Outcomes.{enough}
use Rattle.solve.specs.Solved.{Request, checked, passed_or}

-- a check that does not hit, and what is below it
not_hit : (b : Bool) (e : Refusal) (o : Option Refusal) → cond b (Some e) o ≡ None → (b ≡ false) × (o ≡ None)
not_hit true e o h = cc
not_hit false e o h = (refl, h)

pub record Passed (n : ℕ) (q : Request) : Type 0 where
  pub lines : n ≤ q.lines
  pub saved : 1024 ≤ q.saved
  pub decisions : 16 ≤ q.decisions

pub passed : (n : ℕ) (q : Request) → checked n q ≡ None → Passed n q
passed n q h =
    let a = not_hit (ltb q.lines n) _ _ h in
    let b = not_hit (ltb q.saved 1024) _ _ a.1 in
    let d = not_hit (ltb q.decisions 16) _ _ b.1 in
    record { lines = ltb-false q.lines n a.0; saved = ltb-false q.saved 1024 b.0; decisions = ltb-false q.decisions 16 d.0 }

pub enough_there : (saved : List Saved) (decisions : List Decision) → 1024 ≤ length saved → 16 ≤ length decisions → enough saved decisions ≡ true
enough_there saved decisions a b = and_from (leb 1024 (length saved)) (leb 16 (length decisions)) (le-leb 1024 (length saved) a) (le-leb 16 (length decisions) b)

-- ---- the answer of the opening checks

pub refused_by : (o : Option Refusal) (e : Refusal) → ◌≡◌ {A = Result (Unit {0}) Refusal} (Err e) (passed_or o) → o ≡ Some e
refused_by None e h = cc
refused_by (Some x) e h = cc

pub passed_by : (o : Option Refusal) {u : Unit {0}} → ◌≡◌ {A = Result (Unit {0}) Refusal} (Ok u) (passed_or o) → o ≡ None
passed_by None h = refl
passed_by (Some x) h = cc

-- a refusal that is passed on
pub passed_on : {X : Type 0} (r : Result X Refusal) (e : Refusal) → IsErrAnd r (λ x. x ≡ e) → r ≡ Err e
passed_on (Ok x) e h = absurd h
passed_on (Err x) e h = ap Err h
