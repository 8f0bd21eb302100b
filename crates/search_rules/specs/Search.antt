-- The search for the cheapest plan: part-plans are visited one case deeper at a time. Assumes nothing.
use Rattle.std.specs.Prelude.{ℕ, zero, suc, ◌^◌, Bool, true, false, cond, List, [], ◌∷◌, ◌++◌, length, ℤ, pos, ◌-ℤ◌, Some, None, Option, ◌==◌, int_le, slice_index, slice_set}
use Rattle.planning.specs.Plans.{Given, total, choices}
use Rattle.planning.specs.Pruners.{Prune}

-- what a search has so far: the ceiling, the steps and betterings counted, the best plan, and whether it was stopped
pub record State : Type 0 where
  pub ceiling : ℤ
  pub steps : ℕ
  pub betterings : ℕ
  pub best : Option (List ℕ)
  pub stopped : Bool

-- a search under the ceiling c that has visited nothing
abbrev pub begun : ℤ → State
begun c = record { ceiling = c; steps = 0; betterings = 0; best = None; stopped = false }

-- the search is stopped
abbrev pub stop : State → State
stop t = record { ceiling = t.ceiling; steps = t.steps; betterings = t.betterings; best = t.best; stopped = true }

-- one step is counted
abbrev pub step : State → State
step t = record { ceiling = t.ceiling; steps = suc t.steps; betterings = t.betterings; best = t.best; stopped = t.stopped }

-- the plan p is the new best, and the ceiling goes just below its total
abbrev pub better : Given → List ℕ → State → State
better g p t = record { ceiling = total g p -ℤ pos 1; steps = t.steps; betterings = suc t.betterings; best = Some p; stopped = t.stopped }

-- every visit: one step, or the stop where the count already equals the limit; a stopped search stays as it is
abbrev pub visiting : ℕ → (State → State) → State → State
visiting limit k t = cond t.stopped t (cond (t.steps == limit) (stop t) (k (step t)))

-- a complete part-plan within the ceiling becomes the best
abbrev pub completed : Given → List ℕ → State → State
completed g p t = cond (int_le (total g p) t.ceiling) (better g p t) t

-- the pruner's answer: dead ends the visit, new sets go on
abbrev pub answered : (List ℕ → State → State) → Option (List ℕ) → State → State
answered k None t = t
answered k (Some es) t = k es t

-- each slot in turn
abbrev pub try_each : (ℕ → State → State) → List ℕ → State → State
try_each f [] t = t
try_each f (s ∷ ss) t = try_each f ss (f s t)

-- each slot of the next case's new set that p does not use is visited, with that set reduced to it
abbrev pub branches : (ℕ → List ℕ → State → State) → List ℕ → List ℕ → State → State
branches go p es = try_each (λ s. go s (slice_set es (length p) (2 ^ s))) (choices p (slice_index es (length p)))

-- visits the part-plan p, with left cases still open; the sets ds are of all cases
abbrev pub visit : Given → Prune → ℕ → ℕ → List ℕ → List ℕ → State → State
visit g f limit zero p ds = visiting limit (completed g p)
visit g f limit (suc left) p ds = visiting limit (λ t. answered (branches (λ s. visit g f limit left (p ++ (s ∷ []))) p) (f g t.ceiling ds) t)

-- the root is the empty part-plan with the usable sets
abbrev pub searched : Given → Prune → ℕ → ℤ → List ℕ → State
searched g f limit c us = visit g f limit (length us) [] us (begun c)
