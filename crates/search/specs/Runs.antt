-- What a search keeps while it goes on, and what it comes to from where it stands. Assumes nothing.
use Rattle.std.specs.Prelude.{◌≡◌, ℕ, ◌+◌, ◌-◌, Bool, false, List, ◌∷◌, take, ℤ, Some, None, Option}
use Rattle.stack.specs.Entries.{held}
use Rattle.tariff.specs.Charges.{Charge}
use Rattle.planning.specs.Pruners.{Prune}
use Rattle.planning.specs.Working.{given, sets_in}
use Rattle.search_rules.specs.Search.{State, visit}
use Rattle.search.specs.declared.deciding.Decision.{Decision}
use Rattle.search.specs.declared.exploration.Exploration.{Exploration}
use Rattle.search.specs.declared.trail.Trail.{Trail}
use Rattle.search.specs.Counts.{state}
use Rattle.search.specs.Frames.{goes}
use Rattle.search.specs.Trails.{Alike, saved_at, sets_at}

-- what no step of a search changes
pub record Kept (a b : Exploration) : Type 0 where
  pub limit : b.limit ≡ a.limit
  pub sheet : Alike a.trail.sheet b.trail.sheet

-- after a question about n cases, by its answer: dead puts the trail a back down to the mark m; new sets are adopted under a new open decision, from which the trail goes back down to m to the same
abbrev pub Asked : Option (List ℕ) → ℕ → ℕ → Trail → List Decision → Trail → List Decision → Type 0
Asked None n m a os b ps = (ps ≡ os) × (b.sheet.sets ≡ sets_at m a) × (held b.saved ≡ saved_at m a)
Asked (Some new) n m a os b ps = (ps ≡ record { mark = m; next = 0 } ∷ os) × (take n b.sheet.sets ≡ new) × (sets_at m b ≡ sets_at m a) × (saved_at m b ≡ saved_at m a)

-- what is left to do: each step opens at most one decision, and each turn takes a step or closes a decision
abbrev pub remaining : Exploration → ℕ
remaining x = (x.limit - x.tally.steps) + ((x.limit - x.tally.steps) + x.decisions.height)

-- the state in which the search stands, stopped or not, under the ceiling z
abbrev pub state_at : Bool → ℤ → Exploration → State
state_at b z x = state x.trail.sheet.count b x.tally z

-- what the search comes to from where it stands
abbrev pub outcome_from : Charge → Prune → Bool → ℤ → Exploration → State
outcome_from w f b z x = goes (given x.trail.sheet w) f x.limit x.trail.sheet.count x.plan (held x.decisions) (held x.trail.saved) x.trail.sheet.sets (state_at b z x)

-- the same where the visit of the part-plan comes first, after which the trail goes back down to the mark m
abbrev pub visited_from : Charge → Prune → ℕ → ℤ → Exploration → State
visited_from w f m z x =
    goes (given x.trail.sheet w) f x.limit x.trail.sheet.count x.plan (held x.decisions) (saved_at m x.trail) (sets_at m x.trail)
    (visit (given x.trail.sheet w) f x.limit (x.trail.sheet.count - x.decisions.height) (take x.decisions.height x.plan) (sets_in x.trail.sheet) (state_at false z x))
