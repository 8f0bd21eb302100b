-- What the code has counted and kept, as the state of a search. Assumes nothing.
use Rattle.std.specs.Prelude.{◌≡◌, ℕ, ◌+◌, ◌<◌, Bool, List, take, ℤ, Some, Ok, Err, Result}
use Rattle.std.specs.Option.{option_map}
use Rattle.ceiling.specs.declared.CeilingGuard.{CeilingGuard}
use Rattle.search_rules.specs.Search.{State}
use Rattle.search.specs.declared.tally.Tally.{Tally}
use Rattle.search.specs.declared.tally.LimitReached.{LimitReached}

-- a tally and a ceiling as a state of a search over n cases, stopped or not
abbrev pub state : ℕ → Bool → Tally → ℤ → State
state n b c z = record { ceiling = z; steps = c.steps; betterings = c.betterings; best = option_map (take n) c.best; stopped = b }

-- one step more
abbrev pub stepped : Tally → Tally
stepped c = record { steps = c.steps + 1; betterings = c.betterings; best = c.best }

-- a step is counted, or the count already equals the limit
abbrev pub CountedStep : Result (Unit {0}) LimitReached → ℕ → Tally → Tally → Type 0
CountedStep (Ok u) limit c d = (c.steps < limit) × (d ≡ stepped c)
CountedStep (Err e) limit c d = (c.steps ≡ limit) × (d ≡ c)

-- one bettering more, by the plan p
abbrev pub bettered : List ℕ → Tally → Tally
bettered p c = record { steps = c.steps; betterings = c.betterings + 1; best = Some p }

-- the ceiling that a guard reads
abbrev pub ceiling_of : CeilingGuard → ℤ
ceiling_of g = g.held.now.value

-- two guards over one ceiling record, that put it back to the same
pub record SameGuard (a b : CeilingGuard) : Type 0 where
  pub name : b.held.ghost_name ≡ a.held.ghost_name
  pub entry : b.entry ≡ a.entry
