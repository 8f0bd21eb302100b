-- What a call of the search answers. Assumes nothing.
use Rattle.std.specs.Prelude.{◌≡◌, ℕ, Bool, true, false, ◌&&◌, List, length, take, Some, None, Option, nat_le}
use Rattle.std.specs.Option.{option_map}
use Rattle.search_rules.specs.Search.{State}
use Rattle.search.specs.declared.saving.Saved.{Saved}
use Rattle.search.specs.declared.deciding.Decision.{Decision}
use Rattle.search.specs.declared.outcome.Outcome.{Outcome}

-- there are places for 1,024 saved entries and for 16 open decisions
abbrev pub enough : List Saved → List Decision → Bool
enough saved decisions = nat_le 1024 (length saved) && nat_le 16 (length decisions)

-- an outcome over n cases says what the search t came to
pub record Says (n : ℕ) (c : Outcome) (t : State) : Type 0 where
  pub steps : c.steps ≡ t.steps
  pub betterings : c.betterings ≡ t.betterings
  -- the first n places are the slots of the best plan
  pub best : option_map (take n) c.best ≡ t.best
  pub stopped : c.stopped ≡ t.stopped

-- an answer over n cases: nothing without enough places, and else the outcome of the search t
abbrev pub Answers : Bool → ℕ → State → Option Outcome → Type 0
Answers b n t None = b ≡ false
Answers b n t (Some c) = (b ≡ true) × Says n c t

-- without an answer a list of places is as it was
abbrev pub Unused : {A : Type 0} → Option Outcome → List A → List A → Type 0
Unused None before after = after ≡ before
Unused (Some c) before after = Unit {0}
