-- What a search comes to, whatever lawful pruner it asks. Assumes nothing.
use Rattle.std.specs.Prelude.{◌≡◌, ℕ, ◌≤◌, false, cond, ◌⊎◌, List, [], ◌∷◌, length, take, ℤ, pos, ◌-ℤ◌, ◌≤ℤ◌, ◌<ℤ◌, Some, None, Option, int_le}
use Rattle.planning.specs.Plans.{Given, total, Drawn, Before, plans, parts}
use Rattle.planning.specs.Pruners.{Prune, Proper, Lawful}
use Rattle.search_rules.specs.Search.{State, searched}

-- every other plan drawn from the sets costs more, or costs as much and comes later in plan order
abbrev pub Cheapest : Given → List ℕ → List ℕ → Type 0
Cheapest g us p = (q : List ℕ) → Drawn us q → (q ≡ p) ⊎ ((total g p <ℤ total g q) ⊎ ((total g p ≡ total g q) × Before p q))

-- what a search from the usable sets us, under the ceiling c and the step limit, comes to
pub record Right (g : Given) (limit : ℕ) (c : ℤ) (us : List ℕ) (t : State) : Type 0 where
  -- the best is a plan within the ceiling, stopped or not
  pub within : (p : List ℕ) → t.best ≡ Some p → Drawn us p × (total g p ≤ℤ c)
  -- not stopped, it is the cheapest, and of the cheapest the first
  pub cheapest : t.stopped ≡ false → (p : List ℕ) → t.best ≡ Some p → Cheapest g us p
  -- not stopped and without a best, no plan is within the ceiling
  pub none : t.stopped ≡ false → t.best ≡ None → (p : List ℕ) → Drawn us p → total g p ≤ℤ c → ⊥
  -- a limit of as many steps as there are part-plans never stops it
  pub ends : parts us [] ≤ limit → t.stopped ≡ false

-- on a lawful sheet, with any lawful pruner
abbrev pub SearchRight : Type 0
SearchRight = (g : Given) (us : List ℕ) → Proper g us → (f : Prune) → Lawful f → (limit : ℕ) (c : ℤ) → Right g limit c us (searched g f limit c us)

-- of a list of plans, each that is within the ceiling and cheaper than all before it that are
abbrev pub minima : Given → ℤ → List (List ℕ) → List (List ℕ)
minima g c [] = []
minima g c (q ∷ qs) = cond (int_le (total g q) c) (q ∷ minima g (total g q -ℤ pos 1) qs) (minima g c qs)

-- the last of a list of plans, or b where it is empty
abbrev pub last_of : Option (List ℕ) → List (List ℕ) → Option (List ℕ)
last_of b [] = b
last_of b (q ∷ qs) = last_of (Some q) qs

-- what a search has counted and kept, by the plans in plan order that are within the ceiling and cheaper than all before them
pub record Counted (g : Given) (c : ℤ) (us : List ℕ) (t : State) : Type 0 where
  -- stopped or not, with k betterings it has met the first k of them and keeps the k-th, or nothing where k is 0
  pub some_met : t.betterings ≤ length (minima g c (plans us []))
  pub best_is : t.best ≡ last_of None (take t.betterings (minima g c (plans us [])))
  -- not stopped, it has met them all
  pub all_met : t.stopped ≡ false → t.betterings ≡ length (minima g c (plans us []))

-- on a lawful sheet, with any lawful pruner
abbrev pub BetteringsCounted : Type 0
BetteringsCounted = (g : Given) (us : List ℕ) → Proper g us → (f : Prune) → Lawful f → (limit : ℕ) (c : ℤ) → Counted g c us (searched g f limit c us)
