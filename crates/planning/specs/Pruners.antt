-- Pruners: what one is given, what it may answer, and when it is lawful. Assumes nothing.
use Rattle.std.specs.Prelude.{◌≡◌, ℕ, ◌<◌, true, List, length, ℤ, ◌≤ℤ◌, Some, None, Option}
use Rattle.std.specs.List.{AllZip, AllByRecursion}
use Rattle.slot_set.specs.Sets.{has}
use Rattle.tariff.specs.Charges.{Need, Price, LawfulTariff}
use Rattle.planning.specs.Plans.{Given, price, total, Drawn}

-- what a pruner means: from a ceiling and a working set for each case, None for "dead", or new working sets
abbrev pub Prune : Type 0
Prune = Given → ℤ → List ℕ → Option (List ℕ)

-- e is a part of d
abbrev pub Part : ℕ → ℕ → Type 0
Part e d = (s : ℕ) → has e s ≡ true → has d s ≡ true

-- as many new sets as old ones, each a part of its old one
abbrev pub Parts : List ℕ → List ℕ → Type 0
Parts es ds = AllZip Part es ds

-- each slot of the set has a price in range
abbrev pub Priced : Given → ℕ → Type 0
Priced g d = (s : ℕ) → s < 64 → has d s ≡ true → Price (price g s)

-- a lawful sheet: needs in range, a lawful tariff, and for each case a usable set, whose slots have prices in range
pub record Proper (g : Given) (us : List ℕ) : Type 0 where
  pub needs : AllByRecursion Need g.needs
  pub greatest : ℕ
  pub tariff : LawfulTariff g.charge greatest
  pub sets : length us ≡ length g.needs
  pub priced : AllByRecursion (Priced g) us

-- the three points of a pruner, at a ceiling c and working sets ds
pub record Points (f : Prune) (g : Given) (c : ℤ) (ds : List ℕ) : Type 0 where
  -- each new set is a part of the old one
  pub part : (es : List ℕ) → f g c ds ≡ Some es → Parts es ds
  -- each plan drawn from the old sets, within the ceiling, can be drawn from the new sets
  pub keeps : (es : List ℕ) → f g c ds ≡ Some es → (p : List ℕ) → Drawn ds p → total g p ≤ℤ c → Drawn es p
  -- it answers dead only if no such plan exists
  pub dead : f g c ds ≡ None → (p : List ℕ) → Drawn ds p → total g p ≤ℤ c → ⊥

-- a lawful pruner shows the points on every lawful sheet, for any ceiling and any parts of the usable sets
abbrev pub Lawful : Prune → Type 0
Lawful f = (g : Given) (us : List ℕ) → Proper g us → (c : ℤ) (ds : List ℕ) → Parts ds us → Points f g c ds

-- what comes of an answer: dead stays dead, new sets go to f
abbrev pub then : Option (List ℕ) → (List ℕ → Option (List ℕ)) → Option (List ℕ)
then None f = None
then (Some ds) f = f ds

-- a pile of two: the second is given the first's new sets, and the pile is dead when either is
abbrev pub pile : Prune → Prune → Prune
pile p q g c ds = then (p g c ds) (q g c)

-- a pile of two lawful pruners is lawful
abbrev pub PilesLawful : Type 0
PilesLawful = (p q : Prune) → Lawful p → Lawful q → Lawful (pile p q)
