-- What a working sheet stands for. Assumes nothing.
use Rattle.std.specs.Prelude.{◌≡◌, ℕ, List, take, drop, ℤ, ◌≤ℤ◌, Some, None, Option}
use Rattle.tariff.specs.Charges.{Charge}
use Rattle.planning.specs.Plans.{Given, total, Drawn}
use Rattle.planning.specs.Pruners.{Parts}
use Rattle.planning.specs.declared.working_sheet.WorkingSheet.{WorkingSheet}

-- the working sets of the standing cases
abbrev pub sets_in : WorkingSheet → List ℕ
sets_in w = take w.count w.sets

-- what a pruner is given: the needs of the standing cases and the prices, and the charges of a tariff
abbrev pub given : WorkingSheet → Charge → Given
given w charge = record { needs = take w.count w.needs; prices = w.prices; charge = charge }

-- new tables of sets, as the new sets of n cases
abbrev pub first_sets : ℕ → Option (List ℕ) → Option (List ℕ)
first_sets n None = None
first_sets n (Some ds) = Some (take n ds)

-- the places after the first n are as they were
abbrev pub RestKept : ℕ → List ℕ → Option (List ℕ) → Type 0
RestKept n ds None = Unit {0}
RestKept n ds (Some es) = drop n es ≡ drop n ds

-- the three points of an answer r to the question about a working sheet, with g given and at a ceiling
pub record KeptPoints (w : WorkingSheet) (g : Given) (ceiling : ℤ) (r : Option (List ℕ)) : Type 0 where
  -- each new set is a part of the old one
  pub part : (es : List ℕ) → r ≡ Some es → Parts (take w.count es) (sets_in w)
  -- each plan drawn from the old sets, within the ceiling, can be drawn from the new ones
  pub keeps : (es : List ℕ) → r ≡ Some es → (p : List ℕ) → Drawn (sets_in w) p → total g p ≤ℤ ceiling → Drawn (take w.count es) p
  -- dead only if there is no such plan
  pub dead : r ≡ None → (p : List ℕ) → Drawn (sets_in w) p → total g p ≤ℤ ceiling → ⊥
