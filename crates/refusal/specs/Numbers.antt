-- The number of each refusal, and the values that come with it. Assumes nothing.
use Rattle.std.specs.Prelude.{ℕ, Some, None, Option}
use Rattle.refusal.specs.declared.Refusal.{Refusal}
use Rattle.refusal.specs.declared.Refusal.TheVariants.{RowRange, RowTaken, RowEmpty, NeedRange, NoSlots, SlotRange, PriceRange, SlotClosed, TrialFull, NothingToTakeBack, PlanListShort, SavedListShort, DecisionListShort, LimitRange, CeilingRange, BlockRange, NoPlan}

-- the number by which callers know a refusal
abbrev pub number : Refusal → ℕ
number RowRange = 1
number RowTaken = 2
number RowEmpty = 3
number NeedRange = 4
number NoSlots = 5
number SlotRange = 6
number PriceRange = 7
number SlotClosed = 8
number TrialFull = 9
number NothingToTakeBack = 10
number PlanListShort = 11
number SavedListShort = 12
number DecisionListShort = 13
number LimitRange = 14
number CeilingRange = 15
number BlockRange = 16
number (NoPlan n) = 17

-- the value that comes with a refusal: the steps of a search that found no plan, and nothing with any other
abbrev pub steps : Refusal → Option ℕ
steps RowRange = None
steps RowTaken = None
steps RowEmpty = None
steps NeedRange = None
steps NoSlots = None
steps SlotRange = None
steps PriceRange = None
steps SlotClosed = None
steps TrialFull = None
steps NothingToTakeBack = None
steps PlanListShort = None
steps SavedListShort = None
steps DecisionListShort = None
steps LimitRange = None
steps CeilingRange = None
steps BlockRange = None
steps (NoPlan n) = Some n
