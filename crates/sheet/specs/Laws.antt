-- What the five edits mean to those who ask the two questions before and after. Assumes nothing.
use Rattle.std.specs.Prelude.{◌≡◌, ℕ, Some, None, Option, ◌≢◌}
use Rattle.slot_set.specs.Sets.{has}
use Rattle.slot_set.specs.declared.SlotSet.{SlotSet}
use Rattle.sheet.specs.declared.edit.Edit.{Edit}
use Rattle.sheet.specs.declared.edit.Edit.TheVariants.{Enter, Withdraw, Allow, Price, Close}
use Rattle.sheet.specs.Contents.{Contents, Entry, entry_of, case_in, price_in, usable}
use Rattle.sheet.specs.Edits.{allowing}

-- each row but this one holds what it held
abbrev pub OtherRows : ℕ → Contents → Contents → Type 0
OtherRows row s t = (i : ℕ) → (i ≢ row) → case_in t i ≡ case_in s i

-- each slot but this one has the price it had
abbrev pub OtherSlots : ℕ → Contents → Contents → Type 0
OtherSlots slot s t = (i : ℕ) → (i ≢ slot) → price_in t i ≡ price_in s i

abbrev pub SameRows : Contents → Contents → Type 0
SameRows s t = (i : ℕ) → case_in t i ≡ case_in s i

abbrev pub SameSlots : Contents → Contents → Type 0
SameSlots s t = (i : ℕ) → price_in t i ≡ price_in s i

-- what the edit asks for stands on the sheet
abbrev pub Done : Edit → Contents → Contents → Type 0
Done (Enter row need allowed) s t = case_in t row ≡ Some (entry_of need allowed)
Done (Withdraw row) s t = case_in t row ≡ None
Done (Allow row allowed) s t = case_in t row ≡ allowing allowed (case_in s row)
Done (Price slot price) s t = price_in t slot ≡ Some price
Done (Close slot) s t = price_in t slot ≡ None

-- and nothing else has changed
abbrev pub OthersKept : Edit → Contents → Contents → Type 0
OthersKept (Enter row need allowed) s t = OtherRows row s t × SameSlots s t
OthersKept (Withdraw row) s t = OtherRows row s t × SameSlots s t
OthersKept (Allow row allowed) s t = OtherRows row s t × SameSlots s t
OthersKept (Price slot price) s t = SameRows s t × OtherSlots slot s t
OthersKept (Close slot) s t = SameRows s t × OtherSlots slot s t

-- the usable set of what a row holds: nothing for an empty row, else the set of the slots that the case can have
abbrev pub UsableSet : Contents → Option Entry → Option SlotSet → Type 0
UsableSet s None None = Unit {0}
UsableSet s None (Some u) = ⊥
UsableSet s (Some e) None = ⊥
UsableSet s (Some e) (Some u) = (slot : ℕ) → has u.word slot ≡ usable s e slot
