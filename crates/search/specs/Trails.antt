-- A trail: what its changes keep, and what putting them back gives. Assumes nothing.
use Rattle.std.specs.Prelude.{◌≡◌, ℕ, ◌≤◌, List, [], ◌∷◌, slice_set}
use Rattle.stack.specs.Entries.{held}
use Rattle.planning.specs.declared.working_sheet.WorkingSheet.{WorkingSheet}
use Rattle.search.specs.declared.saving.Saved.{Saved}
use Rattle.search.specs.declared.trail.Trail.{Trail}
use Rattle.search.specs.Saves.{undone, kept}

-- two working sheets that differ in their sets alone
pub record Alike (a b : WorkingSheet) : Type 0 where
  pub needs : b.needs ≡ a.needs
  pub prices : b.prices ≡ a.prices
  pub opened : b.opened ≡ a.opened
  pub count : b.count ≡ a.count

-- the sets once the changes are put back down to m of them
abbrev pub sets_at : ℕ → Trail → List ℕ
sets_at m t = undone m (held t.saved) t.sheet.sets

-- the saved entries that are left then
abbrev pub saved_at : ℕ → Trail → List Saved
saved_at m t = kept m (held t.saved)

-- the latest saved set of a is put back, which leaves b
abbrev pub RestoredFrom : List Saved → Trail → Trail → Type 0
RestoredFrom [] a b = ⊥
RestoredFrom (e ∷ es) a b = (held b.saved ≡ es) × (b.sheet.sets ≡ slice_set a.sheet.sets e.row e.slots)

abbrev pub Restored : Trail → Trail → Type 0
Restored a b = RestoredFrom (held a.saved) a b

-- the later trail b goes back to the earlier one a: down to any height of a they come to the same
pub record Since (a b : Trail) : Type 0 where
  pub higher : a.saved.height ≤ b.saved.height
  pub sets : (m : ℕ) → m ≤ a.saved.height → sets_at m b ≡ sets_at m a
  pub saved : (m : ℕ) → m ≤ a.saved.height → saved_at m b ≡ saved_at m a
