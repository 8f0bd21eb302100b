-- What holds of the tables of a working sheet. Assumes nothing.
use Rattle.std.specs.Prelude.{◌≡◌, ℕ, ◌<◌, ◌≤◌, true, List, ℤ, pos, neg_ℤ, ◌≤ℤ◌, slice_index, slice_index_or}
use Rattle.slot_set.specs.Sets.{has}

-- no set holds a closed slot
abbrev pub Open : ℕ → List ℕ → Type 0
Open opened ds = (i s : ℕ) → has (slice_index ds i) s ≡ true → has opened s ≡ true

-- each open slot has a price in range
abbrev pub PricedSlots : ℕ → List ℤ → Type 0
PricedSlots opened ps = (s : ℕ) → has opened s ≡ true → (neg_ℤ (pos 50000) ≤ℤ slice_index_or ps s (pos 0)) × (slice_index_or ps s (pos 0) ≤ℤ pos 50000)

-- the first n needs are in range
abbrev pub Needed : ℕ → List ℕ → Type 0
Needed n ns = (i : ℕ) → i < n → (1 ≤ slice_index ns i) × (slice_index ns i ≤ 20000)
