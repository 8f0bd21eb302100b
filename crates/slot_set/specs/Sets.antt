-- Sets of slots: a set is a word in which slot s weighs 2 ^ s. Assumes nothing.
use Rattle.std.specs.Prelude.{◌≡◌, ℕ, zero, suc, ◌+◌, ◌/◌, ◌%◌, ◌^◌, ◌<◌, Bool, true, false, ◌||◌, List, [], ◌∷◌, length, filter, ◌==◌, Some, None, Option}

-- slot s is in the set
abbrev pub has : ℕ → ℕ → Bool
has word s = word / (2 ^ s) % 2 == 1

-- no slot is in the set
abbrev pub NoSlot : ℕ → Type 0
NoSlot word = (s : ℕ) → has word s ≡ false

-- some slot is in the set
abbrev pub SomeSlot : ℕ → Type 0
SomeSlot word = (s : ℕ) × (s < 64) × (has word s ≡ true)

-- the numbers from s, n of them
abbrev pub from : ℕ → ℕ → List ℕ
from s zero = []
from s (suc n) = s ∷ from (suc s) n

-- the slots of a sheet, 0 to 63. Shut unless a proof opens it, since a test of 64 slots computes long
unfoldable pub every_slot : List ℕ
every_slot = from 0 64

-- the slots of a set, rising
abbrev pub members : ℕ → List ℕ
members word = filter (has word) every_slot

-- the set of some slots, no two alike
abbrev pub word_of : List ℕ → ℕ
word_of [] = 0
word_of (s ∷ ss) = 2 ^ s + word_of ss

-- the slots of a set that pass a test, as a set
abbrev pub keep : (ℕ → Bool) → ℕ → ℕ
keep f word = word_of (filter f (members word))

-- the set has exactly one slot
abbrev pub single : ℕ → Bool
single word = length (members word) == 1

-- the slot of a set that has exactly one, and nothing of any other set
abbrev pub OnlySlot : ℕ → Option ℕ → Type 0
OnlySlot word None = single word ≡ false
OnlySlot word (Some s) = (single word ≡ true) × (s < 64) × (has word s ≡ true)

-- one of the sets is empty
abbrev pub some_empty : List ℕ → Bool
some_empty [] = false
some_empty (d ∷ ds) = d == 0 || some_empty ds
