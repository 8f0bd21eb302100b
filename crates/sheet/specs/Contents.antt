-- What a sheet holds, in plain numbers. Assumes nothing.
use Rattle.std.specs.Prelude.{ℕ, Bool, cond, ◌&&◌, List, map, replicate, ℤ, is_some, None, Option, nat_lt, slice_index_or, slice_set}
use Rattle.std.specs.Option.{option_map}
use Rattle.slot_set.specs.Sets.{has}
use Rattle.sheet.specs.declared.case.Case.{Case}
use Rattle.sheet.specs.declared.slot_price.SlotPrice.{SlotPrice}
use Rattle.sheet.specs.declared.Sheet.{Sheet}

-- what a row with a case holds: its need, and its allowed set as a word
pub record Entry : Type 0 where
  pub need : ℕ
  pub allowed : ℕ

-- what a sheet holds: the case of each row, if it has one, and the price of each slot, if it is open
pub record Contents : Type 0 where
  pub rows : List (Option Entry)
  pub prices : List (Option ℤ)

abbrev pub entry_of : ℕ → ℕ → Entry
entry_of n a = record { need = n; allowed = a }

abbrev pub entry : Case → Entry
entry c = entry_of c.need c.allowed.word

abbrev pub amount : SlotPrice → ℤ
amount p = p.amount

-- what a sheet of the program holds
abbrev pub contents : Sheet → Contents
contents s = record { rows = map (option_map entry) s.rows; prices = map (option_map amount) s.slots }

-- empty rows and closed slots
abbrev pub new_sheet : Contents
new_sheet = record { rows = replicate 16 None; prices = replicate 64 None }

-- the case in a row, or nothing where the row is empty or above 15
abbrev pub case_in : Contents → ℕ → Option Entry
case_in s row = cond (nat_lt 15 row) None (slice_index_or s.rows row None)

-- the price of a slot, or nothing where it is closed or above 63
abbrev pub price_in : Contents → ℕ → Option ℤ
price_in s slot = cond (nat_lt 63 slot) None (slice_index_or s.prices slot None)

-- a slot is open
abbrev pub is_open : Contents → ℕ → Bool
is_open s slot = is_some (price_in s slot)

-- a slot is in the usable set of a case: the case allows it, and it is open
abbrev pub usable : Contents → Entry → ℕ → Bool
usable s e slot = has e.allowed slot && is_open s slot

-- the sheet with one row changed, and nothing else
abbrev pub with_row : Contents → ℕ → Option Entry → Contents
with_row s row e = record { rows = slice_set s.rows row e; prices = s.prices }

-- the sheet with one slot changed, and nothing else
abbrev pub with_slot : Contents → ℕ → Option ℤ → Contents
with_slot s slot p = record { rows = s.rows; prices = slice_set s.prices slot p }
