-- The standing cases of a sheet. Assumes nothing.
use Rattle.std.specs.Prelude.{ℕ, suc, List, [], ◌∷◌, map, ℤ, pos, Some, None, Option}
use Rattle.std.specs.Option.{unwrap_or}
use Rattle.slot_set.specs.Sets.{keep}
use Rattle.sheet.specs.Contents.{Contents, Entry, is_open}

-- a case that stands, and its row
pub record Standing : Type 0 where
  pub row : ℕ
  pub entry : Entry

-- the cases in some rows, in row order; i is the first of the rows
abbrev pub standing_from : ℕ → List (Option Entry) → List Standing
standing_from i [] = []
standing_from i (None ∷ rs) = standing_from (suc i) rs
standing_from i (Some e ∷ rs) = record { row = i; entry = e } ∷ standing_from (suc i) rs

-- what one row adds
abbrev pub placed : ℕ → Option Entry → List Standing
placed i None = []
placed i (Some e) = record { row = i; entry = e } ∷ []

abbrev pub standing : Contents → List Standing
standing s = standing_from 0 s.rows

-- the usable set of a case, as a word
abbrev pub usable_set : Contents → Standing → ℕ
usable_set s c = keep (is_open s) c.entry.allowed

-- the price of each slot, and 0 for a closed one, which no usable set holds
abbrev pub prices_of : Contents → List ℤ
prices_of s = map (λ o. unwrap_or o (pos 0)) s.prices

abbrev pub rows_of : Contents → List ℕ
rows_of s = map (λ c. c.row) (standing s)

abbrev pub needs_of : Contents → List ℕ
needs_of s = map (λ c. c.entry.need) (standing s)

abbrev pub usable_sets : Contents → List ℕ
usable_sets s = map (usable_set s) (standing s)
