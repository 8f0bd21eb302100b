-- What the bound under a choice is worked out from, and how. Assumes nothing.
use Rattle.std.specs.Prelude.{◌≡◌, ℕ, ◌+◌, ◌-◌, ◌<◌, ◌≤◌, Bool, cond, List, length, ℤ, pos, ◌+ℤ◌, ◌-ℤ◌, ◌==◌, int_le, nat_lt, slice_index, slice_index_or}
use Rattle.tariff.specs.Charges.{Charge}
use Rattle.planning.specs.Lists.{In}
use Rattle.planning.specs.Plans.{at_slot}
use Rattle.planning.specs.Working.{given}
use Rattle.planning.specs.declared.working_sheet.WorkingSheet.{WorkingSheet}
use Rattle.bound.specs.Orderings.{count}
use Rattle.bound.specs.Bound.{C, L, R, Row, bound_at, fixed_sum, free_of, slot_before, union}
use Rattle.bound.specs.Tables.{CaseRanks, row_rank, rows_in}
use Rattle.bound.specs.declared.figures.Figures.{Figures}

-- the cases between ranks a and b moved by one slot, with a charge w in place of one of them
abbrev pub shifted : ℤ → List ℤ → List ℤ → ℕ → ℤ → ℕ → ℕ → ℤ
shifted fixed level side n w a b =
    (((fixed +ℤ slice_index_or level a (pos 0)) +ℤ w) +ℤ (slice_index_or side b (pos 0) -ℤ slice_index_or side a (pos 0))) +ℤ (slice_index_or level n (pos 0) -ℤ slice_index_or level (b + 1) (pos 0))

-- the bound
abbrev pub whole : Figures → ℤ
whole f = f.fixed +ℤ slice_index_or f.level f.cases (pos 0)

-- the rank of the last of n cases that moves where the slot has rank j
abbrev pub last_rank : ℕ → ℕ → ℕ
last_rank j n = cond (nat_lt j n) j (n - 1)

-- the bound under the choice of the slot of rank j for the case of rank i, at a charge w. Shut, since it is long
unfoldable pub chosen : Figures → ℕ → ℕ → ℤ → ℤ
chosen f i j w =
    cond (j == i) (whole f)
    (cond (nat_lt i j) (shifted f.fixed f.level f.lower f.cases w i (cond (nat_lt j f.cases) j (f.cases - 1)))
    (shifted f.fixed f.level f.upper f.cases w j i))

-- slot s is affordable for case i: the bound under that choice does not exceed the ceiling c
abbrev pub affords : WorkingSheet → Charge → Figures → ℤ → ℕ → ℕ → Bool
affords w charge f c i s = int_le (chosen f (slice_index f.ranks i) (slice_index f.slots s) (charge (slice_index w.needs i) (slice_index_or w.prices s (pos 0)))) c

-- the figures of a working sheet
pub record RightFigures (w : WorkingSheet) (charge : Charge) (f : Figures) : Type 0 where
  pub cases : f.cases ≡ length (free_of (rows_in w))
  pub fixed : f.fixed ≡ fixed_sum (given w charge) (rows_in w)
  pub level : (k : ℕ) → k ≤ f.cases → slice_index_or f.level k (pos 0) ≡ C (given w charge) (rows_in w) k
  pub lower : (k : ℕ) → k < f.cases → slice_index_or f.lower k (pos 0) ≡ L (given w charge) (rows_in w) k
  pub upper : (k : ℕ) → k < f.cases → slice_index_or f.upper k (pos 0) ≡ R (given w charge) (rows_in w) k
  pub ranks : CaseRanks w f.ranks
  pub slots : (s : ℕ) → s < 64 → slice_index f.slots s ≡ count (λ t. slot_before (given w charge) t s) (union (rows_in w))

-- b is the matching's value: whatever sheet these are the figures of, it is the bound under the choice of the slot of rank j
-- for the free case of rank i
abbrev pub Matching : Figures → ℕ → ℕ → ℤ → ℤ → Type 0
Matching f i j z b = (w : WorkingSheet) (charge : Charge) → RightFigures w charge f → length (free_of (rows_in w)) ≤ length (union (rows_in w)) →
    (r : Row) (s : ℕ) → In r (free_of (rows_in w)) → In s (union (rows_in w)) →
    i ≡ row_rank (rows_in w) r → j ≡ count (λ t. slot_before (given w charge) t s) (union (rows_in w)) → z ≡ at_slot (given w charge) r.need s →
    b ≡ bound_at (given w charge) (rows_in w) r s
