-- The pruner Bound: free cases by falling need, matched to their slots by rising price. Assumes nothing.
use Rattle.std.specs.Prelude.{◌≡◌, ℕ, suc, ◌-◌, ◌<◌, ◌≤◌, Bool, false, cond, not, ◌&&◌, ◌||◌, List, [], ◌∷◌, map, length, ℤ, pos, ◌+ℤ◌, ◌-ℤ◌, Some, None, filter, ◌==◌, int_le, int_lt, nat_eq, nat_le, nat_lt}
use Rattle.planning.specs.Lists.{In}
use Rattle.bound.specs.Orderings.{count, in_order, without_first, Place, kth, sum_to}
use Rattle.slot_set.specs.Sets.{has, every_slot, keep, single, some_empty}
use Rattle.planning.specs.Plans.{Given, price, at_slot, sum_of}
use Rattle.planning.specs.Pruners.{Prune}
use Rattle.pruners.specs.Sum.{least_in}

-- a standing case: its row, its need and its working set
pub record Row : Type 0 where
  pub row : ℕ
  pub need : ℕ
  pub slots : ℕ

-- the rows from i on
abbrev pub rows_from : ℕ → List ℕ → List ℕ → List Row
rows_from i [] ds = []
rows_from i (a ∷ ns) [] = []
rows_from i (a ∷ ns) (d ∷ ds) = record { row = i; need = a; slots = d } ∷ rows_from (suc i) ns ds

-- a case is fixed when its set has one slot, else free
abbrev pub free : Row → Bool
free r = not (single r.slots)

-- the free cases
abbrev pub free_of : List Row → List Row
free_of rs = filter free rs

-- A: the sum of the charges of the fixed cases
abbrev pub fixed_sum : Given → List Row → ℤ
fixed_sum g [] = pos 0
fixed_sum g (r ∷ rs) = cond (single r.slots) (least_in g r.need r.slots +ℤ fixed_sum g rs) (fixed_sum g rs)

-- r stands before q: greater need, or the same need and a lower row
abbrev pub row_before : Row → Row → Bool
row_before r q = nat_lt q.need r.need || (q.need == r.need && nat_lt r.row q.row)

-- s stands before t: lower price, or the same price and a lower number
abbrev pub slot_before : Given → ℕ → ℕ → Bool
slot_before g s t = int_lt (price g s) (price g t) || (not (int_lt (price g t) (price g s)) && nat_lt s t)

-- slot s is in the set of one of the rows
abbrev pub in_some : List Row → ℕ → Bool
in_some [] s = false
in_some (r ∷ rs) s = has r.slots s || in_some rs s

-- the slots of the free cases, each once
abbrev pub union : List Row → List ℕ
union rs = filter (in_some (free_of rs)) every_slot

-- U: the free cases in order
abbrev pub U : List Row → List Row
U rs = in_order row_before (free_of rs)

-- V: their slots in order
abbrev pub V : Given → List Row → List ℕ
V g rs = in_order (slot_before g) (union rs)

-- the rows without row i
abbrev pub without_row : ℕ → List Row → List Row
without_row i rs = without_first (λ r. nat_eq i r.row) rs

-- the slots without slot s
abbrev pub without_slot : ℕ → List ℕ → List ℕ
without_slot s ts = without_first (λ t. nat_eq s t) ts

-- the need of a row
abbrev pub need_of : Row → ℕ
need_of r = r.need

-- the charges of cases matched to slots, first to first and so on
abbrev pub matched : Given → List Row → List ℕ → ℤ
matched g us vs = sum_of (at_slot g) (map need_of us) vs

-- the bound
abbrev pub bound : Given → List Row → ℤ
bound g rs = fixed_sum g rs +ℤ matched g (U rs) (V g rs)

-- the bound under the choice of slot s for row r: the rest of U matched to the rest of V
abbrev pub bound_at : Given → List Row → Row → ℕ → ℤ
bound_at g rs r s = (fixed_sum g rs +ℤ at_slot g r.need s) +ℤ matched g (without_row r.row (U rs)) (without_slot s (V g rs))

-- each free case keeps the slots that pass
abbrev pub bound_strike : (Row → ℕ → Bool) → List Row → List ℕ
bound_strike keeps [] = []
bound_strike keeps (r ∷ rs) = cond (single r.slots) r.slots (keep (keeps r) r.slots) ∷ bound_strike keeps rs

-- the free cases without the slots under whose choice the bound exceeds the ceiling
abbrev pub bound_new : Given → ℤ → List Row → List ℕ
bound_new g c rs = bound_strike (λ r s. int_le (bound_at g rs r s) c) rs

-- dead if a set is empty, the free cases have too few slots, the bound exceeds the ceiling or a set is left empty
abbrev pub bound_prune : Prune
bound_prune g c ds =
    let rs : List Row = rows_from 0 g.needs ds in
    cond (some_empty ds || nat_lt (length (V g rs)) (length (U rs)) || int_lt c (bound g rs)) None
    (let new : List ℕ = bound_new g c rs in cond (some_empty new) None (Some new))

-- ---- the same from three sums, with nothing sorted

-- the place of a free case is 1 plus the count of those before it
abbrev pub row_place : List Row → Row → ℕ
row_place rs r = suc (count (λ q. row_before q r) (free_of rs))

-- the place of a slot, likewise
abbrev pub slot_place : Given → List Row → ℕ → ℕ
slot_place g rs s = suc (count (λ t. slot_before g t s) (union rs))

-- w(j, k): the charge of the j-th of U in the k-th of V
abbrev pub pair : Given → List Row → ℕ → ℕ → ℤ
pair g rs j k = at_slot g (kth (map need_of (U rs)) j) (kth (V g rs) k)

-- these are the places in U and in V, each place is somebody's, and w is the charge of those who stand there
pub record Places (g : Given) (rs : List Row) : Type 0 where
  pub of_row : (r : Row) → In r (free_of rs) → Place r (U rs) (row_place rs r)
  pub of_slot : (s : ℕ) → In s (union rs) → Place s (V g rs) (slot_place g rs s)
  pub row_at : (k : ℕ) → 1 ≤ k → k ≤ length (free_of rs) → (r : Row) × In r (free_of rs) × (row_place rs r ≡ k)
  pub slot_at : (k : ℕ) → 1 ≤ k → k ≤ length (union rs) → (s : ℕ) × In s (union rs) × (slot_place g rs s ≡ k)
  pub charge_at : (r : Row) (s : ℕ) → In r (free_of rs) → In s (union rs) → pair g rs (row_place rs r) (slot_place g rs s) ≡ at_slot g r.need s

-- for the rows of any sheet
abbrev pub PlaceIsCount : Type 0
PlaceIsCount = (g : Given) (ds : List ℕ) → Places g (rows_from 0 g.needs ds)

-- C(k): the sum over j from 1 to k of w(j, j)
abbrev pub C : Given → List Row → ℕ → ℤ
C g rs = sum_to (λ j. pair g rs j j)

-- L(k): the same of w(j + 1, j)
abbrev pub L : Given → List Row → ℕ → ℤ
L g rs = sum_to (λ j. pair g rs (suc j) j)

-- R(k): the same of w(j, j + 1)
abbrev pub R : Given → List Row → ℕ → ℤ
R g rs = sum_to (λ j. pair g rs j (suc j))

-- the smaller of two numbers
abbrev pub smaller : ℕ → ℕ → ℕ
smaller a b = cond (nat_le a b) a b

-- what a bound b under the choice of the slot at place v for the case at place c comes to; n is the number of free cases
pub record BySums (g : Given) (rs : List Row) (n c v : ℕ) (b : ℤ) : Type 0 where
  pub same : v ≡ c → b ≡ (fixed_sum g rs +ℤ C g rs n)
  pub later : c < v → let e : ℕ = smaller v n in
      b ≡ ((((fixed_sum g rs +ℤ C g rs (c - 1)) +ℤ pair g rs c v) +ℤ (L g rs (e - 1) -ℤ L g rs (c - 1))) +ℤ (C g rs n -ℤ C g rs e))
  pub earlier : v < c →
      b ≡ ((((fixed_sum g rs +ℤ C g rs (v - 1)) +ℤ pair g rs c v) +ℤ (R g rs (c - 1) -ℤ R g rs (v - 1))) +ℤ (C g rs n -ℤ C g rs c))

-- the bound is A + C(n), and the bound under each choice follows from the three sums and the two places
pub record FromSums (g : Given) (rs : List Row) (n : ℕ) : Type 0 where
  pub whole : bound g rs ≡ (fixed_sum g rs +ℤ C g rs n)
  pub choice : (r : Row) (s : ℕ) → In r (free_of rs) → In s (union rs) → BySums g rs n (row_place rs r) (slot_place g rs s) (bound_at g rs r s)

-- for the rows of any sheet, if the free cases have slots enough
abbrev pub BoundBySums : Type 0
BoundBySums = (g : Given) (ds : List ℕ) → let rs : List Row = rows_from 0 g.needs ds in let n : ℕ = length (free_of rs) in
    n ≤ length (union rs) → FromSums g rs n
