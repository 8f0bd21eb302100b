-- Saved sets: what putting them back gives, and why there is always a place for one more. Assumes nothing.
use Rattle.std.specs.Prelude.{◌≡◌, ℕ, suc, ◌+◌, ◌<◌, ◌≤◌, cond, ◌⊎◌, List, [], ◌∷◌, length, count_ones, nat_lt, slice_set}
use Rattle.std.specs.Coded.{×_prop}
use Rattle.std.proofs.Props.{props}
use Rattle.planning.specs.Invariants.{Open}
use Rattle.search.specs.declared.saving.Saved.{Saved}

-- the sets ds after the saved entries, latest first, are put back down to m of them
abbrev pub undone : ℕ → List Saved → List ℕ → List ℕ
undone m [] ds = ds
undone m (e ∷ es) ds = cond (nat_lt (length es) m) ds (undone m es (slice_set ds e.row e.slots))

-- the saved entries that are left then
abbrev pub kept : ℕ → List Saved → List Saved
kept m [] = []
kept m (e ∷ es) = cond (nat_lt (length es) m) (e ∷ es) (kept m es)

-- how many slots the sets have, each set counted
abbrev pub weight : List ℕ → ℕ
weight [] = 0
weight (d ∷ ds) = count_ones d + weight ds

-- what holds of sets after h saved entries: a row is saved only where its set loses a slot, so that entries and slots together are never more than 16 times 64; and no set holds a closed slot
pub record Level (opened h : ℕ) (ds : List ℕ) : Type 0 where
  pub fits : h + weight ds ≤ 1024
  pub usable : Open opened ds

-- it holds now and after each entry that is put back
abbrev pub Through : ℕ → List Saved → List ℕ → Type 0
Through opened [] ds = Level opened 0 ds
Through opened (e ∷ es) ds = Level opened (suc (length es)) ds × Through opened es (slice_set ds e.row e.slots)

level_prop : (opened h : ℕ) (ds : List ℕ) → IsProp (Level opened h ds)
level_prop opened h ds = Prim.hlevel props

-- it can be shown in one way only
pub through_prop : (opened : ℕ) (es : List Saved) (ds : List ℕ) → IsProp (Through opened es ds)
through_prop opened [] ds = level_prop opened 0 ds
through_prop opened (e ∷ es) ds = ×_prop (level_prop opened (suc (length es)) ds) (through_prop opened es (slice_set ds e.row e.slots))

-- a set is as it was or has fewer slots
abbrev pub Fewer : ℕ → ℕ → Type 0
Fewer a b = (a ≡ b) ⊎ (count_ones a < count_ones b)
