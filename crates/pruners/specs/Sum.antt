-- The pruner Sum: each case at its least charge. Assumes nothing.
use Rattle.std.specs.Prelude.{◌≡◌, ℕ, ◌<◌, cond, List, [], ◌∷◌, ℤ, pos, ◌+ℤ◌, ◌-ℤ◌, Some, None, int_le, int_lt, slice_index, slice_index_or}
use Rattle.slot_set.specs.Sets.{members, keep, some_empty}
use Rattle.planning.specs.Plans.{Given, at_slot}
use Rattle.planning.specs.Pruners.{Prune}
use Rattle.planning.specs.Working.{given}
use Rattle.planning.specs.declared.working_sheet.WorkingSheet.{WorkingSheet}
use Rattle.tariff.specs.Charges.{Charge}

-- the least charge over some slots
abbrev pub least : (ℕ → ℤ) → List ℕ → ℤ
least w [] = pos 0
least w (s ∷ []) = w s
least w (s ∷ (t ∷ ss)) = cond (int_le (w s) (least w (t ∷ ss))) (w s) (least w (t ∷ ss))

-- the least charge of a need over a set
abbrev pub least_in : Given → ℕ → ℕ → ℤ
least_in g a d = least (at_slot g a) (members d)

-- the sum of these
abbrev pub leasts : Given → List ℕ → List ℕ → ℤ
leasts g [] ds = pos 0
leasts g (a ∷ ns) [] = pos 0
leasts g (a ∷ ns) (d ∷ ds) = least_in g a d +ℤ leasts g ns ds

-- a slot stays if, with all other cases at their least, the sum m then does not exceed the ceiling c
abbrev pub sum_strike : Given → ℤ → ℤ → List ℕ → List ℕ → List ℕ
sum_strike g c m [] ds = []
sum_strike g c m (a ∷ ns) [] = []
sum_strike g c m (a ∷ ns) (d ∷ ds) = keep (λ s. int_le ((m -ℤ least_in g a d) +ℤ at_slot g a s) c) d ∷ sum_strike g c m ns ds

-- dead if a set is empty or the sum exceeds the ceiling
abbrev pub sum : Prune
sum g c ds =
    cond (some_empty ds) None
    (let m : ℤ = leasts g g.needs ds in cond (int_lt c m) None (Some (sum_strike g c m g.needs ds)))

-- ms has the least charge of each case of a working sheet at its place
abbrev pub LeastEach : WorkingSheet → Charge → List ℤ → Type 0
LeastEach w charge ms = (i : ℕ) → i < w.count → slice_index_or ms i (pos 0) ≡ least_in (given w charge) (slice_index w.needs i) (slice_index w.sets i)
