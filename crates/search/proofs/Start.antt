-- A trail with no change. Assumes nothing.
use Rattle.std.proofs.Common.{◌≡◌, ℕ, suc, ◌*◌, ◌^◌, ◌<◌, ◌≤◌, List, [], ◌∷◌, length, get_or, sym, subst, arith}
use lib.Count.{ones-le}
use Rattle.stack.specs.declared.Stack.{Stack}
use Rattle.stack.specs.Entries.{held}
use Rattle.stack.proofs.Laws.{held_none}
use Rattle.planning.specs.declared.working_sheet.WorkingSheet.{WorkingSheet}
use Rattle.search.specs.declared.saving.Saved.{Saved}
use Rattle.search.specs.Saves.{weight, Through}

weight_le : (ds : List ℕ) → ((i : ℕ) → get_or ds i 0 < 2 ^ 64) → weight ds ≤ 64 * length ds
weight_le [] h = omega arith
weight_le (d ∷ ds) h = omega (arith, ones-le 64 d (h 0), weight_le ds (λ i. h (suc i)))

pub through_start : (s : Stack Saved) (w : WorkingSheet) → s.height ≡ 0 → ((i : ℕ) → get_or w.sets i 0 < 2 ^ 64) → Through w.opened (held s) w.sets
through_start s w e h = subst (λ es. Through w.opened es w.sets) (sym (held_none s e)) (record { fits = (let l = w.sized in omega (arith, weight_le w.sets h)); usable = w.usable })
