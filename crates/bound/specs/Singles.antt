-- Sets of one slot, and slots apart. Assumes nothing.
use Rattle.std.specs.Prelude.{◌≡◌, ℕ, ◌<◌, true, List, [], ◌∷◌, length, ℤ, ◌≢◌}
use Rattle.std.proofs.Common.{inl, inr, ap, sym, arith}
use Rattle.std.proofs.lemmas.Bool.{eqb-true}
use Rattle.slot_set.specs.Sets.{every_slot, has, members, single}
use Rattle.planning.specs.Lists.{In, Ordered}
use Rattle.planning.proofs.Lists.{ordered_weaker}
use Rattle.planning.proofs.Slots.{every_rises, in_slots}
use Rattle.pruners.specs.Sum.{least}

pub every_apart : Ordered (λ s t. s ≢ t) every_slot
every_apart = ordered_weaker (λ s t. s < t) (λ s t. s ≢ t) (λ s t l e. omega arith) every_slot every_rises

one_least : (w : ℕ → ℤ) (xs : List ℕ) → length xs ≡ 1 → (s : ℕ) → In s xs → least w xs ≡ w s
one_least w [] e s m = absurd m
one_least w (x ∷ []) e s (inl m) = ap w (sym m)
one_least w (x ∷ []) e s (inr m) = absurd m
one_least w (x ∷ (y ∷ xs)) e s m = absurd (omega arith)

pub single_least : (w : ℕ → ℤ) (d s : ℕ) → single d ≡ true → s < 64 → has d s ≡ true → least w (members d) ≡ w s
single_least w d s e h p = one_least w (members d) (eqb-true (length (members d)) 1 e) s (in_slots (has d) s h p)
