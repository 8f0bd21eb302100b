use Rattle.std.proofs.Common.{◌≡◌, ℕ, ◌^◌, ◌<◌, Bool, ◌&&◌, ltb}
use Rattle.slot_set.specs.Sets.{has}
use Rattle.slot_set.proofs.SlotSet.filter.Given as goal

-- the slots looked at so far that are in the set and pass
abbrev pub invariant-loop-slot : goal.invariant-loop-slot
invariant-loop-slot g l =
    (l.kept.word < 2 ^ 64)
    × ((p : ℕ → Bool) → ((s : ℕ) (b : Bool) → s < 64 → goal.F-post g l.keeps s b → b ≡ p s)
    → (s : ℕ) → has l.kept.word s ≡ (ltb s l.slot && (has l.self.word s && p s)))
