-- The search as a list of frames: the part-plans that were asked and not left, the latest first. Assumes nothing.
use Rattle.std.specs.Prelude.{◌≡◌, ℕ, suc, ◌+◌, ◌-◌, ◌^◌, ◌<◌, true, not, List, [], ◌∷◌, ◌++◌, length, take, filter, Some, None, Option, slice_index, slice_set}
use Rattle.slot_set.specs.Sets.{has, from}
use Rattle.planning.specs.Plans.{Given, used}
use Rattle.planning.specs.Pruners.{Prune}
use Rattle.search_rules.specs.Search.{State, visit, try_each}
use Rattle.search.specs.declared.saving.Saved.{Saved}
use Rattle.search.specs.declared.deciding.Decision.{Decision}
use Rattle.search.specs.Saves.{undone, kept}

-- a part-plan that was asked and not left: its slots, the new sets that the pruner gave, the slots still to try for its next case, and how many cases are open after that one
pub record Frame : Type 0 where
  pub plan : List ℕ
  pub sets : List ℕ
  pub untried : List ℕ
  pub left : ℕ

-- the rest of the search from a state: each frame's slots in turn, the latest frame first
abbrev pub resume : Given → Prune → ℕ → List Frame → State → State
resume g f limit [] t = t
resume g f limit (r ∷ rs) t =
    resume g f limit rs (try_each (λ s. visit g f limit r.left (r.plan ++ (s ∷ [])) (slice_set r.sets (length r.plan) (2 ^ s))) r.untried t)

-- the slots from k to 63. Shut unless a proof opens it, since a test of 64 slots computes long
unfoldable pub slots_from : ℕ → List ℕ
slots_from k = from k (64 - k)

-- the slots of a set that are not below k and that the part-plan p does not use
abbrev pub untried : List ℕ → ℕ → ℕ → List ℕ
untried p word k = filter (λ s. not (used s p)) (filter (has word) (slots_from k))

-- the lowest of them, which begins what there is to try; without one there is nothing to try
abbrev pub NextUntried : List ℕ → ℕ → ℕ → Option ℕ → Type 0
NextUntried p word k None = untried p word k ≡ []
NextUntried p word k (Some s) = (s < 64) × (has word s ≡ true) × (untried p word k ≡ s ∷ untried p word (s + 1))

-- a decision once a slot is tried
abbrev pub after_slot : Decision → ℕ → Decision
after_slot d s = record { mark = d.mark; next = s + 1 }

-- the frames that the code's stacks stand for, with n cases: one for each open decision; the sets of an earlier frame are what the saved entries down to the later one's mark come to
abbrev pub frames : ℕ → List ℕ → List Decision → List Saved → List ℕ → List Frame
frames n plan [] sv ds = []
frames n plan (d ∷ os) sv ds =
    record { plan = take (length os) plan; sets = take n ds; untried = untried (take (length os) plan) (slice_index (take n ds) (length os)) d.next; left = n - suc (length os) }
    ∷ frames n plan os (kept d.mark sv) (undone d.mark sv ds)

-- the rest of the search from the code's plan, stacks and sets, at a state
abbrev pub goes : Given → Prune → ℕ → ℕ → List ℕ → List Decision → List Saved → List ℕ → State → State
goes g f limit n plan os sv ds t = resume g f limit (frames n plan os sv ds) t
