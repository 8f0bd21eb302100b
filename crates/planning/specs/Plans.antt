-- Plans: one slot for each standing case, their totals, their order and their list. Assumes nothing.
use Rattle.std.specs.Prelude.{◌≡◌, ℕ, suc, ◌+◌, ◌<◌, Bool, true, false, not, ◌||◌, ◌⊎◌, List, [], ◌∷◌, ◌++◌, length, ℤ, pos, ◌+ℤ◌, filter, ◌==◌, ◌≢◌, slice_index, slice_index_or}
use Rattle.std.specs.List.{AllByRecursion}
use Rattle.planning.specs.Lists.{In, Ordered}
use Rattle.slot_set.specs.Sets.{has, members}
use Rattle.tariff.specs.Charges.{Charge}

-- what a pruner and a search are given: the needs of the standing cases in row order, the price of each slot, the tariff's charges
pub record Given : Type 0 where
  pub needs : List ℕ
  pub prices : List ℤ
  pub charge : Charge

-- the price of a slot
abbrev pub price : Given → ℕ → ℤ
price g s = slice_index_or g.prices s (pos 0)

-- the charge of a need in a slot
abbrev pub at_slot : Given → ℕ → ℕ → ℤ
at_slot g a s = g.charge a (price g s)

-- the charges of needs matched to slots, first to first and so on, until one of the lists ends
abbrev pub sum_of : (ℕ → ℕ → ℤ) → List ℕ → List ℕ → ℤ
sum_of w [] ss = pos 0
sum_of w (a ∷ ns) [] = pos 0
sum_of w (a ∷ ns) (s ∷ ss) = w a s +ℤ sum_of w ns ss

-- the total of a plan
abbrev pub total : Given → List ℕ → ℤ
total g p = sum_of (at_slot g) g.needs p

-- slot s is not among these
abbrev pub Absent : ℕ → List ℕ → Type 0
Absent s ts = AllByRecursion (λ t. s ≢ t) ts

-- a plan drawn from sets: each slot lies in its set, and no two are alike
abbrev pub Drawn : List ℕ → List ℕ → Type 0
Drawn [] [] = Unit {0}
Drawn [] (s ∷ p) = ⊥
Drawn (d ∷ ds) [] = ⊥
Drawn (d ∷ ds) (s ∷ p) = (s < 64) × (has d s ≡ true) × Absent s p × Drawn ds p

-- a part-plan drawn from the first sets: each slot lies in its set, and no two are alike
abbrev pub Begun : List ℕ → List ℕ → Type 0
Begun ds [] = Unit {0}
Begun [] (s ∷ p) = ⊥
Begun (d ∷ ds) (s ∷ p) = (s < 64) × (has d s ≡ true) × Absent s p × Begun ds p

-- p stands before q in plan order: it has the smaller slot in the lowest row where they differ
abbrev pub Before : List ℕ → List ℕ → Type 0
Before [] q = ⊥
Before (s ∷ p) [] = ⊥
Before (s ∷ p) (t ∷ q) = (s < t) ⊎ ((s ≡ t) × Before p q)

-- the part-plan p uses slot s
abbrev pub used : ℕ → List ℕ → Bool
used s [] = false
used s (t ∷ ts) = s == t || used s ts

-- the slots of a set that the part-plan p does not use yet, rising
abbrev pub choices : List ℕ → ℕ → List ℕ
choices p d = filter (λ s. not (used s p)) (members d)

-- the sum of f over a list
abbrev pub add_over : (ℕ → ℕ) → List ℕ → ℕ
add_over f [] = 0
add_over f (s ∷ ss) = f s + add_over f ss

-- the number of part-plans that begin with the part-plan p, p included; ds are the sets of the cases still open
abbrev pub parts : List ℕ → List ℕ → ℕ
parts [] p = 1
parts (d ∷ ds) p = suc (add_over (λ s. parts ds (p ++ (s ∷ []))) (choices p d))

-- the lists that f makes of each, one after the other
abbrev pub gather : (ℕ → List (List ℕ)) → List ℕ → List (List ℕ)
gather f [] = []
gather f (s ∷ ss) = f s ++ gather f ss

-- the plans that begin with the part-plan p, in plan order; ds are the sets of the cases still open
abbrev pub plans : List ℕ → List ℕ → List (List ℕ)
plans [] p = p ∷ []
plans (d ∷ ds) p = gather (λ s. plans ds (p ++ (s ∷ []))) (choices p d)

-- the part-plans that begin with the part-plan p, p included; ds are the sets of the cases still open
abbrev pub part_plans : List ℕ → List ℕ → List (List ℕ)
part_plans [] p = p ∷ []
part_plans (d ∷ ds) p = p ∷ gather (λ s. part_plans ds (p ++ (s ∷ []))) (choices p d)

-- the list of all plans has those that are drawn from the sets, and no others, in plan order, each once
pub record Listed (us : List ℕ) : Type 0 where
  pub only : (q : List ℕ) → In q (plans us []) → Drawn us q
  pub all : (q : List ℕ) → Drawn us q → In q (plans us [])
  pub order : Ordered Before (plans us [])
  pub once : Ordered (λ p q. p ≢ q) (plans us [])

-- for all sets
abbrev pub PlansListed : Type 0
PlansListed = (us : List ℕ) → Listed us

-- the list of all part-plans has those that are drawn from the first sets, and no others, each once, and is as long as their number
pub record PartPlansListed (us : List ℕ) : Type 0 where
  pub only : (q : List ℕ) → In q (part_plans us []) → Begun us q
  pub all : (q : List ℕ) → Begun us q → In q (part_plans us [])
  pub once : Ordered (λ p q. p ≢ q) (part_plans us [])
  pub number : parts us [] ≡ length (part_plans us [])

-- for all sets
abbrev pub PartPlansAreListed : Type 0
PartPlansAreListed = (us : List ℕ) → PartPlansListed us

-- of two plans drawn from the sets, either they are the same or one stands before the other, never both; plans with the same slot in each row are the same
pub record PlanOrder (us : List ℕ) : Type 0 where
  pub total : (p q : List ℕ) → Drawn us p → Drawn us q → (p ≡ q) ⊎ (Before p q ⊎ Before q p)
  pub strict : (p q : List ℕ) → Before p q → Before q p → ⊥
  pub never : (p : List ℕ) → Before p p → ⊥
  pub agree : (p q : List ℕ) → Drawn us p → Drawn us q → ((k : ℕ) → slice_index p k ≡ slice_index q k) → p ≡ q

-- for all sets
abbrev pub PlansAreOrdered : Type 0
PlansAreOrdered = (us : List ℕ) → PlanOrder us
