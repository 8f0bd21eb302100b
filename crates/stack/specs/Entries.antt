-- The entries of a stack, the latest first. Assumes nothing.
use Rattle.std.specs.Prelude.{◌≡◌, ℕ, ◌+◌, Bool, true, false, List, [], ◌∷◌, reverse, length, take, Some, None, Ok, Err, Option, Result}
use Rattle.stack.specs.declared.Stack.{Stack}

-- the first h places, the latest first. Shut unless a proof opens it, so that contracts speak of entries alone
unfoldable pub entries : {X : Type 0} → ℕ → List X → List X
entries h xs = reverse (take h xs)

-- what a stack holds, the latest first
abbrev pub held : {X : Type 0} → Stack X → List X
held s = entries s.height s.places.now

-- how many entries a stack has places for
abbrev pub room : {X : Type 0} → Stack X → ℕ
room s = length s.places.now

-- what a push of e answers: e back where there was no room
abbrev pub pushed : {X : Type 0} → Bool → X → Result (Unit {0}) X
pushed true e = Ok tt
pushed false e = Err e

-- taking the latest entry off s leaves t: nothing is taken off an empty stack, and else the latest entry alone
abbrev pub Popped : {X : Type 0} → Option X → Stack X → Stack X → Type 0
Popped None s t = (held s ≡ []) × (held t ≡ []) × (s.height ≡ 0) × (t.height ≡ 0)
Popped (Some e) s t = (held s ≡ e ∷ held t) × (s.height ≡ t.height + 1)
