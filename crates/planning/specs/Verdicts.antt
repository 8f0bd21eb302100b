-- What an answer of a pruner says. Assumes nothing.
use Rattle.std.specs.Prelude.{◌≡◌, ℕ, Bool, true, false, cond, List, Some, None, Option, ◌≢◌, refl}
use Rattle.std.proofs.Common.{arith}
use Rattle.std.proofs.lemmas.Bool.{true≢false}

pub some_none : (o : Option (List ℕ)) (p : List ℕ) → o ≡ Some p → o ≢ None
some_none o p e k = let z : ◌≡◌ {A = ℕ} 0 1 = cc in omega arith

-- two tests that must both fail for an answer
pub some_is : (b k : Bool) (es fs : List ℕ) → cond b None (cond k None (Some fs)) ≡ Some es → es ≡ fs
some_is true k es fs e = cc
some_is false true es fs e = cc
some_is false false es fs e = cc

pub none_not : (b k : Bool) (fs : List ℕ) → cond b None (cond k None (Some fs)) ≡ None → b ≡ false → k ≢ false
none_not true k fs e n m = absurd (true≢false n)
none_not false true fs e n m = absurd (true≢false m)
none_not false false fs e n m = some_none (Some fs) fs refl e
