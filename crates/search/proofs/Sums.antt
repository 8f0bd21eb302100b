-- Sums of charges, one case more. Assumes nothing.
use Rattle.std.proofs.Common.{◌≡◌, ℕ, zero, suc, ◌+◌, ◌<◌, List, [], ◌∷◌, length, get_or, take, ℤ, ◌+ℤ◌, ap, ◌∙◌, add-one, arith}
use Rattle.std.proofs.lemmas.Int.{ints}
use Rattle.planning.specs.Plans.{sum_of}

sum_suc : (w : ℕ → ℕ → ℤ) (ns p : List ℕ) (k : ℕ) → k < length ns → k < length p
    → sum_of w (take (suc k) ns) (take (suc k) p) ≡ sum_of w (take k ns) (take k p) +ℤ w (get_or ns k 0) (get_or p k 0)
sum_suc w [] p k l m = absurd (omega arith)
sum_suc w (a ∷ ns) [] k l m = absurd (omega arith)
sum_suc w (a ∷ ns) (s ∷ p) zero l m = omega (arith, ints)
sum_suc w (a ∷ ns) (s ∷ p) (suc k) l m = let e = sum_suc w ns p k (omega arith) (omega arith) in omega (arith, ints)

pub sum_more : (w : ℕ → ℕ → ℤ) (ns p : List ℕ) (k : ℕ) → k < length ns → k < length p
    → sum_of w (take (k + 1) ns) (take (k + 1) p) ≡ sum_of w (take k ns) (take k p) +ℤ w (get_or ns k 0) (get_or p k 0)
sum_more w ns p k l m = ap (λ j. sum_of w (take j ns) (take j p)) (add-one k) ∙ sum_suc w ns p k l m
