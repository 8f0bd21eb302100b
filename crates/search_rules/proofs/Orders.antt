-- Orders of whole numbers: one below, and a test that fails. Assumes nothing.
use Rattle.std.proofs.Common.{◌≡◌, false, ℤ, pos, ◌-ℤ◌, ◌≤ℤ◌, ◌<ℤ◌, arith}
use lib.Signed.{le_z}
use Rattle.std.proofs.lemmas.Int.{ints}

pub below_le : {a b : ℤ} → a ≤ℤ b → (a -ℤ pos 1) ≤ℤ b
below_le h = omega (arith, ints)

pub false_lt : (a b : ℤ) → le_z a b ≡ false → b <ℤ a
false_lt a b e = grind (arith, ints)
