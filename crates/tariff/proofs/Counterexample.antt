-- The charges of needs 6 and 5 at prices 2 and 5, rounded up to tens, break the exchange law. Assumes nothing.
use Rattle.std.proofs.Common.{pos, ◌+ℤ◌, ◌≤ℤ◌, arith}
use Rattle.std.proofs.lemmas.Int.{ints}
use Rattle.tariff.specs.Rounding.{RoundedIsUnlawful}

-- 20 and 30 are not within 30 and 10
pub rounded_is_unlawful : RoundedIsUnlawful
rounded_is_unlawful greatest law =
    let broken : (pos 20 +ℤ pos 30) ≤ℤ (pos 30 +ℤ pos 10) =
    law.exchange 6 5 (pos 2) (pos 5)
    (record { low = omega arith; high = omega arith }) (record { low = omega arith; high = omega arith })
    (record { low = omega (arith, ints); high = omega (arith, ints) }) (record { low = omega (arith, ints); high = omega (arith, ints) })
    (omega arith) (omega (arith, ints)) in
    omega (arith, ints)
