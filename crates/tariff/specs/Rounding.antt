-- A tariff that looks harmless and is not lawful: the plain charge rounded up to tens. Assumes nothing.
use Rattle.std.specs.Prelude.{◌≡◌, ℕ, suc, ◌+◌, ◌*◌, ◌/◌, cond, ℤ, pos, negsuc, ◌+ℤ◌, ◌*ℤ◌, neg_ℤ}
use Rattle.tariff.specs.Charges.{Charge, LawfulTariff, in_ranges}

-- the least multiple of ten that is not below z
abbrev pub up_to_tens : ℤ → ℤ
up_to_tens (pos n) = pos ((n + 9) / 10 * 10)
up_to_tens (negsuc n) = neg_ℤ (pos (suc n / 10 * 10))

abbrev pub rounded : Charge
rounded a p = cond (in_ranges a p) (up_to_tens (pos a *ℤ p)) (pos 0)

-- whatever greatest charge it names
abbrev pub RoundedIsUnlawful : Type 0
RoundedIsUnlawful = (greatest : ℕ) → LawfulTariff rounded greatest → ⊥

-- the two sums that the exchange law compares for needs 6 and 5 at prices 2 and 5
abbrev pub Exchanged : ℕ → ℕ → Type 0
Exchanged straight crossed = (pos straight ≡ rounded 6 (pos 2) +ℤ rounded 5 (pos 5)) × (pos crossed ≡ rounded 6 (pos 5) +ℤ rounded 5 (pos 2))
