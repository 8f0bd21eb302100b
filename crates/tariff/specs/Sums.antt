-- What sums of charges are bounded by. Assumes nothing.
use Rattle.std.specs.Prelude.{◌≡◌, ℕ, ◌*◌, ◌≤◌, List, [], ◌∷◌, length, ℤ, pos, ◌+ℤ◌}
use Rattle.std.specs.List.{AllByRecursion}
use Rattle.tariff.specs.Charges.{Charge, Within, LawfulTariff}

-- z is a charge of the tariff
abbrev pub Charged : Charge → ℤ → Type 0
Charged w z = (a : ℕ) × (p : ℤ) × (z ≡ w a p)

-- the sum of a list
abbrev pub sum_all : List ℤ → ℤ
sum_all [] = pos 0
sum_all (z ∷ zs) = z +ℤ sum_all zs

-- a sum of charges is at most the greatest charge for each from 0, and a sum of up to 16 at most 16 · 10 ^ 12
pub record SumsSmall (w : Charge) (greatest : ℕ) : Type 0 where
  pub each : (zs : List ℤ) → AllByRecursion (Charged w) zs → Within (length zs * greatest) (sum_all zs)
  pub sixteen : (zs : List ℤ) → AllByRecursion (Charged w) zs → length zs ≤ 16 → Within 16000000000000 (sum_all zs)

-- for every lawful tariff
abbrev pub SumsAreSmall : Type 0
SumsAreSmall = (w : Charge) (greatest : ℕ) → LawfulTariff w greatest → SumsSmall w greatest
