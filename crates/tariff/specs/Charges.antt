-- Tariffs: what a need costs at a price, and the laws that this obeys. Assumes nothing.
use Rattle.std.specs.Prelude.{◌≡◌, ℕ, ◌+◌, ◌-◌, ◌/◌, ◌≤◌, Bool, cond, ◌&&◌, ℤ, pos, ◌+ℤ◌, ◌*ℤ◌, neg_ℤ, ◌≤ℤ◌, int_le, nat_le}

-- the charge of a need at a price
abbrev pub Charge : Type 0
Charge = ℕ → ℤ → ℤ

-- a need in range, in tenths of a kilowatt-hour
pub record Need (a : ℕ) : Type 0 where
  pub low : 1 ≤ a
  pub high : a ≤ 20000

-- a price in range
pub record Price (p : ℤ) : Type 0 where
  pub low : neg_ℤ (pos 50000) ≤ℤ p
  pub high : p ≤ℤ pos 50000

-- z lies at most m from 0
pub record Within (m : ℕ) (z : ℤ) : Type 0 where
  pub low : neg_ℤ (pos m) ≤ℤ z
  pub high : z ≤ℤ pos m

-- what a tariff must show of its charges w and of the greatest charge that it names
pub record LawfulTariff (w : Charge) (greatest : ℕ) : Type 0 where
  -- a higher price charges no less
  pub order : (a : ℕ) (p q : ℤ) → Need a → Price p → Price q → p ≤ℤ q → w a p ≤ℤ w a q
  -- the greater need at the lower price costs no more than the other way round
  pub exchange : (a b : ℕ) (p q : ℤ) → Need a → Need b → Price p → Price q → b ≤ a → p ≤ℤ q →
      (w a p +ℤ w b q) ≤ℤ (w a q +ℤ w b p)
  -- no charge lies farther from 0 than the greatest, and that is at most 10 ^ 12
  pub limit : (a : ℕ) (p : ℤ) → Need a → Price p → Within greatest (w a p)
  pub small : greatest ≤ 1000000000000
  -- outside the ranges it charges 0
  pub outside : (a : ℕ) (p : ℤ) → (Need a → Price p → ⊥) → w a p ≡ pos 0

-- the test of both ranges
abbrev pub in_ranges : ℕ → ℤ → Bool
in_ranges a p = (nat_le 1 a && nat_le a 20000) && (int_le (neg_ℤ (pos 50000)) p && int_le p (pos 50000))

-- some units of a need, each at the price, and 0 outside the ranges
abbrev pub by_units : (ℕ → ℕ) → Charge
by_units units a p = cond (in_ranges a p) (pos (units a) *ℤ p) (pos 0)

-- the plain tariff charges need × price
abbrev pub plain : Charge
plain = by_units (λ a. a)

-- how many blocks of length n a need begins
abbrev pub blocks : ℕ → ℕ → ℕ
blocks n a = (a + (n - 1)) / n

-- the block tariff of a length charges the begun blocks of that length, each at the price
abbrev pub block : ℕ → Charge
block n = by_units (blocks n)
