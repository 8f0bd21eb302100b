-- The plain and the block tariff are lawful. Assumes nothing.
use Rattle.std.specs.Prelude.{◌≡◌, ℕ, zero, suc, ◌+◌, ◌-◌, ◌/◌, ◌≤◌, true, ◌&&◌, ℤ, pos, ◌+ℤ◌, ◌*ℤ◌, neg_ℤ, ◌≤ℤ◌, int_le, nat_le, refl}
use Rattle.std.proofs.Common.{subst, mul-le-mul_left, arith}
use Rattle.std.proofs.Math.Nat.{div-le_of_le-mul}
use borrow.Author.Differences.{down, up}
use Rattle.std.proofs.lemmas.Nat.{div-add-mod', le-div}
use Rattle.std.proofs.lemmas.Int.{ints}
use Rattle.std.proofs.lemmas.Bool.{and_from, and_parts, cond_both, cond-true, le-leb, leb-true}
use Rattle.tariff.specs.Charges.{LawfulTariff, Need, Price, Within, blocks, by_units, in_ranges, plain, block}
use Rattle.tariff.specs.Orders.{int_le_true, true_le}

-- ---- charges in proportion to the price, by a number of units that rises with the need

parts_le : (p q : ℤ) → p ≤ℤ q → up p + down q ≤ up q + down p
parts_le p q h = omega (arith, ints)

scaled_order : (m : ℕ) (p q : ℤ) → p ≤ℤ q → (pos m *ℤ p) ≤ℤ (pos m *ℤ q)
scaled_order m p q h = omega (arith, ints, mul-le-mul_left m (parts_le p q h))

exchange_by : (n k : ℕ) (p q : ℤ) → p ≤ℤ q → ((pos (n + k) *ℤ p) +ℤ (pos n *ℤ q)) ≤ℤ ((pos (n + k) *ℤ q) +ℤ (pos n *ℤ p))
exchange_by n k p q h = omega (arith, ints, mul-le-mul_left k (parts_le p q h))

scaled_exchange : (m n : ℕ) (p q : ℤ) → n ≤ m → p ≤ℤ q → ((pos m *ℤ p) +ℤ (pos n *ℤ q)) ≤ℤ ((pos m *ℤ q) +ℤ (pos n *ℤ p))
scaled_exchange m n p q l h =
    let e : n + (m - n) ≡ m = omega arith in
    subst (λ (x : ℕ). ((pos x *ℤ p) +ℤ (pos n *ℤ q)) ≤ℤ ((pos x *ℤ q) +ℤ (pos n *ℤ p))) e (exchange_by n (m - n) p q h)

scaled_limit : (m : ℕ) (p : ℤ) → m ≤ 20000 → Price p → Within 1000000000 (pos m *ℤ p)
scaled_limit m p l h =
    let k : neg_ℤ (pos 50000) ≤ℤ p = h.low in
    let k' : p ≤ℤ pos 50000 = h.high in
    record {
      low = omega (arith, ints, scaled_order m (neg_ℤ (pos 50000)) p k);
      high = omega (arith, ints, scaled_order m p (pos 50000) k');
    }

-- ---- the ranges

pub in_yes : (a : ℕ) (p : ℤ) → Need a → Price p → in_ranges a p ≡ true
in_yes a p n r =
    and_from (nat_le 1 a && nat_le a 20000) (int_le (neg_ℤ (pos 50000)) p && int_le p (pos 50000))
    (and_from (nat_le 1 a) (nat_le a 20000) (le-leb 1 a n.low) (le-leb a 20000 n.high))
    (and_from (int_le (neg_ℤ (pos 50000)) p) (int_le p (pos 50000)) (int_le_true (neg_ℤ (pos 50000)) p r.low) (int_le_true p (pos 50000) r.high))

pub in_told : (a : ℕ) (p : ℤ) → in_ranges a p ≡ true → Need a × Price p
in_told a p e =
    let x = and_parts (nat_le 1 a && nat_le a 20000) (int_le (neg_ℤ (pos 50000)) p && int_le p (pos 50000)) e in
    let y = and_parts (nat_le 1 a) (nat_le a 20000) x.0 in
    let z = and_parts (int_le (neg_ℤ (pos 50000)) p) (int_le p (pos 50000)) x.1 in
    (record { low = leb-true 1 a y.0; high = leb-true a 20000 y.1 }, record { low = true_le (neg_ℤ (pos 50000)) p z.0; high = true_le p (pos 50000) z.1 })

module _ (units : ℕ → ℕ) (rises : (a b : ℕ) → b ≤ a → units b ≤ units a) (few : (a : ℕ) → 1 ≤ a → units a ≤ a) where
  inside : (a : ℕ) (p : ℤ) → Need a → Price p → by_units units a p ≡ (pos (units a) *ℤ p)
  inside a p n r = cond-true (in_ranges a p) (pos (units a) *ℤ p) (pos 0) (in_yes a p n r)

  units_lawful : LawfulTariff (by_units units) 1000000000
  units_lawful = record {
    order = λ a p q n r r' h. rw (inside a p n r, inside a q n r') (scaled_order (units a) p q h);
    exchange = λ a b p q n n' r r' l h. rw (inside a p n r, inside b q n' r', inside a q n r', inside b p n' r) (scaled_exchange (units a) (units b) p q (rises a b l) h);
    limit = λ a p n r. rw (inside a p n r) (scaled_limit (units a) p (under a n) r);
    small = omega arith;
    outside = λ a p out. cond_both (in_ranges a p) (pos (units a) *ℤ p) (pos 0) (λ z. z ≡ pos 0) (λ e. let h = in_told a p e in absurd (out h.0 h.1)) (λ _. refl);
  }
    where
      under : (a : ℕ) → Need a → units a ≤ 20000
      under a n = let h : a ≤ 20000 = n.high in omega (arith, few a n.low)

div_rises : (x y n : ℕ) → 1 ≤ n → y ≤ x → (y / n) ≤ (x / n)
div_rises x y n h l = le-div (y / n) x n h (omega (arith, div-add-mod' y n))

pub blocks_few : (n a : ℕ) → 1 ≤ n → 1 ≤ a → blocks n a ≤ a
blocks_few n zero h k = absurd (omega arith)
blocks_few zero (suc b) h k = absurd (omega arith)
blocks_few (suc m) (suc b) h k = div-le_of_le-mul (suc m) (omega arith)

pub plain_lawful : LawfulTariff plain 1000000000
plain_lawful = units_lawful (λ a. a) (λ a b l. l) (λ a _. omega arith)

pub block_lawful : (n : ℕ) → 1 ≤ n → LawfulTariff (block n) 1000000000
block_lawful n h = units_lawful (blocks n) (λ a b l. div_rises (a + (n - 1)) (b + (n - 1)) n h (omega arith)) (λ a k. blocks_few n a h k)
