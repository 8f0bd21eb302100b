-- Sums of charges are small. Assumes nothing.
use Rattle.std.proofs.Common.{ℕ, suc, ◌+◌, ◌*◌, ◌≤◌, List, [], ◌∷◌, length, ℤ, ◌+ℤ◌, sym, subst, ⊎_elim, arith}
use Rattle.std.proofs.lemmas.Nat.{mul-le}
use Rattle.std.proofs.lemmas.Int.{ints}
use Rattle.std.proofs.lemmas.Bool.{both_ways, cases_Bool}
use Rattle.std.specs.List.{AllByRecursion}
use Rattle.tariff.specs.Charges.{Charge, LawfulTariff, Within, in_ranges}
use Rattle.tariff.specs.Sums.{Charged, SumsSmall, SumsAreSmall, sum_all}
use Rattle.tariff.specs.Tariffs.{in_told, in_yes}

pub add_within : (m n : ℕ) (x y : ℤ) → Within m x → Within n y → Within (m + n) (x +ℤ y)
add_within m n x y h k = record { low = omega (arith, ints, h.low, k.low); high = omega (arith, ints, h.high, k.high) }

pub within_more : (m n : ℕ) (x : ℤ) → m ≤ n → Within m x → Within n x
within_more m n x l h = record { low = omega (arith, ints, h.low); high = omega (arith, ints, h.high) }

module _ (w : Charge) (greatest : ℕ) (law : LawfulTariff w greatest) where
  -- inside the ranges and outside
  pub charge_within : (a : ℕ) (p : ℤ) → Within greatest (w a p)
  charge_within a p = ⊎_elim
      (λ e. let h = in_told a p e in law.limit a p h.0 h.1)
      (λ e. subst (Within greatest) (sym (law.outside a p (λ n r. both_ways (in_ranges a p) e (in_yes a p n r)))) (record { low = omega (arith, ints); high = omega (arith, ints) }))
      (cases_Bool (in_ranges a p))

  pub charge_small : (a : ℕ) (p : ℤ) → Within 1000000000000 (w a p)
  charge_small a p = within_more greatest 1000000000000 (w a p) law.small (charge_within a p)

  each_within : (zs : List ℤ) → AllByRecursion (Charged w) zs → Within (length zs * greatest) (sum_all zs)
  each_within [] h = record { low = omega (arith, ints); high = omega (arith, ints) }
  each_within (z ∷ zs) ((a, p, e), h) =
      within_more (greatest + length zs * greatest) (suc (length zs) * greatest) (z +ℤ sum_all zs) (omega arith)
      (add_within greatest (length zs * greatest) z (sum_all zs) (subst (Within greatest) (sym e) (charge_within a p)) (each_within zs h))

  sums_small : SumsSmall w greatest
  sums_small = record {
    each = each_within;
    sixteen = λ zs h l. within_more (length zs * greatest) 16000000000000 (sum_all zs) (mul-le (length zs) greatest 16 1000000000000 l law.small) (each_within zs h);
  }

pub sums_are_small : SumsAreSmall
sums_are_small w greatest law = sums_small w greatest law
