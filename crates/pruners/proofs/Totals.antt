-- The least charges of the cases, and their sum. Assumes nothing.
use Rattle.std.proofs.Common.{◌≡◌, ℕ, suc, ◌+◌, ◌<◌, List, [], ◌∷◌, ◌++◌, length, get_or, take, ℤ, pos, ◌+ℤ◌, sym, refl, ap, ◌∙◌, subst, ap₂, arith}
use Rattle.std.proofs.lemmas.List.{get_or-take, length-take-le, take_more}
use Rattle.std.proofs.lemmas.Int.{ints}
use Rattle.slot_set.specs.Sets.{members}
use Rattle.tariff.specs.Charges.{Charge, LawfulTariff, Within}
use Rattle.tariff.specs.Sums.{sum_all}
use Rattle.tariff.proofs.Sums.{charge_small}
use Rattle.planning.specs.Plans.{Given}
use Rattle.planning.specs.Working.{given, sets_in}
use Rattle.planning.specs.declared.working_sheet.WorkingSheet.{WorkingSheet}
use Rattle.pruners.specs.Sum.{LeastEach, least_in, leasts}
use Rattle.pruners.proofs.Least.{least_within}

sum_push : (zs : List ℤ) (z : ℤ) → sum_all (zs ++ z ∷ []) ≡ sum_all zs +ℤ z
sum_push [] z = omega (arith, ints)
sum_push (y ∷ zs) z = omega (arith, ints, sum_push zs z)

-- the sum of one more
pub sum_more : (zs : List ℤ) (i : ℕ) → i < length zs → sum_all (take (i + 1) zs) ≡ sum_all (take i zs) +ℤ get_or zs i (pos 0)
sum_more zs i l = ap sum_all (take_more zs i (pos 0) l) ∙ sum_push (take i zs) (get_or zs i (pos 0))

sum_leasts : (g : Given) (ns ds : List ℕ) (ms : List ℤ) → length ns ≡ length ms → length ds ≡ length ms
    → ((i : ℕ) → i < length ms → get_or ms i (pos 0) ≡ least_in g (get_or ns i 0) (get_or ds i 0)) → sum_all ms ≡ leasts g ns ds
sum_leasts g [] ds [] e f h = refl
sum_leasts g [] ds (m ∷ ms) e f h = absurd (omega arith)
sum_leasts g (a ∷ ns) ds [] e f h = absurd (omega arith)
sum_leasts g (a ∷ ns) [] (m ∷ ms) e f h = absurd (omega arith)
sum_leasts g (a ∷ ns) (d ∷ ds) (m ∷ ms) e f h =
    ap₂ (λ x y. x +ℤ y) (h 0 (omega arith)) (sum_leasts g ns ds ms (omega arith) (omega arith) (λ i l. h (suc i) (omega arith)))

-- the sum of the least charges, place by place
pub total_least : (w : WorkingSheet) (charge : Charge) (ms : List ℤ) → length ms ≡ 16 → LeastEach w charge ms
    → sum_all (take w.count ms) ≡ leasts (given w charge) (take w.count w.needs) (sets_in w)
total_least w charge ms e h =
    let n = w.count in
    let long : length (take n ms) ≡ n = length-take-le n ms (omega arith) in
    let needs : length (take n w.needs) ≡ n = length-take-le n w.needs (omega arith) in
    let sets : length (take n w.sets) ≡ n = length-take-le n w.sets (omega arith) in
    sum_leasts (given w charge) (take n w.needs) (sets_in w) (take n ms) (omega arith) (omega arith) (λ i l.
    let k : i < n = omega arith in
    get_or-take n ms i (pos 0) k
    ∙ h i k
    ∙ sym (ap₂ (λ a d. least_in (given w charge) a d) (get_or-take n w.needs i 0 k) (get_or-take n w.sets i 0 k)))

-- each of them is small
pub each_small : (w : WorkingSheet) (charge : Charge) (greatest : ℕ) → LawfulTariff charge greatest → (ms : List ℤ) → LeastEach w charge ms
    → (i : ℕ) → i < w.count → Within 1000000000000 (get_or ms i (pos 0))
each_small w charge greatest law ms h i l =
    subst (Within 1000000000000) (sym (h i l))
    (least_within 1000000000000 (λ s. charge (get_or w.needs i 0) (get_or w.prices s (pos 0))) (λ s. charge_small charge greatest law (get_or w.needs i 0) (get_or w.prices s (pos 0))) (members (get_or w.sets i 0)))
