-- The sets that Sum leaves, place by place. Assumes nothing.
use Rattle.std.proofs.Common.{◌≡◌, ℕ, zero, suc, ◌+◌, ◌<◌, ◌≤◌, List, [], ◌∷◌, ◌++◌, length, get_or, set, take, ℤ, pos, ◌+ℤ◌, ◌-ℤ◌, sym, refl, ap, ◌∙◌, ap₂, arith}
use lib.Signed.{le_z}
use Rattle.std.proofs.lemmas.List.{get_or-take, length-take-le, take_all, take_more, take_more_set}
use Rattle.slot_set.specs.Sets.{keep}
use Rattle.tariff.specs.Charges.{Charge}
use Rattle.planning.specs.Plans.{Given, at_slot}
use Rattle.planning.specs.Working.{given, sets_in}
use Rattle.planning.specs.declared.working_sheet.WorkingSheet.{WorkingSheet}
use Rattle.pruners.specs.Sum.{least_in, sum_strike}

length_strike : (g : Given) (c m : ℤ) (ns ds : List ℕ) → length ds ≡ length ns → length (sum_strike g c m ns ds) ≡ length ds
length_strike g c m [] [] e = refl
length_strike g c m [] (d ∷ ds) e = absurd (omega arith)
length_strike g c m (a ∷ ns) [] e = refl
length_strike g c m (a ∷ ns) (d ∷ ds) e = ap suc (length_strike g c m ns ds (omega arith))

at_strike : (g : Given) (c m : ℤ) (ns ds : List ℕ) (i : ℕ) → i < length ns → i < length ds
    → get_or (sum_strike g c m ns ds) i 0 ≡ keep (λ s. le_z ((m -ℤ least_in g (get_or ns i 0) (get_or ds i 0)) +ℤ at_slot g (get_or ns i 0) s) c) (get_or ds i 0)
at_strike g c m [] ds i l k = absurd (omega arith)
at_strike g c m (a ∷ ns) [] i l k = absurd (omega arith)
at_strike g c m (a ∷ ns) (d ∷ ds) zero l k = refl
at_strike g c m (a ∷ ns) (d ∷ ds) (suc i) l k = at_strike g c m ns ds i (omega arith) (omega arith)

length_struck : (w : WorkingSheet) (charge : Charge) (c m : ℤ) → length (sum_strike (given w charge) c m (take w.count w.needs) (sets_in w)) ≡ w.count
length_struck w charge c m =
    let n = w.count in
    let needs : length (take n w.needs) ≡ n = length-take-le n w.needs (omega arith) in
    let sets : length (take n w.sets) ≡ n = length-take-le n w.sets (omega arith) in
    length_strike (given w charge) c m (take n w.needs) (take n w.sets) (omega arith) ∙ sets

-- the set left at a place of a working sheet, where o is the sum of the others
struck_at : (w : WorkingSheet) (charge : Charge) (c m o : ℤ) (i r : ℕ) → i < w.count
    → r ≡ keep (λ s. le_z (o +ℤ charge (get_or w.needs i 0) (get_or w.prices s (pos 0))) c) (get_or w.sets i 0)
    → o ≡ m -ℤ least_in (given w charge) (get_or w.needs i 0) (get_or w.sets i 0)
    → r ≡ get_or (sum_strike (given w charge) c m (take w.count w.needs) (sets_in w)) i 0
struck_at w charge c m o i r l e q =
    let g = given w charge in
    let n = w.count in
    let needs : length (take n w.needs) ≡ n = length-take-le n w.needs (omega arith) in
    let sets : length (take n w.sets) ≡ n = length-take-le n w.sets (omega arith) in
    e
    ∙ ap (λ z. keep (λ s. le_z (z +ℤ at_slot g (get_or w.needs i 0) s) c) (get_or w.sets i 0)) q
    ∙ sym (ap₂ (λ a d. keep (λ s. le_z ((m -ℤ least_in g a d) +ℤ at_slot g a s) c) d) (get_or-take n w.needs i 0 l) (get_or-take n w.sets i 0 l))
    ∙ sym (at_strike g c m (take n w.needs) (take n w.sets) i (omega arith) (omega arith))

-- one set more, in a table that holds those before it
pub struck_more : (w : WorkingSheet) (charge : Charge) (c m o : ℤ) (i r : ℕ) (next : List ℕ) → i < w.count → i < length next
    → take i next ≡ take i (sum_strike (given w charge) c m (take w.count w.needs) (sets_in w))
    → r ≡ keep (λ s. le_z (o +ℤ charge (get_or w.needs i 0) (get_or w.prices s (pos 0))) c) (get_or w.sets i 0)
    → o ≡ m -ℤ least_in (given w charge) (get_or w.needs i 0) (get_or w.sets i 0)
    → take (i + 1) (set next i r) ≡ take (i + 1) (sum_strike (given w charge) c m (take w.count w.needs) (sets_in w))
struck_more w charge c m o i r next l h before e q =
    let es = sum_strike (given w charge) c m (take w.count w.needs) (sets_in w) in
    let long : length es ≡ w.count = length_struck w charge c m in
    take_more_set next i r h
    ∙ ap₂ (λ xs x. xs ++ x ∷ []) before (struck_at w charge c m o i r l e q)
    ∙ sym (take_more es i 0 (omega arith))

-- all of them
pub struck_all : (w : WorkingSheet) (charge : Charge) (c m : ℤ) (i : ℕ) (next : List ℕ) → length next ≡ w.count → length next ≤ i
    → take i next ≡ take i (sum_strike (given w charge) c m (take w.count w.needs) (sets_in w))
    → next ≡ sum_strike (given w charge) c m (take w.count w.needs) (sets_in w)
struck_all w charge c m i next long end before =
    let es = sum_strike (given w charge) c m (take w.count w.needs) (sets_in w) in
    let es_long : length es ≡ w.count = length_struck w charge c m in
    sym (take_all i next end) ∙ before ∙ take_all i es (omega arith)
