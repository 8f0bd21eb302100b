-- A working sheet is one that pruners are lawful on, and stays one with their new sets. Assumes nothing.
use Rattle.std.proofs.Common.{◌≡◌, ℕ, zero, suc, ◌+◌, ◌-◌, ◌<◌, ◌≤◌, true, List, [], ◌∷◌, length, get_or, take, drop, ℤ, Option, sym, ap, ◌∙◌, ⊎_elim, arith}
use Rattle.std.specs.List.{AllByRecursion}
use Rattle.std.proofs.lemmas.List.{get_or-take, get_or-drop, length-take-le}
use Rattle.std.proofs.lemmas.Bool.{cases_lt, both_ways}
use Rattle.slot_set.specs.Sets.{has}
use Rattle.slot_set.proofs.Words.{has_none}
use Rattle.tariff.specs.Charges.{Charge, LawfulTariff, Need}
use Rattle.planning.specs.declared.working_sheet.WorkingSheet.{WorkingSheet}
use Rattle.planning.specs.Invariants.{Open}
use Rattle.planning.specs.Pruners.{Lawful, Parts, Priced, Proper, Prune}
use Rattle.planning.specs.Working.{KeptPoints, first_sets, given, sets_in}
use Rattle.planning.specs.Parts.{parts_refl}

-- the first n, place by place
all_take : (P : ℕ → Type 0) (n : ℕ) (xs : List ℕ) → n ≤ length xs → ((i : ℕ) → i < n → P (get_or xs i 0)) → AllByRecursion P (take n xs)
all_take P zero [] h f = tt
all_take P zero (x ∷ xs) h f = tt
all_take P (suc n) [] h f = absurd (omega arith)
all_take P (suc n) (x ∷ xs) h f = (f 0 (omega arith), all_take P n xs (omega arith) (λ i l. f (suc i) (omega arith)))

pub proper_sheet : (w : WorkingSheet) (charge : Charge) (greatest : ℕ) → LawfulTariff charge greatest → Proper (given w charge) (sets_in w)
proper_sheet w charge greatest law = record {
  needs = all_take Need w.count w.needs (omega arith) (λ i l. let h = w.needed i l in record { low = h.0; high = h.1 });
  greatest = greatest;
  tariff = law;
  sets = length-take-le w.count w.sets (omega arith) ∙ sym (length-take-le w.count w.needs (omega arith));
  priced = all_take (Priced (given w charge)) w.count w.sets (omega arith)
      (λ i l s b t. let h = w.priced s (w.usable i s t) in record { low = h.0; high = h.1 });
}

-- parts, place by place
part_at : (es ds : List ℕ) → Parts es ds → (i s : ℕ) → has (get_or es i 0) s ≡ true → has (get_or ds i 0) s ≡ true
part_at [] ds h i s t = absurd (both_ways (has 0 s) (has_none s) t)
part_at (e ∷ es) [] h i s t = absurd h
part_at (e ∷ es) (d ∷ ds) h zero s t = h.0 s t
part_at (e ∷ es) (d ∷ ds) h (suc i) s t = part_at es ds h.1 i s t

past : (n i : ℕ) (xs ys : List ℕ) → n ≤ i → drop n xs ≡ drop n ys → get_or xs i 0 ≡ get_or ys i 0
past n i xs ys l e =
    let k : n + (i - n) ≡ i = omega arith in
    ap (λ j. get_or xs j 0) (sym k) ∙ sym (get_or-drop n xs (i - n) 0) ∙ ap (λ zs. get_or zs (i - n) 0) e ∙ get_or-drop n ys (i - n) 0 ∙ ap (λ j. get_or ys j 0) k

-- new sets that are parts of the old hold no closed slot either
pub open_parts : (opened n : ℕ) (es ds : List ℕ) → Open opened ds → Parts (take n es) (take n ds) → drop n es ≡ drop n ds → Open opened es
open_parts opened n es ds h parts rest i s t = ⊎_elim
    (λ l. h i s (ap (λ x. has x s) (sym (get_or-take n ds i 0 l)) ∙ part_at (take n es) (take n ds) parts i s (ap (λ x. has x s) (get_or-take n es i 0 l) ∙ t)))
    (λ l. h i s (ap (λ x. has x s) (sym (past n i es ds l rest)) ∙ t))
    (cases_lt i n)

-- an answer that is a lawful pruner's keeps the three points
pub points_kept : (w : WorkingSheet) (charge : Charge) (greatest : ℕ) → LawfulTariff charge greatest → (f : Prune) → Lawful f → (c : ℤ) (r : Option (List ℕ))
    → first_sets w.count r ≡ f (given w charge) c (sets_in w) → KeptPoints w (given w charge) c r
points_kept w charge greatest law f lawful c r m =
    let points = lawful (given w charge) (sets_in w) (proper_sheet w charge greatest law) c (sets_in w) (parts_refl (sets_in w)) in
    record {
      part = λ es e. points.part (take w.count es) (sym m ∙ ap (first_sets w.count) e);
      keeps = λ es e. points.keeps (take w.count es) (sym m ∙ ap (first_sets w.count) e);
      dead = λ e. points.dead (sym m ∙ ap (first_sets w.count) e);
    }
