-- Sheets that differ in their sets alone give a search the same. Assumes nothing.
use Rattle.std.proofs.Common.{◌≡◌, ℕ, List, take, ℤ, sym, ap, ◌∙◌, subst}
use Rattle.tariff.specs.Charges.{Charge}
use Rattle.planning.specs.declared.working_sheet.WorkingSheet.{WorkingSheet}
use Rattle.planning.specs.Plans.{Given}
use Rattle.planning.specs.Working.{given}
use Rattle.search.specs.Trails.{Alike}

pub alike_given : (a b : WorkingSheet) (w : Charge) → Alike a b → given b w ≡ given a w
alike_given a b w h =
    ap (λ (x : List ℕ). record { needs = take b.count x; prices = b.prices; charge = w }) h.needs
    ∙ ap (λ (x : ℕ). record { needs = take x a.needs; prices = b.prices; charge = w }) h.count
    ∙ ap (λ (x : List ℤ). record { needs = take a.count a.needs; prices = x; charge = w }) h.prices

-- a fact about a sheet's task and count holds of a sheet that is alike
pub alike_back : (a b : WorkingSheet) (w : Charge) (P : Given → ℕ → Type 0) → Alike a b → P (given a w) a.count → P (given b w) b.count
alike_back a b w P h p = subst (λ (n : ℕ). P (given b w) n) (sym h.count) (subst (λ (x : Given). P x a.count) (sym (alike_given a b w h)) p)
