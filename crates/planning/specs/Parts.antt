-- Parts of sets, and the points of a pruner at them. Assumes nothing.
use Rattle.std.specs.Prelude.{◌≡◌, ℕ, suc, List, [], ◌∷◌, length, ℤ, refl}
use Rattle.std.proofs.Common.{◌∙◌, ap}
use Rattle.std.specs.List.{AllByRecursion}
use Rattle.planning.specs.Plans.{Given}
use Rattle.planning.specs.Pruners.{Lawful, Parts, Points, Priced, Proper, Prune}

pub parts_refl : (ds : List ℕ) → Parts ds ds
parts_refl [] = tt
parts_refl (d ∷ ds) = ((λ s t. t), parts_refl ds)

pub parts_trans : (fs es ds : List ℕ) → Parts fs es → Parts es ds → Parts fs ds
parts_trans [] [] ds h k = k
parts_trans [] (e ∷ es) ds h k = absurd h
parts_trans (f ∷ fs) [] ds h k = absurd h
parts_trans (f ∷ fs) (e ∷ es) [] h k = k
parts_trans (f ∷ fs) (e ∷ es) (d ∷ ds) h k = ((λ s t. k.0 s (h.0 s t)), parts_trans fs es ds h.1 k.1)

parts_length : (es ds : List ℕ) → Parts es ds → length es ≡ length ds
parts_length [] [] h = refl
parts_length [] (d ∷ ds) h = absurd h
parts_length (e ∷ es) [] h = absurd h
parts_length (e ∷ es) (d ∷ ds) h = ap suc (parts_length es ds h.1)

parts_priced : (g : Given) (es ds : List ℕ) → Parts es ds → AllByRecursion (Priced g) ds → AllByRecursion (Priced g) es
parts_priced g [] [] h k = tt
parts_priced g [] (d ∷ ds) h k = tt
parts_priced g (e ∷ es) [] h k = absurd h
parts_priced g (e ∷ es) (d ∷ ds) h k = ((λ s l t. k.0 s l (h.0 s t)), parts_priced g es ds h.1 k.1)

-- the parts of the sets of a lawful sheet make a lawful sheet
pub parts_proper : (g : Given) (es ds : List ℕ) → Parts es ds → Proper g ds → Proper g es
parts_proper g es ds h ok = record {
  needs = ok.needs;
  greatest = ok.greatest;
  tariff = ok.tariff;
  sets = parts_length es ds h ∙ ok.sets;
  priced = parts_priced g es ds h ok.priced;
}

-- so a pruner is lawful if it shows its points at the sets of every lawful sheet
pub lawful_from : (f : Prune) → ((g : Given) (c : ℤ) (ds : List ℕ) → Proper g ds → Points f g c ds) → Lawful f
lawful_from f points g us ok c ds h = points g c ds (parts_proper g ds us h ok)
