-- A pile of two lawful pruners is lawful. Assumes nothing.
use Rattle.std.specs.Prelude.{◌≡◌, ℕ, List, ℤ, ◌≤ℤ◌, Some, None, Option, refl}
use Rattle.planning.specs.Plans.{Drawn, Given, total}
use Rattle.planning.specs.Pruners.{Lawful, Parts, PilesLawful, Points, Proper, Prune, pile, then}
use Rattle.planning.specs.Verdicts.{some_none}
use Rattle.planning.specs.Parts.{parts_trans}

module _ (p q : Prune) (lp : Lawful p) (lq : Lawful q) (g : Given) (us : List ℕ) (ok : Proper g us) (c : ℤ) (ds : List ℕ) (w : Parts ds us) where
  first : Points p g c ds
  first = lp g us ok c ds w

  second : (ms : List ℕ) → p g c ds ≡ Some ms → Points q g c ms
  second ms e = lq g us ok c ms (parts_trans ms ds us (first.part ms e) w)

  part_by : (o : Option (List ℕ)) → p g c ds ≡ o → (es : List ℕ) → then o (q g c) ≡ Some es → Parts es ds
  part_by None e es k = absurd (some_none None es k refl)
  part_by (Some ms) e es k = parts_trans es ms ds ((second ms e).part es k) (first.part ms e)

  keeps_by : (o : Option (List ℕ)) → p g c ds ≡ o → (es : List ℕ) → then o (q g c) ≡ Some es → (x : List ℕ) → Drawn ds x → total g x ≤ℤ c → Drawn es x
  keeps_by None e es k x h t = absurd (some_none None es k refl)
  keeps_by (Some ms) e es k x h t = (second ms e).keeps es k x (first.keeps ms e x h t) t

  dead_by : (o : Option (List ℕ)) → p g c ds ≡ o → then o (q g c) ≡ None → (x : List ℕ) → Drawn ds x → total g x ≤ℤ c → ⊥
  dead_by None e k x h t = first.dead e x h t
  dead_by (Some ms) e k x h t = (second ms e).dead k x (first.keeps ms e x h t) t

  pile_points : Points (pile p q) g c ds
  pile_points = record { part = part_by (p g c ds) refl; keeps = keeps_by (p g c ds) refl; dead = dead_by (p g c ds) refl }

pub piles_lawful : PilesLawful
piles_lawful = pile_points
