-- Bounds worked out by hand, under the plain tariff. Assumes nothing.
use Rattle.std.specs.Prelude.{◌≡◌, ℕ, true, false, List, [], ◌∷◌, ℤ, pos, is_some, slice_index}
use Rattle.std.specs.Option.{unwrap_or}
use Rattle.slot_set.specs.Sets.{has, word_of}
use Rattle.tariff.specs.Charges.{plain}
use Rattle.planning.specs.Plans.{Given}
use Rattle.bound.specs.Bound.{Row, C, bound, bound_at, bound_prune, fixed_sum, rows_from}

-- needs by row and prices by slot
abbrev board : List ℕ → List ℤ → Given
board needs prices = record { needs = needs; prices = prices; charge = plain }

-- nine cases, of which three are fixed and six share six slots; slot 0 is closed
abbrev nine : Given
nine =
    board (2 ∷ (4 ∷ (3 ∷ (2 ∷ (3 ∷ (4 ∷ (3 ∷ (5 ∷ (6 ∷ [])))))))))
    (pos 0 ∷ (pos 20 ∷ (pos 5 ∷ (pos 15 ∷ (pos 25 ∷ (pos 15 ∷ (pos 10 ∷ (pos 5 ∷ (pos 15 ∷ (pos 10 ∷ []))))))))))

-- slots 2, 4, 6, 7, 8 and 9
abbrev six : ℕ
six = word_of (2 ∷ (4 ∷ (6 ∷ (7 ∷ (8 ∷ (9 ∷ []))))))

-- rows 0 to 2 allow one slot each, the others these six
abbrev nine_sets : List ℕ
nine_sets = 2 ∷ (8 ∷ (32 ∷ (six ∷ (six ∷ (six ∷ (six ∷ (six ∷ (six ∷ []))))))))

abbrev nine_rows : List Row
nine_rows = rows_from 0 nine.needs nine_sets

-- two cases and three slots, all allowed
abbrev two : Given
two = board (3 ∷ (2 ∷ [])) (pos 1 ∷ (pos 2 ∷ (pos 4 ∷ [])))

abbrev two_rows : List Row
two_rows = rows_from 0 two.needs (7 ∷ (7 ∷ []))

abbrev row : ℕ → ℕ → ℕ → Row
row i a d = record { row = i; need = a; slots = d }

-- the new set of a case, and none where the pruner is dead
abbrev new_set : Given → ℤ → List ℕ → ℕ → ℕ
new_set g c ds i = slice_index (unwrap_or (bound_prune g c ds) []) i

-- what the rules give
pub record WorkedFigures : Type 0 where
  pub fixed : fixed_sum nine nine_rows ≡ pos 145
  pub matching : C nine nine_rows 6 ≡ pos 220
  pub whole : bound nine nine_rows ≡ pos 365
  pub under : bound_at nine nine_rows (row 5 4 six) 4 ≡ pos 390
  pub other : bound_at nine nine_rows (row 3 2 six) 2 ≡ pos 395
  pub struck : has (new_set nine (pos 389) nine_sets 5) 4 ≡ false
  pub alive : is_some (bound_prune nine (pos 389) nine_sets) ≡ true
  pub kept : has (new_set nine (pos 390) nine_sets 5) 4 ≡ true
  pub dead : is_some (bound_prune nine (pos 364) nine_sets) ≡ false
  pub not_dead : is_some (bound_prune nine (pos 365) nine_sets) ≡ true
  pub small : bound two two_rows ≡ pos 7
  pub small_under : bound_at two two_rows (row 0 3 7) 2 ≡ pos 14
