-- Reading and writing one place of a table, seen through what its places hold. Assumes nothing.
use Rattle.std.proofs.Common.{◌≡◌, ℕ, ◌<◌, ◌≤◌, cond, ltb, List, map, length, get_or, set, is_some, Some, None, Option, sym, refl, ap, ◌∙◌, subst}
use Rattle.std.specs.Option.{option_map}
use Rattle.std.proofs.lemmas.List.{get_or-map, map-set, set-set, set-get_or, get_or-set_same, length-map}
use Rattle.std.proofs.lemmas.Bool.{cond_above, cond-false, le-ltb}
use Rattle.sheet.specs.declared.case.Case.{Case}
use Rattle.sheet.specs.declared.slot_price.SlotPrice.{SlotPrice}
use Rattle.sheet.specs.Contents.{entry, amount}

pub some_mapped : {X Y : Type 0} (f : X → Y) (o : Option X) → is_some (option_map f o) ≡ is_some o
some_mapped f None = refl
some_mapped f (Some x) = refl

-- a place read, where the last place is n
pub place_read : {X Y : Type 0} (f : X → Y) (xs : List (Option X)) (n i : ℕ) (d : Option X) → i ≤ n → i < length xs
    → option_map f (get_or xs i d) ≡ cond (ltb n i) None (get_or (map (option_map f) xs) i None)
place_read f xs n i d low h = cond_above n i None (get_or (map (option_map f) xs) i None) (option_map f (get_or xs i d)) low (sym (get_or-map (option_map f) xs i d None h))

-- a place read after it was written
pub place_written : {X Y : Type 0} (f : X → Y) (xs : List (Option X)) (n i : ℕ) (o : Option X) → i ≤ n → i < length xs
    → cond (ltb n i) None (get_or (map (option_map f) (set xs i o)) i None) ≡ option_map f o
place_written f xs n i o low h =
    cond-false (ltb n i) None (get_or (map (option_map f) (set xs i o)) i None) (le-ltb n i low)
    ∙ ap (λ ys. get_or ys i None) (map-set (option_map f) xs i o)
    ∙ get_or-set_same (map (option_map f) xs) i (option_map f o) None (subst (λ k. i < k) (sym (length-map xs (option_map f))) h)

-- a place put back as it was read, after any write
pub place_back : {Y : Type 0} (ys : List (Option Y)) (n i : ℕ) (e o : Option Y) → i ≤ n → o ≡ cond (ltb n i) None (get_or ys i None)
    → set (set ys i e) i o ≡ ys
place_back ys n i e o low was =
    set-set ys i e o
    ∙ ap (set ys i) (was ∙ cond-false (ltb n i) None (get_or ys i None) (le-ltb n i low))
    ∙ set-get_or ys i None

-- the same of a row and of a slot
pub row_holds : (rows : List (Option Case)) (row : ℕ) (o : Option Case) → row ≤ 15 → row < length rows
    → cond (ltb 15 row) None (get_or (map (option_map entry) (set rows row o)) row None) ≡ option_map entry o
row_holds rows row o low h = place_written entry rows 15 row o low h

pub slot_holds : (slots : List (Option SlotPrice)) (slot : ℕ) (o : Option SlotPrice) → slot ≤ 63 → slot < length slots
    → cond (ltb 63 slot) None (get_or (map (option_map amount) (set slots slot o)) slot None) ≡ option_map amount o
slot_holds slots slot o low h = place_written amount slots 63 slot o low h

-- what the writes and the undoing of a sheet rest on
pub ruleset row_written = (map-set, row_holds)

pub ruleset slot_written = (map-set, slot_holds)

pub ruleset table_written = (map-set)

pub ruleset put_back = (place_back, cond-false, le-ltb)
