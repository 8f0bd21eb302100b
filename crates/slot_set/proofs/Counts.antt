-- How many slots a set has. Assumes nothing.
use Rattle.std.proofs.Common.{◌≡◌, ℕ, zero, suc, ◌+◌, ◌/◌, ◌%◌, ◌^◌, ◌<◌, Bool, true, false, cond, eqb, List, [], ◌∷◌, length, filter, sym, refl, ap, ◌∙◌, ap₂, zero-add, one-add, arith}
use lib.Count.{ones, ones-le, ones_step}
use Rattle.std.proofs.lemmas.Nat.{mod_below}
use Rattle.slot_set.specs.Sets.{every_slot, from, has, members}
use Rattle.slot_set.proofs.Words.{half_below, has_suc, has_zero}

length_cond : (b : Bool) (x : ℕ) (xs : List ℕ) → length (cond b (x ∷ xs) xs) ≡ cond b 1 0 + length xs
length_cond true x xs = sym (one-add (length xs))
length_cond false x xs = sym (zero-add (length xs))

-- as many pass f above a as pass the test one further on from a
shifted : (f : ℕ → Bool) (a n : ℕ) → length (filter f (from (suc a) n)) ≡ length (filter (λ s. f (suc s)) (from a n))
shifted f a zero = refl
shifted f a (suc n) =
    length_cond (f (suc a)) (suc a) (filter f (from (suc (suc a)) n))
    ∙ ap (λ m. cond (f (suc a)) 1 0 + m) (shifted f (suc a) n)
    ∙ sym (length_cond (f (suc a)) a (filter (λ s. f (suc s)) (from (suc a) n)))

kept_same : (f g : ℕ → Bool) → ((s : ℕ) → f s ≡ g s) → (xs : List ℕ) → filter f xs ≡ filter g xs
kept_same f g e [] = refl
kept_same f g e (x ∷ xs) = ap₂ (λ b ys. cond b (x ∷ ys) ys) (e x) (kept_same f g e xs)

bit_back : (a : ℕ) → a < 2 → cond (eqb a 1) 1 0 ≡ a
bit_back zero h = refl
bit_back (suc zero) h = refl
bit_back (suc (suc a)) h = absurd (omega arith)

count_below : (n w : ℕ) → w < 2 ^ n → length (filter (has w) (from 0 n)) ≡ ones w
count_below zero w h = omega (arith, ones-le 0 w h)
count_below (suc n) w h =
    length_cond (has w 0) 0 (filter (has w) (from 1 n))
    ∙ ap₂ (λ a b. a + b)
    (ap (λ b. cond b 1 0) (has_zero w) ∙ bit_back (w % 2) (mod_below w 2 (omega arith)))
    (shifted (has w) 0 n ∙ ap length (kept_same (λ s. has w (suc s)) (has (w / 2)) (has_suc w) (from 0 n)) ∙ count_below n (w / 2) (half_below w n h))
    ∙ sym (ones_step w)

-- a word has as many slots as set bits
pub count_members : (w : ℕ) → w < 2 ^ 64 → length (members w) ≡ ones w
unfolding every_slot
count_members w h = count_below 64 w h
