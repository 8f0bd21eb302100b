-- What a set that is kept of another has. Assumes nothing.
use Rattle.std.proofs.Common.{◌≡◌, ◌≤◌, not, ⊎_elim, ℕ, zero, suc, ◌+◌, ◌*◌, ◌/◌, ◌%◌, ◌^◌, ◌<◌, Bool, true, false, cond, ◌&&◌, eqb, ltb, List, [], ◌∷◌, filter, sym, refl, ap, ◌∙◌, subst, add-zero, add-suc, suc-add, one-mul, zero-add, one-add, arith}
use native.Mathlib.Nat.{pow-succ', zero-div}
use lib.Dec.{leb-suc-suc, leb-suc-zero}
use Rattle.std.proofs.lemmas.Nat.{shr-shr}
use Rattle.std.proofs.lemmas.Bool.{cases_lt, le-ltb, and_from, and_parts, cond_both, eq-eqb, lt-ltb, ne_eqb}
use Rattle.slot_set.specs.Sets.{every_slot, from, has, keep, word_of}
use Rattle.slot_set.proofs.Words.{has_none, has_not, same_word}

-- the word of the slots from k that pass f, n of them looked at, in units of 2 ^ k
packed : (ℕ → Bool) → ℕ → ℕ → ℕ
packed f k zero = 0
packed f k (suc n) = cond (f k) 1 0 + 2 * packed f (suc k) n

packed_step : (b : Bool) (k m : ℕ) (xs : List ℕ) → word_of xs ≡ 2 ^ suc k * m → word_of (cond b (k ∷ xs) xs) ≡ 2 ^ k * (cond b 1 0 + 2 * m)
packed_step true k m xs e = let h : word_of xs ≡ 2 * 2 ^ k * m = rw pow-succ' at e in omega arith
packed_step false k m xs e = let h : word_of xs ≡ 2 * 2 ^ k * m = rw pow-succ' at e in omega arith

word_packed : (f : ℕ → Bool) (k n : ℕ) → word_of (filter f (from k n)) ≡ 2 ^ k * packed f k n
unfolding packed
word_packed f k zero = omega arith
word_packed f k (suc n) = packed_step (f k) k (packed f (suc k) n) (filter f (from (suc k) n)) (word_packed f (suc k) n)

bit_zero : (b : Bool) (m : ℕ) → eqb ((cond b 1 0 + 2 * m) / 2 ^ 0 % 2) 1 ≡ b
bit_zero true m = eq-eqb ((1 + 2 * m) / 1 % 2) 1 (omega arith)
bit_zero false m = ne_eqb ((0 + 2 * m) / 1 % 2) 1 (λ e. omega arith)

halved : (b : Bool) (m : ℕ) → (cond b 1 0 + 2 * m) / 2 ^ 1 ≡ m
halved true m = omega arith
halved false m = omega arith

bit_suc : (b : Bool) (m j : ℕ) → (cond b 1 0 + 2 * m) / 2 ^ suc j ≡ m / 2 ^ j
bit_suc b m j = rw (← one-add j, ← shr-shr (cond b 1 0 + 2 * m) 1 j) (ap (λ x. x / 2 ^ j) (halved b m))

has_packed : (f : ℕ → Bool) (k n j : ℕ) → has (packed f k n) j ≡ (ltb j n && f (k + j))
unfolding packed
has_packed f k zero j = ap (λ x. eqb (x % 2) 1) (zero-div (2 ^ j)) ∙ sym (ap (λ b. b && f (k + j)) (leb-suc-zero j))
has_packed f k (suc n) zero = bit_zero (f k) (packed f (suc k) n) ∙ (rw (lt-ltb 0 (suc n) (omega arith), add-zero k))
has_packed f k (suc n) (suc j) = ap (λ x. eqb (x % 2) 1) (bit_suc (f k) (packed f (suc k) n) j) ∙ has_packed f (suc k) n j ∙ (rw (leb-suc-suc (suc j) n, suc-add k j, add-suc k j))

kept_step : (f : ℕ → Bool) (x : ℕ) (ys zs : List ℕ) (b : Bool) → filter f ys ≡ zs → filter f (cond b (x ∷ ys) ys) ≡ cond (b && f x) (x ∷ zs) zs
kept_step f x ys zs true e = ap (λ ys. cond (f x) (x ∷ ys) ys) e
kept_step f x ys zs false e = e

pub kept_twice : (f h : ℕ → Bool) (xs : List ℕ) → filter f (filter h xs) ≡ filter (λ x. h x && f x) xs
kept_twice f h [] = refl
kept_twice f h (x ∷ xs) = kept_step f x (filter h xs) (filter (λ x. h x && f x) xs) (h x) (kept_twice f h xs)

has_word : (f : ℕ → Bool) (n s : ℕ) → has (word_of (filter f (from 0 n))) s ≡ (ltb s n && f s)
has_word f n s = rw (word_packed f 0 n, one-mul (packed f 0 n), has_packed f 0 n s, zero-add s)

-- what a kept set has
pub has_keep : (f : ℕ → Bool) (d s : ℕ) → has (keep f d) s ≡ (ltb s 64 && (has d s && f s))
unfolding every_slot
has_keep f d s = ap (λ xs. has (word_of xs) s) (kept_twice f (has d) every_slot) ∙ has_word (λ x. has d x && f x) 64 s

packed_below : (f : ℕ → Bool) (k n : ℕ) → packed f k n < 2 ^ n
unfolding packed
packed_below f k zero = omega arith
packed_below f k (suc n) = cond_both (f k) 1 0 (λ b. b + 2 * packed f (suc k) n < 2 ^ suc n)
    (λ _. omega (arith, packed_below f (suc k) n, pow-succ' 2 n)) (λ _. omega (arith, packed_below f (suc k) n, pow-succ' 2 n))

word_below : (f : ℕ → Bool) (n : ℕ) → word_of (filter f (from 0 n)) < 2 ^ n
word_below f n = rw (word_packed f 0 n, one-mul (packed f 0 n)) (packed_below f 0 n)

-- a kept set is a word of 64 bits
pub keep_below : (f : ℕ → Bool) (d : ℕ) → keep f d < 2 ^ 64
unfolding every_slot
keep_below f d = subst (λ xs. word_of xs < 2 ^ 64) (sym (kept_twice f (has d) every_slot)) (word_below (λ x. has d x && f x) 64)

-- a word with the kept slots is the kept set
pub is_keep : (f : ℕ → Bool) (d w : ℕ) → w < 2 ^ 64 → ((s : ℕ) → s < 64 → has w s ≡ (has d s && f s)) → w ≡ keep f d
is_keep f d w small h = same_word 64 w (keep f d) small (keep_below f d)
    (λ s l. h s l ∙ sym (has_keep f d s ∙ ap (λ b. b && (has d s && f s)) (lt-ltb s 64 l)))

pub keep_part : (f : ℕ → Bool) (d s : ℕ) → has (keep f d) s ≡ true → has d s ≡ true
keep_part f d s t = (and_parts (has d s) (f s) (and_parts (ltb s 64) (has d s && f s) (sym (has_keep f d s) ∙ t)).1).0

pub keep_has : (f : ℕ → Bool) (d s : ℕ) → s < 64 → has d s ≡ true → f s ≡ true → has (keep f d) s ≡ true
keep_has f d s h t e = has_keep f d s ∙ and_from (ltb s 64) (has d s && f s) (lt-ltb s 64 h) (and_from (has d s) (f s) t e)

-- the slots of the whole set that pass a test which none above 63 passes
pub keep_all : (f : ℕ → Bool) → ((s : ℕ) → 64 ≤ s → f s ≡ false) → (s : ℕ) → has (keep f 18446744073709551615) s ≡ f s
keep_all f none s = has_keep f 18446744073709551615 s ∙ ⊎_elim
    (λ l. ap (λ b. b && (has 18446744073709551615 s && f s)) (lt-ltb s 64 l)
    ∙ ap (λ b. b && f s) (has_not 64 0 s (omega arith) l ∙ ap not (has_none s)))
    (λ l. ap (λ b. b && (has 18446744073709551615 s && f s)) (le-ltb s 64 l) ∙ sym (none s l))
    (cases_lt s 64)
