-- What the operations on words do to membership. Assumes nothing.
use Rattle.std.proofs.Common.{◌≡◌, ℕ, zero, suc, ltb, ◌*◌, ◌+◌, ◌-◌, ◌/◌, ◌%◌, ◌^◌, ◌<◌, ◌≤◌, true, false, not, ◌&&◌, ◌||◌, eqb, sym, refl, ap, ◌∙◌, ⊎_elim, pow-suc, div-add-mod', div-one, mul-div_cancel, one-add, arith}
use native.Mathlib.Nat.{zero-div, mul-mod_left}
use lib.Bits.{bit_and, bit_or, and_shr, or_shr, and_mod, or_mod}
use Rattle.std.proofs.lemmas.Bool.{and_left, cases_lt, le-ltb, lt-ltb, eq-eqb, ne_eqb, cases_eq, true≢false, false≢true}
use Rattle.std.proofs.lemmas.Nat.{one_shl, shr-shr, div_below, mod_below}
use Rattle.slot_set.specs.Sets.{has}

pub has_suc : (w s : ℕ) → has w (suc s) ≡ has (w / 2) s
has_suc w s = ap (λ j. eqb (w / (2 ^ j) % 2) 1) (sym (one-add s)) ∙ ap (λ j. eqb (j % 2) 1) (sym (shr-shr w 1 s))

pub has_zero : (w : ℕ) → has w 0 ≡ eqb (w % 2) 1
has_zero w = ap (λ j. eqb (j % 2) 1) (div-one w)

pub has_none : (s : ℕ) → has 0 s ≡ false
has_none s = ap (λ j. eqb (j % 2) 1) (zero-div (2 ^ s))

half_pow : (s : ℕ) → 2 ^ suc s / 2 ≡ 2 ^ s
half_pow s = ap (λ j. j / 2) (pow-suc 2 s) ∙ mul-div_cancel (2 ^ s) (omega arith)

even_pow : (s : ℕ) → 2 ^ suc s % 2 ≡ 0
even_pow s = ap (λ j. j % 2) (pow-suc 2 s) ∙ mul-mod_left (2 ^ s) 2

eqb_suc : (a b : ℕ) → eqb a b ≡ eqb (suc a) (suc b)
eqb_suc a b = ⊎_elim
    (λ e. eq-eqb a b e ∙ sym (eq-eqb (suc a) (suc b) (ap suc e)))
    (λ n. ne_eqb a b n ∙ sym (ne_eqb (suc a) (suc b) (λ e. n (omega arith))))
    (cases_eq a b)

-- the set of one slot has that slot and no other
pub has_pow : (s t : ℕ) → has (2 ^ s) t ≡ eqb t s
has_pow zero zero = refl
has_pow zero (suc t) = has_suc 1 t ∙ has_none t ∙ sym (ne_eqb (suc t) 0 (λ e. omega arith))
has_pow (suc s) zero = has_zero (2 ^ suc s) ∙ ap (λ j. eqb j 1) (even_pow s) ∙ sym (ne_eqb 0 (suc s) (λ e. omega arith))
has_pow (suc s) (suc t) = has_suc (2 ^ suc s) t ∙ ap (λ j. has j t) (half_pow s) ∙ has_pow s t ∙ eqb_suc t s

bits_and : (a b : ℕ) → a < 2 → b < 2 → eqb (bit_and a b) 1 ≡ (eqb a 1 && eqb b 1)
bits_and zero b x y = refl
bits_and (suc zero) zero x y = refl
bits_and (suc zero) (suc zero) x y = refl
bits_and (suc zero) (suc (suc b)) x y = absurd (omega arith)
bits_and (suc (suc a)) b x y = absurd (omega arith)

bits_or : (a b : ℕ) → a < 2 → b < 2 → eqb (bit_or a b) 1 ≡ (eqb a 1 || eqb b 1)
bits_or zero b x y = refl
bits_or (suc zero) zero x y = refl
bits_or (suc zero) (suc zero) x y = refl
bits_or (suc zero) (suc (suc b)) x y = absurd (omega arith)
bits_or (suc (suc a)) b x y = absurd (omega arith)

-- a bit of the meet is the meet of the bits
pub has_and : (a b s : ℕ) → has (bit_and a b) s ≡ (has a s && has b s)
has_and a b s =
    ap (λ j. eqb (j % 2) 1) (and_shr a b s)
    ∙ ap (λ j. eqb j 1) (and_mod (a / 2 ^ s) (b / 2 ^ s) 1)
    ∙ bits_and (a / 2 ^ s % 2) (b / 2 ^ s % 2) (mod_below (a / 2 ^ s) 2 (omega arith)) (mod_below (b / 2 ^ s) 2 (omega arith))

pub has_or : (a b s : ℕ) → has (bit_or a b) s ≡ (has a s || has b s)
has_or a b s =
    ap (λ j. eqb (j % 2) 1) (or_shr a b s)
    ∙ ap (λ j. eqb j 1) (or_mod (a / 2 ^ s) (b / 2 ^ s) 1)
    ∙ bits_or (a / 2 ^ s % 2) (b / 2 ^ s % 2) (mod_below (a / 2 ^ s) 2 (omega arith)) (mod_below (b / 2 ^ s) 2 (omega arith))

-- the half of a word of k + 1 bits has k
pub half_below : (w k : ℕ) → w < 2 ^ suc k → w / 2 < 2 ^ k
half_below w k h = let p = pow-suc 2 k in div_below w 2 (2 ^ k) (omega arith) (omega arith)

-- a word of k bits has no slot from k on
pub has_beyond : (k w s : ℕ) → w < 2 ^ k → k ≤ s → has w s ≡ false
has_beyond zero w s h l = let e : w ≡ 0 = omega arith in ap (λ j. has j s) e ∙ has_none s
has_beyond (suc k) w zero h l = absurd (omega arith)
has_beyond (suc k) w (suc s) h l = has_suc w s ∙ has_beyond k (w / 2) s (half_below w k h) (omega arith)

-- a word other than 0 has a slot
pub has_some : (k w : ℕ) → w < 2 ^ k → 0 < w → (s : ℕ) × (s < k) × (has w s ≡ true)
has_some zero w h p = absurd (omega arith)
has_some (suc k) w h p = ⊎_elim
    (λ e. (0, omega arith, has_zero w ∙ eq-eqb (w % 2) 1 e))
    (λ n. let m = mod_below w 2 (omega arith) in
    let d = div-add-mod' w 2 in
    let r = has_some k (w / 2) (half_below w k h) (omega arith) in
    (suc r.0, omega (arith, r.1), has_suc w r.0 ∙ r.2))
    (cases_eq (w % 2) 1)

bit_eq : (a b : ℕ) → a < 2 → b < 2 → eqb a 1 ≡ eqb b 1 → a ≡ b
bit_eq zero zero x y e = refl
bit_eq zero (suc zero) x y e = absurd (false≢true e)
bit_eq zero (suc (suc b)) x y e = absurd (omega arith)
bit_eq (suc zero) zero x y e = absurd (true≢false e)
bit_eq (suc zero) (suc zero) x y e = refl
bit_eq (suc zero) (suc (suc b)) x y e = absurd (omega arith)
bit_eq (suc (suc a)) b x y e = absurd (omega arith)

-- two words of k bits with the same slots are equal
pub same_word : (k a b : ℕ) → a < 2 ^ k → b < 2 ^ k → ((s : ℕ) → s < k → has a s ≡ has b s) → a ≡ b
same_word zero a b h l e = omega arith
same_word (suc k) a b h l e =
    let low : a % 2 ≡ b % 2 = bit_eq (a % 2) (b % 2) (mod_below a 2 (omega arith)) (mod_below b 2 (omega arith))
    (sym (has_zero a) ∙ e 0 (omega arith) ∙ has_zero b) in
    let high : a / 2 ≡ b / 2 = same_word k (a / 2) (b / 2) (half_below a k h) (half_below b k l)
    (λ s r. sym (has_suc a s) ∙ e (suc s) (omega arith) ∙ has_suc b s) in
    omega (arith, div-add-mod' a 2, div-add-mod' b 2)

bit_not : (a b : ℕ) → a + b ≡ 1 → eqb a 1 ≡ not (eqb b 1)
bit_not zero zero e = absurd (omega arith)
bit_not zero (suc zero) e = refl
bit_not zero (suc (suc b)) e = absurd (omega arith)
bit_not (suc zero) zero e = refl
bit_not (suc zero) (suc b) e = absurd (omega arith)
bit_not (suc (suc a)) b e = absurd (omega arith)

-- the complement of a word of k bits has the slots that the word lacks
pub has_not : (k w s : ℕ) → w < 2 ^ k → s < k → has ((2 ^ k - 1) - w) s ≡ not (has w s)
has_not zero w s h l = absurd (omega arith)
has_not (suc k) w zero h l =
    let p = pow-suc 2 k in
    let v = (2 ^ suc k - 1) - w in
    has_zero v ∙ bit_not (v % 2) (w % 2) (omega arith) ∙ ap not (sym (has_zero w))
has_not (suc k) w (suc s) h l =
    let p = pow-suc 2 k in
    let half : ((2 ^ suc k - 1) - w) / 2 ≡ (2 ^ k - 1) - w / 2 = omega arith in
    has_suc ((2 ^ suc k - 1) - w) s
    ∙ ap (λ x. has x s) half
    ∙ has_not k (w / 2) s (half_below w k h) (omega arith)
    ∙ ap not (sym (has_suc w s))

-- the meet with a complement has the slots that the other lacks
pub has_without : (a b s : ℕ) → a < 2 ^ 64 → b < 2 ^ 64 → has (bit_and a ((2 ^ 64 - 1) - b)) s ≡ (has a s && not (has b s))
has_without a b s h k = has_and a ((2 ^ 64 - 1) - b) s ∙ ⊎_elim
    (λ l. ap (λ t. has a s && t) (has_not 64 b s k l))
    (λ l. let none = has_beyond 64 a s h l in
    and_left (has a s) (has ((2 ^ 64 - 1) - b) s) none ∙ sym (and_left (has a s) (not (has b s)) none))
    (cases_lt s 64)

-- a word of 64 bits with slot s, below 64, written into it
pub has_with : (w slot s : ℕ) → slot < 64 → has (bit_or w (1 * 2 ^ slot % 18446744073709551616)) s ≡ (has w s || (ltb slot 64 && eqb s slot))
has_with w slot s l =
    ap (λ x. has (bit_or w x) s) (one_shl slot 64 l)
    ∙ has_or w (2 ^ slot) s
    ∙ ap (λ b. has w s || b) (has_pow slot s)
    ∙ sym (ap (λ b. has w s || (b && eqb s slot)) (lt-ltb slot 64 l))

-- no word of 64 bits has a slot from 64 on
pub has_past : (w s : ℕ) → w < 18446744073709551616 → 64 ≤ s → ltb s 64 ≡ has w s
has_past w s h l = le-ltb s 64 l ∙ sym (has_beyond 64 w s h l)
