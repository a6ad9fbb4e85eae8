-- Laws of a word's bits.
use mathlib.Core.Path.{◌≡◌, refl, sym, ap, ap₂, ◌∙◌, subst, fun_ext}
use mathlib.Core.Bool.{Bool, true, false, not, ◌&&◌, ◌||◌, xor, and-false, and_self, true≢false}
use Prim.Native.Nat.{ℕ, zero, suc, ◌+◌, ◌-◌, ◌*◌, ◌/◌, ◌%◌, ◌^◌, ◌≤◌, ◌<◌, min, max, zero-le}
use native.Mathlib.Nat.{mod-lt, mod-eq_of_lt, lt_of_lt_of_le, zero-lt-suc, zero-div, div_self, div-eq_of_lt, div-one, mul-div_cancel, mul-mod_left, one-mul, div-div-eq-div-mul, pow-succ', div-lt_iff_lt-mul, pow-suc}
use native.Mathlib.Decide.{dec_lt}
use native.Mathlib.Omega.{arith}
use lib.Dec.{eqb, eqb-suc-zero, eqb-suc-suc, ltb, lit<}
use lib.Arith.{digits_mod, lt-one}
use lib.Pow.{pow_pos, pow_mono, pow-lt, pow-add, ones_split, high, ones_lt}
use lib.Bits.{bit_and, bit_or, bit_xor, differ, and_step, or_step, xor_step, and_shr, or_shr, xor_shr, xor_add_and, and_mask}
use lib.Count.{count_trailing_zeros, trailing_le, ones, ones-ones, ones_step, under as placed}
use mir.Val.{Fits}
use mir.Syntax.{w64}
use borrow.Author.Tests.{eq-eqb, ne_eqb, lt-ltb, le-ltb}
use Rattle.bitrow.specs.Bit.{digit, bit}
use Rattle.bitrow.specs.Set.{under, one, size, Lowest}
use Rattle.bitrow.proofs.Sizes.{size-zero, size_low, size-cong}

two_pos : zero < 2
two_pos = zero-lt-suc 1

pub one-lt : (b : Bool) → one b < 2
one-lt true = omega arith
one-lt false = omega arith

pub digit-one : (b : Bool) → digit (one b) ≡ b
digit-one true = refl
digit-one false = refl

one-digit : (w : ℕ) → w % 2 ≡ one (digit (w % 2))
one-digit w = go (w % 2) (mod-lt w two_pos)
  where
    go : (d : ℕ) → d < 2 → d ≡ one (digit d)
    go zero h = refl
    go (suc zero) h = refl
    go (suc (suc d)) h = absurd (omega arith)

-- ---- a bit of what an operator makes of two words

-- an operator that makes each digit by f, which does g to digits as Bools
module _ (op f : ℕ → ℕ → ℕ) (g : Bool → Bool → Bool)
    (shr : (a b k : ℕ) → op a b / 2 ^ k ≡ op (a / 2 ^ k) (b / 2 ^ k))
    (step : (a b : ℕ) → op a b ≡ op (a / 2) (b / 2) * 2 + f (a % 2) (b % 2))
    (does : (x y : Bool) → f (one x) (one y) ≡ one (g x y)) where
  bit-by : (a b i : ℕ) → bit (op a b) i ≡ g (bit a i) (bit b i)
  unfolding bit
  bit-by a b i =
      let x = a / 2 ^ i in
      let y = b / 2 ^ i in
      let d = g (digit (x % 2)) (digit (y % 2)) in
      let e : f (x % 2) (y % 2) ≡ one d = ap₂ f (one-digit x) (one-digit y) ∙ does (digit (x % 2)) (digit (y % 2)) in
      ap (λ (n : ℕ). digit (n % 2)) (shr a b i ∙ step x y ∙ ap (λ (n : ℕ). op (x / 2) (y / 2) * 2 + n) e)
      ∙ ap digit (digits_mod (op (x / 2) (y / 2)) (one-lt d)) ∙ digit-one d

pub bit-and : (a b i : ℕ) → bit (bit_and a b) i ≡ (bit a i && bit b i)
bit-and = bit-by bit_and min (λ x y. x && y) and_shr and_step does
  where
    does : (x y : Bool) → min (one x) (one y) ≡ one (x && y)
    does true true = refl
    does true false = refl
    does false true = refl
    does false false = refl

pub bit-or : (a b i : ℕ) → bit (bit_or a b) i ≡ (bit a i || bit b i)
bit-or = bit-by bit_or max (λ x y. x || y) or_shr or_step does
  where
    does : (x y : Bool) → max (one x) (one y) ≡ one (x || y)
    does true true = refl
    does true false = refl
    does false true = refl
    does false false = refl

bit-xor : (a b i : ℕ) → bit (bit_xor a b) i ≡ xor (bit a i) (bit b i)
unfolding xor
bit-xor = bit-by bit_xor differ xor xor_shr xor_step does
  where
    does : (x y : Bool) → differ (one x) (one y) ≡ one (xor x y)
    does true true = refl
    does true false = refl
    does false true = refl
    does false false = refl

-- ---- words with known bits

pub bit-zero : (i : ℕ) → bit 0 i ≡ false
unfolding bit
bit-zero i = ap (λ (w : ℕ). digit (w % 2)) (zero-div (2 ^ i))

-- no bit past a word's digits
pub bit-above : (n w i : ℕ) → w < 2 ^ n → n ≤ i → bit w i ≡ false
unfolding bit
bit-above n w i h k = ap (λ (x : ℕ). digit (x % 2)) (div-eq_of_lt (lt_of_lt_of_le h (pow_mono k)))

-- all of n digits set
pub bit-ones : (n i : ℕ) → i < n → bit (2 ^ n - 1) i ≡ true
unfolding bit
bit-ones n i h =
    let k = n - suc i in
    let e : n ≡ k + 1 + i = omega arith in
    ap (λ (m : ℕ). digit ((2 ^ m - 1) / 2 ^ i % 2)) e
    ∙ ap (λ (m : ℕ). digit (m / 2 ^ i % 2)) (ones_split (k + 1) i)
    ∙ ap (λ (m : ℕ). digit (m % 2)) (high (2 ^ (k + 1) - 1) i (ones_lt i) ∙ ones_split k 1)
    ∙ ap digit (digits_mod (2 ^ k - 1) (lit< {m = 1} {n = 2} tt))

pub bit_mask-law : (n : ℕ) → bit (2 ^ n - 1) ≡ under n
unfolding under
bit_mask-law n = fun_ext (λ i. go i (dec_lt i n))
  where
    go : (i : ℕ) → Dec (i < n) → bit (2 ^ n - 1) i ≡ ltb i n
    go i (yes p) = bit-ones n i p ∙ sym (lt-ltb i n p)
    go i (no m) = bit-above n (2 ^ n - 1) i (ones_lt n) (omega arith) ∙ sym (le-ltb i n (omega arith))

-- `!a` of a word of n digits
pub bit_not : (n a i : ℕ) → a < 2 ^ n → i < n → bit ((2 ^ n - 1) - a) i ≡ not (bit a i)
unfolding xor
bit_not n a i h k =
    let m = 2 ^ n - 1 in
    let e : m - a ≡ bit_xor a m = omega (arith, xor_add_and a m, and_mask a n, mod-eq_of_lt h) in
    ap (λ (w : ℕ). bit w i) e ∙ bit-xor a m i ∙ ap (xor (bit a i)) (bit-ones n i k) ∙ flip (bit a i)
  where
    flip : (b : Bool) → xor b true ≡ not b
    flip true = refl
    flip false = refl

-- one bit set
pub bit-pow : (k i : ℕ) → bit (2 ^ k) i ≡ eqb i k
unfolding bit
bit-pow k i = go (dec_lt i k) (dec_lt k i)
  where
    go : Dec (i < k) → Dec (k < i) → digit (2 ^ k / 2 ^ i % 2) ≡ eqb i k
    go (yes p) d =
        let m = k - suc i in
        let e : k ≡ m + 1 + i = omega arith in
        ap (λ (x : ℕ). digit (x % 2))
        (ap (λ (x : ℕ). 2 ^ x / 2 ^ i) e ∙ ap (λ (x : ℕ). x / 2 ^ i) (pow-add 2 (m + 1) i) ∙ mul-div_cancel (2 ^ (m + 1)) (pow_pos i) ∙ pow-add 2 m 1)
        ∙ ap digit (mul-mod_left (2 ^ m) 2) ∙ sym (ne_eqb i k (λ q. omega arith))
    go (no n) (yes p) = ap (λ (x : ℕ). digit (x % 2)) (div-eq_of_lt (pow-lt p)) ∙ sym (ne_eqb i k (λ q. omega arith))
    go (no n) (no m) =
        let e : i ≡ k = omega arith in
        ap (λ (x : ℕ). digit (2 ^ k / 2 ^ x % 2)) e ∙ ap (λ (x : ℕ). digit (x % 2)) (div_self (pow_pos k)) ∙ sym (eq-eqb i k e)

-- `1 << k` in a word of n digits
pub one_shl : (n k : ℕ) → k < n → (1 * 2 ^ k) % 2 ^ n ≡ 2 ^ k
one_shl n k h = ap (λ (x : ℕ). x % 2 ^ n) (one-mul (2 ^ k)) ∙ mod-eq_of_lt (pow-lt h)

-- ---- shifts

-- the bits of `w >> k` are those from k on
pub bit-shr : (w k i : ℕ) → bit (w / 2 ^ k) i ≡ bit w (k + i)
unfolding bit
bit-shr w k i = ap (λ (x : ℕ). digit (x % 2)) (div-div-eq-div-mul w (2 ^ k) (2 ^ i) ∙ ap (λ (x : ℕ). w / x) (sym (pow-add 2 k i)))

bit-half : (w i : ℕ) → bit (w / 2) i ≡ bit w (suc i)
unfolding bit
bit-half w i = ap (λ (x : ℕ). digit (x % 2)) (div-div-eq-div-mul w 2 (2 ^ i) ∙ ap (λ (x : ℕ). w / x) (sym (pow-succ' 2 i)))

bit-low : (w : ℕ) → bit w 0 ≡ digit (w % 2)
unfolding bit
bit-low w = ap (λ (x : ℕ). digit (x % 2)) (div-one w)

half_lt : {n : ℕ} (k : ℕ) → n < 2 ^ suc k → n / 2 < 2 ^ k
half_lt {n} k h = (div-lt_iff_lt-mul two_pos).1 (subst (λ (x : ℕ). n < x) (pow-suc 2 k) h)

-- `(w >> i) & 1 == 1`
pub bit_test : (w i : ℕ) → eqb (bit_and (w / 2 ^ i) 1) 1 ≡ bit w i
unfolding bit
bit_test w i = ap (λ (x : ℕ). eqb x 1) (and_mask (w / 2 ^ i) 1 ∙ one-digit (w / 2 ^ i)) ∙ is_one (digit (w / 2 ^ i % 2))
  where
    is_one : (b : Bool) → eqb (one b) 1 ≡ b
    is_one true = refl
    is_one false = refl

-- ---- whole words

-- two words of n digits with the same bits are the same
pub word-ext : (n a b : ℕ) → a < 2 ^ n → b < 2 ^ n → ((i : ℕ) → i < n → bit a i ≡ bit b i) → a ≡ b
word-ext zero a b ha hb f = lt-one ha ∙ sym (lt-one hb)
word-ext (suc n) a b ha hb f =
    let hi : a / 2 ≡ b / 2 = word-ext n (a / 2) (b / 2) (half_lt n ha) (half_lt n hb) (λ i h. bit-half a i ∙ f (suc i) (omega arith) ∙ sym (bit-half b i)) in
    let lo : a % 2 ≡ b % 2 = one-digit a ∙ ap one (sym (bit-low a) ∙ f 0 (omega arith) ∙ bit-low b) ∙ sym (one-digit b) in
    omega arith

-- a bit that is set is among the word's digits
pub bit_below : (n w i : ℕ) → w < 2 ^ n → bit w i ≡ true → i < n
bit_below n w i h t = go (dec_lt i n)
  where
    go : Dec (i < n) → i < n
    go (yes p) = p
    go (no m) = absurd (true≢false (sym t ∙ bit-above n w i h (omega arith)))

-- `trailing_zeros` of a word that is not 0 is the place of its lowest set bit
pub trailing : (n w : ℕ) → w < 2 ^ n → 0 < w → Lowest (bit w) 0 n (count_trailing_zeros n w)
unfolding count_trailing_zeros
trailing zero w h p = absurd (omega (arith, lt-one h))
trailing (suc n) w h p = step (count_trailing_zeros n (w / 2)) (trailing n (w / 2) (half_lt n h)) (w % 2) refl
  where
    step : (t : ℕ) → (0 < w / 2 → Lowest (bit (w / 2)) 0 n t) → (d : ℕ) → w % 2 ≡ d → Lowest (bit w) 0 (suc n) (placed d t)
    step t ih zero e = let l = ih (omega arith) in record { from = zero-le; below = omega (arith, l.below); there = sym (bit-half w t) ∙ l.there; before = λ k a. clear l.before k }
      where
        clear : ((i : ℕ) → 0 ≤ i → i < t → bit (w / 2) i ≡ false) → (i : ℕ) → i < suc t → bit w i ≡ false
        clear f zero h = bit-low w ∙ ap digit e
        clear f (suc i) h = sym (bit-half w i) ∙ f i zero-le (omega arith)
    step t ih (suc d) e = record { from = zero-le; below = zero-lt-suc n; there = bit-low w ∙ ap digit e; before = λ i a l. absurd (omega arith) }

-- `w & (w - 1)` has not the lowest bit of w, and the others
pub lowest-off : (n w : ℕ) → w < 2 ^ n → 0 < w → (i : ℕ) → (bit w i && bit (w - 1) i) ≡ (not (eqb i (count_trailing_zeros n w)) && bit w i)
unfolding count_trailing_zeros
lowest-off zero w h p i = absurd (omega (arith, lt-one h))
lowest-off (suc n) w h p i = step (count_trailing_zeros n (w / 2)) (lowest-off n (w / 2) (half_lt n h)) (w % 2) refl i
  where
    step : (t : ℕ) → (0 < w / 2 → (j : ℕ) → (bit (w / 2) j && bit (w / 2 - 1) j) ≡ (not (eqb j t) && bit (w / 2) j))
        → (d : ℕ) → w % 2 ≡ d → (i : ℕ) → (bit w i && bit (w - 1) i) ≡ (not (eqb i (placed d t)) && bit w i)
    step t ih zero e zero = let b : bit w 0 ≡ false = bit-low w ∙ ap digit e in ap (λ x. x && bit (w - 1) 0) b ∙ sym (ap (λ x. not (eqb 0 (suc t)) && x) b ∙ and-false (not (eqb 0 (suc t))))
    step t ih zero e (suc j) =
        let half : (w - 1) / 2 ≡ w / 2 - 1 = omega arith in
        ap₂ ◌&&◌ (sym (bit-half w j)) (sym (bit-half (w - 1) j) ∙ ap (λ x. bit x j) half) ∙ ih (omega arith) j
        ∙ ap₂ (λ x y. not x && y) (sym (eqb-suc-suc j t)) (bit-half w j)
    step t ih (suc d) e zero =
        let low : (w - 1) % 2 ≡ 0 = omega arith in
        ap (λ x. bit w 0 && x) (bit-low (w - 1) ∙ ap digit low) ∙ and-false (bit w 0)
    step t ih (suc d) e (suc j) =
        let half : (w - 1) / 2 ≡ w / 2 = omega arith in
        ap (λ x. bit w (suc j) && x) (sym (bit-half (w - 1) j) ∙ ap (λ x. bit x j) half ∙ bit-half w j) ∙ and_self (bit w (suc j))
        ∙ sym (ap (λ x. not x && bit w (suc j)) (eqb-suc-zero j))

-- the count of zeros fits a word
pub zeros-fit : (w : ℕ) → Fits w64 (count_trailing_zeros 64 w)
zeros-fit w = omega (arith, trailing_le 64 w)

-- `count_ones` counts the bits
pub ones-size : (n w : ℕ) → w < 2 ^ n → ones w ≡ size (bit w) n
ones-size zero w h = ap ones (lt-one h) ∙ ones-ones 0 ∙ sym (size-zero (bit w))
ones-size (suc n) w h =
    ones_step w
    ∙ ap₂ (λ (x y : ℕ). x + y)
    (one-digit w ∙ ap one (sym (bit-low w)))
    (ones-size n (w / 2) (half_lt n h) ∙ size-cong (bit (w / 2)) (λ i. bit w (suc i)) n (λ i l. bit-half w i))
    ∙ sym (size_low (bit w) n)
