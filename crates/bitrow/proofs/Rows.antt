-- Laws of a row's bits.
use mathlib.Core.Path.{◌≡◌, refl, sym, ap, ap₂, ◌∙◌, fun_ext}
use mathlib.Core.Bool.{Bool, false, not, ◌&&◌, ◌||◌, cond, or_comm}
use mathlib.Core.List.{List, [], ◌∷◌}
use Prim.Native.Nat.{ℕ, zero, suc, ◌+◌, ◌-◌, ◌*◌, ◌/◌, ◌%◌, ◌^◌, ◌≤◌, ◌<◌}
use native.Mathlib.Nat.{zero-add, lt_of_le_of_lt}
use native.Mathlib.Decide.{dec_lt, ℕ_discrete}
use native.Mathlib.Omega.{arith}
use lib.Arith.{digits_mod, digits_div}
use lib.Bits.{bit_and, bit_or, or_add_and, and_le_l, and_le_r}
use lib.Count.{ones, count_trailing_zeros}
use lib.Pow.{pow_pos, shr_le}
use lib.Dec.{eqb}
use lib.Pointwise.{pointwise, bytes_decides}
use lib.ListN.{length, get_or, set, get_or-eq_default}
use lib.Seq.{get_or-set_same, get_or-set_other, ext_get_or}
use borrow.Author.Tests.{eq-eqb, ne_eqb, eqb-true, not-true}
use Rattle.bitrow.specs.Bit.{bit, bit_at, Row}
use Rattle.bitrow.specs.Set.{nothing, under, insert, meet, join, less, Bounded, has_some, equal, size, Lowest}
use Rattle.bitrow.proofs.Sets.{point, nothing-at, under-in, under-out, bounded-nothing, bounded-under, bounded-meet-left, bounded-meet-right, bounded-join, bounded-less, bounded-ext}
use Rattle.bitrow.proofs.Tests.{same_test, has_some-clear, has_some-absent, equal-in, equal-self}
use Rattle.bitrow.proofs.Sizes.{size-cong, size-add, size-le}
use Rattle.bitrow.proofs.Words.{bit-and, bit-or, bit_not, bit-zero, bit-ones, bit-pow, one_shl, bit-shr, bit_below, word-ext, trailing, ones-size}

rem_lt : (j : ℕ) → j % 64 < 64
rem_lt j = omega arith

-- each of four words
four-words : (P : ℕ → Type 0) → P 0 → P 1 → P 2 → P 3 → (k : ℕ) → k < 4 → P k
four-words P a b c d zero h = a
four-words P a b c d (suc zero) h = b
four-words P a b c d (suc (suc zero)) h = c
four-words P a b c d (suc (suc (suc zero))) h = d
four-words P a b c d (suc (suc (suc (suc k)))) h = absurd (omega arith)

-- ---- a row by its words

-- bit i of word k
pub word-bit : (r : List ℕ) (k i : ℕ) → i < 64 → bit_at r (k * 64 + i) ≡ bit (get_or r k 0) i
unfolding bit_at
word-bit r k i h = ap₂ (λ (q m : ℕ). bit (get_or r q 0) m) (digits_div k h) (digits_mod k h)

four-bounded : (r : List ℕ) → length r ≡ 4 → Bounded 256 (bit_at r)
unfolding bit_at
four-bounded r e = record { clear = λ j h. ap (λ (w : ℕ). bit w (j % 64)) (get_or-eq_default r 0 {n = j / 64} (omega arith)) ∙ bit-zero (j % 64) }

-- no bit from 256 on
pub row-bounded : (r : List ℕ) → Row r → Bounded 256 (bit_at r)
row-bounded r p = four-bounded r p.four

-- four words with the bits of s are s
pub words_are : (r : List ℕ) (s : ℕ → Bool) → length r ≡ 4 → Bounded 256 s
    → ((k : ℕ) → k < 4 → (i : ℕ) → i < 64 → bit (get_or r k 0) i ≡ s (k * 64 + i))
    → bit_at r ≡ s
unfolding bit_at
words_are r s e q f =
    bounded-ext (four-bounded r e) q (λ j h.
    let d : j / 64 * 64 + j % 64 ≡ j = omega arith in
    f (j / 64) (omega arith) (j % 64) (rem_lt j) ∙ ap s d)

-- rows with the same bits are the same
row-ext : (r s : List ℕ) → Row r → Row s → ((j : ℕ) → j < 256 → bit_at r j ≡ bit_at s j) → r ≡ s
row-ext r s p q f =
    ext_get_or 0 r s (p.four ∙ sym q.four) (λ k h.
    let k4 : k < 4 = omega (arith, p.four) in
    word-ext 64 (get_or r k 0) (get_or s k 0) (p.small k).fits (q.small k).fits (λ i l. sym (word-bit r k i l) ∙ f (k * 64 + i) (omega arith) ∙ word-bit s k i l))

-- ---- rows of known words

same_word-law : (w k : ℕ) → k < 4 → get_or (w ∷ w ∷ w ∷ w ∷ []) k 0 ≡ w
same_word-law w = four-words (λ k. get_or (w ∷ w ∷ w ∷ w ∷ []) k 0 ≡ w) refl refl refl refl

pub zeros-row : bit_at (0 ∷ 0 ∷ 0 ∷ 0 ∷ []) ≡ nothing
zeros-row = words_are _ nothing refl (bounded-nothing 256) (λ k h i l. ap (λ (w : ℕ). bit w i) (same_word-law 0 k h) ∙ bit-zero i ∙ sym (nothing-at (k * 64 + i)))

-- `u64::MAX`
abbrev full : ℕ
full = 18446744073709551615

pub ones-row : bit_at (full ∷ full ∷ full ∷ full ∷ []) ≡ under 256
ones-row = words_are _ (under 256) refl (bounded-under 256) (λ k h i l. ap (λ (w : ℕ). bit w i) (same_word-law full k h) ∙ bit-ones 64 i l ∙ sym (under-in 256 (k * 64 + i) (omega arith)))

under-shift : (d i m : ℕ) → under (i - d) m ≡ under i (d + m)
under-shift d i m = go (dec_lt (d + m) i)
  where
    go : Dec (d + m < i) → under (i - d) m ≡ under i (d + m)
    go (yes h) = under-in (i - d) m (omega arith) ∙ sym (under-in i (d + m) h)
    go (no n) = under-out (i - d) m (omega arith) ∙ sym (under-out i (d + m) (omega arith))

-- each word has its bits below what is left of i past the words before it: together they have those below i
pub low-row : (i a b c d : ℕ) {p q r : ℕ} → p ≡ i - 64 → q ≡ i - 128 → r ≡ i - 192
    → bit a ≡ meet (under i) (under 64) → bit b ≡ meet (under p) (under 64) → bit c ≡ meet (under q) (under 64) → bit d ≡ meet (under r) (under 64)
    → bit_at (a ∷ b ∷ c ∷ d ∷ []) ≡ meet (under i) (under 256)
unfolding meet
low-row i a b c d p q r e f g h =
    words_are (a ∷ b ∷ c ∷ d ∷ []) (meet (under i) (under 256)) refl (bounded-meet-right (bounded-under 256) (under i))
    (four-words _ (word 0 a (omega arith) (omega arith) e) (word 1 b (omega arith) p f) (word 2 c (omega arith) q g) (word 3 d (omega arith) r h))
  where
    word : (k w : ℕ) {n : ℕ} → k < 4 → n ≡ i - k * 64 → bit w ≡ meet (under n) (under 64) → (m : ℕ) → m < 64 → bit w m ≡ meet (under i) (under 256) (k * 64 + m)
    word k w l q e m h = point e m ∙ ap₂ (λ (x y : Bool). x && y) (ap (λ (x : ℕ). under x m) q ∙ under-shift (k * 64) i m) (under-in 64 m h ∙ sym (under-in 256 (k * 64 + m) (omega arith)))

-- ---- a row made of two rows word by word

abbrev zipped : (ℕ → ℕ → ℕ) → List ℕ → List ℕ → List ℕ
zipped f a b = f (get_or a 0 0) (get_or b 0 0) ∷ f (get_or a 1 0) (get_or b 1 0) ∷ f (get_or a 2 0) (get_or b 2 0) ∷ f (get_or a 3 0) (get_or b 3 0) ∷ []

module _ (f : ℕ → ℕ → ℕ) (g : Bool → Bool → Bool) (a b : List ℕ)
    (each : (k i : ℕ) → i < 64 → bit (f (get_or a k 0) (get_or b k 0)) i ≡ g (bit (get_or a k 0) i) (bit (get_or b k 0) i)) where
  zip-row : Bounded 256 (λ j. g (bit_at a j) (bit_at b j)) → bit_at (zipped f a b) ≡ (λ j. g (bit_at a j) (bit_at b j))
  zip-row p = words_are (zipped f a b) (λ j. g (bit_at a j) (bit_at b j)) refl p (λ k h i l.
      ap (λ (w : ℕ). bit w i) (four-words (λ k. get_or (zipped f a b) k 0 ≡ f (get_or a k 0) (get_or b k 0)) refl refl refl refl k h)
      ∙ each k i l ∙ sym (ap₂ g (word-bit a k i l) (word-bit b k i l)))

-- `&`, `|` and `& !` of two rows
pub and-row : (a b : List ℕ) → Row a → bit_at (zipped bit_and a b) ≡ meet (bit_at a) (bit_at b)
unfolding meet
and-row a b p = zip-row bit_and (λ x y. x && y) a b (λ k i h. bit-and (get_or a k 0) (get_or b k 0) i) (bounded-meet-left (row-bounded a p) (bit_at b))

pub or-row : (a b : List ℕ) → Row a → Row b → bit_at (zipped bit_or a b) ≡ join (bit_at a) (bit_at b)
unfolding join
or-row a b p q = zip-row bit_or (λ x y. x || y) a b (λ k i h. bit-or (get_or a k 0) (get_or b k 0) i) (bounded-join (row-bounded a p) (row-bounded b q))

pub and-not-row : (a b : List ℕ) → Row a → Row b → bit_at (zipped (λ x y. bit_and x (full - y)) a b) ≡ less (bit_at a) (bit_at b)
unfolding less
and-not-row a b p q =
    zip-row (λ x y. bit_and x (full - y)) (λ x y. x && not y) a b (λ k i h.
    bit-and (get_or a k 0) (full - get_or b k 0) i ∙ ap (λ (x : Bool). bit (get_or a k 0) i && x) (bit_not 64 (get_or b k 0) i (q.small k).fits h))
    (bounded-less (row-bounded a p) (bit_at b))

-- ---- a row with one word changed at one bit

set-row : (g : Bool → Bool → Bool) → ((b : Bool) → g false b ≡ b) → (r : List ℕ) (i v : ℕ) → i / 64 < length r
    → ((m : ℕ) → m < 64 → bit v m ≡ g (eqb m (i % 64)) (bit (get_or r (i / 64) 0) m))
    → (j : ℕ) → bit_at (set r (i / 64) v) j ≡ g (eqb j i) (bit_at r j)
unfolding bit_at
set-row g g0 r i v h f j = go (ℕ_discrete (j / 64) (i / 64))
  where
    same : j / 64 ≡ i / 64 → Dec (j ≡ i) → eqb (j % 64) (i % 64) ≡ eqb j i
    same e (yes p) = eq-eqb (j % 64) (i % 64) (ap (λ (n : ℕ). n % 64) p) ∙ sym (eq-eqb j i p)
    same e (no n) = ne_eqb (j % 64) (i % 64) (λ q. n (omega arith)) ∙ sym (ne_eqb j i n)

    go : Dec (j / 64 ≡ i / 64) → bit (get_or (set r (i / 64) v) (j / 64) 0) (j % 64) ≡ g (eqb j i) (bit (get_or r (j / 64) 0) (j % 64))
    go (yes e) =
        ap (λ (w : ℕ). bit w (j % 64)) (ap (λ (k : ℕ). get_or (set r (i / 64) v) k 0) e ∙ get_or-set_same r (i / 64) v 0 h)
        ∙ f (j % 64) (rem_lt j)
        ∙ ap₂ (λ (x : Bool) (k : ℕ). g x (bit (get_or r k 0) (j % 64))) (same e (ℕ_discrete j i)) (sym e)
    go (no n) =
        ap (λ (w : ℕ). bit w (j % 64)) (get_or-set_other r (i / 64) (j / 64) v 0 n)
        ∙ sym (ap (λ (x : Bool). g x (bit (get_or r (j / 64) 0) (j % 64))) (ne_eqb j i (λ q. n (ap (λ (x : ℕ). x / 64) q))) ∙ g0 (bit (get_or r (j / 64) 0) (j % 64)))

-- `1 << (i % 64)`
abbrev bit_mask : ℕ → ℕ
bit_mask i = 1 * 2 ^ (i % 64) % 18446744073709551616

mask-bit : (i m : ℕ) → bit (bit_mask i) m ≡ eqb m (i % 64)
mask-bit i m = ap (λ (x : ℕ). bit x m) (one_shl 64 (i % 64) (rem_lt i)) ∙ bit-pow (i % 64) m

-- `word | 1 << (i % 64)`
pub insert-bit : (w i : ℕ) → bit (bit_or w (bit_mask i)) ≡ insert (i % 64) (bit w)
unfolding insert
insert-bit w i = fun_ext (λ m. bit-or w (bit_mask i) m ∙ or_comm (bit w m) (bit (bit_mask i) m) ∙ ap (λ (b : Bool). b || bit w m) (mask-bit i m))

-- i put into word i / 64
pub insert-row : (r : List ℕ) (i v : ℕ) → length r ≡ 4 → i < 256 → bit v ≡ insert (i % 64) (bit (get_or r (i / 64) 0)) → bit_at (set r (i / 64) v) ≡ insert i (bit_at r)
unfolding insert
insert-row r i v n h e = fun_ext (set-row (λ x y. x || y) (λ b. refl) r i v (omega arith) (λ m l. point e m))

-- ---- a row of one number

-- word k of it
abbrev pub OnlyAt : ℕ → ℕ → ℕ → Type 0
OnlyAt i k w = bit w ≡ cond (eqb (i / 64) k) (insert (i % 64) nothing) nothing

pub only-row : (i a b c d : ℕ) → i < 256 → OnlyAt i 0 a → OnlyAt i 1 b → OnlyAt i 2 c → OnlyAt i 3 d → bit_at (a ∷ b ∷ c ∷ d ∷ []) ≡ insert i nothing
unfolding insert nothing
only-row i a b c d h e f g k =
    words_are (a ∷ b ∷ c ∷ d ∷ []) (insert i nothing) refl (record { clear = λ j q. ap (λ x. x || false) (ne_eqb j i (λ z. omega arith)) })
    (four-words _ (word 0 a e) (word 1 b f) (word 2 c g) (word 3 d k))
  where
    same : (k m : ℕ) → m < 64 → i / 64 ≡ k → Dec (m ≡ i % 64) → eqb m (i % 64) ≡ eqb (k * 64 + m) i
    same k m u z (yes p) = eq-eqb m (i % 64) p ∙ sym (eq-eqb (k * 64 + m) i (omega arith))
    same k m u z (no p) = ne_eqb m (i % 64) p ∙ sym (ne_eqb (k * 64 + m) i (λ y. p (omega arith)))

    word : (k w : ℕ) → OnlyAt i k w → (m : ℕ) → m < 64 → bit w m ≡ insert i nothing (k * 64 + m)
    word k w q m u = point q m ∙ go (ℕ_discrete (i / 64) k)
      where
        go : Dec (i / 64 ≡ k) → cond (eqb (i / 64) k) (insert (i % 64) nothing) nothing m ≡ (eqb (k * 64 + m) i || false)
        go (yes z) = ap (λ (t : Bool). cond t (insert (i % 64) nothing) nothing m) (eq-eqb (i / 64) k z) ∙ ap (λ x. x || false) (same k m u z (ℕ_discrete m (i % 64)))
        go (no z) =
            ap (λ (t : Bool). cond t (insert (i % 64) nothing) nothing m) (ne_eqb (i / 64) k z)
            ∙ sym (ap (λ (x : Bool). x || false) (ne_eqb (k * 64 + m) i (λ y. z (omega arith))))

-- ---- tests

-- `r[0] | r[1] | r[2] | r[3]`
abbrev pub joined : List ℕ → ℕ
joined r = bit_or (bit_or (bit_or (get_or r 0 0) (get_or r 1 0)) (get_or r 2 0)) (get_or r 3 0)

or-zero : (a b : ℕ) → bit_or a b ≡ 0 → (a ≡ 0) × (b ≡ 0)
or-zero a b e = (omega (arith, or_add_and a b, and_le_l a b, and_le_r a b), omega (arith, or_add_and a b, and_le_l a b, and_le_r a b))

pub empty-row : (r : List ℕ) → Row r → eqb (joined r) 0 ≡ not (has_some (bit_at r))
unfolding bit_at
empty-row r p =
    same_test (eqb (joined r) 0) (not (has_some (bit_at r)))
    (λ e. ap not (has_some-clear (bit_at r) (clear (eqb-true (joined r) 0 e))))
    (λ e. eq-eqb (joined r) 0 (zeros (word (not-true (has_some (bit_at r)) e))))
  where
    clear : joined r ≡ 0 → (j : ℕ) → j < 256 → bit_at r j ≡ false
    clear e j h =
        let x = or-zero (bit_or (bit_or (get_or r 0 0) (get_or r 1 0)) (get_or r 2 0)) (get_or r 3 0) e in
        let y = or-zero (bit_or (get_or r 0 0) (get_or r 1 0)) (get_or r 2 0) x.0 in
        let z = or-zero (get_or r 0 0) (get_or r 1 0) y.0 in
        ap (λ (w : ℕ). bit w (j % 64)) (four-words (λ k. get_or r k 0 ≡ 0) z.0 z.1 y.1 x.1 (j / 64) (omega arith)) ∙ bit-zero (j % 64)

    word : has_some (bit_at r) ≡ false → (k : ℕ) → k < 4 → get_or r k 0 ≡ 0
    word e k h = word-ext 64 (get_or r k 0) 0 (p.small k).fits (pow_pos 64) (λ i l. sym (word-bit r k i l) ∙ has_some-absent (bit_at r) e (k * 64 + i) (omega arith) ∙ sym (bit-zero i))

    zeros : ((k : ℕ) → k < 4 → get_or r k 0 ≡ 0) → joined r ≡ 0
    zeros z = ap₂ bit_or (ap₂ bit_or (ap₂ bit_or (z 0 (omega arith)) (z 1 (omega arith))) (z 2 (omega arith))) (z 3 (omega arith))

-- `a == b` of arrays
pub equal-row : (a b : List ℕ) → Row a → Row b → pointwise eqb a b ≡ equal (bit_at a) (bit_at b)
equal-row a b p q =
    let words = bytes_decides a b in
    same_test (pointwise eqb a b) (equal (bit_at a) (bit_at b))
    (λ e. ap (λ (r : List ℕ). equal (bit_at a) (bit_at r)) (sym (words.0 e)) ∙ equal-self (bit_at a))
    (λ e. words.1 (row-ext a b p q (equal-in (bit_at a) (bit_at b) e)))

-- ---- counting

-- `count_ones` of each word
abbrev word_ones : List ℕ → ℕ
word_ones r = ones (get_or r 0 0) + ones (get_or r 1 0) + ones (get_or r 2 0) + ones (get_or r 3 0)

word_size : (r : List ℕ) → Row r → (k : ℕ) → ones (get_or r k 0) ≡ size (λ i. bit_at r (k * 64 + i)) 64
word_size r p k = ones-size 64 (get_or r k 0) (p.small k).fits ∙ size-cong (bit (get_or r k 0)) (λ i. bit_at r (k * 64 + i)) 64 (λ i h. sym (word-bit r k i h))

pub size-row : (r : List ℕ) → Row r → word_ones r ≡ size (bit_at r) 256
size-row r p =
    omega (
      arith,
      word_size r p 0,
      word_size r p 1,
      word_size r p 2,
      word_size r p 3,
      size-add (bit_at r) 192 64,
      size-add (bit_at r) 128 64,
      size-add (bit_at r) 64 64,
      size-cong (λ i. bit_at r (0 + i)) (bit_at r) 64 (λ i h. ap (bit_at r) (zero-add i)),
    )

-- a row has at most 256 bits set
pub ones-le-row : (r : List ℕ) → Row r → word_ones r ≤ 256
ones-le-row r p = omega (arith, size-row r p, size-le (bit_at r) 256)

-- ---- searching

-- the word that i lies in, from i on
abbrev pub rest : List ℕ → ℕ → ℕ
rest r i = get_or r (i / 64) 0 / 2 ^ (i % 64)

rest-bit : (r : List ℕ) (i m : ℕ) → i % 64 + m < 64 → bit_at r (i + m) ≡ bit (rest r i) m
rest-bit r i m h =
    let e : i + m ≡ i / 64 * 64 + (i % 64 + m) = omega arith in
    ap (bit_at r) e ∙ word-bit r (i / 64) (i % 64 + m) h ∙ sym (bit-shr (get_or r (i / 64) 0) (i % 64) m)

-- its lowest bit is the row's
pub rest-lowest : (r : List ℕ) (i : ℕ) → Row r → i < 256 → 0 < rest r i → Lowest (bit_at r) i 256 (i + count_trailing_zeros 64 (rest r i))
rest-lowest r i p h z =
    let w = get_or r (i / 64) 0 in
    let t = count_trailing_zeros 64 (rest r i) in
    let l = trailing 64 (rest r i) (lt_of_le_of_lt (shr_le w (i % 64)) (p.small (i / 64)).fits) z in
    let fits : i % 64 + t < 64 = bit_below 64 w (i % 64 + t) (p.small (i / 64)).fits (sym (bit-shr w (i % 64) t) ∙ l.there) in
    record {
      from = omega arith;
      below = omega arith;
      there = rest-bit r i t fits ∙ l.there;
      before = λ k a b. let e : k ≡ i + (k - i) = omega arith in ap (bit_at r) e ∙ rest-bit r i (k - i) (omega arith) ∙ l.before (k - i) (omega arith) (omega arith);
    }

-- with no bit there is nothing up to the next word
pub rest-clear : (r : List ℕ) (i : ℕ) → rest r i ≡ 0 → (k : ℕ) → i ≤ k → k < (i / 64 + 1) * 64 → bit_at r k ≡ false
rest-clear r i z k a b =
    let e : k ≡ i + (k - i) = omega arith in
    ap (bit_at r) e ∙ rest-bit r i (k - i) (omega arith) ∙ ap (λ (w : ℕ). bit w (k - i)) z ∙ bit-zero (k - i)
