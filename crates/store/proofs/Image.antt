-- Tables by what stands at each place, words by their bits, and the one memory that holds given contents.
use mathlib.Core.Path.{◌≡◌, refl, sym, ap, ap₂, ◌∙◌}
use mathlib.Core.Bool.{Bool, cond}
use mathlib.Core.List.{List}
use Prim.Native.Nat.{ℕ, zero, suc, ◌+◌, ◌*◌, ◌-◌, ◌/◌, ◌%◌, ◌^◌, ◌<◌, ◌≤◌}
use native.Mathlib.Nat.{two-pow-succ, div-one, not-suc-le-zero, le_of_suc-le-suc}
use native.Mathlib.Omega.{arith}
use lib.ListN.{length, get_or, get_or-eq_default}
use lib.Seq.{ext_get_or}
use borrow.Author.Tests.{lt-ltb, le-ltb}
use Rattle.bitrow.specs.Bit.{digit, bit}
use Rattle.bitrow.specs.Set.{one}
use Rattle.bitrow.proofs.Words.{one-lt, digit-one, bit-shr, word-ext}
use Rattle.store.specs.Layout.{memory_words, rows_start, row_count, row_words, row_start, word_at, row_bit}
use Rattle.store.specs.Contents.{Contents, Holds, tab, of_bits, image_word, image_of}
use Rattle.store.proofs.Cases.{by-ltb}

-- ---- tables

module _ {A : Type 0} where
  pub length-tab : (n : ℕ) (f : ℕ → A) → length (tab n f) ≡ n
  unfolding tab
  length-tab zero f = refl
  length-tab (suc n) f = ap suc (length-tab n (λ (i : ℕ). f (suc i)))

  pub get_or-tab : (n : ℕ) (f : ℕ → A) (i : ℕ) (d : A) → i < n → get_or (tab n f) i d ≡ f i
  unfolding tab
  get_or-tab zero f i d h = absurd (not-suc-le-zero h)
  get_or-tab (suc n) f zero d h = refl
  get_or-tab (suc n) f (suc i) d h = get_or-tab n (λ (i : ℕ). f (suc i)) i d (le_of_suc-le-suc h)

  -- past the table's end
  pub tab-beyond : (n : ℕ) (f : ℕ → A) (i : ℕ) (d : A) → n ≤ i → get_or (tab n f) i d ≡ d
  tab-beyond n f i d h = get_or-eq_default (tab n f) d (omega (arith, length-tab n f))

  -- a list is the table of what stands at each of its places
  pub is-tab : (n : ℕ) (f : ℕ → A) (l : List A) (d : A) → length l ≡ n → ((i : ℕ) → i < n → get_or l i d ≡ f i) → l ≡ tab n f
  is-tab n f l d e h =
      ext_get_or d l (tab n f) (e ∙ sym (length-tab n f)) (λ i b. let q : i < n = omega arith in h i q ∙ sym (get_or-tab n f i d q))

-- ---- words by their bits

of-bits-lt : (n : ℕ) (f : ℕ → Bool) → of_bits n f < 2 ^ n
unfolding of_bits
of-bits-lt zero f = omega arith
of-bits-lt (suc n) f = omega (arith, of-bits-lt n (λ (i : ℕ). f (suc i)), two-pow-succ n, one-lt (f 0))

bit-first : (p : ℕ) (b : Bool) → bit (2 * p + one b) 0 ≡ b
unfolding bit
bit-first p b = let e : (2 * p + one b) / 1 % 2 ≡ one b = rw div-one (omega (arith, one-lt b)) in ap digit e ∙ digit-one b

bit-next : (p : ℕ) (b : Bool) (i : ℕ) → bit (2 * p + one b) (suc i) ≡ bit p i
bit-next p b i =
    let w = 2 * p + one b in
    let q : w / 2 ^ 1 ≡ p = omega (arith, one-lt b) in
    ap (bit w) (omega arith) ∙ sym (bit-shr w 1 i) ∙ ap (λ (x : ℕ). bit x i) q

pub bit-of : (n : ℕ) (f : ℕ → Bool) (i : ℕ) → i < n → bit (of_bits n f) i ≡ f i
unfolding of_bits
bit-of zero f i h = absurd (not-suc-le-zero h)
bit-of (suc n) f zero h = bit-first (of_bits n (λ (i : ℕ). f (suc i))) (f 0)
bit-of (suc n) f (suc i) h =
    bit-next (of_bits n (λ (i : ℕ). f (suc i))) (f 0) i ∙ bit-of n (λ (i : ℕ). f (suc i)) i (le_of_suc-le-suc h)

-- a word is what its bits make
is-packed : (n w : ℕ) (f : ℕ → Bool) → w < 2 ^ n → ((i : ℕ) → i < n → bit w i ≡ f i) → w ≡ of_bits n f
is-packed n w f h e = word-ext n w (of_bits n f) h (of-bits-lt n f) (λ i b. e i b ∙ sym (bit-of n f i b))

-- ---- the memory that holds given contents

-- the bits of word k, from the first word of the rows on
abbrev pub word_bits : Contents → ℕ → ℕ → Bool
word_bits c k i = c.bits ((k - rows_start) / row_words) ((k - rows_start) % row_words * 64 + i)

-- the place of a word's bit: its row, its place there
row-place : (m : List ℕ) (k i : ℕ) → rows_start ≤ k → i < 64 → row_bit m ((k - rows_start) / row_words) ((k - rows_start) % row_words * 64 + i) ≡ bit (word_at m k) i
unfolding row_bit
row-place m k i h b =
    let r = (k - rows_start) / row_words in
    let y = (k - rows_start) % row_words * 64 + i in
    let u : row_start r + y / 64 ≡ k = omega arith in
    let v : y % 64 ≡ i = omega arith in
    ap₂ (λ (x z : ℕ). bit (word_at m x) z) u v

-- a memory is the image of what it holds
pub holds-image : {m : List ℕ} {c : Contents} → Holds m c → ((k : ℕ) → word_at m k < 2 ^ 64) → m ≡ image_of c
unfolding image_of image_word
holds-image {m} {c} h fit =
    is-tab memory_words (image_word c) m 0 h.whole (λ k l.
    by-ltb (λ t. word_at m k ≡ cond t (c.words k) (of_bits 64 (word_bits c k))) k rows_start
    (λ g. h.words k g)
    (λ g. is-packed 64 (word_at m k) (word_bits c k) (fit k) (λ i b. sym (row-place m k i g b) ∙ h.bits ((k - rows_start) / row_words) ((k - rows_start) % row_words * 64 + i) (omega arith) (omega arith))))

module _ (c : Contents) where
  pub image-length : length (image_of c) ≡ memory_words
  unfolding image_of
  image-length = length-tab memory_words (image_word c)

  image-word : (k : ℕ) → k < memory_words → word_at (image_of c) k ≡ image_word c k
  unfolding image_of
  image-word k h = get_or-tab memory_words (image_word c) k 0 h

  image-entry : (k : ℕ) → k < rows_start → word_at (image_of c) k ≡ c.words k
  unfolding image_word
  image-entry k h = image-word k (omega arith) ∙ (rw (lt-ltb k rows_start h))

  image-packed : (k : ℕ) → rows_start ≤ k → k < memory_words → word_at (image_of c) k ≡ of_bits 64 (word_bits c k)
  unfolding image_word
  image-packed k g h = image-word k h ∙ (rw (le-ltb k rows_start g))

  image-bit : (r y : ℕ) → r < row_count → y < 256 → row_bit (image_of c) r y ≡ c.bits r y
  unfolding row_bit
  image-bit r y hr hy =
      let k = row_start r + y / 64 in
      let a : (k - rows_start) / row_words ≡ r = omega arith in
      let b : (k - rows_start) % row_words * 64 + y % 64 ≡ y = omega arith in
      ap (λ (w : ℕ). bit w (y % 64)) (image-packed k (omega arith) (omega arith)) ∙ bit-of 64 (word_bits c k) (y % 64) (omega arith) ∙ ap₂ c.bits a b

  -- the image holds them
  pub image_holds : Holds (image_of c) c
  image_holds = record { whole = image-length; words = image-entry; bits = image-bit }

  -- a word of the rows, and a word past the memory's end
  image-rows-fit : (k : ℕ) → rows_start ≤ k → word_at (image_of c) k < 2 ^ 64
  unfolding image_of
  image-rows-fit k g =
      by-ltb (λ t. word_at (image_of c) k < 2 ^ 64) k memory_words
      (λ h. omega (arith, image-packed k g h, of-bits-lt 64 (word_bits c k)))
      (λ h. omega (arith, tab-beyond memory_words (image_word c) k 0 h))

  pub image-words-fit : ((k : ℕ) → k < rows_start → c.words k < 2 ^ 64) → (k : ℕ) → word_at (image_of c) k < 2 ^ 64
  image-words-fit fit k =
      by-ltb (λ t. word_at (image_of c) k < 2 ^ 64) k rows_start
      (λ h. omega (arith, image-entry k h, fit k h)) (λ h. image-rows-fit k h)
