-- What a memory holds: words before the rows, and the rows' bits; and the one memory that holds it.
use Rattle.std.specs.Prelude.{◌≡◌, Bool, cond, List, [], ◌∷◌, ℕ, zero, suc, ◌+◌, ◌*◌, ◌-◌, ◌/◌, ◌%◌, ◌<◌, ltb}
use Rattle.bitrow.specs.Set.{one}
use Rattle.store.specs.Layout.{memory_words, rows_start, row_count, row_words, Whole, word_at, row_bit}

pub record Contents : Type 0 where
  pub words : ℕ → ℕ
  pub bits : ℕ → ℕ → Bool

pub record Holds (m : List ℕ) (c : Contents) : Type 0 where
  pub whole : Whole m
  pub words : (k : ℕ) → k < rows_start → word_at m k ≡ c.words k
  pub bits : (r y : ℕ) → r < row_count → y < 256 → row_bit m r y ≡ c.bits r y

-- f 0, f 1, .., n of them
unfoldable pub tab : {A : Type 0} → ℕ → (ℕ → A) → List A
tab zero f = []
tab (suc n) f = f 0 ∷ tab n (λ (i : ℕ). f (suc i))

-- the word of n bits that f gives, bit 0 first
unfoldable pub of_bits : ℕ → (ℕ → Bool) → ℕ
of_bits zero f = 0
of_bits (suc n) f = 2 * of_bits n (λ (i : ℕ). f (suc i)) + one (f 0)

unfoldable pub image_word : Contents → ℕ → ℕ
image_word c k =
    cond (ltb k rows_start) (c.words k)
    (of_bits 64 (λ (i : ℕ). c.bits ((k - rows_start) / row_words) ((k - rows_start) % row_words * 64 + i)))

-- the memory that holds it, word for word
unfoldable pub image_of : Contents → List ℕ
image_of c = tab memory_words (image_word c)
