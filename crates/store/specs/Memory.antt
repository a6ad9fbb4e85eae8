-- The memory after each write, as a list of words, and what it then holds.
use Rattle.std.specs.Prelude.{Bool, false, ◌&&◌, cond, List, [], ◌∷◌, ℕ, zero, suc, ◌+◌, ◌-◌, ◌/◌, ◌%◌, ◌^◌, eqb, leb, ltb, length, get_or, set, replicate}
use Rattle.std.specs.Int.Bits.{bit_and, bit_or}
use Rattle.std.proofs.lemmas.List.Edits.{sets}
use Rattle.bitrow.specs.Bit.{bit_at}
use Rattle.store.specs.Layout.{row_start, band_row, band_index, in_band, word_at}
use Rattle.store.specs.declared.Band.{Band}
use Rattle.store.specs.Contents.{Contents, tab}

-- ---- the lists

-- the word w with its bit i made v
unfoldable pub with_bit : ℕ → ℕ → Bool → ℕ
with_bit w i v = cond v (bit_or w (2 ^ i)) (bit_and w (2 ^ 64 - 1 - 2 ^ i))

-- where the word stands that has bit b of row r
abbrev pub bit_word : ℕ → ℕ → ℕ
bit_word r b = row_start r + b / 64

-- n words stored from start on, word k of them being f k
unfoldable pub slot_set : List ℕ → ℕ → ℕ → (ℕ → ℕ) → List ℕ
slot_set m start n f = sets m start (tab n f)

-- the four words of an array
abbrev pub four_words : List ℕ → List ℕ
four_words row = get_or row 0 0 ∷ get_or row 1 0 ∷ get_or row 2 0 ∷ get_or row 3 0 ∷ []

unfoldable pub row_set : List ℕ → ℕ → List ℕ → List ℕ
row_set m r row = sets m (row_start r) (four_words row)

-- bit b of row r made v
unfoldable pub bit_set : List ℕ → ℕ → ℕ → Bool → List ℕ
bit_set m r b v = set m (bit_word r b) (with_bit (word_at m (bit_word r b)) (b % 64) v)

-- the memory after n turns of a loop whose turn i makes `turn i` of it
unfoldable pub runs : (ℕ → List ℕ → List ℕ) → List ℕ → ℕ → List ℕ
runs turn m zero = m
runs turn m (suc n) = turn n (runs turn m n)

-- bit b of each row i of the band made bit i of the values
unfoldable pub column_set : List ℕ → Band → ℕ → List ℕ → List ℕ
column_set m t b values = runs (λ i l. bit_set l (band_row t i) b (bit_at values i)) m t.count

-- every word 0
unfoldable pub cleared : List ℕ → List ℕ
cleared m = replicate (length m) 0

-- ---- what they hold

unfoldable pub with_slot : Contents → ℕ → ℕ → (ℕ → ℕ) → Contents
with_slot c start n f = record {
  words = λ k. cond (leb start k && ltb k (start + n)) (f (k - start)) (c.words k);
  bits = c.bits;
}

unfoldable pub with_row : Contents → ℕ → (ℕ → Bool) → Contents
with_row c r set = record { words = c.words; bits = λ x. cond (eqb x r) set (c.bits x) }

-- row i of the band made f i of what it was, for each i below its count
unfoldable pub with_rows : Contents → Band → (ℕ → (ℕ → Bool) → ℕ → Bool) → Contents
with_rows c t f = record {
  words = c.words;
  bits = λ r. cond (in_band t r) (f (band_index t r) (c.bits r)) (c.bits r);
}

-- a row's bits with bit b made v
unfoldable pub changed : ℕ → Bool → (ℕ → Bool) → ℕ → Bool
changed b v old y = cond (eqb y b) v (old y)

-- bit b of each row i of the band made set i
unfoldable pub with_column : Contents → Band → ℕ → (ℕ → Bool) → Contents
with_column c t b set = with_rows c t (λ i. changed b (set i))

-- every word 0, every bit clear
unfoldable pub blank : Contents
blank = record { words = λ k. 0; bits = λ r y. false }
