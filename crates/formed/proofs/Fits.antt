-- Words below 2 ^ 64 stay so: by each write of words that are, and by any write of a bit.
use mathlib.Core.Path.{◌≡◌, sym, ap, subst}
use mathlib.Core.Bool.{Bool, true, false}
use mathlib.Core.List.{List, [], ◌∷◌}
use Prim.Native.Nat.{ℕ, zero, suc, ◌%◌, ◌-◌, ◌^◌, ◌<◌}
use native.Mathlib.Omega.{arith}
use lib.Pow.{pow-lt}
use lib.ListN.{length, set, length-set, get_or-eq_default, length-replicate, get_or-replicate}
use lib.Seq.{sets, get_or-set_same, get_or-set_other}
use Rattle.std.proofs.lemmas.Nat.{or_lt, and_le_l}
use Rattle.bitrow.specs.Bit.{bit_at}
use Rattle.store.specs.Layout.{row_start, band_row, word_at}
use Rattle.store.specs.declared.Band.{Band}
use Rattle.store.specs.Contents.{tab}
use Rattle.store.specs.Memory.{with_bit, bit_word, slot_set, four_words, row_set, bit_set, runs, column_set, cleared}
use Rattle.store.proofs.Cases.{by_eqb, by-ltb}
use Rattle.store.proofs.Image.{get_or-tab, tab-beyond, image-words-fit}
use Rattle.model.specs.Registry.{Registry}
use Rattle.formed.specs.Registry.{contents_of, image, ValidEntries}
use Rattle.formed.proofs.Back.{entry-small}
use Rattle.formed.proofs.StoredLaws.{Fit}

-- what a call left, by what it ensures
pub fits_by : (m : List ℕ) {e : List ℕ} → Fit m → e ≡ m → Fit e
fits_by m h q = subst (λ (l : List ℕ). Fit l) (sym q) h

fits-set : (m : List ℕ) (i v : ℕ) → Fit m → v < 2 ^ 64 → Fit (set m i v)
fits-set m i v h b k =
    by_eqb (λ _. word_at (set m i v) k < 2 ^ 64) k i
    (λ e. by-ltb (λ _. word_at (set m i v) k < 2 ^ 64) k (length m)
    (λ l. omega (arith, ap (word_at (set m i v)) e, get_or-set_same m i v 0 (omega arith)))
    (λ l. omega (arith, get_or-eq_default (set m i v) 0 {n = k} (omega (arith, length-set m i v)))))
    (λ n. omega (arith, get_or-set_other m i k v 0 n, h k))

fits_sets : (vs m : List ℕ) (i : ℕ) → Fit m → Fit vs → Fit (sets m i vs)
fits_sets [] m i h g = h
fits_sets (v ∷ vs) m i h g = fits_sets vs (set m i v) (suc i) (fits-set m i v h (g 0)) (λ k. g (suc k))

pub fits-slot : (m : List ℕ) (start n : ℕ) (f : ℕ → ℕ) → Fit m → ((k : ℕ) → k < n → f k < 2 ^ 64) → Fit (slot_set m start n f)
unfolding slot_set
fits-slot m start n f h g =
    fits_sets (tab n f) m start h (λ k. by-ltb (λ _. word_at (tab n f) k < 2 ^ 64) k n
    (λ l. omega (arith, get_or-tab n f k 0 l, g k l)) (λ l. omega (arith, tab-beyond n f k 0 l)))

pub fits_row : (m : List ℕ) (r : ℕ) (row : List ℕ) → Fit m → Fit row → Fit (row_set m r row)
unfolding row_set
fits_row m r row h g = fits_sets (four_words row) m (row_start r) h four
  where
    four : Fit (four_words row)
    four zero = g 0
    four (suc zero) = g 1
    four (suc (suc zero)) = g 2
    four (suc (suc (suc zero))) = g 3
    four (suc (suc (suc (suc k)))) = omega arith

fits-with_bit : (w i : ℕ) (v : Bool) → w < 2 ^ 64 → with_bit w (i % 64) v < 2 ^ 64
unfolding with_bit
fits-with_bit w i true h = or_lt 64 w (2 ^ (i % 64)) h (pow-lt {j = 64} (omega arith))
fits-with_bit w i false h = omega (arith, and_le_l w (2 ^ 64 - 1 - 2 ^ (i % 64)))

pub fits-column : (m : List ℕ) (t : Band) (b : ℕ) (values : List ℕ) → Fit m → Fit (column_set m t b values)
unfolding column_set bit_set runs
fits-column m t b values h = turns t.count
  where
    turns : (n : ℕ) → Fit (runs (λ i l. bit_set l (band_row t i) b (bit_at values i)) m n)
    turns zero = h
    turns (suc n) =
        let l = runs (λ i l. bit_set l (band_row t i) b (bit_at values i)) m n in
        fits-set l (bit_word (band_row t n) b) _ (turns n) (fits-with_bit _ b (bit_at values n) (turns n (bit_word (band_row t n) b)))

pub fits-cleared : (m : List ℕ) → Fit (cleared m)
unfolding cleared
fits-cleared m k =
    by-ltb (λ _. word_at (cleared m) k < 2 ^ 64) k (length m)
    (λ l. omega (arith, get_or-replicate {A = ℕ} (length m) k 0 0 l))
    (λ l. omega (arith, get_or-eq_default (cleared m) 0 {n = k} (omega (arith, length-replicate {A = ℕ} (length m) 0))))

-- the image of valid entries, whatever the bits
pub fits-image : (r : Registry) → ValidEntries r.model → Fit (image r)
unfolding image contents_of
fits-image r ok = image-words-fit (contents_of r) (λ j l. omega (arith, entry-small r.model ok j))
