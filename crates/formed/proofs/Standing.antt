-- Standing slots as bits: a word that a loop gathers, and four such words as the row of a table.
use mathlib.Core.Path.{◌≡◌, refl, sym, ap, ◌∙◌, fun_ext, ap₂}
use mathlib.Core.Bool.{Bool, false, not, ◌&&◌, and-true, and-false, true}
use mathlib.Core.List.{List, [], ◌∷◌}
use Prim.Native.Nat.{ℕ, zero, suc, ◌+◌, ◌-◌, ◌*◌, ◌%◌, ◌<◌, ◌≤◌}
use native.Mathlib.Nat.{mod-eq_of_lt}
use native.Mathlib.Omega.{arith}
use lib.Dec.{eqb}
use lib.ListN.{get_or}
use mir.Val.{Fits}
use mir.Syntax.{w64}
use borrow.Author.Tests.{eq-eqb, ne_eqb}
use Rattle.bitrow.specs.Bit.{bit, bit_at}
use Rattle.bitrow.specs.Set.{nothing, insert, meet, under, Bounded}
use Rattle.bitrow.proofs.Sets.{point, meet-at, meet-take, meet-skip, meet-nothing, under-zero, under-in, under-out, bounded-under, bounded-raise, bounded-meet-right}
use Rattle.bitrow.proofs.Words.{bit-zero, bit_not}
use Rattle.bitrow.proofs.Rows.{words_are}
use Rattle.store.specs.Layout.{word_at}
use Rattle.formed.specs.Tests.{firsts}

module _ (s : ℕ → Bool) (n j : ℕ) where
  pub meet-in : j < n → meet s (under n) j ≡ s j
  meet-in h = meet-at s (under n) j ∙ ap (λ t. s j && t) (under-in n j h) ∙ and-true (s j)

  pub meet-out : n ≤ j → meet s (under n) j ≡ false
  meet-out h = meet-at s (under n) j ∙ ap (λ t. s j && t) (under-out n j h) ∙ and-false (s j)

-- ---- a word gathered bit by bit

pub word-zero : bit 0 ≡ nothing
unfolding nothing
word-zero = fun_ext bit-zero

-- a word that has gathered the numbers of s below k, and the next
pub word_none : (s : ℕ → Bool) → bit 0 ≡ meet s (under 0)
word_none s = word-zero ∙ sym (ap (meet s) under-zero ∙ meet-nothing s)

module _ (s : ℕ → Bool) (k w : ℕ) (e : bit w ≡ meet s (under k)) where
  pub word-skip : s k ≡ false → bit w ≡ meet s (under (k + 1))
  word-skip z = e ∙ meet-skip s k z

  pub word-take : (v : ℕ) → k < 64 → bit v ≡ insert (k % 64) (bit w) → s k ≡ true → bit v ≡ meet s (under (k + 1))
  word-take v h f z = f ∙ ap₂ insert (mod-eq_of_lt h) e ∙ meet-take s k z

-- by the first words of slots
module _ (m : List ℕ) (from step first k w : ℕ) (e : bit w ≡ meet (firsts m from step first) (under k)) where
  pub firsts-skip : (word_at m (from + step * k) ≡ first → ⊥) → bit w ≡ meet (firsts m from step first) (under (k + 1))
  unfolding firsts
  firsts-skip z = word-skip (firsts m from step first) k w e (ne_eqb _ _ z)

  pub firsts-take : (v : ℕ) → k < 64 → bit v ≡ insert (k % 64) (bit w) → word_at m (from + step * k) ≡ first → bit v ≡ meet (firsts m from step first) (under (k + 1))
  unfolding firsts
  firsts-take v h f z = word-take (firsts m from step first) k w e v h f (eq-eqb _ _ z)

-- ---- four words as a row

-- four words, by what each is
pub words_row : (s : ℕ → Bool) (a b c d : ℕ) → Bounded 256 s
    → ((i : ℕ) → i < 64 → bit a i ≡ s (0 + i)) → ((i : ℕ) → i < 64 → bit b i ≡ s (64 + i))
    → ((i : ℕ) → i < 64 → bit c i ≡ s (128 + i)) → ((i : ℕ) → i < 64 → bit d i ≡ s (192 + i))
    → bit_at (a ∷ b ∷ c ∷ d ∷ []) ≡ s
words_row s a b c d q f g h l = words_are (a ∷ b ∷ c ∷ d ∷ []) s refl q each
  where
    each : (k : ℕ) → k < 4 → (i : ℕ) → i < 64 → bit (get_or (a ∷ b ∷ c ∷ d ∷ []) k 0) i ≡ s (k * 64 + i)
    each zero p = f
    each (suc zero) p = g
    each (suc (suc zero)) p = h
    each (suc (suc (suc zero))) p = l
    each (suc (suc (suc (suc k)))) p = absurd (omega arith)

-- 128 slots in two words
module _ (s : ℕ → Bool) where
  within : (n j w : ℕ) → j + 64 ≤ n → ((i : ℕ) → i < 64 → bit w i ≡ s (j + i)) → (i : ℕ) → i < 64 → bit w i ≡ meet s (under n) (j + i)
  within n j w h e i l = e i l ∙ sym (meet-in s n (j + i) (omega arith))

  past : (n j : ℕ) → n ≤ j → (i : ℕ) → i < 64 → bit 0 i ≡ meet s (under n) (j + i)
  past n j h i l = bit-zero i ∙ sym (meet-out s n (j + i) (omega arith))

  bounded-by : (n : ℕ) → n ≤ 256 → Bounded 256 (meet s (under n))
  bounded-by n h = bounded-meet-right (bounded-raise h (bounded-under n)) s

  pub two-words : (a b : ℕ) → ((i : ℕ) → i < 64 → bit a i ≡ s (0 + i)) → ((i : ℕ) → i < 64 → bit b i ≡ s (64 + i))
      → bit_at (a ∷ b ∷ 0 ∷ 0 ∷ []) ≡ meet s (under 128)
  two-words a b e f =
      words_row (meet s (under 128)) a b 0 0 (bounded-by 128 (omega arith))
      (within 128 0 a (omega arith) e) (within 128 64 b (omega arith) f) (past 128 128 (omega arith)) (past 128 192 (omega arith))

-- ---- slots by their first words

-- those whose first word passes a test
module _ (m : List ℕ) (from step : ℕ) (g : ℕ → Bool) where
  unfoldable pub passing : ℕ → Bool
  passing j = g (word_at m (from + step * j))

  -- from slot j on
  pub slots-word : (j w : ℕ) → ((i : ℕ) → i < 64 → bit w i ≡ g (word_at m (from + step * j + step * i))) → (i : ℕ) → i < 64 → bit w i ≡ passing (j + i)
  unfolding passing
  slots-word j w e i l = let p : from + step * j + step * i ≡ from + step * (j + i) = omega arith in e i l ∙ ap (λ k. g (word_at m k)) p

-- ---- the standing slots of a table

abbrev taken : ℕ → Bool
taken w = not (eqb w 0)

module _ (m : List ℕ) where
  -- a word of free slots, turned round
  pub standing-word : (from step w : ℕ) → Fits w64 w → bit w ≡ meet (firsts m from step 0) (under 64)
      → (i : ℕ) → i < 64 → bit (18446744073709551615 - w) i ≡ taken (word_at m (from + step * i))
  unfolding firsts
  standing-word from step w h e i l = bit_not 64 w i h.fits l ∙ ap not (point e i ∙ meet-in (firsts m from step 0) 64 i l)
