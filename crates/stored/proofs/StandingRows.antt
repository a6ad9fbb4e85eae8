-- The row of a table's standing slots, gathered word by word.
use Rattle.std.proofs.Common.{◌≡◌, refl, sym, ap, ◌∙◌, arith, List, [], ◌∷◌, ℕ, zero, suc, ◌+◌, ◌*◌, ◌-◌, ◌/◌, ◌<◌, ◌≤◌, Bool, false, not, ◌&&◌, eqb, length, get_or, set, Fits, w64, length-set}
use native.Mathlib.Nat.{mul-le-mul_left}
use lib.Seq.{get_or-set_same, get_or-set_other}
use native.Mathlib.Decide.{dec_lt}
use borrow.Author.Tests.{lt-ltb, le-ltb}
use Rattle.bitrow.specs.Bit.{bit, bit_at}
use Rattle.bitrow.specs.Set.{meet, under}
use Rattle.bitrow.proofs.Words.{bit-zero}
use Rattle.bitrow.proofs.Rows.{words_are}
use Rattle.model.specs.Table.{Table, stands}
use Rattle.store.specs.Layout.{Whole, word_at}
use Rattle.formed.specs.Tests.{firsts}
use Rattle.formed.proofs.Standing.{standing-word}
use Rattle.entries.specs.Tables.{Tabled}
use Rattle.entries.proofs.FreeSlots.{tabled-stands}

-- the first k words of a row have the bits of s, and the others none
pub record Gathered (s : ℕ → Bool) (row : List ℕ) (k : ℕ) : Type 0 where
  pub four : length row ≡ 4
  pub word : (j : ℕ) → j < k → (i : ℕ) → i < 64 → bit (get_or row j 0) i ≡ s (j * 64 + i)
  pub rest : (j : ℕ) → k ≤ j → get_or row j 0 ≡ 0

module _ {s : ℕ → Bool} where
  pub gathered-none : Gathered s (0 ∷ 0 ∷ 0 ∷ 0 ∷ []) 0
  gathered-none = record { four = refl; word = λ j h i l. absurd (omega arith); rest = λ j h. zeros j }
    where
      zeros : (j : ℕ) → get_or {A = ℕ} (0 ∷ 0 ∷ 0 ∷ 0 ∷ []) j 0 ≡ 0
      zeros zero = refl
      zeros (suc zero) = refl
      zeros (suc (suc zero)) = refl
      zeros (suc (suc (suc zero))) = refl
      zeros (suc (suc (suc (suc j)))) = refl

  module _ {row : List ℕ} {k : ℕ} (g : Gathered s row k) where
    pub gathered-next : (v : ℕ) → k < 4 → ((i : ℕ) → i < 64 → bit v i ≡ s (k * 64 + i)) → Gathered s (set row k v) (k + 1)
    gathered-next v h f = record {
      four = length-set row k v ∙ g.four;
      word = λ j a. go j a (dec_lt j k);
      rest = λ j a. get_or-set_other row k j v 0 (λ e. omega arith) ∙ g.rest j (omega arith);
    }
      where
        go : (j : ℕ) → j < k + 1 → Dec (j < k) → (i : ℕ) → i < 64 → bit (get_or (set row k v) j 0) i ≡ s (j * 64 + i)
        go j a (yes p) i l = ap (λ w. bit w i) (get_or-set_other row k j v 0 (λ e. omega arith)) ∙ g.word j p i l
        go j a (no o) i l =
            let e : j ≡ k = omega arith in
            rw e (ap (λ w. bit w i) (get_or-set_same row k v 0 (omega (arith, g.four))) ∙ f i l)

module _ {A : Type 0} {m : List ℕ} {start words n : ℕ} {entry : ℕ → A} {t : Table A} (g : Tabled start words n entry m t) where
  -- the slots of word k lie within the memory
  pub word_room : (k a w : ℕ) → Whole m → k < n / 64 → a ≡ start → w ≡ words → (a + 64 * w * k + 64 * w ≤ length m) × (0 < w)
  word_room k a w whole h p q =
      let e : words * (64 * (k + 1)) ≤ words * n = mul-le-mul_left {m = 64 * (k + 1)} {n = n} words (omega arith) in
      let room : start + 64 * words * k + 64 * words ≤ length m = omega (arith, g.within) in
      rw (p, q) (room, g.some_words)

  -- word k, by the free ones among them
  pub standing-bits : (k a w v : ℕ) → k < n / 64 → a ≡ start → w ≡ words → Fits w64 v → bit v ≡ meet (firsts m (a + 64 * w * k) w 0) (under 64)
      → (i : ℕ) → i < 64 → bit (18446744073709551615 - v) i ≡ stands t (k * 64 + i)
  standing-bits k a w v h p q fits e i l =
      let at : start + 64 * words * k + words * i ≡ start + words * (k * 64 + i) = omega arith in
      standing-word m (start + 64 * words * k) words v fits (rw (p, q) at e) i l
      ∙ ap (λ b. not (eqb (word_at m b) 0)) at
      ∙ sym (tabled-stands g (k * 64 + i) ∙ ap (λ b. b && not (eqb (word_at m (start + words * (k * 64 + i))) 0)) (lt-ltb (k * 64 + i) n (omega arith)))

  beyond : (i : ℕ) → n ≤ i → stands t i ≡ false
  beyond i h = tabled-stands g i ∙ ap (λ b. b && not (eqb (word_at m (start + words * i)) 0)) (le-ltb i n h)

  pub gathered-all : {row : List ℕ} {k : ℕ} → Gathered (stands t) row k → n / 64 ≤ k → bit_at row ≡ stands t
  gathered-all {row} {k} f h =
      words_are row (stands t) f.four (record { clear = λ j a. beyond j (omega (arith, g.in_row)) }) (λ j a. go j (dec_lt j k))
    where
      go : (j : ℕ) → Dec (j < k) → (i : ℕ) → i < 64 → bit (get_or row j 0) i ≡ stands t (j * 64 + i)
      go j (yes p) i l = f.word j p i l
      go j (no o) i l = ap (λ w. bit w i) (f.rest j (omega arith)) ∙ bit-zero i ∙ sym (beyond (j * 64 + i) (omega (arith, g.whole_words)))
