-- What a memory holds, and what it holds after each write.
use mathlib.Core.Path.{◌≡◌, refl, sym, ap, ap₂, ◌∙◌, subst}
use mathlib.Core.Bool.{Bool, true, false, ◌&&◌, cond}
use mathlib.Core.List.{List, [], ◌∷◌}
use Prim.Native.Nat.{ℕ, zero, suc, ◌+◌, ◌*◌, ◌-◌, ◌/◌, ◌%◌, ◌<◌, ◌≤◌}
use native.Mathlib.Nat.{add-zero, zero-add}
use native.Mathlib.Omega.{arith}
use lib.Arith.{digits_div, digits_mod}
use lib.Dec.{eqb, leb, ltb}
use lib.ListN.{length, get_or, length-replicate, get_or-replicate}
use lib.Seq.{sets, length-sets}
use borrow.Author.Tests.{ne_eqb, lt-ltb, le-ltb, le-leb, ltb-true, ltb-false, leb-true, leb-false}
use Rattle.bitrow.specs.Bit.{bit, bit_at}
use Rattle.bitrow.proofs.Rows.{words_are}
use Rattle.bitrow.proofs.Sets.{point}
use Rattle.bitrow.proofs.Words.{bit-zero}
use Rattle.store.specs.Layout.{memory_words, rows_start, row_count, row_start, Whole, word_at, row_at, row_bit}
use Rattle.store.specs.Contents.{Contents, Holds, tab}
use Rattle.store.specs.Memory.{bit_word, four_words, slot_set, row_set, bit_set, runs, cleared, with_slot, with_row, changed, blank}
use Rattle.store.proofs.Cases.{by_eqb}
use Rattle.store.proofs.Image.{length-tab, get_or-tab}
use Rattle.store.proofs.Stores.{sets-out, sets-in, length-bit, bit-out}
use Rattle.store.proofs.Bits.{row-bit-set}

-- ---- a row of the memory, as a set

four-at : (m : List ℕ) (s k : ℕ) → k < 4 → get_or (word_at m s ∷ word_at m (s + 1) ∷ word_at m (s + 2) ∷ word_at m (s + 3) ∷ []) k 0 ≡ word_at m (s + k)
four-at m s zero h = ap (word_at m) (sym (add-zero s))
four-at m s (suc zero) h = refl
four-at m s (suc (suc zero)) h = refl
four-at m s (suc (suc (suc zero))) h = refl
four-at m s (suc (suc (suc (suc k)))) h = absurd (omega arith)

below-and : (y n : ℕ) (b : Bool) → y < n → b ≡ (ltb y n && b)
below-and y n b h = ap (λ (t : Bool). t && b) (sym (lt-ltb y n h))

pub row-bits : (m : List ℕ) (r : ℕ) → bit_at (row_at m r) ≡ (λ y. ltb y 256 && row_bit m r y)
unfolding row_bit
row-bits m r =
    words_are (row_at m r) (λ y. ltb y 256 && row_bit m r y) refl
    (record { clear = λ j h. ap (λ (t : Bool). t && row_bit m r j) (le-ltb j 256 h) })
    (λ k hk i hi.
    ap (λ (w : ℕ). bit w i) (four-at m (row_start r) k hk)
    ∙ ap₂ (λ (q n : ℕ). bit (word_at m (row_start r + q)) n) (sym (digits_div k hi)) (sym (digits_mod k hi))
    ∙ below-and (k * 64 + i) 256 (row_bit m r (k * 64 + i)) (omega arith))

pub row-bit : (m : List ℕ) (r y : ℕ) → y < 256 → bit_at (row_at m r) y ≡ row_bit m r y
row-bit m r y h = point (row-bits m r) y ∙ sym (below-and y 256 (row_bit m r y) h)

-- ---- what a memory holds

-- contents that agree before the rows and within them
pub record SameContents (c d : Contents) : Type 0 where
  pub words : (k : ℕ) → k < rows_start → c.words k ≡ d.words k
  pub bits : (r y : ℕ) → r < row_count → y < 256 → c.bits r y ≡ d.bits r y

-- what a memory holds, said otherwise
pub holds_as : {m : List ℕ} {c : Contents} → Holds m c → (d : Contents) → SameContents c d → Holds m d
holds_as h d s = record { whole = h.whole; words = λ k l. h.words k l ∙ s.words k l; bits = λ r y a b. h.bits r y a b ∙ s.bits r y a b }

-- what a call left, by what it ensures
pub holds_by : {m e : List ℕ} {c : Contents} → Holds m c → e ≡ m → Holds e c
holds_by {m} {e} {c} h q = subst (λ (l : List ℕ). Holds l c) (sym q) h

-- ---- a slot

by-range : (P : Bool → Type 0) (a k b : ℕ) → (a ≤ k → k < b → P true) → ((a ≤ k → k < b → ⊥) → P false) → P (leb a k && ltb k b)
by-range P a k b f g = go (leb a k) refl (ltb k b) refl
  where
    go : (s : Bool) → leb a k ≡ s → (t : Bool) → ltb k b ≡ t → P (s && t)
    go true p true q = f (leb-true a k p) (ltb-true k b q)
    go true p false q = g (λ u v. omega (arith, ltb-false k b q))
    go false p t q = g (λ u v. omega (arith, leb-false a k p))

module _ (c : Contents) (start n : ℕ) (f : ℕ → ℕ) where
  -- a word of the slot, and any other
  pub slot-in : (k : ℕ) → start ≤ k → k < start + n → (with_slot c start n f).words k ≡ f (k - start)
  unfolding with_slot
  slot-in k a b = rw (le-leb start k a, lt-ltb k (start + n) b)

  pub slot-out : (k : ℕ) → (start ≤ k → k < start + n → ⊥) → (with_slot c start n f).words k ≡ c.words k
  unfolding with_slot
  slot-out k h = by-range (λ t. cond t (f (k - start)) (c.words k) ≡ c.words k) start k (start + n) (λ p q. absurd (h p q)) (λ g. refl)

  pub slot-bits : (with_slot c start n f).bits ≡ c.bits
  unfolding with_slot
  slot-bits = refl

pub holds-slot : {m : List ℕ} {c : Contents} → Holds m c → (start n : ℕ) (f : ℕ → ℕ) → start + n ≤ rows_start → Holds (slot_set m start n f) (with_slot c start n f)
unfolding slot_set with_slot row_bit
holds-slot {m} {c} h start n f fit =
    let whole = h.whole in
    let vs = tab n f in
    let size : length vs ≡ n = length-tab n f in
    let out : (k : ℕ) → (start ≤ k → k < start + n → ⊥) → word_at (sets m start vs) k ≡ word_at m k = λ k g. sets-out vs m start k 0 (λ p q. g p (omega arith)) in
    record {
      whole = length-sets m start vs ∙ whole;
      words = λ k l. by-range (λ t. word_at (sets m start vs) k ≡ cond t (f (k - start)) (c.words k)) start k (start + n)
          (λ p q. let e : k ≡ start + (k - start) = omega arith in
          ap (word_at (sets m start vs)) e ∙ sets-in vs m start (k - start) 0 (omega arith) (omega arith) ∙ get_or-tab n f (k - start) 0 (omega arith))
          (λ g. out k g ∙ h.words k l);
      bits = λ r y a b. ap (λ (w : ℕ). bit w (y % 64)) (out (bit_word r y) (λ p q. omega arith)) ∙ h.bits r y a b;
    }

-- ---- a row

module _ (c : Contents) (r : ℕ) (set : ℕ → Bool) where
  -- any other row
  pub row_out : (x : ℕ) → (x ≡ r → ⊥) → (with_row c r set).bits x ≡ c.bits x
  unfolding with_row
  row_out x n = ap (λ (t : Bool). cond t set (c.bits x)) (ne_eqb x r n)

  pub row_words-law : (with_row c r set).words ≡ c.words
  unfolding with_row
  row_words-law = refl

pub holds_row : {m : List ℕ} {c : Contents} → Holds m c → (r : ℕ) (row : List ℕ) → r < row_count → Holds (row_set m r row) (with_row c r (bit_at row))
unfolding row_set with_row row_bit bit_at
holds_row {m} {c} h r row hr =
    let whole = h.whole in
    let vs = four_words row in
    record {
      whole = length-sets m (row_start r) vs ∙ whole;
      words = λ k l. sets-out vs m (row_start r) k 0 (λ p q. omega arith) ∙ h.words k l;
      bits = λ x y hx hy. by_eqb (λ t. row_bit (row_set m r row) x y ≡ cond t (bit_at row) (c.bits x) y) x r
          (λ e. ap (λ (k : ℕ). row_bit (row_set m r row) k y) e ∙ ap (λ (w : ℕ). bit w (y % 64))
          (sets-in vs m (row_start r) (y / 64) 0 (omega arith) (omega arith) ∙ four-at row 0 (y / 64) (omega arith) ∙ ap (word_at row) (zero-add (y / 64))))
          (λ n. ap (λ (w : ℕ). bit w (y % 64)) (sets-out vs m (row_start r) (bit_word x y) 0 (λ p q. n (omega arith))) ∙ h.bits x y hx hy);
    }

-- ---- one bit

pub holds-bit : {m : List ℕ} {c : Contents} → Holds m c → (r b : ℕ) (v : Bool) → r < row_count → b < 256
    → Holds (bit_set m r b v) (with_row c r (changed b v (c.bits r)))
unfolding with_row changed
holds-bit {m} {c} h r b v hr hb =
    record {
      whole = length-bit m r b v ∙ h.whole;
      words = λ k l. bit-out m r b v k (λ e. omega arith) ∙ h.words k l;
      bits = λ x y hx hy. row-bit-set m r b v x y h.whole hr hb hy
          ∙ by_eqb (λ t. cond t (changed b v (row_bit m r)) (row_bit m x) y ≡ cond t (changed b v (c.bits r)) (c.bits x) y) x r
          (λ e. ap (cond (eqb y b) v) (h.bits r y hr hy)) (λ n. h.bits x y hx hy);
    }

-- ---- a loop whose turns each change the memory

pub holds-runs : (turn : ℕ → List ℕ → List ℕ) (f : ℕ → Contents) (top : ℕ)
    → ((n : ℕ) (m : List ℕ) → n < top → Holds m (f n) → Holds (turn n m) (f (suc n)))
    → (m : List ℕ) → Holds m (f 0) → (n : ℕ) → n ≤ top → Holds (runs turn m n) (f n)
unfolding runs
holds-runs turn f top each m h zero l = h
holds-runs turn f top each m h (suc n) l = each n (runs turn m n) (omega arith) (holds-runs turn f top each m h n (omega arith))

-- ---- every word 0

pub holds-cleared : (m : List ℕ) → Whole m → Holds (cleared m) blank
unfolding cleared blank row_bit
holds-cleared m whole =
    let zero-at : (k : ℕ) → k < memory_words → word_at (cleared m) k ≡ 0 = λ k l. get_or-replicate (length m) k 0 0 (omega arith) in
    record {
      whole = length-replicate (length m) 0 ∙ whole;
      words = λ k l. zero-at k (omega arith);
      bits = λ r y hr hy. ap (λ (w : ℕ). bit w (y % 64)) (zero-at (bit_word r y) (omega arith)) ∙ bit-zero (y % 64);
    }
