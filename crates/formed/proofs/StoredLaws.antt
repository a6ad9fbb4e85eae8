-- The words before the rows by their three parts, the stored bits by their three tables, and what a memory's words are to fit.
use mathlib.Core.Path.{◌≡◌, refl, sym, ap, ap₂, ◌∙◌, fun_ext, subst}
use mathlib.Core.Bool.{Bool, true, false, ◌&&◌, cond}
use mathlib.Core.List.{List}
use Prim.Native.Nat.{ℕ, ◌+◌, ◌-◌, ◌/◌, ◌%◌, ◌^◌, ◌<◌, ◌≤◌}
use native.Mathlib.Omega.{arith}
use lib.Dec.{ltb}
use borrow.Author.Tests.{lt-ltb, le-ltb}
use Rattle.bitrow.specs.Bit.{bit_at}
use Rattle.bitrow.proofs.Sets.{point}
use Rattle.model.specs.Table.{at}
use Rattle.model.specs.Model.{container_slots, policy_slots, Model, Bits}
use Rattle.store.specs.Layout.{containers_start, container_words, policies_start, policy_words, container_start, policy_start, row_count, matrix_band, selected_band, allowed_band, band_index, in_band, band_row, band_of, selected_row, allowed_row, word_at, row_at, row_bit}
use Rattle.store.specs.declared.Part.{Part}
use Rattle.store.specs.declared.Part.TheVariants.{Select, Allow}
use Rattle.store.proofs.Cases.{by-ltb}
use Rattle.store.proofs.Carried.{row-bits}
use Rattle.store.proofs.Columns.{band-index, band-in, band-out, by-band}
use Rattle.formed.specs.Words.{settings_word, container_word, policy_word}
use Rattle.formed.specs.Registry.{bit_within, bits_in, set_in, entry_word, stored_bit}

abbrev pub Fit : List ℕ → Type 0
Fit m = (k : ℕ) → word_at m k < 2 ^ 64

-- ---- a word

module _ (m : Model) (k : ℕ) where
  pub word-settings : k < containers_start → entry_word m k ≡ settings_word m.settings k
  unfolding entry_word
  word-settings h = rw (lt-ltb k containers_start h)

  pub word-container : containers_start ≤ k → k < policies_start
      → entry_word m k ≡ container_word (at m.containers ((k - containers_start) / container_words)) ((k - containers_start) % container_words)
  unfolding entry_word
  word-container h l = rw (le-ltb k containers_start h, lt-ltb k policies_start l)

  pub word-policy : policies_start ≤ k → entry_word m k ≡ policy_word (at m.policies ((k - policies_start) / policy_words)) ((k - policies_start) % policy_words)
  unfolding entry_word
  word-policy h = rw (le-ltb k containers_start (omega arith), le-ltb k policies_start h)

-- what holds of a word of each part holds of a word before the rows
pub by_part : (P : ℕ → Type 0) (m : Model) (k : ℕ) → (k < containers_start → P (settings_word m.settings k))
    → (containers_start ≤ k → k < policies_start → P (container_word (at m.containers ((k - containers_start) / container_words)) ((k - containers_start) % container_words)))
    → (policies_start ≤ k → P (policy_word (at m.policies ((k - policies_start) / policy_words)) ((k - policies_start) % policy_words))) → P (entry_word m k)
by_part P m k f g h =
    by-ltb (λ u. P (entry_word m k)) k containers_start (λ l. subst P (sym (word-settings m k l)) (f l))
    (λ l. by-ltb (λ u. P (entry_word m k)) k policies_start (λ b. subst P (sym (word-container m k l b)) (g l b)) (λ b. subst P (sym (word-policy m k b)) (h b)))

-- by slots
pub slot-container : (m : Model) (c j : ℕ) → c < container_slots → j < container_words → entry_word m (container_start c + j) ≡ container_word (at m.containers c) j
slot-container m c j hc hj =
    let a : (container_start c + j - containers_start) / container_words ≡ c = omega arith in
    let b : (container_start c + j - containers_start) % container_words ≡ j = omega arith in
    word-container m (container_start c + j) (omega arith) (omega arith) ∙ ap₂ (λ (x y : ℕ). container_word (at m.containers x) y) a b

pub slot-policy : (m : Model) (q j : ℕ) → j < policy_words → entry_word m (policy_start q + j) ≡ policy_word (at m.policies q) j
slot-policy m q j hj =
    let a : (policy_start q + j - policies_start) / policy_words ≡ q = omega arith in
    let b : (policy_start q + j - policies_start) % policy_words ≡ j = omega arith in
    word-policy m (policy_start q + j) (omega arith) ∙ ap₂ (λ (x y : ℕ). policy_word (at m.policies x) y) a b

-- ---- a row, by the table that has it

module _ (s : Bits) where
  stored-by : (x i j k : ℕ) (t u : Bool) → in_band matrix_band x ≡ t → in_band selected_band x ≡ u → band_index matrix_band x ≡ i → band_index selected_band x ≡ j
      → band_index allowed_band x ≡ k → stored_bit s x ≡ (λ y. cond t (s.matrix i y) (cond u (s.selected j y) (s.allowed k y)))
  unfolding stored_bit
  stored-by x i j k t u e f p q r = fun_ext (λ y. rw (e, f, p, q, r))

  pub stored-matrix : (a : ℕ) → a < container_slots → stored_bit s a ≡ s.matrix a
  stored-matrix a h = stored-by a a _ _ true _ (band-in matrix_band a a (omega arith) h (omega arith)) refl (band-index matrix_band a a (omega arith) (omega arith)) refl refl

  pub stored-selected : (q : ℕ) → q < policy_slots → stored_bit s (selected_row q) ≡ s.selected q
  stored-selected q h =
      stored-by (selected_row q) _ q _ false true (band-out matrix_band (selected_row q) (λ i l e. omega arith)) (band-in selected_band (selected_row q) q (omega arith) h refl)
      refl (band-index selected_band (selected_row q) q (omega arith) refl) refl

  pub stored-allowed : (q : ℕ) → q < policy_slots → stored_bit s (allowed_row q) ≡ s.allowed q
  stored-allowed q h =
      stored-by (allowed_row q) _ _ q false false (band-out matrix_band (allowed_row q) (λ i l e. omega arith)) (band-out selected_band (allowed_row q) (λ i l e. omega arith))
      refl refl (band-index allowed_band (allowed_row q) q (omega arith) refl)

-- what holds of a bit of each table holds of a stored bit
pub by-table : (P : ℕ → Bool → Type 0) (s : Bits) (y : ℕ) → ((a : ℕ) → a < container_slots → P a (s.matrix a y))
    → ((q : ℕ) → q < policy_slots → P (selected_row q) (s.selected q y)) → ((q : ℕ) → q < policy_slots → P (allowed_row q) (s.allowed q y))
    → (x : ℕ) → x < row_count → P x (stored_bit s x y)
by-table P s y f g h =
    by-band (λ x. P x (stored_bit s x y))
    (λ a l. subst (P a) (sym (point (stored-matrix s a l) y)) (f a l))
    (λ q l. subst (P (selected_row q)) (sym (point (stored-selected s q l) y)) (g q l))
    (λ q l. subst (P (allowed_row q)) (sym (point (stored-allowed s q l) y)) (h q l))

-- bits that agree where the row is theirs are stored alike
pub stored-cong : (s t : Bits) (x y : ℕ) → x < row_count → ((a : ℕ) → a < container_slots → x ≡ a → s.matrix a y ≡ t.matrix a y)
    → ((q : ℕ) → q < policy_slots → x ≡ selected_row q → s.selected q y ≡ t.selected q y)
    → ((q : ℕ) → q < policy_slots → x ≡ allowed_row q → s.allowed q y ≡ t.allowed q y) → stored_bit s x y ≡ stored_bit t x y
stored-cong s t x y l f g h =
    by-table (λ z b. x ≡ z → stored_bit s z y ≡ b) t y
    (λ a k e. point (stored-matrix s a k) y ∙ f a k e)
    (λ q k e. point (stored-selected s q k) y ∙ g q k e)
    (λ q k e. point (stored-allowed s q k) y ∙ h q k e) x l refl

-- ---- a row, read

module _ (m : List ℕ) where
  pub row_within : (n x r : ℕ) → x < n → bit_at (row_at m r) ≡ bit_within m n x r
  unfolding bit_within
  row_within n x r h = row-bits m r ∙ fun_ext (λ y. ap (λ (t : Bool). t && (ltb y container_slots && row_bit m r y)) (sym (lt-ltb x n h)))

  pub matrix-row : (a : ℕ) → a < container_slots → bit_at (row_at m a) ≡ (bits_in m).matrix a
  unfolding bits_in
  matrix-row a h = row_within container_slots a a h

  pub selected-row : (q : ℕ) → q < policy_slots → bit_at (row_at m (selected_row q)) ≡ (bits_in m).selected q
  unfolding bits_in
  selected-row q h = row_within policy_slots q (selected_row q) h

  pub allowed-row : (q : ℕ) → q < policy_slots → bit_at (row_at m (allowed_row q)) ≡ (bits_in m).allowed q
  unfolding bits_in
  allowed-row q h = row_within policy_slots q (allowed_row q) h

  pub set-row : (p : Part) (q : ℕ) → q < policy_slots → bit_at (row_at m (band_row (band_of p) q)) ≡ set_in (bits_in m) p q
  set-row Select = selected-row
  set-row Allow = allowed-row
