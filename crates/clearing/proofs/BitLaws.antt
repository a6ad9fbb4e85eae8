-- What a container's bits make of a memory, and a memory that was cleared: the image of the changed registry.
use mathlib.Core.Path.{◌≡◌, refl, sym, ap, ◌∙◌}
use mathlib.Core.Bool.{Bool, true, false, ◌||◌, cond}
use mathlib.Core.List.{List}
use mathlib.Core.Option.{Option, none, some}
use Prim.Native.Nat.{ℕ, zero, suc, ◌-◌, ◌/◌, ◌%◌, ◌^◌, ◌<◌, ◌≤◌}
use native.Mathlib.Nat.{sub-zero}
use native.Mathlib.Omega.{arith}
use lib.Dec.{eqb}
use lib.ListN.{get_or, replicate}
use lib.Seq.{get_or-set_same}
use Rattle.bitrow.specs.Bit.{bit_at}
use Rattle.bitrow.specs.Set.{nothing}
use Rattle.bitrow.proofs.Sets.{nothing-at}
use Rattle.bitrow.proofs.Sets.{point}
use Rattle.block.specs.Entry.{Container, Policy, Settings}
use Rattle.model.specs.Table.{on, at}
use Rattle.model.specs.Model.{container_slots, policy_slots, Model, Bits, empty, with_container, matrix_bit, selected_bit, allowed_bit, computed_bits}
use Rattle.model.specs.Registry.{Registry, set_where, change_container, opened}
use Rattle.store.specs.Layout.{settings_size, containers_start, container_words, policies_start, policy_words, row_count, matrix_band, selected_band, allowed_band, container_start, selected_row, allowed_row, Whole}
use Rattle.store.specs.Contents.{Contents, Holds}
use Rattle.store.specs.Memory.{slot_set, with_slot, with_row, with_column, changed, cleared, blank}
use Rattle.store.proofs.Cases.{by_eqb}
use Rattle.store.proofs.Carried.{SameContents, holds_as, holds_by, slot-in, slot-out, slot-bits, holds-slot, row_words-law, row_out, holds_row, holds-cleared}
use Rattle.store.proofs.Columns.{column-in, column-out, column-words, holds-column}
use Rattle.formed.specs.Words.{settings_word, container_word, policy_word}
use Rattle.formed.specs.Placed.{container_placed}
use Rattle.formed.specs.Registry.{registry_in, entry_word, stored_bit, contents_of, image, EntriesFormed}
use Rattle.formed.proofs.Back.{image-written}
use Rattle.formed.proofs.Acceptable.{containers-size}
use Rattle.formed.proofs.Reading.{entries-hold}
use Rattle.formed.proofs.Placed.{holds-container}
use Rattle.formed.proofs.Fits.{fits_by, fits-slot, fits_row, fits-column, fits-cleared}
use Rattle.formed.proofs.StoredLaws.{Fit, by_part, stored-matrix, stored-selected, stored-allowed, by-table}
use Rattle.container_bits.specs.ContainerBits.{bits_set}

-- ---- a container's bits

-- container c's bits those of t, the others as they were
abbrev pub mixed : ℕ → Bits → Bits → Bits
mixed c t old = record {
  matrix = set_where (λ a b. eqb a c || eqb b c) t.matrix old.matrix;
  selected = set_where (λ q b. eqb b c) t.selected old.selected;
  allowed = set_where (λ q b. eqb b c) t.allowed old.allowed;
}

-- rows that say t's bits of container c
pub record BitsOf (c : ℕ) (t : Bits) (across down sel alw : List ℕ) : Type 0 where
  pub row : (b : ℕ) → b < container_slots → bit_at across b ≡ t.matrix c b
  pub column : (a : ℕ) → a < container_slots → bit_at down a ≡ t.matrix a c
  pub selected : (q : ℕ) → q < policy_slots → bit_at sel q ≡ t.selected q c
  pub allowed : (q : ℕ) → q < policy_slots → bit_at alw q ≡ t.allowed q c

-- a bit of row c or column c, or neither
crossed : (c : ℕ) (f old : ℕ → ℕ → Bool) (x y : ℕ) (u v w : Bool) → u ≡ f x c → v ≡ f c y → w ≡ old x y
    → cond (eqb y c) u (cond (eqb x c) v w) ≡ set_where (λ a b. eqb a c || eqb b c) f old x y
unfolding set_where
crossed c f old x y u v w eu ev ew =
    by_eqb (λ s. cond s u (cond (eqb x c) v w) ≡ cond (eqb x c || s) (f x y) (old x y)) y c
    (λ e. let d : u ≡ f x y = eu ∙ ap (f x) (sym e) in by_eqb (λ t. u ≡ cond (t || true) (f x y) (old x y)) x c (λ _. d) (λ _. d))
    (λ _. by_eqb (λ t. cond t v w ≡ cond (t || false) (f x y) (old x y)) x c (λ e. ev ∙ ap (λ (a : ℕ). f a y) (sym e)) (λ _. ew))

-- a bit of column c, or another
crossing : (c : ℕ) (f old : ℕ → ℕ → Bool) (q y : ℕ) (u w : Bool) → u ≡ f q c → w ≡ old q y → cond (eqb y c) u w ≡ set_where (λ i b. eqb b c) f old q y
unfolding set_where
crossing c f old q y u w eu ew =
    by_eqb (λ s. cond s u w ≡ cond s (f q y) (old q y)) y c (λ e. eu ∙ ap (f q) (sym e)) (λ _. ew)

module _ (r : Registry) (c : ℕ) (hc : c < container_slots) (t : Bits) {row column selected allowed : List ℕ} (g : BitsOf c t row column selected allowed) where
  abbrev new : Bits
  new = mixed c t r.bits

  abbrev k0 : Contents
  k0 = contents_of r

  abbrev k1 : Contents
  k1 = with_row k0 c (bit_at row)

  abbrev k2 : Contents
  k2 = with_column k1 matrix_band c (bit_at column)

  abbrev k3 : Contents
  k3 = with_column k2 selected_band c (bit_at selected)

  abbrev k4 : Contents
  k4 = with_column k3 allowed_band c (bit_at allowed)

  matrix-new : (x y : ℕ) → x < container_slots → y < container_slots → k4.bits x y ≡ new.matrix x y
  unfolding changed with_row contents_of
  matrix-new x y hx hy =
      point (column-out k3 allowed_band c (bit_at allowed) x (λ i h e. omega arith)
      ∙ column-out k2 selected_band c (bit_at selected) x (λ i h e. omega arith)
      ∙ column-in k1 matrix_band c (bit_at column) x x (omega arith) hx (omega arith)) y
      ∙ ap (cond (eqb y c) (bit_at column x)) (by_eqb (λ s. cond s (bit_at row) (k0.bits x) y ≡ cond s (bit_at row y) (k0.bits x y)) x c (λ _. refl) (λ _. refl))
      ∙ crossed c t.matrix r.bits.matrix x y (bit_at column x) (bit_at row y) (k0.bits x y) (g.column x hx) (g.row y hy) (point (stored-matrix r.bits x hx) y)

  selected-new : (q y : ℕ) → q < policy_slots → k4.bits (selected_row q) y ≡ new.selected q y
  unfolding changed contents_of
  selected-new q y hq =
      let x = selected_row q in
      point (column-out k3 allowed_band c (bit_at allowed) x (λ i h e. omega arith) ∙ column-in k2 selected_band c (bit_at selected) x q (omega arith) hq refl) y
      ∙ ap (cond (eqb y c) (bit_at selected q)) (point (column-out k1 matrix_band c (bit_at column) x (λ i h e. omega arith) ∙ row_out k0 c (bit_at row) x (λ e. omega arith)) y)
      ∙ crossing c t.selected r.bits.selected q y (bit_at selected q) (k0.bits x y) (g.selected q hq) (point (stored-selected r.bits q hq) y)

  allowed-new : (q y : ℕ) → q < policy_slots → k4.bits (allowed_row q) y ≡ new.allowed q y
  unfolding changed contents_of
  allowed-new q y hq =
      let x = allowed_row q in
      point (column-in k3 allowed_band c (bit_at allowed) x q (omega arith) hq refl) y
      ∙ ap (cond (eqb y c) (bit_at allowed q)) (point (column-out k2 selected_band c (bit_at selected) x (λ i h e. omega arith)
      ∙ column-out k1 matrix_band c (bit_at column) x (λ i h e. omega arith) ∙ row_out k0 c (bit_at row) x (λ e. omega arith)) y)
      ∙ crossing c t.allowed r.bits.allowed q y (bit_at allowed q) (k0.bits x y) (g.allowed q hq) (point (stored-allowed r.bits q hq) y)

  stored-new : (x y : ℕ) → x < row_count → y < container_slots → k4.bits x y ≡ stored_bit new x y
  stored-new x y hx hy =
      by-table (λ z b. k4.bits z y ≡ b) new y (λ a l. matrix-new a y l hy) (λ q l. selected-new q y l) (λ q l. allowed-new q y l) x hx

  words-new : k4.words ≡ k0.words
  words-new =
      column-words k3 allowed_band c (bit_at allowed) ∙ column-words k2 selected_band c (bit_at selected)
      ∙ column-words k1 matrix_band c (bit_at column) ∙ row_words-law k0 c (bit_at row)

  abbrev pub renewed : Registry
  renewed = record { model = r.model; bits = new }

  renewed-same : SameContents k4 (contents_of renewed)
  unfolding contents_of
  renewed-same = record { words = λ k l. ap (λ (f : ℕ → ℕ). f k) words-new; bits = stored-new }

  pub holds-bits : {m : List ℕ} → Holds m (contents_of r) → Holds (bits_set m c row column selected allowed) (contents_of renewed)
  unfolding bits_set
  holds-bits h =
      let h1 = holds_row h c row (omega arith) in
      let h2 = holds-column matrix_band c column h1 (omega arith) (omega arith, omega arith) hc in
      let h3 = holds-column selected_band c selected h2 (omega arith) (omega arith, omega arith) hc in
      holds_as (holds-column allowed_band c allowed h3 (omega arith) (omega arith, omega arith) hc) (contents_of renewed) renewed-same

-- words below 2 ^ 64 stay so
pub fits_bits : (m : List ℕ) (c : ℕ) (row column selected allowed : List ℕ) → Fit m → Fit row → Fit (bits_set m c row column selected allowed)
unfolding bits_set
fits_bits m c row column selected allowed h g =
    fits-column _ allowed_band c allowed (fits-column _ selected_band c selected (fits-column _ matrix_band c column (fits_row m c row h g)))

-- ---- a container that goes: "a bit of an empty place being clear"

on-false : {A : Type 0} (o : Option A) → on (λ x. false) o ≡ false
on-false none = refl
on-false (some x) = refl

module _ (p : Model) (c : ℕ) (free : at p.containers c ≡ none) (clear : List ℕ) (z : bit_at clear ≡ nothing) where
  none-at : (j : ℕ) → bit_at clear j ≡ false
  none-at j = point z j ∙ nothing-at j

  free-bits : BitsOf c (computed_bits p) clear clear clear clear
  unfolding computed_bits matrix_bit selected_bit allowed_bit
  free-bits = record {
    row = λ b h. rw free (none-at b);
    column = λ a h. rw free (none-at a ∙ sym (on-false (at p.containers a)));
    selected = λ q h. rw free (none-at q ∙ sym (on-false (at p.policies q)));
    allowed = λ q h. rw free (none-at q ∙ sym (on-false (at p.policies q)));
  }

module _ (m : List ℕ) (ok : EntriesFormed m) (c : ℕ) (hc : c < container_slots) where
  abbrev held : Registry
  held = registry_in m

  free-slot : at (with_container held.model c none).containers c ≡ none
  unfolding with_container
  free-slot = let n = containers-size m in get_or-set_same held.model.containers c none none (omega arith)

  pub container-taken : Fit m → (clear : List ℕ) {d e : List ℕ} → Fit clear → bit_at clear ≡ nothing → d ≡ slot_set m (container_start c) container_words (λ k. 0)
      → e ≡ bits_set d c clear clear clear clear → e ≡ image (change_container held c none)
  unfolding change_container container_placed
  container-taken fit clear {d} {e} few z v q =
      let p = with_container held.model c none in
      let free : Fit d = fits_by _ (fits-slot m (container_start c) container_words (λ k. 0) fit (λ k l. omega arith)) v in
      image-written (change_container held c none) e
      (holds_by (holds-bits (container_placed held c none) c hc (computed_bits p) (free-bits p c free-slot clear z)
      (holds_by (holds-container held c hc (containers-size m) none (entries-hold m ok)) v)) q)
      (fits_by _ (fits_bits d c clear clear clear clear free few) q)

-- ---- an open

none_free : {A : Type 0} (n i : ℕ) → get_or {A = Option A} (replicate n none) i none ≡ none
none_free zero i = refl
none_free (suc n) zero = refl
none_free (suc n) (suc i) = none_free n i

module _ (s : Settings) where
  abbrev begun : Contents
  begun = with_slot blank 0 settings_size (settings_word s)

  begun-word : (k : ℕ) → begun.words k ≡ entry_word (empty s) k
  unfolding empty blank
  begun-word k =
      let out : settings_size ≤ k → begun.words k ≡ 0 = λ l. slot-out blank 0 settings_size (settings_word s) k (λ a b. omega arith) in
      by_part (λ w. begun.words k ≡ w) (empty s) k
      (λ l. slot-in blank 0 settings_size (settings_word s) k (omega arith) (omega arith) ∙ ap (settings_word s) (sub-zero k))
      (λ l h. out l ∙ sym (ap (λ (o : Option Container). container_word o ((k - containers_start) % container_words)) (none_free container_slots ((k - containers_start) / container_words))))
      (λ h. out (omega arith) ∙ sym (ap (λ (o : Option Policy). policy_word o ((k - policies_start) % policy_words)) (none_free policy_slots ((k - policies_start) / policy_words))))

  begun-bit : (x y : ℕ) → x < row_count → begun.bits x y ≡ stored_bit (opened s).bits x y
  unfolding opened blank
  begun-bit x y hx =
      ap (λ (f : ℕ → ℕ → Bool). f x y) (slot-bits blank 0 settings_size (settings_word s))
      ∙ by-table (λ _ b. false ≡ b) (opened s).bits y (λ _ _. refl) (λ _ _. refl) (λ _ _. refl) x hx

  begun-same : SameContents begun (contents_of (opened s))
  unfolding contents_of opened
  begun-same = record { words = λ k l. begun-word k; bits = λ x y hx hy. begun-bit x y hx }

  pub started : ((k : ℕ) → settings_word s k < 2 ^ 64) → (m : List ℕ) → Whole m → {d e : List ℕ} → d ≡ cleared m → e ≡ slot_set d 0 settings_size (settings_word s) → e ≡ image (opened s)
  started few m whole {d} {e} v q =
      let h : Holds d blank = holds_by (holds-cleared m whole) v in
      let clear : Fit d = fits_by _ (fits-cleared m) v in
      image-written (opened s) e (holds_by (holds_as (holds-slot h 0 settings_size (settings_word s) (omega arith)) (contents_of (opened s)) begun-same) q)
      (fits_by _ (fits-slot d 0 settings_size (settings_word s) clear (λ k l. few k)) q)
