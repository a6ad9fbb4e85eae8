-- The rows of a band, each changed: a column of the memory, and a loop that fills rows.
use mathlib.Core.Path.{◌≡◌, refl, sym, ap, ◌∙◌, subst}
use mathlib.Core.Bool.{Bool, true, false, ◌&&◌, cond, and-eq-true_iff}
use mathlib.Core.List.{List}
use Prim.Native.Nat.{ℕ, suc, ◌+◌, ◌*◌, ◌-◌, ◌/◌, ◌%◌, ◌<◌, ◌≤◌}
use native.Mathlib.Nat.{mul-div_cancel_left, mul-mod_right, div-add-mod, eq_of_mul-eq-mul_left, not-suc-le-zero, le_refl}
use native.Mathlib.Numerals.{add-one}
use native.Mathlib.Omega.{arith}
use lib.Dec.{eqb, leb, ltb}
use borrow.Author.Tests.{lt-ltb, le-leb, eqb-true, ltb-true, leb-true}
use Rattle.bitrow.specs.Bit.{bit_at}
use Rattle.bitrow.proofs.Sets.{point}
use Rattle.bitrow.proofs.Tests.{same_test}
use Rattle.store.specs.Layout.{row_count, selected_band, band_row, band_index, in_band, selected_row, allowed_row, InRows}
use Rattle.store.specs.declared.Band.{Band}
use Rattle.store.specs.Contents.{Contents, Holds}
use Rattle.store.specs.Memory.{bit_set, runs, column_set, with_row, with_rows, changed, with_column}
use Rattle.store.proofs.Cases.{by-ltb, by_eqb}
use Rattle.store.proofs.Stores.{row_below, first_rows}
use Rattle.store.proofs.Carried.{SameContents, holds_as, holds-bit, holds-runs}

-- ---- which rows

module _ (t : Band) (r : ℕ) where
  pub band-index : (i : ℕ) → 0 < t.step → r ≡ band_row t i → band_index t r ≡ i
  band-index i pos e = let d : r - t.first ≡ t.step * i = omega arith in ap (λ (n : ℕ). n / t.step) d ∙ mul-div_cancel_left i pos

  pub band-in : (i : ℕ) → 0 < t.step → i < t.count → r ≡ band_row t i → in_band t r ≡ true
  unfolding in_band
  band-in i pos h e = let d : r - t.first ≡ t.step * i = omega arith in
      rw (le-leb t.first r (omega arith), d, mul-mod_right t.step i, mul-div_cancel_left i pos, lt-ltb i t.count h)

  band-is : in_band t r ≡ true → (band_index t r < t.count) × (r ≡ band_row t (band_index t r))
  unfolding in_band
  band-is e =
      let p = (and-eq-true_iff (leb t.first r) (eqb ((r - t.first) % t.step) 0 && ltb (band_index t r) t.count)).0 e in
      let q = (and-eq-true_iff (eqb ((r - t.first) % t.step) 0) (ltb (band_index t r) t.count)).0 p.1 in (
        ltb-true (band_index t r) t.count q.1,
        omega (arith, leb-true t.first r p.0, eqb-true ((r - t.first) % t.step) 0 q.0, div-add-mod (r - t.first) t.step),
      )

  pub band-out : ((i : ℕ) → i < t.count → r ≡ band_row t i → ⊥) → in_band t r ≡ false
  band-out f = go (in_band t r) refl
    where
      go : (u : Bool) → in_band t r ≡ u → u ≡ false
      go true e = let p = band-is e in absurd (f (band_index t r) p.0 p.1)
      go false e = refl

-- what holds of the rows of each table holds of every row
pub by-band : (Q : ℕ → Type 0) → ((a : ℕ) → a < 256 → Q a) → ((q : ℕ) → q < 128 → Q (selected_row q)) → ((q : ℕ) → q < 128 → Q (allowed_row q))
    → (r : ℕ) → r < row_count → Q r
by-band Q f g h r l =
    by-ltb (λ _. Q r) r 256 (f r)
    (λ b. let q = band_index selected_band r in
    by_eqb (λ _. Q r) (r % 2) 0
    (λ e. let d : selected_row q ≡ r = omega arith in subst Q d (g q (omega arith)))
    (λ e. let d : allowed_row q ≡ r = omega arith in subst Q d (h q (omega arith))))

-- one row more changes no other
band-step : (t : Band) (n r : ℕ) → 0 < t.step → (r ≡ band_row t n → ⊥) → in_band (first_rows t (suc n)) r ≡ in_band (first_rows t n) r
band-step t n r pos other =
    let q = band_index t r in
    same_test (in_band (first_rows t (suc n)) r) (in_band (first_rows t n) r)
    (λ e. let p = band-is (first_rows t (suc n)) r e in
    let d : q ≡ n → ⊥ = λ z. other (p.1 ∙ ap (band_row t) z) in
    band-in (first_rows t n) r q pos (omega arith) p.1)
    (λ e. let p = band-is (first_rows t n) r e in band-in (first_rows t (suc n)) r q pos (omega arith) p.1)

-- ---- what they are made

module _ (c : Contents) (t : Band) (f : ℕ → (ℕ → Bool) → ℕ → Bool) where
  pub rows_in : (r i : ℕ) → 0 < t.step → i < t.count → r ≡ band_row t i → (with_rows c t f).bits r ≡ f i (c.bits r)
  unfolding with_rows
  rows_in r i pos h e =
      ap (λ (u : Bool). cond u (f (band_index t r) (c.bits r)) (c.bits r)) (band-in t r i pos h e)
      ∙ ap (λ (j : ℕ). f j (c.bits r)) (band-index t r i pos e)

  pub rows_out : (r : ℕ) → ((i : ℕ) → i < t.count → r ≡ band_row t i → ⊥) → (with_rows c t f).bits r ≡ c.bits r
  unfolding with_rows
  rows_out r out = ap (λ (u : Bool). cond u (f (band_index t r) (c.bits r)) (c.bits r)) (band-out t r out)

  pub rows_words : (with_rows c t f).words ≡ c.words
  unfolding with_rows
  rows_words = refl

  rows_none : SameContents c (with_rows c (first_rows t 0) f)
  unfolding with_rows
  rows_none = record { words = λ k l. refl; bits = λ r y hr hy. ap (λ (u : Bool). cond u (f (band_index t r) (c.bits r)) (c.bits r) y) (sym (band-out (first_rows t 0) r (λ i l e. not-suc-le-zero l))) }

-- one row more
rows_more : (c : Contents) (t : Band) (f : ℕ → (ℕ → Bool) → ℕ → Bool) (n : ℕ) → 0 < t.step
    → SameContents (with_row (with_rows c (first_rows t n) f) (band_row t n) (f n ((with_rows c (first_rows t n) f).bits (band_row t n)))) (with_rows c (first_rows t (suc n)) f)
unfolding with_row with_rows
rows_more c t f n pos =
    let R = band_row t n in
    let d = with_rows c (first_rows t n) f in
    let e = with_rows c (first_rows t (suc n)) f in
    record {
      words = λ k l. refl;
      bits = λ r y hr hy. by_eqb (λ u. cond u (f n (d.bits R)) (d.bits r) y ≡ e.bits r y) r R
          (λ q. point (ap (f n) (rows_out c (first_rows t n) f R (λ i l z. omega (arith, eq_of_mul-eq-mul_left t.step pos n i (omega arith)))
          ∙ ap c.bits (sym q)) ∙ sym (rows_in c (first_rows t (suc n)) f r n pos (omega arith) q)) y)
          (λ o. point (ap (λ (u : Bool). cond u (f (band_index t r) (c.bits r)) (c.bits r)) (sym (band-step t n r pos o))) y);
    }

-- or it is left, as f leaves it
rows-skip : (c : Contents) (t : Band) (f : ℕ → (ℕ → Bool) → ℕ → Bool) (n : ℕ) → 0 < t.step → f n (c.bits (band_row t n)) ≡ c.bits (band_row t n)
    → SameContents (with_rows c (first_rows t n) f) (with_rows c (first_rows t (suc n)) f)
unfolding with_rows
rows-skip c t f n pos left =
    let R = band_row t n in
    let d = with_rows c (first_rows t n) f in
    let e = with_rows c (first_rows t (suc n)) f in
    record {
      words = λ k l. refl;
      bits = λ r y hr hy. by_eqb (λ u. d.bits r y ≡ e.bits r y) r R
          (λ q. point (ap d.bits q ∙ rows_out c (first_rows t n) f R (λ i l z. omega (arith, eq_of_mul-eq-mul_left t.step pos n i (omega arith)))
          ∙ sym left ∙ ap (λ (x : ℕ). f n (c.bits x)) (sym q) ∙ sym (rows_in c (first_rows t (suc n)) f r n pos (omega arith) q)) y)
          (λ o. point (ap (λ (u : Bool). cond u (f (band_index t r) (c.bits r)) (c.bits r)) (sym (band-step t n r pos o))) y);
    }

-- ---- a loop over the rows of a band, of which the first n are made f of what they were in c

pub record Filling (c : Contents) (t : Band) (f : ℕ → (ℕ → Bool) → ℕ → Bool) (m : List ℕ) (n : ℕ) : Type 0 where
  pub most : n ≤ t.count
  pub held : Holds m (with_rows c (first_rows t n) f)

module _ {c : Contents} {t : Band} {f : ℕ → (ℕ → Bool) → ℕ → Bool} where
  pub filling-none : {m : List ℕ} → Holds m c → Filling c t f m 0
  filling-none h = record { most = omega arith; held = holds_as h (with_rows c (first_rows t 0) f) (rows_none c t f) }

  module _ {m : List ℕ} {n : ℕ} (g : Filling c t f m n) (pos : 0 < t.step) (h : n < t.count) where
    -- a turn that makes row n f n of what it was, whatever else the memory holds
    pub filling-next : {e : List ℕ} → ((d : Contents) → Holds m d → Holds e (with_row d (band_row t n) (f n (d.bits (band_row t n))))) → Filling c t f e (n + 1)
    filling-next {e} turn =
        let d = with_rows c (first_rows t n) f in
        record {
          most = omega arith;
          held = subst (λ (k : ℕ). Holds e (with_rows c (first_rows t k) f)) (sym (add-one n)) (holds_as (turn d g.held) (with_rows c (first_rows t (suc n)) f) (rows_more c t f n pos));
        }

    -- a turn that leaves the memory, where f leaves row n
    pub filling_skip : f n (c.bits (band_row t n)) ≡ c.bits (band_row t n) → Filling c t f m (n + 1)
    filling_skip left = record {
      most = omega arith;
      held = subst (λ (k : ℕ). Holds m (with_rows c (first_rows t k) f)) (sym (add-one n)) (holds_as g.held (with_rows c (first_rows t (suc n)) f) (rows-skip c t f n pos left));
    }

  pub filling-all : {m : List ℕ} {n : ℕ} → Filling c t f m n → t.count ≤ n → Holds m (with_rows c t f)
  filling-all {m} {n} g h = let q : n ≡ t.count = omega (arith, g.most) in subst (λ (k : ℕ). Holds m (with_rows c (first_rows t k) f)) q g.held

-- the same of a loop as a run of turns
module _ (turn : ℕ → List ℕ → List ℕ) (f : ℕ → (ℕ → Bool) → ℕ → Bool) (t : Band) (pos : 0 < t.step)
    (each : (i : ℕ) → i < t.count → (m : List ℕ) (c : Contents) → Holds m c → Holds (turn i m) (with_row c (band_row t i) (f i (c.bits (band_row t i))))) where
  holds_rows : {m : List ℕ} {c : Contents} → Holds m c → Holds (runs turn m t.count) (with_rows c t f)
  holds_rows {m} {c} h =
      holds-runs turn (λ n. with_rows c (first_rows t n) f) t.count
      (λ n l hn g. holds_as (each n hn l (with_rows c (first_rows t n) f) g) (with_rows c (first_rows t (suc n)) f) (rows_more c t f n pos))
      m (holds_as h (with_rows c (first_rows t 0) f) (rows_none c t f)) t.count (le_refl t.count)

-- ---- a column

module _ (c : Contents) (t : Band) (b : ℕ) (set : ℕ → Bool) where
  pub column-in : (r i : ℕ) → 0 < t.step → i < t.count → r ≡ band_row t i → (with_column c t b set).bits r ≡ changed b (set i) (c.bits r)
  unfolding with_column
  column-in = rows_in c t (λ i. changed b (set i))

  pub column-out : (r : ℕ) → ((i : ℕ) → i < t.count → r ≡ band_row t i → ⊥) → (with_column c t b set).bits r ≡ c.bits r
  unfolding with_column
  column-out = rows_out c t (λ i. changed b (set i))

  pub column-words : (with_column c t b set).words ≡ c.words
  unfolding with_column
  column-words = rows_words c t (λ i. changed b (set i))

pub holds-column : (t : Band) (b : ℕ) (values : List ℕ) {m : List ℕ} {c : Contents} → Holds m c → 0 < t.step → InRows t → b < 256
    → Holds (column_set m t b values) (with_column c t b (bit_at values))
unfolding column_set with_column
holds-column t b values h pos fit hb =
    holds_rows (λ i l. bit_set l (band_row t i) b (bit_at values i)) (λ i. changed b (bit_at values i)) t pos
    (λ i hi m c g. holds-bit g (band_row t i) b (bit_at values i) (row_below t row_count i fit.1 hi) hb) h
