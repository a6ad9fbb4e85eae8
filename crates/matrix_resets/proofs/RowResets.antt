-- The matrix reset row by row: of the rows before a, those of s have their bits of t by the rules.
use mathlib.Core.Path.{◌≡◌, refl, sym, ap, ◌∙◌, subst}
use mathlib.Core.Bool.{Bool, true, false, not, ◌&&◌, ◌||◌, cond}
use mathlib.Core.List.{List}
use Prim.Native.Nat.{ℕ, ◌+◌, ◌<◌, ◌≤◌}
use native.Mathlib.Decide.{dec_lt}
use native.Mathlib.Omega.{arith}
use Rattle.bitrow.specs.Bit.{bit_at}
use Rattle.bitrow.specs.Set.{meet, join, less}
use Rattle.bitrow.proofs.Sets.{point}
use Rattle.model.specs.Model.{container_slots, Model, matrix_bit}
use Rattle.model.specs.Registry.{Registry, set_where}
use Rattle.store.specs.Layout.{row_count, row_at, matrix_band, band_row}
use Rattle.store.specs.Contents.{Contents, Holds}
use Rattle.store.specs.Memory.{row_set, with_row, with_rows}
use Rattle.store.proofs.Cases.{by_eqb}
use Rattle.store.proofs.Carried.{SameContents, holds_as, holds_by, row-bit, holds_row}
use Rattle.store.proofs.Columns.{rows_in, rows_out, rows_words, Filling, filling-none, filling-next, filling_skip, filling-all}
use Rattle.formed.specs.Registry.{stored_bit, contents_of, image}
use Rattle.formed.proofs.Back.{image-written}
use Rattle.formed.proofs.Fits.{fits_by, fits_row}
use Rattle.formed.proofs.StoredLaws.{Fit, stored-matrix, stored-cong}
use Rattle.matrix_resets.specs.Resets.{reset_where, product, masked, RowReset}

-- ---- a row of the stored bits

masked-bit : (old rule mask : Bool) → ((old && not mask) || (rule && mask)) ≡ cond mask rule old
masked-bit true true true = refl
masked-bit true true false = refl
masked-bit true false true = refl
masked-bit true false false = refl
masked-bit false true true = refl
masked-bit false true false = refl
masked-bit false false true = refl
masked-bit false false false = refl

module _ (m row : List ℕ) (a : ℕ) (mask rule : ℕ → Bool) (ha : a < row_count) (e : bit_at row ≡ join (less (bit_at (row_at m a)) mask) (meet rule mask)) where
  row-masked : (c : Contents) → Holds m c → (y : ℕ) → y < 256 → bit_at row y ≡ masked mask rule (c.bits a) y
  unfolding masked join less meet
  row-masked c h y hy =
      point e y ∙ ap (λ (o : Bool). (o && not (mask y)) || (rule y && mask y)) (row-bit m a y hy ∙ h.bits a y ha hy) ∙ masked-bit (c.bits a y) (rule y) (mask y)

  pub row-reset : Fit row → {m' : List ℕ} → m' ≡ row_set m a row → RowReset m m' a mask rule
  unfolding with_row
  row-reset g f = record {
    holds = λ c h. holds_as (holds_by (holds_row h a row ha) f) _ (record {
      words = λ k l. refl;
      bits = λ x y hx hy. by_eqb (λ t. cond t (bit_at row) (c.bits x) y ≡ cond t (masked mask rule (c.bits a)) (c.bits x) y) x a (λ z. row-masked c h y hy) (λ n. refl);
    });
    fits = λ h. fits_by _ (fits_row m a row h g) f;
  }

-- ---- the matrix, row by row

-- row a with the bits of t made the rule's, if s has a
unfoldable pub reset_row : Model → (ℕ → Bool) → (ℕ → Bool) → ℕ → (ℕ → Bool) → ℕ → Bool
reset_row m s t a old = cond (s a) (masked t (matrix_bit m a) old) old

-- the first n rows are reset
pub record Resets (r : Registry) (s t : ℕ → Bool) (m : List ℕ) (n : ℕ) : Type 0 where
  pub filled : Filling (contents_of r) matrix_band (reset_row r.model s t) m n
  pub fit : Fit m

module _ (r : Registry) (s t : ℕ → Bool) where
  abbrev reset : ℕ → (ℕ → Bool) → ℕ → Bool
  reset = reset_row r.model s t

  pub resets_none : {m : List ℕ} → Holds m (contents_of r) → Fit m → Resets r s t m 0
  resets_none h fit = record { filled = filling-none h; fit = fit }

  module _ {m : List ℕ} {n : ℕ} (g : Resets r s t m n) (hn : n < container_slots) where
    pub resets-skip : s n ≡ false → Resets r s t m (n + 1)
    unfolding reset_row
    resets-skip f =
        let old = (contents_of r).bits (band_row matrix_band n) in
        record { filled = filling_skip g.filled (omega arith) hn (ap (λ (u : Bool). cond u (masked t (matrix_bit r.model n) old) old) f); fit = g.fit }

    pub resets-take : s n ≡ true → {m' : List ℕ} {rule : ℕ → Bool} → RowReset m m' n t rule → rule ≡ matrix_bit r.model n → Resets r s t m' (n + 1)
    unfolding reset_row
    resets-take f {m'} {rule} w e = record { filled = filling-next g.filled (omega arith) hn turn; fit = w.fits g.fit }
      where
        there : n ≡ band_row matrix_band n
        there = omega arith

        made : (old : ℕ → Bool) → masked t rule old ≡ reset n old
        made old =
            ap (λ (u : ℕ → Bool). masked t u old) e
            ∙ sym (ap (λ (u : Bool). cond u (masked t (matrix_bit r.model n) old) old) f)

        turn : (d : Contents) → Holds m d → Holds m' (with_row d (band_row matrix_band n) (reset n (d.bits (band_row matrix_band n))))
        turn d h =
            subst (λ (x : ℕ). Holds m' (with_row d x (reset n (d.bits x)))) there
            (subst (λ (u : ℕ → Bool). Holds m' (with_row d n u)) (made (d.bits n)) (w.holds d h))

  -- a row that is reset, and one that is not of the matrix
  reset-matrix : (x y : ℕ) → x < container_slots → reset_row r.model s t x (stored_bit r.bits x) y ≡ stored_bit (reset_where r (product s t)).bits x y
  unfolding reset_row masked reset_where set_where product
  reset-matrix x y l = go (s x) (point (stored-matrix r.bits x l) y) ∙ sym (point (stored-matrix (reset_where r (product s t)).bits x l) y)
    where
      go : (u : Bool) → stored_bit r.bits x y ≡ r.bits.matrix x y
          → cond u (masked t (matrix_bit r.model x) (stored_bit r.bits x)) (stored_bit r.bits x) y ≡ cond (u && t y) (matrix_bit r.model x y) (r.bits.matrix x y)
      go true e = ap (λ (o : Bool). cond (t y) (matrix_bit r.model x y) o) e
      go false e = e

  reset-same-rows : SameContents (with_rows (contents_of r) matrix_band reset) (contents_of (reset_where r (product s t)))
  unfolding contents_of reset_where
  reset-same-rows = record {
    words = λ k l. ap (λ (u : ℕ → ℕ). u k) (rows_words (contents_of r) matrix_band reset);
    bits = λ x y hx hy. go x y hx (dec_lt x container_slots);
  }
    where
      go : (x y : ℕ) → x < row_count → Dec (x < container_slots) → (with_rows (contents_of r) matrix_band reset).bits x y ≡ (contents_of (reset_where r (product s t))).bits x y
      go x y hx (yes l) = point (rows_in (contents_of r) matrix_band reset x x (omega arith) l (omega arith)) y ∙ reset-matrix x y l
      go x y hx (no l) =
          point (rows_out (contents_of r) matrix_band reset x (λ i h e. l (omega arith))) y
          ∙ stored-cong r.bits (reset_where r (product s t)).bits x y hx (λ a h e. absurd (l (omega arith))) (λ q h _. refl) (λ q h _. refl)

  pub resets-all : {m : List ℕ} {n : ℕ} → Resets r s t m n → container_slots ≤ n → m ≡ image (reset_where r (product s t))
  resets-all {m} g h = image-written (reset_where r (product s t)) m (holds_as (filling-all g.filled h) _ reset-same-rows) g.fit
