-- Row by row: the first n rows have the bits of their masks by the rules, and after the last that is the registry set anew.
use mathlib.Core.Path.{◌≡◌, refl, sym, ap, ap₂, ◌∙◌, subst, fun_ext}
use mathlib.Core.Bool.{Bool, false, cond}
use mathlib.Core.List.{List}
use Prim.Native.Nat.{ℕ, ◌+◌, ◌<◌, ◌≤◌}
use native.Mathlib.Decide.{dec_lt}
use native.Mathlib.Omega.{arith}
use Rattle.bitrow.specs.Set.{has_some}
use Rattle.bitrow.proofs.Sets.{point}
use Rattle.bitrow.proofs.Tests.{has_some-absent}
use Rattle.model.specs.Model.{Bits, computed_bits}
use Rattle.model.specs.Registry.{Registry, set_where}
use Rattle.store.specs.Layout.{row_count, band_row}
use Rattle.store.specs.Contents.{Contents, Holds}
use Rattle.store.specs.Memory.{with_row, with_rows}
use Rattle.store.proofs.Carried.{SameContents, holds_as}
use Rattle.store.proofs.Columns.{rows_in, Filling, filling-none, filling-next, filling_skip, filling-all}
use Rattle.formed.specs.Registry.{stored_bit, contents_of, image}
use Rattle.formed.proofs.Back.{image-written}
use Rattle.formed.proofs.Standing.{meet-in, meet-out}
use Rattle.formed.proofs.StoredLaws.{Fit, stored-matrix, stored-selected, stored-allowed, by-table}
use Rattle.matrix_resets.specs.Resets.{masked, RowReset}
use Rattle.whole.proofs.WholeLaws.{all_rows}
use Rattle.arrivals.specs.declared.Touched.{Touched}
use Rattle.arrivals.specs.Anew.{anew, mask_of, bits_where, set_anew}

-- row x with the bits of its mask made the rule's
unfoldable pub anew_row : Registry → Touched → ℕ → (ℕ → Bool) → ℕ → Bool
anew_row r t x old = masked (mask_of t x) (stored_bit (computed_bits r.model) x) old

-- the first n rows are set
pub record Setting (r : Registry) (t : Touched) (m : List ℕ) (n : ℕ) : Type 0 where
  pub filled : Filling (contents_of r) all_rows (anew_row r t) m n
  pub fit : Fit m

-- ---- a row

module _ {r : Registry} {t : Touched} where
  pub setting-none : {m : List ℕ} → Holds m (contents_of r) → Fit m → Setting r t m 0
  setting-none h fit = record { filled = filling-none h; fit = fit }

  module _ {m : List ℕ} {n : ℕ} (g : Setting r t m n) (hn : n < row_count) where
    pub setting-next : {mask rule : ℕ → Bool} → mask ≡ mask_of t n → rule ≡ stored_bit (computed_bits r.model) n → {m' : List ℕ} → RowReset m m' n mask rule
        → Setting r t m' (n + 1)
    unfolding anew_row
    setting-next {mask} {rule} e f {m'} w = record { filled = filling-next g.filled (omega arith) hn turn; fit = w.fits g.fit }
      where
        turn : (d : Contents) → Holds m d → Holds m' (with_row d (band_row all_rows n) (anew_row r t n (d.bits (band_row all_rows n))))
        turn d h =
            let there : n ≡ band_row all_rows n = omega arith in
            subst (λ (x : ℕ). Holds m' (with_row d x (anew_row r t n (d.bits x)))) there
            (subst (λ (u : ℕ → Bool). Holds m' (with_row d n u)) (ap₂ (λ (u v : ℕ → Bool). masked u v (d.bits n)) e f) (w.holds d h))

    -- none of its bits
    pub setting-skip : {mask : ℕ → Bool} → mask ≡ mask_of t n → has_some mask ≡ false → Setting r t m (n + 1)
    unfolding anew_row masked mask_of
    setting-skip {mask} e none = record { filled = filling_skip g.filled (omega arith) hn (left ((contents_of r).bits (band_row all_rows n))); fit = g.fit }
      where
        clear : (y : ℕ) → Dec (y < 256) → mask_of t n y ≡ false
        clear y (yes l) = sym (point e y) ∙ has_some-absent mask none y l
        clear y (no l) = meet-out (stored_bit (anew t) n) 256 y (omega arith)

        left : (old : ℕ → Bool) → anew_row r t n old ≡ old
        left old = fun_ext (λ y. ap (λ (u : Bool). cond u (stored_bit (computed_bits r.model) n y) (old y)) (clear y (dec_lt y 256)))

-- ---- all of them

stored-where : (named rule old : Bits) (x y : ℕ) → x < row_count → cond (stored_bit named x y) (stored_bit rule x y) (stored_bit old x y) ≡ stored_bit (bits_where named rule old) x y
unfolding bits_where set_where
stored-where named rule old x y l =
    by-table (λ z b. cond (stored_bit named z y) (stored_bit rule z y) (stored_bit old z y) ≡ b) (bits_where named rule old) y
    (λ a h i. cond (stored-matrix named a h i y) (stored-matrix rule a h i y) (stored-matrix old a h i y))
    (λ q h i. cond (stored-selected named q h i y) (stored-selected rule q h i y) (stored-selected old q h i y))
    (λ q h i. cond (stored-allowed named q h i y) (stored-allowed rule q h i y) (stored-allowed old q h i y)) x l

module _ (r : Registry) (t : Touched) where
  row-anew : (x y : ℕ) → x < row_count → y < 256 → anew_row r t x (stored_bit r.bits x) y ≡ stored_bit (set_anew t r).bits x y
  unfolding anew_row masked mask_of set_anew
  row-anew x y hx hy =
      let rule = computed_bits r.model in
      ap (λ (u : Bool). cond u (stored_bit rule x y) (stored_bit r.bits x y)) (meet-in (stored_bit (anew t) x) 256 y hy) ∙ stored-where (anew t) rule r.bits x y hx

  rows-anew : SameContents (with_rows (contents_of r) all_rows (anew_row r t)) (contents_of (set_anew t r))
  unfolding with_rows contents_of set_anew
  rows-anew = record {
    words = λ k l. refl;
    bits = λ x y hx hy. point (rows_in (contents_of r) all_rows (anew_row r t) x x (omega arith) hx (omega arith)) y ∙ row-anew x y hx hy;
  }

  pub setting-all : {m : List ℕ} {n : ℕ} → Setting r t m n → row_count ≤ n → m ≡ image (set_anew t r)
  setting-all {m} g h = image-written (set_anew t r) m (holds_as (filling-all g.filled h) (contents_of (set_anew t r)) rows-anew) g.fit
