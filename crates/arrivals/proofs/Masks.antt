-- The mask of a row by the table that has the row: all bits where the row itself is set anew, else those of the columns or containers.
use mathlib.Core.Path.{◌≡◌, sym, ap, ◌∙◌, fun_ext}
use mathlib.Core.Bool.{Bool, true, false, ◌&&◌, ◌||◌}
use Prim.Native.Nat.{ℕ, ◌<◌, ◌≤◌}
use native.Mathlib.Omega.{arith}
use Rattle.bitrow.specs.Bit.{bit_at}
use Rattle.bitrow.specs.Set.{under, meet, Bounded}
use Rattle.bitrow.proofs.Sets.{point, meet-at, meet-under}
use Rattle.model.specs.Model.{container_slots}
use Rattle.model.specs.Settled.{touched_set}
use Rattle.store.specs.Layout.{row_count, selected_band, band_index, selected_row, allowed_row}
use Rattle.store.proofs.Columns.{by-band}
use Rattle.formed.specs.Registry.{stored_bit}
use Rattle.formed.proofs.StoredLaws.{stored-matrix, stored-selected, stored-allowed}
use Rattle.arrivals.specs.declared.Touched.{Touched}
use Rattle.arrivals.specs.Anew.{anew, mask_of}

module _ (t : Touched) (x : ℕ) where
  -- a row that has u or a bit of s
  mask-all : (u : Bool) (s : ℕ → Bool) {mask : ℕ → Bool} → stored_bit (anew t) x ≡ (λ y. u || s y) → u ≡ true → mask ≡ under 256 → mask ≡ mask_of t x
  unfolding mask_of
  mask-all u s e f g = g ∙ fun_ext (λ y. sym (meet-at (stored_bit (anew t) x) (under 256) y ∙ ap (λ (b : Bool). b && under 256 y) (point e y ∙ ap (λ (b : Bool). b || s y) f)))

  mask-part : {u : Bool} {s : ℕ → Bool} → stored_bit (anew t) x ≡ (λ y. u || s y) → u ≡ false → Bounded 256 s → s ≡ mask_of t x
  unfolding mask_of
  mask-part {u} {s} e f b =
      let h : (λ y. u || s y) ≡ s = fun_ext (λ y. ap (λ (v : Bool). v || s y) f) in
      sym (ap (λ (v : ℕ → Bool). meet v (under 256)) (e ∙ h) ∙ meet-under b)

  module _ (h : x < container_slots) where
    matrix-anew : stored_bit (anew t) x ≡ (λ y. bit_at t.rows x || bit_at t.columns y)
    unfolding anew
    matrix-anew = stored-matrix (anew t) x h

    pub row-all : {mask : ℕ → Bool} → bit_at t.rows x ≡ true → mask ≡ under 256 → mask ≡ mask_of t x
    row-all f g = mask-all (bit_at t.rows x) (bit_at t.columns) matrix-anew f g

    pub row-part : bit_at t.rows x ≡ false → Bounded 256 (bit_at t.columns) → bit_at t.columns ≡ mask_of t x
    row-part f b = mask-part matrix-anew f b

-- a policy's two rows are set anew alike
set-anew : (t : Touched) (x : ℕ) → x < row_count → container_slots ≤ x → stored_bit (anew t) x ≡ (λ y. bit_at t.policies (band_index selected_band x) || bit_at t.containers y)
unfolding anew touched_set
set-anew t =
    by-band (λ x. container_slots ≤ x → stored_bit (anew t) x ≡ these (band_index selected_band x))
    (λ a l h. absurd (omega arith))
    (λ q l h. let e : q ≡ band_index selected_band (selected_row q) = omega arith in stored-selected (anew t) q l ∙ ap these e)
    (λ q l h. let e : q ≡ band_index selected_band (allowed_row q) = omega arith in stored-allowed (anew t) q l ∙ ap these e)
  where
    these : ℕ → ℕ → Bool
    these q y = bit_at t.policies q || bit_at t.containers y

module _ (t : Touched) (x : ℕ) (l : x < row_count) (h : container_slots ≤ x) where
  pub set_all : {mask : ℕ → Bool} → bit_at t.policies (band_index selected_band x) ≡ true → mask ≡ under 256 → mask ≡ mask_of t x
  set_all f g = mask-all t x (bit_at t.policies (band_index selected_band x)) (bit_at t.containers) (set-anew t x l h) f g

  pub set-part : bit_at t.policies (band_index selected_band x) ≡ false → Bounded 256 (bit_at t.containers) → bit_at t.containers ≡ mask_of t x
  set-part f b = mask-part t x (set-anew t x l h) f b
