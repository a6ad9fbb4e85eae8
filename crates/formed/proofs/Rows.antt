-- The test of a row: as the code makes it, and what it says of the row's bits.
use mathlib.Core.Path.{◌≡◌, refl, sym, ap, ◌∙◌}
use mathlib.Core.Bool.{Bool, true, false, not, ◌&&◌, cond}
use mathlib.Core.List.{List}
use Prim.Native.Nat.{ℕ, ◌<◌}
use lib.Dec.{eqb}
use borrow.Author.Tests.{eq-eqb, ne_eqb}
use Rattle.bitrow.specs.Bit.{bit_at}
use Rattle.bitrow.specs.Set.{nothing, part, has_some}
use Rattle.bitrow.proofs.Sets.{less-nothing, nothing-at}
use Rattle.bitrow.proofs.Tests.{part-all, part_in-law}
use Rattle.store.specs.Layout.{row_at, row_bit}
use Rattle.store.proofs.Carried.{row-bit}
use Rattle.formed.specs.Tests.{owned_by, row_ok}

module _ (m : List ℕ) (s : ℕ → Bool) (w r : ℕ) where
  -- of a free slot
  pub row-free : w ≡ 0 → row_ok m s w r ≡ not (has_some (bit_at (row_at m r)))
  unfolding row_ok owned_by part
  row-free z = ap (λ t. part (bit_at (row_at m r)) (cond t nothing s)) (eq-eqb w 0 z) ∙ ap (λ f. not (has_some f)) (less-nothing (bit_at (row_at m r)))

  -- of a slot that stands
  pub row-owned : (w ≡ 0 → ⊥) → row_ok m s w r ≡ part (bit_at (row_at m r)) s
  unfolding row_ok owned_by
  row-owned z = ap (λ t. part (bit_at (row_at m r)) (cond t nothing s)) (ne_eqb w 0 z)

-- ---- the bits of a row

owned_at : (w : ℕ) (s : ℕ → Bool) (y : ℕ) → owned_by w s y ≡ (not (eqb w 0) && s y)
unfolding owned_by
owned_at w s y = go (eqb w 0)
  where
    go : (t : Bool) → cond t nothing s y ≡ (not t && s y)
    go true = nothing-at y
    go false = refl

module _ (m : List ℕ) (s : ℕ → Bool) (w r : ℕ) where
  -- a set bit of a row that passes is a bit of standing slots
  pub row-holds : row_ok m s w r ≡ true → (y : ℕ) → y < 256 → row_bit m r y ≡ true → (not (eqb w 0) && s y) ≡ true
  unfolding row_ok
  row-holds ok y h b = sym (owned_at w s y) ∙ part_in-law (bit_at (row_at m r)) (owned_by w s) ok y h (row-bit m r y h ∙ b)

  pub row-passes : ((y : ℕ) → y < 256 → row_bit m r y ≡ true → (not (eqb w 0) && s y) ≡ true) → row_ok m s w r ≡ true
  unfolding row_ok
  row-passes f = part-all (bit_at (row_at m r)) (owned_by w s) (λ y h b. owned_at w s y ∙ f y h (sym (row-bit m r y h) ∙ b))
