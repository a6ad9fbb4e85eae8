-- Every stored bit by the rules: what a rebuild leaves.
use mathlib.Core.Path.{◌≡◌, refl, subst}
use mathlib.Core.Bool.{Bool}
use mathlib.Core.List.{List}
use Prim.Native.Nat.{ℕ, ◌+◌, ◌<◌, ◌≤◌}
use native.Mathlib.Omega.{arith}
use Rattle.bitrow.specs.Bit.{bit_at}
use Rattle.bitrow.proofs.Sets.{point}
use Rattle.model.specs.Model.{computed_bits}
use Rattle.model.specs.Registry.{Registry, computed, rebuilt}
use Rattle.store.specs.Layout.{row_count, band_row}
use Rattle.store.specs.declared.Band.{Band}
use Rattle.store.specs.Contents.{Holds}
use Rattle.store.specs.Memory.{row_set, with_row, with_rows}
use Rattle.store.proofs.Carried.{SameContents, holds_as, holds_by, holds_row}
use Rattle.store.proofs.Columns.{rows_in, Filling, filling-next, filling-all}
use Rattle.formed.specs.Registry.{stored_bit, contents_of, image}
use Rattle.formed.proofs.Back.{image-written}
use Rattle.formed.proofs.StoredLaws.{Fit}

-- the rows of all three tables
abbrev pub all_rows : Band
all_rows = record { first = 0; step = 1; count = row_count }

module _ (r : Registry) where
  -- row x by the rules, whatever it was
  abbrev ruled : ℕ → (ℕ → Bool) → ℕ → Bool
  ruled x old = stored_bit (computed_bits r.model) x

  -- the first n rows of r's memory are set, which gave e
  abbrev pub Rebuilding : List ℕ → ℕ → Type 0
  Rebuilding = Filling (contents_of r) all_rows ruled

  pub rebuilding-next : {e d : List ℕ} {n : ℕ} → Rebuilding e n → n < row_count → (row : List ℕ) → bit_at row ≡ stored_bit (computed_bits r.model) n → d ≡ row_set e n row
      → Rebuilding d (n + 1)
  rebuilding-next {e} {n = n} g h row s q =
      let there : n ≡ band_row all_rows n = omega arith in
      filling-next g (omega arith) h (λ c k. holds_by (subst (λ (x : ℕ). Holds (row_set e n row) (with_row c x (ruled n (c.bits x)))) there
      (subst (λ (t : ℕ → Bool). Holds (row_set e n row) (with_row c n t)) s (holds_row k n row h))) q)

  ends : SameContents (with_rows (contents_of r) all_rows ruled) (contents_of (rebuilt r))
  unfolding with_rows rebuilt computed contents_of
  ends = record { words = λ k l. refl; bits = λ x y hx hy. point (rows_in (contents_of r) all_rows ruled x x (omega arith) hx (omega arith)) y }

  pub rebuilt-image : {e : List ℕ} {n : ℕ} → Rebuilding e n → row_count ≤ n → Fit e → e ≡ image (rebuilt r)
  rebuilt-image {e} g h fit = image-written (rebuilt r) e (holds_as (filling-all g h) (contents_of (rebuilt r)) ends) fit
