-- By induction over the table: the slot that the search finds is free, and it finds none exactly if the table is full.
use mathlib.Core.Path.{◌≡◌, refl, ap, ◌∙◌}
use mathlib.Core.Bool.{Bool, true, false, not}
use mathlib.Core.List.{[], ◌∷◌}
use mathlib.Core.Option.{Option, none, some}
use Prim.Native.Nat.{ℕ, zero, suc, ◌<◌}
use native.Mathlib.Nat.{not-suc-le-zero, le_of_suc-le-suc}
use native.Mathlib.Omega.{arith}
use lib.Dec.{ltb, leb}
use lib.ListN.{length}
use borrow.Author.Tests.{ltb-true, ltb-false, le-leb, lt-leb}
use Rattle.model.specs.Table.{Table, is_free, at, free, next, lowest_free, full}

module _ {A : Type 0} where
  -- the slot that the search finds is free
  pub lowest-is-free : (t : Table A) (i : ℕ) → lowest_free t ≡ some i → at t i ≡ none
  lowest-is-free [] i e = refl
  lowest-is-free (none ∷ t) zero e = refl
  lowest-is-free (none ∷ t) (suc i) e = let z : ◌≡◌ {A = ℕ} 0 (suc i) = cc in absurd (omega arith)
  lowest-is-free (some x ∷ t) i e = pick (lowest_free t) (lowest-is-free t) i e
    where
      pick : (o : Option ℕ) → ((j : ℕ) → o ≡ some j → at t j ≡ none) → (i : ℕ) → next o ≡ some i → at (some x ∷ t) i ≡ none
      pick none h i e = let z : ◌≡◌ {A = ℕ} 0 1 = cc in absurd (omega arith)
      pick (some j) h zero e = let z : ◌≡◌ {A = ℕ} 0 (suc j) = cc in absurd (omega arith)
      pick (some j) h (suc i) e = let s : suc j ≡ suc i = cc in let r : j ≡ i = omega arith in h i (ap some r)

  -- the search finds none exactly if the table is full
  pub full-lowest : (t : Table A) → is_free (lowest_free t) ≡ full t
  full-lowest [] = refl
  full-lowest (none ∷ t) = refl
  full-lowest (some x ∷ t) = later (lowest_free t) ∙ full-lowest t
    where
      later : (o : Option ℕ) → is_free (next o) ≡ is_free o
      later none = refl
      later (some i) = refl

  -- a slot within the table is free exactly if it holds nothing
  pub free-at : (t : Table A) (i : ℕ) → i < length t → free t i ≡ is_free (at t i)
  free-at [] i h = absurd (not-suc-le-zero h)
  free-at (x ∷ t) zero h = refl
  free-at (x ∷ t) (suc i) h = free-at t i (le_of_suc-le-suc h)

-- not below the size is beyond it
pub beyond-ltb : (n i : ℕ) (t : Bool) → ltb i n ≡ t → leb n i ≡ not t
beyond-ltb n i true e = lt-leb n i (ltb-true i n e)
beyond-ltb n i false e = le-leb n i (ltb-false i n e)
