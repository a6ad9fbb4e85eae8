-- By cases on a test.
use mathlib.Core.Path.{◌≡◌, refl}
use mathlib.Core.Bool.{Bool, true, false}
use Prim.Native.Nat.{ℕ, ◌<◌, ◌≤◌}
use lib.Dec.{eqb, ltb}
use borrow.Author.Tests.{eqb-true, eqb-false, ltb-true, ltb-false}

pub by_eqb : (P : Bool → Type 0) (a b : ℕ) → (a ≡ b → P true) → ((a ≡ b → ⊥) → P false) → P (eqb a b)
by_eqb P a b f g = go (eqb a b) refl
  where
    go : (t : Bool) → eqb a b ≡ t → P t
    go true e = f (eqb-true a b e)
    go false e = g (eqb-false a b e)

pub by-ltb : (P : Bool → Type 0) (a b : ℕ) → (a < b → P true) → (b ≤ a → P false) → P (ltb a b)
by-ltb P a b f g = go (ltb a b) refl
  where
    go : (t : Bool) → ltb a b ≡ t → P t
    go true e = f (ltb-true a b e)
    go false e = g (ltb-false a b e)
