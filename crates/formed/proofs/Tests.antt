-- Laws of tests over lists.
use mathlib.Core.Path.{◌≡◌, refl, ap₂}
use mathlib.Core.Bool.{false≢true, Bool, true, false, not, ◌&&◌, ◌||◌}
use mathlib.Core.List.{List, [], ◌∷◌}
use Prim.Native.Nat.{ℕ, zero, suc, ◌<◌}
use native.Mathlib.Nat.{not-suc-le-zero, le_of_suc-le-suc}
use native.Mathlib.Omega.{arith}
use lib.ListN.{length, get_or}
use Rattle.model.specs.Table.{all}
use Rattle.model.proofs.Lists.{both}

-- what a set bit asks
pub implies : (a b : Bool) → (not a || b) ≡ true → a ≡ true → b ≡ true
implies true b e h = e
implies false b e h = absurd (false≢true h)

pub implied : (a b : Bool) → (a ≡ true → b ≡ true) → (not a || b) ≡ true
implied true b h = h refl
implied false b h = refl

-- a test holds of all of a list exactly if it holds at each place
module _ {A : Type 0} (f : A → Bool) (d : A) where
  pub all-each : (l : List A) → ((i : ℕ) → i < length l → f (get_or l i d) ≡ true) → all f l ≡ true
  all-each [] h = refl
  all-each (x ∷ l) h = ap₂ ◌&&◌ (h 0 (omega arith)) (all-each l (λ i b. h (suc i) (omega arith)))

  pub each_all : (l : List A) → all f l ≡ true → (i : ℕ) → i < length l → f (get_or l i d) ≡ true
  each_all [] e i h = absurd (not-suc-le-zero h)
  each_all (x ∷ l) e zero h = (both (f x) (all f l) e).0
  each_all (x ∷ l) e (suc i) h = each_all l (both (f x) (all f l) e).1 i (le_of_suc-le-suc h)
