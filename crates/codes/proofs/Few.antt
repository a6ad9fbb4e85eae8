-- A list of a table's slots is no longer than the table, so what a memory counts is small.
use mathlib.Core.Bool.{Bool, true, false, cond}
use mathlib.Core.List.{List, [], ◌∷◌}
use Prim.Native.Nat.{ℕ, suc, ◌+◌, ◌*◌, ◌≤◌}
use native.Mathlib.Omega.{arith}
use lib.ListN.{length}
use Rattle.model.specs.Table.{count, below}
use Rattle.model.specs.Model.{container_slots, Bits}
use Rattle.model.specs.Findings.{containers_of, policies_of, pairs_in, pairs}
use Rattle.model.proofs.Lists.{length_up, standing-few}
use Rattle.formed.specs.Registry.{model_in, bits_in}
use Rattle.steps.proofs.Outcomes.{sized-in}

count-few : (f : ℕ → Bool) (l : List ℕ) → count f l ≤ length l
count-few f [] = omega arith
count-few f (x ∷ l) = pick (f x) (count-few f l)
  where
    pick : (t : Bool) → count f l ≤ length l → cond t 1 0 + count f l ≤ suc (length l)
    pick true h = omega arith
    pick false h = omega arith

pairs-few : (f : ℕ → ℕ → Bool) (l bs : List ℕ) → pairs_in f l bs ≤ length l * length bs
pairs-few f [] bs = omega arith
pairs-few f (a ∷ l) bs = let h = pairs-few f l bs in omega (arith, count-few (f a) bs)

pairs-at-most : (s : Bits) (n : ℕ) → pairs_in s.matrix (below n) (below n) ≤ n * n
pairs-at-most s n = rw length_up at (pairs-few s.matrix (below n) (below n))

module _ (m : List ℕ) where
  pub containers-few : length (containers_of (model_in m)) ≤ 256
  containers-few = omega (arith, standing-few 0 (model_in m).containers, (sized-in m).containers)

  pub policies-few : length (policies_of (model_in m)) ≤ 128
  policies-few = omega (arith, standing-few 0 (model_in m).policies, (sized-in m).policies)

  pub pairs-fit : pairs (bits_in m) ≤ 65536
  unfolding pairs
  pairs-fit = pairs-at-most (bits_in m) container_slots
