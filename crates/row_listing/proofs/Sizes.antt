-- How many numbers a set has, and how many a word of a row.
use mathlib.Core.Path.{◌≡◌, refl, ap, ◌∙◌}
use mathlib.Core.Bool.{Bool, true, false, cond}
use mathlib.Core.List.{List, ◌∷◌, map}
use Prim.Native.Nat.{ℕ, zero, suc, ◌+◌, ◌<◌}
use native.Mathlib.Nat.{zero-add}
use native.Mathlib.Omega.{arith}
use lib.ListN.{length, length-map}
use Rattle.bitrow.specs.Set.{one, size}
use Rattle.bitrow.proofs.Sizes.{size-zero, size-cong, size_low}
use Rattle.model.specs.Findings.{finding}
use Rattle.row_listing.specs.Listing.{members, row_findings}

members-size : (s : ℕ → Bool) (n i : ℕ) → length (members s i n) ≡ size (λ j. s (i + j)) n
unfolding members
members-size s zero i = let z = size-zero (λ j. s (i + j)) in omega (arith, z)
members-size s (suc n) i = pick (s i) refl (members-size s n (suc i))
  where
    shift : size (λ j. s (i + suc j)) n ≡ size (λ j. s (suc i + j)) n
    shift = size-cong (λ j. s (i + suc j)) (λ j. s (suc i + j)) n (λ j h. let e : i + suc j ≡ suc i + j = omega arith in ap s e)

    low : size (λ j. s (i + j)) (suc n) ≡ one (s (i + 0)) + size (λ j. s (i + suc j)) n
    low = size_low (λ j. s (i + j)) n

    here : one (s (i + 0)) ≡ one (s i)
    here = let e : i + 0 ≡ i = omega arith in ap (λ k. one (s k)) e

    pick : (t : Bool) → s i ≡ t → length (members s (suc i) n) ≡ size (λ j. s (suc i + j)) n → length (cond t (i ∷ members s (suc i) n) (members s (suc i) n)) ≡ size (λ j. s (i + j)) (suc n)
    pick true e h = let o : one (s i) ≡ 1 = ap one e in omega (arith, shift, low, here)
    pick false e h = let o : one (s i) ≡ 0 = ap one e in omega (arith, shift, low, here)

pub row-count : (k a : ℕ) (s : ℕ → Bool) → length (row_findings k a s) ≡ size s 256
unfolding row_findings
row-count k a s = length-map (members s 0 256) (finding k a) ∙ members-size s 256 0 ∙ size-cong (λ j. s (0 + j)) s 256 (λ j h. ap s (zero-add j))
