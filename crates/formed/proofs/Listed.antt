-- A test of each place in a run, by the list of the places.
use mathlib.Core.Path.{◌≡◌, refl, ap, ◌∙◌}
use mathlib.Core.Bool.{Bool, true, false, ◌&&◌}
use Prim.Native.Nat.{ℕ, zero, suc, ◌+◌}
use native.Mathlib.Nat.{sub-zero}
use Rattle.std.specs.List.{list_all, range_with_len}
use Rattle.formed.specs.Tests.{◌and◌, every, between}

every-listed : (f : ℕ → Bool) (i n : ℕ) → every f i n ≡ list_all f (range_with_len i n)
unfolding ◌and◌
every-listed f i zero = refl
every-listed f i (suc n) = elim (f i) as (λ t. (t and every f (i + 1) n) ≡ (t && list_all f (range_with_len (i + 1) n))) [ true ↦ every-listed f (i + 1) n | false ↦ refl ]

pub between-listed : (f : ℕ → Bool) (n : ℕ) → between f 0 n ≡ list_all f (range_with_len 0 n)
unfolding between
between-listed f n = ap (every f 0) (sub-zero n) ∙ every-listed f 0 n
