-- Laws of how many numbers a set has.
use mathlib.Core.Path.{◌≡◌, refl, sym, ap, ap₂, ◌∙◌}
use mathlib.Core.Bool.{Bool, true, false}
use Prim.Native.Nat.{ℕ, zero, suc, ◌+◌, ◌≤◌, ◌<◌}
use native.Mathlib.Nat.{add-zero, add-suc, add_assoc}
use native.Mathlib.Omega.{arith}
use Rattle.bitrow.specs.Set.{nothing, one, size}
use Rattle.bitrow.proofs.Sets.{nothing-at}

pub size-zero : (s : ℕ → Bool) → size s 0 ≡ 0
unfolding size
size-zero s = refl

-- sets that agree below n
pub size-cong : (s t : ℕ → Bool) (n : ℕ) → ((i : ℕ) → i < n → s i ≡ t i) → size s n ≡ size t n
unfolding size
size-cong s t zero f = refl
size-cong s t (suc n) f = ap₂ (λ (x : ℕ) (b : Bool). x + one b) (size-cong s t n (λ i h. f i (omega arith))) (f n (omega arith))

-- counted from the low end
pub size_low : (s : ℕ → Bool) (n : ℕ) → size s (suc n) ≡ one (s 0) + size (λ i. s (suc i)) n
unfolding size
size_low s zero = omega arith
size_low s (suc n) = omega (arith, size_low s n)

-- counted in two stretches
pub size-add : (s : ℕ → Bool) (m n : ℕ) → size s (m + n) ≡ size s m + size (λ i. s (m + i)) n
unfolding size
size-add s m zero = ap (size s) (add-zero m) ∙ sym (add-zero (size s m))
size-add s m (suc n) = ap (size s) (add-suc m n) ∙ ap (λ (x : ℕ). x + one (s (m + n))) (size-add s m n) ∙ add_assoc (size s m) (size (λ i. s (m + i)) n) (one (s (m + n)))

one-le : (b : Bool) → one b ≤ 1
one-le true = omega arith
one-le false = omega arith

pub size-le : (s : ℕ → Bool) (n : ℕ) → size s n ≤ n
unfolding size
size-le s zero = omega arith
size-le s (suc n) = omega (arith, size-le s n, one-le (s n))

-- ---- one number put in or taken out

-- ---- none

pub size-nothing : (n : ℕ) → size nothing n ≡ 0
unfolding size
size-nothing zero = refl
size-nothing (suc n) = omega (arith, size-nothing n, ap one (nothing-at n))
