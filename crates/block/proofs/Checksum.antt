-- What the checksum catches. The weighted sums of the two blocks differ by d * a with 0 < d < 256 and 0 < a ≤ 510, which is no
-- multiple of 65521: it is below twice 65521, and no d from 2 to 255 divides 65521.
use mathlib.Core.Path.{◌≡◌, refl, sym, ap, ◌∙◌}
use mathlib.Core.Logic.{◌⊎◌, inl, inr, ⊎_elim}
use mathlib.Core.Bool.{Bool, true, false, not}
use mathlib.Core.List.{List}
use Prim.Native.Nat.{ℕ, zero, suc, ◌+◌, ◌-◌, ◌*◌, ◌%◌, ◌≤◌, ◌<◌}
use native.Mathlib.Nat.{eq-or-lt_of_le, mul-le-mul, mul-mod_right}
use native.Mathlib.Omega.{arith}
use borrow.Author.Tests.{ltb-true, ltb-false, eq-eqb}
use lib.Dec.{ltb, eqb}
use Rattle.std.specs.Prelude.{Option, None}
use Rattle.block.specs.Fault.{unless, first_between}
use Rattle.block.specs.Bytes.{byte_at, number_at, weighted, checksum}
use Rattle.block.specs.Checksum.{Passes, OneByte, TwoBytes}
use Rattle.block.proofs.Faults.{between_none}
use Rattle.block.proofs.Weights.{even-below, over, same-weight}

-- ---- 65521 is no product of a number below 256 and one up to 510

divides : ℕ → Option ℕ
divides d = unless (not (eqb (65521 % d) 0)) d

none-divides : first_between divides 2 256 ≡ None
unfolding divides
none-divides = refl

no-product : (d a : ℕ) → d < 256 → a ≤ 510 → d * a ≡ 65521 → ⊥
unfolding divides
no-product zero a h k e = omega arith
no-product (suc zero) a h k e = omega arith
no-product (suc (suc d)) a h k e =
    let none = between_none divides 2 256 none-divides (suc (suc d)) (omega arith) h in
    let zero_rest : 65521 % suc (suc d) ≡ 0 = ap (λ (z : ℕ). z % suc (suc d)) (sym e) ∙ mul-mod_right (suc (suc d)) a in
    let found = rw (eq-eqb (65521 % suc (suc d)) 0 zero_rest) at none in
    let z : ◌≡◌ {A = ℕ} 0 1 = cc in
    omega arith

-- ---- two sums that differ by such a product have unequal remainders

module _ (s t p q a : ℕ) where
  ordered : p < q → q < 256 → 0 < a → a ≤ 510 → s + q * a ≡ t + p * a → s % 65521 ≡ t % 65521 → ⊥
  ordered l h a0 k e m =
      let more : q * a ≡ (p + (q - p)) * a = ap (λ (z : ℕ). z * a) (omega arith) in
      let low : 1 ≤ q - p = omega arith in
      let high : q - p ≤ 255 = omega arith in
      let least : 1 * 1 ≤ (q - p) * a = mul-le-mul low a0 in
      let most : (q - p) * a ≤ 255 * 510 = mul-le-mul high k in
      no-product (q - p) a (omega arith) k (omega arith)

decide : (a b : ℕ) → (a < b) ⊎ (b ≤ a)
decide a b = go (ltb a b) refl
  where
    go : (t : Bool) → ltb a b ≡ t → (a < b) ⊎ (b ≤ a)
    go true e = inl (ltb-true a b e)
    go false e = inr (ltb-false a b e)

differ : (s t p q a : ℕ) → p < 256 → q < 256 → (p ≡ q → ⊥) → 0 < a → a ≤ 510 → s + q * a ≡ t + p * a → s % 65521 ≡ t % 65521 → ⊥
differ s t p q a hp hq ne a0 k e m =
    ⊎_elim (λ l. ordered s t p q a l hq a0 k e m) (λ l. ordered t s q p a (omega arith) hp a0 k (sym e) (sym m)) (decide p q)

-- what an exchange of p at i and q at j does to a sum
swapped : (s t p q i j : ℕ) → i ≤ j → s + (0 + q * (i + 1) + p * (j + 1)) ≡ t + (0 + p * (i + 1) + q * (j + 1)) → s + p * (j - i) ≡ t + q * (j - i)
swapped s t p q i j h e =
    let f : j + 1 ≡ i + 1 + (j - i) = omega arith in
    let g = rw f at e in
    omega arith

-- ---- the theorems

-- where both pass and agree at 510 and 511, the sums have equal remainders
same_rest : (x y : List ℕ) → byte_at x 510 ≡ byte_at y 510 → byte_at x 511 ≡ byte_at y 511 → Passes x → Passes y → weighted x 510 % 65521 ≡ weighted y 510 % 65521
unfolding checksum
same_rest x y u v px py = omega arith

pub one_byte : OneByte
unfolding checksum
one_byte x y bx by i h d px py = ⊎_elim inside last (decide i 510)
  where
    inside : i < 510 → ⊥
    inside l =
        let e = over x y i 510 0 0 l (λ k m n. d.elsewhere k (λ q. omega arith)) (even-below x y i (λ k m. d.elsewhere k (λ q. omega arith))) in
        let m = same_rest x y (d.elsewhere 510 (λ q. omega arith)) (d.elsewhere 511 (λ q. omega arith)) px py in
        differ (weighted x 510) (weighted y 510) (byte_at x i) (byte_at y i) (i + 1) (bx i) (by i) d.at (omega arith) (omega arith) (omega arith) m

    last : 510 ≤ i → ⊥
    last l =
        let w : weighted x 510 ≡ weighted y 510 = same-weight x y 510 (λ k m. d.elsewhere k (λ q. omega arith)) in
        let m : number_at x 510 ≡ number_at y 510 = px ∙ ap (λ (z : ℕ). z % 65521) w ∙ sym py in
        ⊎_elim (λ e. let v = d.elsewhere 511 (λ q. omega arith) in d.at (rw (← e) (omega arith)))
        (λ (k : 510 < i). let v = d.elsewhere 510 (λ q. omega arith) in let e : 511 ≡ i = omega arith in d.at (rw (← e) (omega arith)))
        (eq-or-lt_of_le l)

pub two_bytes : TwoBytes
two_bytes x y bx i j ij h d px py =
    let e = over x y i j 0 0 ij (λ k l m. d.elsewhere k (λ q. omega arith) (λ q. omega arith)) (even-below x y i (λ k l. d.elsewhere k (λ q. omega arith) (λ q. omega arith))) in
    let f = over x y j 510 _ _ h (λ k l m. d.elsewhere k (λ q. omega arith) (λ q. omega arith)) e in
    let m = same_rest x y (d.elsewhere 510 (λ q. omega arith) (λ q. omega arith)) (d.elsewhere 511 (λ q. omega arith) (λ q. omega arith)) px py in
    differ (weighted x 510) (weighted y 510) (byte_at x j) (byte_at x i) (j - i) (bx j) (bx i) (λ q. d.unequal (sym q)) (omega arith) (omega arith)
    (swapped _ _ (byte_at x i) (byte_at x j) i j (omega arith) (rw (d.at_i, d.at_j) at f)) m
