-- Tests of places one after another: x is what those before place i come to.
use mathlib.Core.Path.{◌≡◌, refl, sym, ap, ap₂, ◌∙◌}
use mathlib.Core.Bool.{Bool, true, false, ◌&&◌, and-true, and-false}
use Prim.Native.Nat.{ℕ, ◌+◌, ◌≤◌, ◌<◌}
use Rattle.formed.specs.Tests.{◌and◌, between}
use Rattle.formed.proofs.Runs.{and-fails, and-passes, between_done, between-skip, between-hit}

false-after : (x : Bool) → (x and false) ≡ false
unfolding ◌and◌
false-after true = refl
false-after false = refl

true-after : (x : Bool) → (x and true) ≡ x
unfolding ◌and◌
true-after true = refl
true-after false = refl

module _ (f : ℕ → Bool) (n : ℕ) where
  pub first : {x : Bool} → x ≡ true → (x and between f 0 n) ≡ between f 0 n
  first e = and-passes _ _ e refl

  pub turn : (x y : Bool) (i : ℕ) → i < n → y ≡ (x && f i) → (y and between f (i + 1) n) ≡ (x and between f i n)
  turn x y i h e = go (f i) refl
    where
      go : (t : Bool) → f i ≡ t → (y and between f (i + 1) n) ≡ (x and between f i n)
      go true p = ap₂ ◌and◌ (e ∙ ap (λ t. x && t) p ∙ and-true x) (sym (between-skip f i n h p))
      go false p = and-fails _ _ (e ∙ ap (λ t. x && t) p ∙ and-false x) ∙ sym (ap (λ t. x and t) (between-hit f i n h p) ∙ false-after x)

  pub last : (x : Bool) (i : ℕ) → n ≤ i → (x and between f i n) ≡ x
  last x i h = ap (λ t. x and t) (between_done f i n h) ∙ true-after x

-- two tests at one place
pub two : (x a b : Bool) {y z : Bool} → y ≡ (x && a) → z ≡ (y && b) → z ≡ (x && (a and b))
unfolding ◌and◌
two x a b e f = f ∙ ap (λ t. t && b) e ∙ joined x a b
  where
    joined : (x a b : Bool) → ((x && a) && b) ≡ (x && (a and b))
    joined true true b = refl
    joined true false b = refl
    joined false a b = refl
