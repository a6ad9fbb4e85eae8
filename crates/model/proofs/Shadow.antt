-- What document 01 says of the shadow beside its definition.
use mathlib.Core.Path.{◌≡◌, refl}
use mathlib.Core.Bool.{Bool, true, false, not, ◌&&◌, and-false, and-eq-true_iff}
use mathlib.Core.List.{List, [], ◌∷◌}
use Prim.Native.Nat.{ℕ, ◌<◌}
use lib.Dec.{eqb}
use borrow.Author.Tests.{ltb-true}
use Rattle.model.specs.Table.{any}
use Rattle.model.specs.Model.{Model, Bits}
use Rattle.model.specs.Findings.{containers_of, one_direction, connects, connected, among, shadow}

-- what a policy that allows nothing connects
none-connected : (f g : ℕ → Bool) (k l : List ℕ) → any g l ≡ false → any (λ c. any (λ d. f c && g d) l) k ≡ false
none-connected f g [] l h = refl
none-connected f g (c ∷ k) l h = rw (any-and (f c) l, h, and-false (f c)) (none-connected f g k l h)
  where
    any-and : (t : Bool) (l : List ℕ) → any (λ d. t && g d) l ≡ (t && any g l)
    any-and true l = refl
    any-and false [] = refl
    any-and false (d ∷ l) = any-and false l

-- A policy that allows nothing is not taken as shadowed.
pub nothing-shadowed : (m : Model) (s : Bits) (a b : ℕ) → any (s.allowed a) (containers_of m) ≡ false → shadow m s a b ≡ false
unfolding shadow connected connects
nothing-shadowed m s a b h =
    rw (none-connected (s.selected a) (s.allowed a) (containers_of m) (containers_of m) h, and-false (one_direction m a b)) (and-false (not (eqb a b)))

-- "If the connections are equal, only the pair with b < a is listed."
pub shadow-equal : (m : Model) (s : Bits) (a b : ℕ) → among m s b a ≡ true → shadow m s a b ≡ true → b < a
unfolding shadow
shadow-equal m s a b e h =
    let x = ((and-eq-true_iff (not (eqb a b)) _).0 h).1 in
    let y = ((and-eq-true_iff (one_direction m a b) _).0 x).1 in
    let z = ((and-eq-true_iff (connected m s a) _).0 y).1 in
    ltb-true b a (rw e at ((and-eq-true_iff (among m s a b) _).0 z).1)
