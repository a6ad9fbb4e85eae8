-- The pairs of the matrix that a policy touches: those it selects with all that stand, by its direction.
use mathlib.Core.Path.{◌≡◌, refl, sym, ap, ap₂, ◌∙◌, fun_ext}
use mathlib.Core.Bool.{Bool, true, false, ◌&&◌, and-true, and-false, or-false}
use mathlib.Core.List.{List}
use mathlib.Core.Option.{Option, none, some}
use Prim.Native.Nat.{ℕ, ◌<◌}
use Rattle.bitrow.specs.Bit.{bit_at}
use Rattle.bitrow.specs.Set.{has_some}
use Rattle.bitrow.proofs.Tests.{has_some-absent}
use Rattle.block.specs.declared.Direction.{Direction}
use Rattle.block.specs.declared.Direction.TheVariants.{Ingress as ingress, Egress as egress}
use Rattle.block.specs.Entry.{Container, Policy}
use Rattle.model.specs.Table.{on, at, stands}
use Rattle.model.specs.Rules.{same_direction, selects}
use Rattle.model.specs.Model.{Model}
use Rattle.model.specs.Registry.{touches, touched}
use Rattle.matrix_resets.specs.Resets.{product}
use Rattle.policy_changes.specs.Region.{selection, Touches}

module _ (m : Model) (p : Policy) where
  touched-egress : p.direction ≡ egress → product (selection m p) (stands m.containers) ≡ touched m p
  unfolding product selection touched touches same_direction selects
  touched-egress e = fun_ext (λ a. fun_ext (λ b. go (at m.containers a) (at m.containers b)))
    where
      go : (o z : Option Container) → (on (selects p) o && on (λ y. true) z) ≡ on (λ x. on (λ y. touches p x y) z) o
      go none z = refl
      go (some x) none = and-false (selects p x)
      go (some x) (some y) = rw e (and-true (selects p x) ∙ sym (or-false (selects p x)))

  touched-ingress : p.direction ≡ ingress → product (stands m.containers) (selection m p) ≡ touched m p
  unfolding product selection touched touches same_direction
  touched-ingress e = fun_ext (λ a. fun_ext (λ b. go (at m.containers a) (at m.containers b)))
    where
      go : (o z : Option Container) → (on (λ x. true) o && on (selects p) z) ≡ on (λ x. on (λ y. touches p x y) z) o
      go none z = refl
      go (some x) none = refl
      go (some x) (some y) = rw e

-- a policy that selects nobody touches nothing
pub nobody-touched : (m : Model) (p : Policy) → has_some (selection m p) ≡ false → (a b : ℕ) → a < 256 → b < 256 → touched m p a b ≡ false
unfolding product
nobody-touched m p none-selected a b ha hb = go p.direction refl
  where
    nobody : (c : ℕ) → c < 256 → selection m p c ≡ false
    nobody = has_some-absent (selection m p) none-selected

    go : (d : Direction) → p.direction ≡ d → touched m p a b ≡ false
    go egress e = ap (λ (f : ℕ → ℕ → Bool). f a b) (sym (touched-egress m p e)) ∙ ap (λ (u : Bool). u && stands m.containers b) (nobody a ha)
    go ingress e = ap (λ (f : ℕ → ℕ → Bool). f a b) (sym (touched-ingress m p e)) ∙ ap (λ (u : Bool). stands m.containers a && u) (nobody b hb) ∙ and-false (stands m.containers a)

pub touches-egress : (s t : List ℕ) → Touches egress (bit_at s) (bit_at t) (record { rows = s; columns = t })
touches-egress s t = record { is = λ m p e f g. ap₂ product f g ∙ touched-egress m p (sym e) }

pub touches-ingress : (s t : List ℕ) → Touches ingress (bit_at s) (bit_at t) (record { rows = t; columns = s })
touches-ingress s t = record { is = λ m p e f g. ap₂ product g f ∙ touched-ingress m p (sym e) }
