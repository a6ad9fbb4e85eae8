-- The definition of each kind, as rows: of no kind, of an empty slot, of one number.
use mathlib.Core.Path.{◌≡◌, sym, ap, ◌∙◌, fun_ext}
use mathlib.Core.Logic.{◌⊎◌, ⊎_elim}
use mathlib.Core.Bool.{Bool, true, false, ◌&&◌, ◌||◌, or-false, and-false}
use mathlib.Core.List.{List}
use Prim.Native.Nat.{ℕ, ◌≤◌, ◌<◌}
use native.Mathlib.Omega.{arith}
use lib.Dec.{eqb}
use borrow.Author.Tests.{ne_eqb}
use Rattle.bitrow.specs.Set.{nothing, insert}
use Rattle.model.specs.Model.{Model, Bits}
use Rattle.model.specs.Findings.{shown, all_reachable, all_isolated, user_cross, system_isolation}
use Rattle.formed.specs.Registry.{model_in, bits_in}
use Rattle.container_findings.specs.Rows.{shown_at, containers_stand, zero_if}

-- ---- the definition of each kind

module _ (m : List ℕ) (a b : ℕ) where
  abbrev M : Model
  M = model_in m

  abbrev S : Bits
  S = bits_in m

  pub at_1 : shown_at m 1 a b ≡ (containers_stand m a && (eqb b 0 && all_reachable M S a))
  unfolding shown_at shown
  at_1 = or-false _

  pub at-2 : shown_at m 2 a b ≡ (containers_stand m a && (eqb b 0 && all_isolated M S a))
  unfolding shown_at shown
  at-2 = or-false _

  pub at-3 : shown_at m 3 a b ≡ (containers_stand m a && (containers_stand m b && user_cross M S a b))
  unfolding shown_at shown
  at-3 = or-false _

  pub at-4 : shown_at m 4 a b ≡ (containers_stand m a && (containers_stand m b && system_isolation M S a b))
  unfolding shown_at shown
  at-4 = or-false _

-- ---- rows that are empty by the slot or by the kind

module _ (m : List ℕ) (k a : ℕ) where
  -- no container stands at a
  pub no-container : k < 5 → containers_stand m a ≡ false → nothing ≡ shown_at m k a
  unfolding nothing shown_at shown
  no-container h e = fun_ext (λ b. rw (e, ne_eqb k 5 (λ z. omega arith), ne_eqb k 6 (λ z. omega arith), ne_eqb k 7 (λ z. omega arith)) (sym (none4 (eqb k 1) (eqb k 2) (eqb k 3) (eqb k 4))))
    where
      none4 : (p q r s : Bool) → ((p && false) || ((q && false) || ((r && false) || ((s && false) || false)))) ≡ false
      none4 p q r s = rw (and-false p, and-false q, and-false r, and-false s)

  -- k is no kind
  pub no_kind : k ≡ 0 ⊎ 7 < k → nothing ≡ shown_at m k a
  unfolding nothing shown_at shown
  no_kind h = fun_ext (λ b. rw (other 1 (omega arith), other 2 (omega arith), other 3 (omega arith), other 4 (omega arith), other 5 (omega arith), other 6 (omega arith), other 7 (omega arith)))
    where
      other : (i : ℕ) → (0 < i) × (i ≤ 7) → eqb k i ≡ false
      other i p = ne_eqb k i (λ e. ⊎_elim (λ z. omega (arith, p.0)) (λ l. omega (arith, p.1)) h)

-- ---- rows of one number

pub only : (i : ℕ) (f : ℕ → Bool) → ((b : ℕ) → f b ≡ eqb b i) → insert i nothing ≡ f
unfolding insert nothing
only i f e = fun_ext (λ b. or-false (eqb b i) ∙ sym (e b))

pub no_bits : (f : ℕ → Bool) → ((b : ℕ) → f b ≡ false) → nothing ≡ f
unfolding nothing
no_bits f e = fun_ext (λ b. sym (e b))

module _ (t : Bool) where
  pub zero-yes : t ≡ true → insert 0 nothing ≡ zero_if t
  unfolding zero_if
  zero-yes e = only 0 (zero_if t) (λ b. ap (λ x. x && eqb b 0) e)

  pub zero-no : t ≡ false → nothing ≡ zero_if t
  unfolding zero_if
  zero-no e = no_bits (zero_if t) (λ b. ap (λ x. x && eqb b 0) e)

-- ---- the row of a kind, where the kind is that number

pub of-kind : (m : List ℕ) (i k a : ℕ) {row : ℕ → Bool} → row ≡ shown_at m i a → k ≡ i → row ≡ shown_at m k a
of-kind m i k a e q = e ∙ ap (λ (n : ℕ). shown_at m n a) (sym q)
