-- The definitions of kinds 5 to 7 as rows: of an empty slot, and of irrelevance, which is one number or none.
use mathlib.Core.Path.{◌≡◌, refl, sym, ap₂, ◌∙◌, fun_ext}
use mathlib.Core.Bool.{Bool, true, false, ◌&&◌, ◌||◌, or-false, and-true, and-false, true≢false}
use mathlib.Core.List.{List}
use Prim.Native.Nat.{ℕ, ◌≤◌}
use native.Mathlib.Omega.{arith}
use lib.Dec.{eqb}
use borrow.Author.Tests.{ne_eqb}
use Rattle.bitrow.specs.Set.{nothing, insert}
use Rattle.bitrow.proofs.Sets.{point, nothing-at}
use Rattle.model.specs.Model.{Model, Bits}
use Rattle.model.specs.Findings.{shown, shadow, conflict, needless, irrelevance}
use Rattle.formed.specs.Registry.{model_in, bits_in}
use Rattle.container_findings.specs.Rows.{shown_at, policies_stand}
use Rattle.container_findings.proofs.KindRows.{only, no_bits}

module _ (m : List ℕ) (a b : ℕ) where
  abbrev M : Model
  M = model_in m

  abbrev S : Bits
  S = bits_in m

  pub at_5 : shown_at m 5 a b ≡ (policies_stand m a && (policies_stand m b && shadow M S a b))
  unfolding shown_at shown
  at_5 = or-false _

  pub at-6 : shown_at m 6 a b ≡ (policies_stand m a && (policies_stand m b && conflict M S a b))
  unfolding shown_at shown
  at-6 = or-false _

  pub at_7 : shown_at m 7 a b ≡ (policies_stand m a && irrelevance M S a b)
  unfolding shown_at shown
  at_7 = refl

module _ (m : List ℕ) (k a : ℕ) where
  -- no policy stands at a
  pub no-policy : 5 ≤ k → policies_stand m a ≡ false → nothing ≡ shown_at m k a
  unfolding nothing shown_at shown
  no-policy h e = fun_ext (λ b. rw (e, ne_eqb k 1 (λ z. omega arith), ne_eqb k 2 (λ z. omega arith), ne_eqb k 3 (λ z. omega arith), ne_eqb k 4 (λ z. omega arith)) (sym (none3 (eqb k 5) (eqb k 6) (eqb k 7))))
    where
      none3 : (p q r : Bool) → ((p && false) || ((q && false) || (r && false))) ≡ false
      none3 p q r = rw (and-false p, and-false q, and-false r)

-- where a finding over policies is, a policy stands
pub shown-stands : (m : List ℕ) (k a b : ℕ) → 5 ≤ k → shown_at m k a b ≡ true → policies_stand m a ≡ true
shown-stands m k a b l h = pick (policies_stand m a) refl
  where
    pick : (t : Bool) → policies_stand m a ≡ t → t ≡ true
    pick true e = refl
    pick false e = absurd (true≢false (sym h ∙ sym (point (no-policy m k a l e) b) ∙ nothing-at b))

module _ (s w : Bool) where
  pub needless-zero : s ≡ false → insert 0 nothing ≡ needless s w
  unfolding needless
  needless-zero e = only 0 (needless s w) (λ b. rw e (ap₂ ◌||◌ (and-true (eqb b 0)) (and-false (eqb b 1)) ∙ or-false (eqb b 0)))

  pub needless-one : s ≡ true → w ≡ false → insert 1 nothing ≡ needless s w
  unfolding needless
  needless-one e f = only 1 (needless s w) (λ b. rw (e, f) (ap₂ ◌||◌ (and-false (eqb b 0)) (and-true (eqb b 1))))

  pub needless-none : s ≡ true → w ≡ true → nothing ≡ needless s w
  unfolding needless
  needless-none e f = no_bits (needless s w) (λ b. rw (e, f) (ap₂ ◌||◌ (and-false (eqb b 0)) (and-false (eqb b 1))))
