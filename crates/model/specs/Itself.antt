-- Document 02, Note 3: what the mended rules say of a container and itself.
use Rattle.std.specs.Prelude.{◌≡◌, ◌↔◌, true, false, ℕ, ◌≤◌, ◌<◌, length}
use Rattle.model.specs.Table.{on, at, stands}
use Rattle.model.specs.Rules.{both_permit}
use Rattle.model.specs.Model.{container_slots, Model, Bits, matrix_bit}
use Rattle.model.specs.Findings.{containers_of, all_isolated}
use Rattle.model.specs.Calls.{ask, ask_reaches, says}
use Rattle.model.specs.ModelStep.{model_step}

-- "A standing container now always reaches itself."
pub record ReachesItself (m : Model) : Type 0 where
  -- the bit (a, a) is set exactly where a stands, whatever the policies
  pub bit : (a : ℕ) → matrix_bit m a a ≡ stands m.containers a
  -- of two different containers the policies decide, as document 01 has it
  pub others : (a b : ℕ) → (a ≡ b → ⊥) → matrix_bit m a b ≡ on (λ x. on (λ y. both_permit m.policies x y) (at m.containers b)) (at m.containers a)
  -- so it is answered after any list of calls, by demand 3
  pub asked : (a : ℕ) → a < container_slots → stands m.containers a ≡ true → model_step m (ask (ask_reaches a a)) ≡ (m, says true)

-- "All isolated means that no other container reaches it, and needs at least two standing containers."
pub record IsolatedByOthers (m : Model) : Type 0 where
  -- whatever is stored, the bit (a, a) decides nothing
  pub others : (s t : Bits) (a : ℕ) → ((c : ℕ) → (c ≡ a → ⊥) → s.matrix c a ≡ t.matrix c a) → all_isolated m s a ≡ all_isolated m t a
  -- and one that stands alone is not isolated
  pub alone : length (containers_of m) ≤ 1 → (s : Bits) (a : ℕ) → all_isolated m s a ≡ false
  -- where two stand, it is exactly what no other standing container reaches
  pub exactly : 2 ≤ length (containers_of m) → (s : Bits) (a : ℕ)
      → (all_isolated m s a ≡ true) ↔ ((c : ℕ) → stands m.containers c ≡ true → (c ≡ a → ⊥) → s.matrix c a ≡ false)
