-- The rows and columns reset are what the policy touches.
use mathlib.Core.Path.{ap, ◌∙◌}
use Prim.Native.Nat.{ℕ}
use mathlib.Core.Bool.{Bool}
use Rattle.formed.specs.Registry.{registry_in, image}
use Rattle.matrix_resets.specs.Resets.{reset_where}
use Rattle.policy_changes.proofs.reset_touched.Goals as goal

pub returns : goal.returns
returns c = record {
  is = λ p d s. c.reset.ensures ∙ ap (λ (n : ℕ → ℕ → Bool). image (reset_where (registry_in c.args.memory.now) n)) (c.region_of-region.ensures.is _ p d s c.requires.entries_formed.1);
}
