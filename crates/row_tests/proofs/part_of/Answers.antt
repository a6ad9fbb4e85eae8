-- By definition: nothing of a is left without b.
use mathlib.Core.Path.{ap, ◌∙◌}
use mathlib.Core.Bool.{Bool, not}
use Prim.Native.Nat.{ℕ}
use Rattle.bitrow.specs.Set.{has_some, part}
use Rattle.row_tests.proofs.part_of.Goals as goal

pub returns : goal.returns
unfolding part
returns c = c.is_empty.ensures ∙ ap (λ (s : ℕ → Bool). not (has_some s)) c.except.ensures
