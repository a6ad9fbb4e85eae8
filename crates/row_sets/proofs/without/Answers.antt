-- What is in a row and is not i.
use mathlib.Core.Path.{◌≡◌, ap, ◌∙◌, fun_ext}
use mathlib.Core.Bool.{Bool, not, ◌&&◌, or-false, and_comm}
use Prim.Native.Nat.{ℕ}
use lib.Dec.{eqb}
use Rattle.bitrow.specs.Bit.{bit_at}
use Rattle.bitrow.specs.Set.{nothing, insert, remove, less}
use Rattle.row_sets.proofs.without.Goals as goal

less-one : (s : ℕ → Bool) (i : ℕ) → less s (insert i nothing) ≡ remove i s
unfolding less insert remove nothing
less-one s i = fun_ext (λ j. ap (λ t. s j && not t) (or-false (eqb j i)) ∙ and_comm (s j) (not (eqb j i)))

pub returns : goal.returns
returns c = c.except.ensures ∙ ap (less (bit_at c.args.row)) c.only.ensures ∙ less-one _ _
