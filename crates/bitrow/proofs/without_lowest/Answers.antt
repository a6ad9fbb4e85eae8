-- `w & (w - 1)` clears the lowest bit that is set.
use mathlib.Core.Path.{◌∙◌, fun_ext}
use Prim.Native.Nat.{◌-◌}
use native.Mathlib.Omega.{arith}
use lib.Bits.{and_le_r}
use Rattle.bitrow.specs.Set.{remove}
use Rattle.bitrow.proofs.Words.{bit-and, lowest-off}
use Rattle.bitrow.proofs.without_lowest.Goals as goal

pub returns : goal.returns
unfolding remove
returns c =
    let w = c.args.word in
    (fun_ext (λ i. bit-and w _ i ∙ lowest-off 64 w c.ranges.word.fits c.requires i), omega (arith, and_le_r w (w - 1), c.requires))
