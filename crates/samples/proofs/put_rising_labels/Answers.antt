-- Each turn puts one label more.
use Rattle.std.proofs.Common.{◌+◌, ◌-◌, ◌*◌, ◌%◌, [], ◌∷◌, arith, rules}
use Rattle.samples.specs.Samples.{rising_labels}
use Rattle.samples.proofs.SampleLaws.{copied, rising-next}
use Rattle.samples.proofs.put_rising_labels.Goals as goal

pub loop-k-init : goal.loop-k-init
unfolding rising_labels
loop-k-init c = search rules

pub loop-k-preserved : goal.loop-k-preserved
loop-k-preserved c =
    let k = c.loop-k.k in
    let at = 4 + 4 * c.from.result in
    let b = c.loop-k.block in
    rising-next c.args.block.now b _ c.args.key k at (omega arith) c.loop-k.invariant
    (copied b at (at + 4 - at) _ (0 ∷ (c.args.key + k) % 256 ∷ 0 ∷ 1 ∷ []) c.copy_from_slice.ensures.after (omega arith) (omega arith))
