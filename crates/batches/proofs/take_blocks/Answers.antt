-- Each turn takes the next block; when less than a block is left, all are taken.
use native.Mathlib.Omega.{arith}
use mathlib.Core.Path.{◌≡◌, sym, ap, ◌∙◌}
use Prim.Native.Nat.{◌*◌, ◌/◌}
use lib.ListN.{length, length-drop}
use Rattle.std.specs.Iterator.Adapters.{enumerate_count}
use Rattle.batches.proofs.Blocks.{next-block}
use Rattle.batches.proofs.BatchLaws.{batch-none, batch-next}
use Rattle.batches.proofs.take_blocks.Goals as goal

pub loop-i-init : goal.loop-i-init
loop-i-init c =
    let n : enumerate_count c.into_iter-i-iterator.result ≡ 0 = cc in
    record { batch = rw n (batch-none _ _ _ _ c.requires.0 c.fits-memory c.begin-progress.ensures); within = omega arith; size = cc; rest = rw n cc }

pub take_block-progress-requires : goal.take_block-progress-requires
take_block-progress-requires c =
    let v = c.loop-i.invariant in
    let s = c.in-Some.ensures.steps in
    let within = (next-block c.args.blocks.now _ _ _ (sym v.rest ∙ s.0.1.0) (s.0.1.1 ∙ v.size)).2 in
    (v.batch.formed, v.batch.free, omega arith)

pub loop-i-preserved : goal.loop-i-preserved
loop-i-preserved c =
    let v = c.loop-i.invariant in
    let s = c.in-Some.ensures.steps in
    let k = next-block c.args.blocks.now _ _ _ (sym v.rest ∙ s.0.1.0) (s.0.1.1 ∙ v.size) in
    let within = k.2 in
    let taken = rw s.1 at c.take_block-progress.ensures in
    record { batch = rw s.2 (batch-next _ _ _ _ v.batch within (omega arith) k.0 taken); within = omega arith; size = s.0.0 ∙ v.size; rest = rw s.2 k.1 }

pub returns : goal.returns
returns c =
    let v = c.loop-i.invariant in
    let s = c.in-None.ensures.steps in
    let i = enumerate_count c.loop-i.i-iterator in
    let all : i ≡ length c.args.blocks.now / 512 = omega (arith, ap length v.rest, length-drop (512 * i) c.args.blocks.now) in
    rw (← all) v.batch
