-- The checksum is below 65521.
use Rattle.std.proofs.Common.{ℕ, refl, ap₂, ◌∙◌, arith, ◌+◌, ◌%◌}
use lib.Seq.{sets}
use Rattle.block.specs.Written.{number_bytes}
use Rattle.samples.proofs.SampleLaws.{checksum-small, number-copied}
use Rattle.samples.proofs.put_checksum.Goals as goal

pub overflow_add-sum : goal.overflow_add-sum
overflow_add-sum c = omega (arith, checksum-small c.args.block.now)

pub returns : goal.returns
returns c =
    let b = c.args.block.now in
    let n = (c.checksum.result + c.from.result) % 65521 in
    number-copied b c.to_be_bytes.result c.copy_from_slice.new.self n 2 (omega arith) c.to_be_bytes.ensures c.copy_from_slice.ensures.after refl (omega arith)
    ∙ ap₂ (λ (x y : ℕ). sets b 510 (number_bytes ((x + y) % 65521))) c.checksum.ensures c.from.ensures
