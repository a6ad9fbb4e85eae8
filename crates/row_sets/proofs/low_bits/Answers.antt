-- 2^n - 1 has the n low bits; from 64 on, all.
use native.Mathlib.Omega.{arith}
use mathlib.Core.Path.{sym, ap, ◌∙◌}
use Prim.Native.Nat.{ℕ, ◌-◌}
use lib.Pow.{pow_pos}
use Rattle.bitrow.specs.Bit.{bit}
use Rattle.bitrow.specs.Set.{under}
use Rattle.bitrow.proofs.Words.{one_shl, bit_mask-law}
use Rattle.bitrow.proofs.Sets.{meet_comm, under-under}
use Rattle.row_sets.proofs.low_bits.Goals as goal

pub overflow_sub-result : goal.overflow_sub-result
overflow_sub-result c = omega (arith, one_shl 64 _ c.if-n-lt64.true, pow_pos c.args.n)

pub returns-then-n-lt64 : goal.returns-then-n-lt64
returns-then-n-lt64 c = ap (λ (w : ℕ). bit (w - 1)) (one_shl 64 _ c.if-n-lt64.true) ∙ bit_mask-law _ ∙ sym (under-under _ 64 (omega arith))

pub returns-else-n-lt64 : goal.returns-else-n-lt64
returns-else-n-lt64 c = bit_mask-law 64 ∙ sym (meet_comm (under _) (under 64) ∙ under-under 64 _ c.if-n-lt64.false)
