-- The sum of the bytes before `end` is the sum of all.
use mathlib.Core.Path.{sym, ap, ◌∙◌}
use Prim.Native.Nat.{ℕ, ◌%◌}
use Rattle.block.specs.Bytes.{weighted, checksum}
use Rattle.block_bytes.proofs.Zeros.{used-checksum}
use Rattle.block_bytes.proofs.checksum_to.Goals as goal

pub returns-then-end-eq36 : goal.returns-then-end-eq36
returns-then-end-eq36 c =
    c.from.ensures ∙ ap (λ (s : ℕ). s % 65521) (c.weighted_sum.ensures ∙ ap (weighted _) (sym c.if-end-eq36.true)) ∙ sym (used-checksum _ _ c.requires)

pub returns : goal.returns
unfolding checksum
returns c = c.from-2.ensures ∙ ap (λ (s : ℕ). s % 65521) c.weighted_sum-2.ensures
