use mathlib.Core.Path.{◌≡◌, sym, ap, ◌∙◌}
use mathlib.Core.List.{[]}
use Prim.Native.Nat.{◌+◌}
use lib.ListN.{get_or}
use Rattle.bitrow.specs.Bit.{bit}
use Rattle.bitrow.proofs.Arrays.{bit-of-row}
use Rattle.sets.specs.Sets.{bits}
use Rattle.container_bits.proofs.HoldingLaws.{holding-none, holding-take, holding-skip}
use Rattle.holders.proofs.holding_word.Goals as goal
use Rattle.holders.proofs.holding_word.Goals.{then-bit_of, else-bit_of}

pub loop-k-init : goal.loop-k-init
loop-k-init c = let x = c.args in holding-none (bits x.sets.now) x.c x.first

pub loop-k-preserved : goal.loop-k-preserved
loop-k-preserved c =
    let x = c.args in
    let l = c.loop-k in
    let there : bits x.sets.now (x.first + l.k) x.c ≡ c.bit_of.result = sym (c.bit_of.ensures ∙ bit-of-row (get_or x.sets.now (x.first + l.k) []) x.c) in
    elim c.if-bit_of.branch [
      | then-bit_of w ↦ holding-take (bits x.sets.now) x.c x.first l.k l.those _ l.invariant c.loop-k-test.true (ap bit w.those-is ∙ w.word_with-those.ensures) (there ∙ w.if-bit_of.true)
      | else-bit_of w ↦ ap bit w.those-is ∙ holding-skip (bits x.sets.now) x.c x.first l.k l.those l.invariant (there ∙ w.if-bit_of.false)
    ]
