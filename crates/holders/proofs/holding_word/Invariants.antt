-- The word has those of the first k policies whose set has c.
use mathlib.Core.Path.{◌≡◌}
use Prim.Native.Nat.{◌+◌}
use Rattle.bitrow.specs.Bit.{bit}
use Rattle.sets.specs.Sets.{bits}
use Rattle.container_bits.specs.ContainerBits.{holding_set}
use Rattle.holders.proofs.holding_word.Given as goal

abbrev pub invariant-loop-k : goal.invariant-loop-k
invariant-loop-k l = bit l.those ≡ holding_set l.k (λ k. bits l.sets (l.first + k)) l.c
