-- After k turns the first k words after the header are stored.
use Rattle.std.proofs.Common.{◌≡◌, ℕ, ◌+◌}
use Rattle.block.specs.Reader.{labels_at}
use Rattle.store.specs.Memory.{slot_set}
use Rattle.formed.specs.Words.{part_word}
use Rattle.parts.proofs.put_part.Given as goal

abbrev pub invariant-loop-k : goal.invariant-loop-k
invariant-loop-k l =
    l.memory ≡ slot_set l.initial.memory (l.at + 1) l.k (λ (j : ℕ). part_word (labels_at l.block l.from l.n) (1 + j))
