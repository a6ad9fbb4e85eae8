-- What is chosen, and what the part matches of the rest, make the answer.
use Rattle.trials.specs.Words.{carrying_from}
use Rattle.entries.proofs.Trials.{Tried}
use Rattle.trials.proofs.trial_word.Given as goal

abbrev pub invariant-loop-k : goal.invariant-loop-k
invariant-loop-k l = Tried l.word (carrying_from l.memory l.labels l.at) l.chosen l.k-iterator.0
