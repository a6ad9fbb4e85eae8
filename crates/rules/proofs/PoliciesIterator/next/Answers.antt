-- The lowest of the low word, or of the high one where the low one is empty.
use Rattle.rules.specs.Policies.{to_come}
use Rattle.rules.proofs.ToCome.{low-turn, high-turn, ended}
use Rattle.rules.proofs.PoliciesIterator.next.Goals as goal

pub returns-then-self-gt0-clause-steps : goal.returns-then-self-gt0-clause-steps
unfolding to_come
returns-then-self-gt0-clause-steps c = low-turn _ _ _ c.if-self-gt0.true c.fits-self.0.1 c.without_lowest-self.ensures.0

pub returns-then-self-gt0-2-clause-steps : goal.returns-then-self-gt0-2-clause-steps
unfolding to_come
returns-then-self-gt0-2-clause-steps c = high-turn _ _ _ c.if-self-gt0-2.true c.fits-self.1.0.1 c.without_lowest-self-then-self-gt0-2.ensures.0

pub returns-clause-steps : goal.returns-clause-steps
unfolding to_come
returns-clause-steps c = ended c.if-self-gt0.false c.if-self-gt0-2.false
