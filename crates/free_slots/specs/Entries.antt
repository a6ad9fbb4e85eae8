-- What an admission leaves and answers, by the entry that its block says.
use Rattle.std.specs.Prelude.{List, ℕ}
use Rattle.block.specs.Entry.{Entry, container, policy}
use Rattle.model.specs.Calls.{Answer}
use Rattle.answers.specs.Admission.{container_admitted, policy_admitted}

abbrev pub entry_admitted : List ℕ → Entry → List ℕ × Answer
entry_admitted m (container x) = container_admitted m x
entry_admitted m (policy p) = policy_admitted m p
