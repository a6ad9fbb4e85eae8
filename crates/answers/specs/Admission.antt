-- What an admission leaves and answers once its entry is read: 12, or the entry at the lowest free slot.
use Rattle.std.specs.Prelude.{List, ℕ}
use Rattle.std.proofs.Math.Option.{Option, none, some}
use Rattle.block.specs.Entry.{Container, Policy}
use Rattle.model.specs.Table.{lowest_free}
use Rattle.model.specs.Calls.{Answer, refusal, container_at, policy_at}
use Rattle.model.specs.Registry.{change_container, change_policy}
use Rattle.formed.specs.Registry.{model_in, registry_in, image}

module _ (m : List ℕ) where
  abbrev pub container_admitted_to : Container → Option ℕ → List ℕ × Answer
  container_admitted_to x none = (m, refusal 12 0)
  container_admitted_to x (some c) = (image (change_container (registry_in m) c (some x)), container_at c)

  abbrev pub policy_admitted_to : Policy → Option ℕ → List ℕ × Answer
  policy_admitted_to p none = (m, refusal 12 0)
  policy_admitted_to p (some q) = (image (change_policy (registry_in m) q p (some p)), policy_at q)

  unfoldable pub container_admitted : Container → List ℕ × Answer
  container_admitted x = container_admitted_to x (lowest_free (model_in m).containers)

  unfoldable pub policy_admitted : Policy → List ℕ × Answer
  policy_admitted p = policy_admitted_to p (lowest_free (model_in m).policies)
