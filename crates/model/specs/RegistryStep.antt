-- The registry's step: the refusals that the call meets, then what it does to entries and stored bits.
use Rattle.std.specs.Prelude.{List, ℕ, length}
use Rattle.std.proofs.Math.Option.{Option, none, some}
use Rattle.std.specs.Prelude.{Result, Ok, Err, ⊤}
use Rattle.block.specs.declared.Refusal.{Refusal}
use Rattle.block.specs.Cut.{blocks_of}
use Rattle.block.specs.Entry.{Container, Policy, Entry, container, policy}
use Rattle.block.specs.Refusal.{first_refusal}
use Rattle.block.specs.Reader.{settings_said, entry_said}
use Rattle.model.specs.Table.{on, at, lowest_free}
use Rattle.model.specs.Rules.{carries}
use Rattle.model.specs.Findings.{containers_of, policies_of, next_after, walk, pairs}
use Rattle.model.specs.Calls.{Query, ask_reaches, ask_user, next_finding, list_findings, counts, audit, write}
use Rattle.model.specs.Calls.{Call, open_with, change, admit, admit_batch, remove_container, remove_policy, rebuild, ask}
use Rattle.model.specs.Calls.{Answer, refusal, refusal_of, done, container_at, policy_at, says, counted, file_put, found_answer, findings_answer, run}
use Rattle.model.specs.Batch.{batch_outcome}
use Rattle.model.specs.File.{file_of}
use Rattle.model.specs.Registry.{Registry, consistent, change_container, change_policy, opened, rebuilt}
use Rattle.model.specs.Refusals.{admit_checks, refusals}

module _ (r : Registry) where
  -- "A new entry takes the lowest free place of its table."
  unfoldable pub admit_container : Container → Option ℕ → Registry × Answer
  admit_container x none = (r, refusal 12 0)
  admit_container x (some c) = (change_container r c (some x), container_at c)

  unfoldable pub admit_policy : Policy → Option ℕ → Registry × Answer
  admit_policy p none = (r, refusal 12 0)
  admit_policy p (some q) = (change_policy r q p (some p), policy_at q)

  unfoldable pub admit_entry : Entry → Registry × Answer
  admit_entry (container x) = admit_container x (lowest_free r.model.containers)
  admit_entry (policy p) = admit_policy p (lowest_free r.model.policies)

  unfoldable pub admit_unless : List ℕ → Result ⊤ Refusal → Registry × Answer
  admit_unless b (Ok tt) = admit_entry (entry_said b)
  admit_unless b (Err f) = (r, refusal_of f)

  unfoldable pub take_policy : ℕ → Option Policy → Registry × Answer
  take_policy q none = (r, refusal 11 0)
  take_policy q (some p) = (change_policy r q p none, done)

  -- what a query that no check refuses is answered, from the entries and the stored bits
  unfoldable pub answer_to : Query → Answer
  answer_to (ask_reaches a b) = says (r.bits.matrix a b)
  answer_to (ask_user c v) = says (on (λ x. carries x (record { key = r.model.settings.user_key; value = v })) (at r.model.containers c))
  answer_to (next_finding c) = found_answer (next_after r.model r.bits c)
  answer_to (list_findings c n) = findings_answer c (walk (next_after r.model r.bits) n c)
  answer_to counts = counted (length (containers_of r.model)) (length (policies_of r.model)) (pairs r.bits)
  answer_to audit = says (consistent r)
  answer_to (write n) = file_put (file_of r.model)

-- admit's own step: through 3 to 9 and 12
unfoldable pub admit_block : Registry → List ℕ → Registry × Answer
admit_block r b = admit_unless r b (first_refusal (admit_checks r.model b))

module _ (r : Registry) where
  -- a call that no check refuses
  unfoldable pub accepted_step : Call → Registry × Answer
  accepted_step (open_with b) = (opened (settings_said b), done)
  accepted_step (change (admit b)) = admit_entry r (entry_said b)
  -- "Book and answers equal those of admitting one after another."
  accepted_step (change (admit_batch bs n t)) = batch_outcome t (run admit_block r (blocks_of bs))
  accepted_step (change (remove_container c)) = (change_container r c none, done)
  accepted_step (change (remove_policy q)) = take_policy r q (at r.model.policies q)
  accepted_step (change rebuild) = (rebuilt r, done)
  accepted_step (ask q) = (r, answer_to r q)

  -- refused, the call answers the refusal and changes nothing
  unfoldable pub unless_refused : Call → Result ⊤ Refusal → Registry × Answer
  unless_refused call (Ok tt) = accepted_step call
  unless_refused call (Err f) = (r, refusal_of f)

unfoldable pub registry_step : Registry → Call → Registry × Answer
registry_step r call = unless_refused r call (first_refusal (refusals r call))
