-- The reference model's step: document 01, "The plain book of demand 3". It knows of no stored bit and of no memory.
use Rattle.std.specs.Prelude.{true, ◌&&◌, cond, List, ℕ, ◌*◌, ◌%◌, eqb, leb, ltb, length}
use Rattle.std.proofs.Math.Option.{Option, none, some}
use Rattle.block.specs.Cut.{blocks_of}
use Rattle.block.specs.Entry.{Container, Policy, Settings, Entry, container, policy}
use Rattle.block.specs.Refusal.{Read, refused, accepted}
use Rattle.block.specs.Reader.{read_settings, read_entry}
use Rattle.model.specs.declared.Tally.{Tally}
use Rattle.model.specs.Table.{at, lowest_free}
use Rattle.model.specs.Rules.{carries}
use Rattle.model.specs.Model.{container_slots, policy_slots, Model, empty, with_container, with_policy, computed_bits}
use Rattle.model.specs.Findings.{containers_of, policies_of, next_after, walk, pairs}
use Rattle.model.specs.Calls.{Query, ask_reaches, ask_user, next_finding, list_findings, counts, audit, write}
use Rattle.model.specs.Calls.{Call, open_with, change, admit, admit_batch, remove_container, remove_policy, rebuild, ask}
use Rattle.model.specs.Calls.{Answer, refusal, refusal_of, done, container_at, policy_at, says, counted, file_put, found_answer, findings_answer, run}
use Rattle.model.specs.Batch.{batch_outcome}
use Rattle.model.specs.File.{file_of}

module _ (m : Model) where
  -- "Open sets new settings and empties all places."
  unfoldable pub opening : Read Settings → Model × Answer
  opening (refused r) = (m, refusal_of r)
  opening (accepted s) = (empty s, done)

  -- "Admit puts the entry at the lowest empty place of its table and gives that place."
  unfoldable pub placing : Container → Option ℕ → Model × Answer
  placing x none = (m, refusal 12 0)
  placing x (some c) = (with_container m c (some x), container_at c)

  unfoldable pub placing_policy : Policy → Option ℕ → Model × Answer
  placing_policy p none = (m, refusal 12 0)
  placing_policy p (some q) = (with_policy m q (some p), policy_at q)

  unfoldable pub admitting : Read Entry → Model × Answer
  admitting (refused r) = (m, refusal_of r)
  admitting (accepted (container x)) = placing x (lowest_free m.containers)
  admitting (accepted (policy p)) = placing_policy p (lowest_free m.policies)

  -- "A removal empties its place."
  unfoldable pub removing : ℕ → Option Container → Model × Answer
  removing c none = (m, refusal 11 0)
  removing c (some x) = (with_container m c none, done)

  unfoldable pub removing_policy : ℕ → Option Policy → Model × Answer
  removing_policy q none = (m, refusal 11 0)
  removing_policy q (some p) = (with_policy m q none, done)

  -- "Asking, next finding and counts are answered by this paper's definitions from these settings and entries and the bits
  -- and findings worked out from them."
  unfoldable pub asking : ℕ → ℕ → Option Container → Option Container → Answer
  asking a b none y = refusal 11 0
  asking a b (some x) none = refusal 11 0
  asking a b (some x) (some y) = says ((computed_bits m).matrix a b)

  unfoldable pub asking_user : ℕ → Option Container → Answer
  asking_user v none = refusal 11 0
  asking_user v (some x) = says (carries x (record { key = m.settings.user_key; value = v }))

  -- the answer to a call that asks
  unfoldable pub model_answer : Query → Answer
  model_answer (ask_reaches a b) =
      cond (ltb a container_slots && ltb b container_slots) (asking a b (at m.containers a) (at m.containers b)) (refusal 10 0)
  model_answer (ask_user c v) = cond (ltb c container_slots) (asking_user v (at m.containers c)) (refusal 10 0)
  model_answer (next_finding c) = found_answer (next_after m (computed_bits m) c)
  model_answer (list_findings c n) = findings_answer c (walk (next_after m (computed_bits m)) n c)
  model_answer counts = counted (length (containers_of m)) (length (policies_of m)) (pairs (computed_bits m))
  model_answer audit = says true
  -- "writes .. into lent bytes, and says how many it used"; "a buffer with too few bytes is 13"
  model_answer (write n) = cond (leb (length (file_of m)) n) (file_put (file_of m)) (refusal 13 0)

-- "Admit": what a block does
unfoldable pub admitting_block : Model → List ℕ → Model × Answer
admitting_block m b = admitting m (read_entry m.settings b)

-- document 02, Note 2: "One call shall take up to 128 admission blocks and write two 16-bit numbers for each into a lent list. Book and
-- answers equal those of admitting one after another. Turned away: a length over 65,536 or not a multiple of 512 is 14; then an answer
-- list too short is 13."
unfoldable pub admitting_batch : Model → List ℕ → ℕ → Tally → Model × Answer
admitting_batch m bs n t =
    cond (leb (length bs) 65536 && eqb (length bs % 512) 0)
    (cond (leb (2 * length (blocks_of bs)) n) (batch_outcome t (run admitting_block m (blocks_of bs))) (m, refusal 13 0))
    (m, refusal 14 0)

-- "A call goes through the checks it meets, in their order, over its arguments, these settings and these tables. Turned down,
-- it changes nothing. Other calls, rebuild too, change nothing. Audit is answered that the book is in step; an accepted open,
-- removal or rebuild, that it was done."
unfoldable pub model_step : Model → Call → Model × Answer
model_step m (open_with b) = opening m (read_settings b)
model_step m (change (admit b)) = admitting_block m b
model_step m (change (admit_batch bs n t)) = admitting_batch m bs n t
model_step m (change (remove_container c)) = cond (ltb c container_slots) (removing m c (at m.containers c)) (m, refusal 10 0)
model_step m (change (remove_policy q)) = cond (ltb q policy_slots) (removing_policy m q (at m.policies q)) (m, refusal 10 0)
model_step m (change rebuild) = (m, done)
model_step m (ask q) = (m, model_answer m q)
