-- What each answer says: the documents' number and values of each case.
use Rattle.std.specs.Prelude.{Bool, List, ℕ, take, Option, Some, None, Result, Ok, Err}
use Rattle.block.specs.declared.Reason.{Reason}
use Rattle.block.specs.declared.Refusal.{Refusal}
use Rattle.block.specs.Refusal.{reason_number}
use Rattle.model.specs.Calls.{Answer, refusal, refusal_of, done, container_at, policy_at, says, found, no_finding, findings_put, counted, file_put, batch_put, pairs_of}
use Rattle.model.specs.declared.Finding.{Finding}
use Rattle.model.specs.declared.Tally.{Tally}
use Rattle.findings.specs.declared.Cursor.{Cursor}
use Rattle.findings.specs.declared.Put.{Put}
use Rattle.findings.specs.Steps.{cursor_place}
use Rattle.answers.specs.declared.Admitted.{Admitted}
use Rattle.answers.specs.declared.Admitted.TheVariants as admitted
use Rattle.answers.specs.declared.Counts.{Counts}

-- of open
abbrev pub open_answer : Result (Unit {0}) Refusal → Answer
open_answer (Err f) = refusal_of f
open_answer (Ok u) = done

-- of both removals and of rebuild
abbrev pub outcome_answer : Result (Unit {0}) Reason → Answer
outcome_answer (Err r) = refusal (reason_number r) 0
outcome_answer (Ok u) = done

-- yes or no: of whether one container reaches another, whether a container carries a value, and of audit
abbrev pub reply_answer : Result Bool Reason → Answer
reply_answer (Err r) = refusal (reason_number r) 0
reply_answer (Ok t) = says t

-- "gives that place"
abbrev pub admitted_answer : Result Admitted Refusal → Answer
admitted_answer (Err f) = refusal_of f
admitted_answer (Ok (admitted.Container c)) = container_at c.0
admitted_answer (Ok (admitted.Policy q)) = policy_at q.0

-- the finding and the place to go on from
abbrev pub next_answer : Result (Option (Finding × Cursor)) Reason → Answer
next_answer (Err r) = refusal (reason_number r) 0
next_answer (Ok (Some p)) = found p.0 (cursor_place p.1)
next_answer (Ok None) = no_finding

-- the numbers put, which stand at the start of the list as it was left, and the place to go on from
abbrev pub put_answer : Result Put Reason → List ℕ → Answer
put_answer (Err r) e = refusal (reason_number r) 0
put_answer (Ok p) e = findings_put (take p.count e) (cursor_place p.cursor)

-- how many were put
abbrev pub count_put : Result Put Reason → ℕ
count_put (Err r) = 0
count_put (Ok p) = p.count

abbrev pub counted_answer : Result Counts Reason → Answer
counted_answer (Err r) = refusal (reason_number r) 0
counted_answer (Ok c) = counted c.containers c.policies c.pairs

-- the bytes put, which stand at the start of the buffer as it was left
abbrev pub file_answer : Result ℕ Reason → List ℕ → Answer
file_answer (Err r) e = refusal (reason_number r) 0
file_answer (Ok k) e = file_put (take k e)

-- "and says how many it used"
abbrev pub count_bytes : Result ℕ Reason → ℕ
count_bytes (Err r) = 0
count_bytes (Ok k) = k

-- the numbers put, two for each block, and the tally left
abbrev pub batched_answer : Result Tally Refusal → List ℕ → Answer
batched_answer (Err f) l = refusal_of f
batched_answer (Ok t) l = batch_put (pairs_of l) t

-- the caller's tally after a batch: as it was where the batch was refused
abbrev pub tally_after : Tally → Result Tally Refusal → Tally
tally_after t (Err f) = t
tally_after t (Ok u) = u
