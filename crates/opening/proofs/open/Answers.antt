-- Refused as the reading of the block is; else `start` leaves the memory of the registry opened with its settings.
use mathlib.Core.Path.{sym}
use Rattle.block.specs.Refusal.{lone_refusal}
use Rattle.steps.proofs.Outcomes.{step-size}
use Rattle.answers.specs.Answers.{open_answer}
use Rattle.answers.proofs.AnswerLaws.{turned, ok_or-reason}
use Rattle.opening.proofs.OpenLaws.{open-refused-by, open-answer}
use Rattle.opening.proofs.open.Goals as goal

pub returns-in_err-memory : goal.returns-in_err-memory
returns-in_err-memory c = turned _ _ open_answer (ok_or-reason lone_refusal _ _ _ c.from_residual.ensures.1 c.in_err-memory.ensures.value) (step-size _ _ (rw c.in_err-memory.ensures.ok_part at c.as_mut_array.ensures.cases))

pub returns-in_err-settings : goal.returns-in_err-settings
returns-in_err-settings c =
    let e = rw c.in_ok-memory.ensures.ok_part at c.as_mut_array.ensures.cases in
    rw e.same (turned _ _ open_answer c.from_residual-in_err-settings.ensures.1 (open-refused-by _ _ e.long _ (sym c.in_err-settings.ensures)))

pub returns : goal.returns
returns c =
    let e = rw c.in_ok-memory.ensures.ok_part at c.as_mut_array.ensures.cases in
    sym (open-answer _ _ e.long _ _ (sym c.in_ok-settings.ensures) c.start.ensures)
