-- The search for a free slot decides: 12, or the entry stands at the slot that it found.
use mathlib.Core.Path.{sym, ap, ◌∙◌}
use Rattle.std.specs.Prelude.{Result}
use Rattle.block.specs.declared.Refusal.{Refusal}
use Rattle.block.specs.Refusal.{lone_refusal}
use Rattle.steps.proofs.Outcomes.{container-slot-below, policy-slot-below}
use Rattle.answers.specs.declared.Admitted.{Admitted}
use Rattle.answers.specs.Answers.{admitted_answer}
use Rattle.answers.proofs.AnswerLaws.{returned, ok_or-reason}
use Rattle.answers.proofs.AdmissionLaws.{container-full, container-slot-of, container-put, policy-full, policy-slot-of, policy-put}
use Rattle.free_slots.proofs.admit_entry.Goals as goal

pub returns-in_err-slot-in-Container : goal.returns-in_err-slot-in-Container
returns-in_err-slot-in-Container c =
    let full = returned (ok_or-reason lone_refusal _ _ _ c.from_residual.ensures.1 c.in_err-slot-in-Container.ensures.value) in
    rw c.in-Container.is (ap (λ (o : Result Admitted Refusal). (c.args.memory.now, admitted_answer o)) full ∙ sym (container-full _ _ (sym c.free_slot.ensures ∙ c.in_err-slot-in-Container.ensures.ok_part)))

pub put_container-requires : goal.put_container-requires
put_container-requires c =
    (c.requires.0, container-slot-below _ _ (container-slot-of _ _ (sym c.free_slot.ensures ∙ c.in_ok-slot-in-Container.ensures.ok_part)), rw c.in-Container.is at c.requires.1)

pub returns-in_ok-slot-in-Container : goal.returns-in_ok-slot-in-Container
returns-in_ok-slot-in-Container c =
    rw c.in-Container.is (sym (container-put _ _ _ _ (container-slot-of _ _ (sym c.free_slot.ensures ∙ c.in_ok-slot-in-Container.ensures.ok_part)) c.put_container.ensures))

pub returns-in_err-slot-in-Policy : goal.returns-in_err-slot-in-Policy
returns-in_err-slot-in-Policy c =
    let full = returned (ok_or-reason lone_refusal _ _ _ c.from_residual-in_err-slot-in-Policy.ensures.1 c.in_err-slot-in-Policy.ensures.value) in
    rw c.in-Policy.is (ap (λ (o : Result Admitted Refusal). (c.args.memory.now, admitted_answer o)) full ∙ sym (policy-full _ _ (sym c.free_slot-in-Policy.ensures ∙ c.in_err-slot-in-Policy.ensures.ok_part)))

pub put_policy-requires : goal.put_policy-requires
put_policy-requires c =
    (c.requires.0, policy-slot-below _ _ (policy-slot-of _ _ (sym c.free_slot-in-Policy.ensures ∙ c.in_ok-slot-in-Policy.ensures.ok_part)), rw c.in-Policy.is at c.requires.1)

pub returns-in_ok-slot-in-Policy : goal.returns-in_ok-slot-in-Policy
returns-in_ok-slot-in-Policy c =
    rw c.in-Policy.is (sym (policy-put _ _ _ _ (policy-slot-of _ _ (sym c.free_slot-in-Policy.ensures ∙ c.in_ok-slot-in-Policy.ensures.ok_part)) c.put_policy.ensures))
