-- Refused as the test of the block is; else the block says an entry that the settings of the memory accept, and the search decides.
use mathlib.Core.Path.{refl, sym, ap, ◌∙◌}
use native.Mathlib.Omega.{arith}
use Rattle.std.specs.Prelude.{Result, Ok}
use Rattle.block.specs.declared.Refusal.{Refusal}
use Rattle.block.specs.Refusal.{lone_refusal}
use Rattle.model.specs.ModelStep.{placing, placing_policy, admitting}
use Rattle.formed.specs.Registry.{registry_in}
use Rattle.formed.specs.Placed.{container_placed, policy_placed}
use Rattle.entries.proofs.FreeSlots.{found-none}
use Rattle.steps.proofs.Outcomes.{container-slot-below, policy-slot-below}
use Rattle.call_tests.proofs.TestLaws.{entry-refused}
use Rattle.answers.specs.declared.Admitted.{Admitted}
use Rattle.answers.specs.declared.Admitted.TheVariants as admitted
use Rattle.answers.specs.Answers.{admitted_answer}
use Rattle.answers.proofs.AnswerLaws.{returned, ok_or-reason}
use Rattle.answers.proofs.AdmissionLaws.{container_slot, policy_slot, container-slot-of, policy-slot-of}
use Rattle.batch_blocks.proofs.Outcomes.{block_refused, entry-full, entry-came}
use Rattle.batch_blocks.proofs.Cursors.{placed_below}
use Rattle.batch_blocks.proofs.place_block.Goals as goal

pub returns-in_err-sort : goal.returns-in_err-sort
returns-in_err-sort c =
    let f = block_refused c.args.memory.now c.args.block.now c.requires.0 (λ i. omega (arith, c.fits-memory i)) _ (entry-refused _ _ _ (sym c.in_err-sort.ensures.result_value)) in
    let p = ap (λ (o : Result Admitted Refusal). (c.args.memory.now, admitted_answer o)) (returned c.from_residual.ensures.1) ∙ sym f in
    record { result_after = p; result_bound = placed_below _ _ _ p }

pub returns-in_err-slot-in-Container : goal.returns-in_err-slot-in-Container
unfolding admitting placing
returns-in_err-slot-in-Container c =
    let read = rw c.in-Container.is at c.in_ok-sort.ensures.accepted in
    let full = returned (ok_or-reason lone_refusal _ _ _ c.from_residual-in_err-slot-in-Container.ensures.1 c.in_err-slot-in-Container.ensures.value) in
    let p = ap (λ (o : Result Admitted Refusal). (c.args.memory.now, admitted_answer o)) full
    ∙ sym (entry-full _ _ _ read (placing _ _) _ refl c.requires.0 (λ i. omega (arith, c.fits-memory i)) refl (found-none container_slot _ (sym c.free_from-free.ensures ∙ c.in_err-slot-in-Container.ensures.ok_part))) in
    record { result_after = p; result_bound = placed_below _ _ _ p }

pub place_container-requires : goal.place_container-requires
place_container-requires c =
    (c.requires.0, container-slot-below _ _ (container-slot-of _ _ (sym c.free_from-free.ensures ∙ c.in_ok-slot-in-Container.ensures.ok_part)), rw c.in-Container.is at c.in_ok-sort.ensures.accepted)

pub returns-in_ok-slot-in-Container : goal.returns-in_ok-slot-in-Container
unfolding admitting placing container_placed registry_in
returns-in_ok-slot-in-Container c =
    let read = rw c.in-Container.is at c.in_ok-sort.ensures.accepted in
    let p = sym (entry-came _ _ _ read (placing _ _) _ refl _ _ (container-slot-of _ _ (sym c.free_from-free.ensures ∙ c.in_ok-slot-in-Container.ensures.ok_part)) c.place_container.ensures) in
    record { result_after = p; result_bound = placed_below _ _ (Ok (admitted.Container c.in_ok-slot-in-Container.slot)) p }

pub returns-in_err-slot-in-Policy : goal.returns-in_err-slot-in-Policy
unfolding admitting placing_policy
returns-in_err-slot-in-Policy c =
    let read = rw c.in-Policy.is at c.in_ok-sort.ensures.accepted in
    let full = returned (ok_or-reason lone_refusal _ _ _ c.from_residual-in_err-slot-in-Policy.ensures.1 c.in_err-slot-in-Policy.ensures.value) in
    let p = ap (λ (o : Result Admitted Refusal). (c.args.memory.now, admitted_answer o)) full
    ∙ sym (entry-full _ _ _ read (placing_policy _ _) _ refl c.requires.0 (λ i. omega (arith, c.fits-memory i)) refl (found-none policy_slot _ (sym c.free_from-free-in-Policy.ensures ∙ c.in_err-slot-in-Policy.ensures.ok_part))) in
    record { result_after = p; result_bound = placed_below _ _ _ p }

pub place_policy-requires : goal.place_policy-requires
place_policy-requires c =
    (c.requires.0, policy-slot-below _ _ (policy-slot-of _ _ (sym c.free_from-free-in-Policy.ensures ∙ c.in_ok-slot-in-Policy.ensures.ok_part)), rw c.in-Policy.is at c.in_ok-sort.ensures.accepted)

pub returns-in_ok-slot-in-Policy : goal.returns-in_ok-slot-in-Policy
unfolding admitting placing_policy policy_placed registry_in
returns-in_ok-slot-in-Policy c =
    let read = rw c.in-Policy.is at c.in_ok-sort.ensures.accepted in
    let p = sym (entry-came _ _ _ read (placing_policy _ _) _ refl _ _ (policy-slot-of _ _ (sym c.free_from-free-in-Policy.ensures ∙ c.in_ok-slot-in-Policy.ensures.ok_part)) c.place_policy.ensures) in
    record { result_after = p; result_bound = placed_below _ _ (Ok (admitted.Policy c.in_ok-slot-in-Policy.slot)) p }
