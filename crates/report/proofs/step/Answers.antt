-- Each part of a step leaves less ahead, and a memory that the next step may be lent.
use Rattle.std.proofs.Common.{◌<◌, subst, arith, rules}
use Rattle.sheets.specs.Step.{started_in, Ready}
use Rattle.sheets.proofs.StepLaws.{step-take, step_count, step-list}
use Rattle.sheets.proofs.Ready.{does-ready}
use Rattle.report.proofs.step.Goals as goal

pub take-requires-clause-ready : goal.take-requires-clause-ready
take-requires-clause-ready c = subst (λ s. Ready s c.args.memory.now) c.in-Taking.is c.requires.ready

pub returns-in-Taking : goal.returns-in-Taking
returns-in-Taking c =
    let few = subst (λ s. started_in s < 512) c.in-Taking.is c.requires.buffers.0 in
    let steps = step-take _ _ _ _ _ _ c.in-Taking.is few (search rules) c.take.ensures.does c.take.ensures.used_in_bounds in
    record { does = steps.0; used_in_bounds = steps.1.0; ready = does-ready _ _ _ _ _ c.told-memory _ c.requires.ready steps.0; state_bound = steps.1.1 }

pub tell_counts-requires : goal.tell_counts-requires
tell_counts-requires c = (subst (λ s. Ready s c.args.memory.now) c.in-Counting.is c.requires.ready, c.requires.buffers.1)

pub returns-in-Counting : goal.returns-in-Counting
returns-in-Counting c =
    let a = c.args in
    let steps = step_count a.memory.now a.block.now a.piece.now a.ended _ a.state c.in-Counting.is c.tell_counts.ensures.memory_after c.tell_counts.ensures.tells in
    rw c.using.ensures (record { does = steps.0; used_in_bounds = steps.1.0; ready = does-ready _ _ _ _ _ c.told-memory _ c.requires.ready steps.0; state_bound = steps.1.1 })

pub tell_findings-requires : goal.tell_findings-requires
tell_findings-requires c = (subst (λ s. Ready s c.args.memory.now) c.in-Listing.is c.requires.ready, c.requires.buffers.1)

pub returns-in-Listing : goal.returns-in-Listing
returns-in-Listing c =
    let a = c.args in
    let steps = step-list a.memory.now a.block.now a.piece.now a.ended _ a.state c.in-Listing.is (omega arith) (search rules) (search rules) (search rules) c.tell_findings.ensures in
    rw c.using-in-Listing.ensures (record { does = steps.0; used_in_bounds = steps.1.0; ready = does-ready _ _ _ _ _ c.told-memory _ c.requires.ready steps.0; state_bound = steps.1.1 })
