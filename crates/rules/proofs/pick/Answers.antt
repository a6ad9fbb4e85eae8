-- A policy that has a adds its row.
use mathlib.Core.Path.{sym, ap, ◌∙◌}
use Rattle.bitrow.proofs.Arrays.{bit-of-row}
use Rattle.rules.specs.Policies.{to_come}
use Rattle.rules.proofs.Unions.{pick_none, pick-take, pick-skip, picked-all}
use Rattle.rules.proofs.pick.Goals as goal

pub loop-q-init : goal.loop-q-init
loop-q-init c = pick_none (ap to_come c.into_iter-q-iterator.ensures.into_iter_gives ∙ c.of-q-items.ensures) c.none-joined.ensures

pub loop-q-preserved-then-bit_of : goal.loop-q-preserved-then-bit_of
loop-q-preserved-then-bit_of c =
    let step = c.in-Some.ensures.steps in
    pick-take c.loop-q.invariant step.0 step.1 step.2 (sym (c.bit_of.ensures ∙ bit-of-row _ _) ∙ c.if-bit_of.true) c.either-next.ensures

pub loop-q-preserved : goal.loop-q-preserved
loop-q-preserved c =
    let step = c.in-Some.ensures.steps in
    pick-skip c.loop-q.invariant step.0 step.1 step.2 (sym (c.bit_of.ensures ∙ bit-of-row _ _) ∙ c.if-bit_of.false)

pub returns-then-any : goal.returns-then-any
returns-then-any c =
    let p = picked-all c.loop-q.invariant c.in-None.ensures.steps in
    record { any = sym c.if-any.true ∙ p.any; joined = p.joined }

pub returns : goal.returns
returns c =
    let p = picked-all c.loop-q.invariant c.in-None.ensures.steps in
    record { any = sym c.if-any.false ∙ p.any; joined = sym (c.loop-q.invariant.empty c.if-any.false) ∙ p.joined }
