-- By the answer: nothing, or the slot comes to its table, and the next search in it begins past that.
use mathlib.Core.Path.{◌≡◌, refl, ap, ◌∙◌}
use mathlib.Core.Option.{none}
use native.Mathlib.Omega.{arith}
use Rattle.std.specs.Prelude.{Ok}
use Rattle.answers.specs.declared.Admitted.TheVariants as admitted
use Rattle.batch_blocks.specs.declared.Arrived.{Arrived}
use Rattle.batch_blocks.specs.Blocks.{slot_of, ArrivedWith}
use Rattle.batch_blocks.proofs.came_with.Goals as goal

-- nothing came to the other table
same : (a : Arrived) → ArrivedWith a none a
same a = record { slots = refl; from = refl }

pub with-requires : goal.with-requires
with-requires c = omega (arith, ap slot_of (c.in-Ok.is ∙ ap Ok c.in-Container.is))

pub returns-in-Container : goal.returns-in-Container
returns-in-Container c =
    let e : c.args.answer ≡ Ok (admitted.Container c.in-Container.c) = c.in-Ok.is ∙ ap Ok c.in-Container.is in
    rw e (record { containers = c.with.ensures; policies = same _ })

pub with-requires-in-Policy : goal.with-requires-in-Policy
with-requires-in-Policy c = omega (arith, ap slot_of (c.in-Ok.is ∙ ap Ok c.in-Policy.is))

pub returns-in-Policy : goal.returns-in-Policy
returns-in-Policy c =
    let e : c.args.answer ≡ Ok (admitted.Policy c.in-Policy.q) = c.in-Ok.is ∙ ap Ok c.in-Policy.is in
    rw e (record { containers = same _; policies = c.with-in-Policy.ensures })
