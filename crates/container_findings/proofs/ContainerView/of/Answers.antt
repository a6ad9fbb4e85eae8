-- Where many are asked for, what is left is told; else the first rows leave the slots.
use mathlib.Core.Path.{◌≡◌, sym, ◌∙◌}
use mathlib.Core.Bool.{true, true≢false}
use Rattle.container_findings.specs.Views.{BothTold, SlotsOfKind}
use Rattle.container_findings.proofs.SlotLaws.{slots-1, slots-2}
use Rattle.container_findings.proofs.ContainerView.of.Goals.{then-many, else-many}
use Rattle.container_findings.proofs.ContainerView.of.Goals as goal

pub returns : goal.returns
returns c = record { standing = c.requires; told = told; users = c.none.ensures c.args.memory.now; all_slots = all; none_slots = none }
  where
    told : c.args.many ≡ true → BothTold c.args.memory.now (record { by_all = c.if-many.left.by_all; by_none = c.if-many.left.by_none })
    told t = elim c.if-many.branch [
      | then-many w ↦ rw w.left-is w.left_of-left.ensures
      | else-many w ↦ absurd (true≢false (sym t ∙ w.if-many.false))
    ]

    all : SlotsOfKind c.args.memory.now 1 c.if-many.left.by_all
    all = elim c.if-many.branch [
      | then-many w ↦ rw w.left-is (slots-1 _ w.left_of-left.ensures.by_all)
      | else-many w ↦ rw w.left-is w.first_left-left.ensures.by_all
    ]

    none : SlotsOfKind c.args.memory.now 2 c.if-many.left.by_none
    none = elim c.if-many.branch [
      | then-many w ↦ rw w.left-is (slots-2 _ w.left_of-left.ensures.by_none)
      | else-many w ↦ rw w.left-is w.first_left-left.ensures.by_none
    ]
