-- Each label marked is the next of the container's.
use Rattle.std.proofs.Common.{◌≡◌, ◌∙◌, refl, ap, subst, ℕ, ◌+◌, get_or, eqb, arith}
use Rattle.store.specs.Layout.{container_start, word_at}
use Rattle.entries.proofs.PartLabels.{label-before, label-behind, nth-label}
use Rattle.label_table.specs.LabelRows.{Marked}
use Rattle.label_table.proofs.RowLaws.{Marking, marking-none, marking-next, marking-all}
use Rattle.label_marks.proofs.mark_container.Goals as goal

pub loop-label-init : goal.loop-label-init
loop-label-init c =
    let t = c.args.table.now in
    let at = container_start c.args.c in
    let e : at + 1 ≡ at + 1 + 0 = omega arith in
    record {
      kept = refl;
      marking = subst (λ (i : ℕ). Marking c.args.memory.now t.labels c.args.c at (at + word_at c.args.memory.now at) t.rows t.rows i) e (marking-none _ _ _ _ c.requires.1);
    }

pub loop-label-preserved : goal.loop-label-preserved
loop-label-preserved c =
    let m = c.args.memory.now in
    let t = c.args.table.now in
    let at = container_start c.args.c in
    let l = c.loop-label in
    let k = l.label-index in
    let words = c.labels_of-label-items.ensures.words in
    let h = rw words at c.loop-label-test.true in
    let label = ap (λ ws. get_or ws k 0) words ∙ nth-label m at c.requires.0 k h in
    let next : at + 1 + k + 1 ≡ at + 1 + (k + 1) = omega arith in
    record {
      kept = c.mark.ensures.kept ∙ l.invariant.kept;
      marking = subst (λ (i : ℕ). Marking m t.labels c.args.c at (at + word_at m at) t.rows c.mark.new.table.rows i) next
          (marking-next _ _ _ _ l.invariant.marking (label-before m at c.requires.0 k h)
          (subst (λ (w : ℕ). Marked t.labels c.args.c (λ v. eqb v w) l.table.rows c.mark.new.table.rows) label (rw l.invariant.kept at c.mark.ensures.marked)));
    }

pub returns-clause-marked : goal.returns-clause-marked
returns-clause-marked c =
    marking-all _ _ _ _ c.loop-label.invariant.marking
    (label-behind _ _ c.requires.0 c.loop-label.label-index (rw c.labels_of-label-items.ensures.words at c.loop-label-test.false))
