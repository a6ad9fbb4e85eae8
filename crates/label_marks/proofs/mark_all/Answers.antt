-- Each container marked is the next.
use mathlib.Core.Path.{refl, ◌∙◌}
use Rattle.formed.proofs.Reading.{formed-whole}
use Rattle.entries.proofs.FormedEntries.{formed-slots}
use Rattle.entries.proofs.Trials.{container-within}
use Rattle.label_table.proofs.RowLaws.{label-rows-none, rows_next}
use Rattle.label_marks.proofs.mark_all.Goals as goal

pub loop-c-init : goal.loop-c-init
loop-c-init c = record { kept = refl; marked = label-rows-none _ c.requires.1 }

pub mark_container-requires : goal.mark_container-requires
mark_container-requires c =
    let ok = c.requires.0 in
    let t = c.loop-c-test.true in
    (container-within _ (formed-whole _ ok) (formed-slots _ ok) c.loop-c.c t, c.loop-c.invariant.marked.shape, t)

pub loop-c-preserved : goal.loop-c-preserved
loop-c-preserved c =
    let l = c.loop-c.invariant in
    record {
      kept = c.mark_container.ensures.kept ∙ l.kept;
      marked = rows_next _ l.marked c.mark_container.ensures.kept c.mark_container.ensures.marked;
    }
