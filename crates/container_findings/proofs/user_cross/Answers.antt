-- One case where a reaches no others, one where it has no user word, and is a stranger to all, one where it has.
use mathlib.Core.Path.{refl, sym, ap, ap₂, ◌∙◌}
use Rattle.bitrow.specs.Bit.{bit_at}
use Rattle.bitrow.specs.Set.{meet, less, remove}
use Rattle.bitrow.proofs.Sets.{meet_comm, less-meet}
use borrow.Author.Tests.{not-true}
use Rattle.entries.proofs.Trials.{container-within}
use Rattle.entries.proofs.FormedEntries.{formed-slots}
use Rattle.container_findings.proofs.ContainerRows.{cross-row, cross-all, cross-none}
use Rattle.container_findings.proofs.user_cross.Goals as goal

pub word_under-word-requires : goal.word_under-word-requires
word_under-word-requires c =
    let p = c.requires.at in
    container-within _ p.formed.whole (formed-slots _ p.formed) _ p.below

pub returns-then-is_empty-clause-row : goal.returns-then-is_empty-clause-row
returns-then-is_empty-clause-row c =
    let p = c.requires.at in
    let others-are = c.without-others.ensures ∙ ap (remove _) (c.both.ensures ∙ ap₂ meet p.slots (ap bit_at c.row_at-reached.ensures)) in
    c.none.ensures ∙ cross-none _ _ p.here others-are (not-true _ (sym c.is_empty.ensures ∙ c.if-is_empty.true))

pub returns-then-word-eq0-clause-row : goal.returns-then-word-eq0-clause-row
returns-then-word-eq0-clause-row c =
    let p = c.requires.at in
    let others-are = c.without-others.ensures ∙ ap (remove _) (c.both.ensures ∙ ap₂ meet p.slots (ap bit_at c.row_at-reached.ensures)) in
    cross-all _ _ p.here p.formed others-are c.word_under-word.ensures c.if-word-eq0.true

pub returns-clause-row : goal.returns-clause-row
returns-clause-row c =
    let p = c.requires.at in
    let others-are = c.without-others.ensures ∙ ap (remove _) (c.both.ensures ∙ ap₂ meet p.slots (ap bit_at c.row_at-reached.ensures)) in
    c.except.ensures ∙ ap (less _) (c.among-own.ensures.row ∙ meet_comm _ _) ∙ less-meet _ _
    ∙ cross-row _ _ p.here p.formed others-are c.word_under-word.ensures c.if-word-eq0.false refl
