-- No system label, not carried by a, or carried: then those that a does not reach.
use native.Mathlib.Omega.{arith}
use mathlib.Core.Path.{ap, ap₂, ◌∙◌}
use Rattle.bitrow.specs.Bit.{bit_at}
use Rattle.bitrow.specs.Set.{less, remove}
use Rattle.entries.proofs.Trials.{container-within}
use Rattle.entries.proofs.FormedEntries.{formed-slots}
use Rattle.container_findings.proofs.ContainerWords.{system-small, system-unset, system-set}
use Rattle.container_findings.proofs.ContainerRows.{system-none, system-row}
use Rattle.container_findings.proofs.system_isolation.Goals as goal

pub returns-then-key-eq0 : goal.returns-then-key-eq0
returns-then-key-eq0 c =
    let p = c.requires in
    c.none.ensures ∙ system-none _ _ p.here (system-unset _ p.formed _ p.here c.if-key-eq0.true)

pub overflow_mul-word : goal.overflow_mul-word
overflow_mul-word c = let b = system-small _ c.requires.formed in omega (arith, b.0)

pub overflow_add-word : goal.overflow_add-word
overflow_add-word c = let b = system-small _ c.requires.formed in omega (arith, b.0, b.1)

pub carries-requires : goal.carries-requires
carries-requires c =
    let p = c.requires in
    container-within _ p.formed.whole (formed-slots _ p.formed) _ p.below

pub returns-then-not-carries : goal.returns-then-not-carries
returns-then-not-carries c =
    let p = c.requires in
    c.none-then-not-carries.ensures
    ∙ system-none _ _ p.here (system-set _ p.formed _ p.here c.if-key-eq0.false c.carries.ensures ∙ c.if-not-carries.true)

pub returns : goal.returns
returns c =
    let p = c.requires in
    c.except.ensures ∙ ap₂ less (c.without.ensures ∙ ap (remove _) p.slots) (ap bit_at c.row_at-reached.ensures)
    ∙ system-row _ _ p.here (system-set _ p.formed _ p.here c.if-key-eq0.false c.carries.ensures ∙ c.if-not-carries.false)
