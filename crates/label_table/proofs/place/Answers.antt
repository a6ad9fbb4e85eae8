-- A probe ends at this place, or goes on to the next.
use mathlib.Core.Path.{sym, ◌∙◌}
use Rattle.std.proofs.Common.{arith, ◌-◌}
use Rattle.label_table.proofs.TableLaws.{place-probe, probe-end, probe-here, probe-on}
use Rattle.label_table.proofs.place.Goals as goal

pub loop-probe-init : goal.loop-probe-init
loop-probe-init c = let f = c.first_place-h.ensures in (place-probe _ _ f.0, f.1)

pub returns-then-there-label : goal.returns-then-there-label
returns-then-there-label c =
    let l = c.loop-probe in (sym (l.invariant.0 ∙ probe-here _ _ (8 - l._probe) l.h (omega arith) c.if-there-label.true), l.invariant.1)

pub loop-probe-preserved : goal.loop-probe-preserved
loop-probe-preserved c =
    let l = c.loop-probe in
    (l.invariant.0 ∙ probe-on _ _ l._probe l.h (omega arith) c.if-there-label.false, omega arith)

pub returns : goal.returns
returns c = let l = c.loop-probe in (sym (l.invariant.0 ∙ probe-end _ _ (8 - l._probe) l.h (omega arith)), l.invariant.1)
