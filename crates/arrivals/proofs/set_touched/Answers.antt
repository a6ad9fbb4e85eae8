use mathlib.Core.Path.{refl}
use native.Mathlib.Omega.{arith}
use borrow.Author.Tests.{not-true}
use Rattle.formed.specs.Registry.{registry_in}
use Rattle.formed.proofs.Reading.{entries-hold}
use Rattle.formed.proofs.Runs.{said-yes}
use Rattle.arrivals.proofs.Rows.{setting-none, setting-next, setting-skip, setting-all}
use Rattle.arrivals.proofs.set_touched.Goals as goal
use Rattle.arrivals.proofs.set_touched.Goals.{then-not-is_empty, else-not-is_empty}

pub loop-r-init : goal.loop-r-init
loop-r-init c = setting-none (entries-hold _ c.requires.entries_formed) c.fits-memory

pub loop-r-preserved : goal.loop-r-preserved
unfolding registry_in
loop-r-preserved c =
    let g = c.loop-r.invariant in
    let e = c.mask_of-mask.ensures in
    elim c.if-not-is_empty.branch [
      | then-not-is_empty w ↦ rw w.memory-is (setting-next g c.loop-r-test.true e (w.row_of_bits-ruled.ensures.is c.requires.gathers refl) w.reset_row.ensures)
      | else-not-is_empty w ↦ rw w.memory-is (setting-skip g c.loop-r-test.true e (not-true _ (said-yes c.is_empty.ensures w.if-not-is_empty.false)))
    ]

pub returns : goal.returns
returns c = setting-all _ _ c.loop-r.invariant (omega arith)
