use borrow.Author.Rules.{rules}
use native.Mathlib.Omega.{arith}
use mathlib.Core.Path.{ap, ◌∙◌}
use Rattle.bitrow.specs.Bit.{bit_at}
use Rattle.formed.specs.Registry.{registry_in}
use Rattle.store.proofs.Columns.{filling-none}
use Rattle.formed.proofs.Fits.{fits_by, fits_row}
use Rattle.formed.proofs.Reading.{entries-hold}
use Rattle.sets.proofs.Candidates.{none-known}
use Rattle.whole.proofs.WholeLaws.{rebuilding-next, rebuilt-image}
use Rattle.whole.proofs.rebuild.Goals as goal

pub gather-requires : goal.gather-requires
gather-requires c =
    let u = c.ungathered-gathered.ensures in record {
      entries_formed = (c.requires, ap bit_at u.standing ∙ c.standing-standing.ensures);
      known_sets = none-known u.selected u.allowed;
      empty = (u.out, u.back);
    }

pub loop-r-init : goal.loop-r-init
loop-r-init c = (filling-none (entries-hold _ c.requires), c.fits-memory)

pub loop-r-preserved : goal.loop-r-preserved
unfolding registry_in
loop-r-preserved c = (
  rebuilding-next _ c.loop-r.invariant.0 (omega arith) _
      (c.row_of_bits-row.ensures.is c.gather.ensures c.standing-standing.ensures)
      c.set_row.ensures,
  fits_by _ (fits_row _ _ _ c.loop-r.invariant.1 (λ k. search rules)) c.set_row.ensures,
)

pub returns : goal.returns
returns c = rebuilt-image _ c.loop-r.invariant.0 (omega arith) c.loop-r.invariant.1
