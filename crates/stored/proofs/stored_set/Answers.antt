-- The row read is the stored set, of either part.
use mathlib.Core.Path.{ap, ◌∙◌}
use Rattle.bitrow.specs.Bit.{bit_at}
use Rattle.store.specs.Layout.{row_at, band_row}
use Rattle.formed.proofs.StoredLaws.{set-row}
use Rattle.stored.proofs.stored_set.Goals as goal

pub returns : goal.returns
returns c =
    let m = c.args.memory.now in
    ap bit_at (c.row_at.ensures ∙ ap (row_at m) (c.row.ensures ∙ ap (λ t. band_row t c.args.q) c.band.ensures)) ∙ set-row m c.args.part c.args.q c.requires
