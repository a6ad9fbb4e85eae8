-- One case for each of the three tables.
use native.Mathlib.Omega.{arith}
use mathlib.Core.Path.{◌≡◌, ◌∙◌, sym, ap}
use Rattle.bitrow.proofs.Sets.{point}
use Rattle.model.specs.Model.{computed_bits}
use Rattle.store.specs.Layout.{selected_band, band_index, selected_row, allowed_row}
use Rattle.formed.specs.Registry.{stored_bit}
use Rattle.formed.proofs.StoredLaws.{stored-matrix, stored-selected, stored-allowed}
use Rattle.whole.proofs.row_of_bits.Goals as goal

pub returns-then-r-lt-SELECTED_ROWS : goal.returns-then-r-lt-SELECTED_ROWS
unfolding computed_bits
returns-then-r-lt-SELECTED_ROWS c = record { is = λ g e. c.row_from.ensures.is g (λ h. point e _ ∙ h) ∙ sym (stored-matrix _ _ c.if-r-lt-SELECTED_ROWS.true) }

pub returns-then-r-eq0 : goal.returns-then-r-eq0
unfolding computed_bits
returns-then-r-eq0 c =
    let there : c.args.r ≡ selected_row (band_index selected_band c.args.r) = omega arith in
    record { is = λ g e. g.sets.selected.row _ (omega arith) ∙ sym (ap (stored_bit _) there ∙ stored-selected _ _ (omega arith)) }

pub returns : goal.returns
unfolding computed_bits
returns c =
    let there : c.args.r ≡ allowed_row (band_index selected_band c.args.r) = omega arith in
    record { is = λ g e. g.sets.allowed.row _ (omega arith) ∙ sym (ap (stored_bit _) there ∙ stored-allowed _ _ (omega arith)) }
