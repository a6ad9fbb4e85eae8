-- Rows of zeros have nothing.
use mathlib.Core.Path.{refl}
use Rattle.sets.proofs.Candidates.{empty-rows}
use Rattle.matrix_rows.proofs.ungathered.Goals as goal

pub returns : goal.returns
returns c = record { standing = refl; selected = empty-rows 128; allowed = empty-rows 128; out = empty-rows 256; back = empty-rows 256 }
