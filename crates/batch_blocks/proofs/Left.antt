-- The memory that a block leaves: its words say entries again, those of the model's admission, and every stored bit is as it was.
use mathlib.Core.Path.{◌≡◌, ap}
use mathlib.Core.List.{List}
use Prim.Native.Nat.{ℕ}
use Rattle.block.specs.Reader.{read_entry}
use Rattle.model.specs.Calls.{Answer, change, admit}
use Rattle.model.specs.ModelStep.{admitting, admitting_block, model_step}
use Rattle.model.specs.Registry.{Registry}
use Rattle.formed.specs.Registry.{model_in, bits_in, registry_in, image, ValidEntries, EntriesFormed}
use Rattle.formed.proofs.Acceptable.{registry-in-tables}
use Rattle.formed.proofs.Fits.{fits_by, fits-image}
use Rattle.formed.proofs.StoredLaws.{Fit}
use Rattle.formed.proofs.Placed.{image-entries, image-model, image-says}
use Rattle.steps.proofs.Valid.{valid-step}
use Rattle.batch_blocks.specs.Blocks.{block_placed}

module _ (m b : List ℕ) (ok : EntriesFormed m) {m' : List ℕ} {a : Answer} (placed : (m', a) ≡ block_placed m b) where
  abbrev left : Registry
  left = record { model = (admitting (model_in m) (read_entry (model_in m).settings b)).0; bits = bits_in m }

  valid : ValidEntries left.model
  unfolding model_step admitting_block
  valid = valid-step (model_in m) ok.entries (change (admit b))

  said : m' ≡ image left
  unfolding block_placed
  said = ap (λ (p : List ℕ × Answer). p.0) placed

  pub left-formed : EntriesFormed m'
  left-formed = image-entries left valid said

  pub left-fit : Fit m'
  left-fit = fits_by (image left) (fits-image left valid) said

  pub left-model : model_in m' ≡ (admitting (model_in m) (read_entry (model_in m).settings b)).0
  left-model = image-model left valid said

  pub left-bits : bits_in m' ≡ bits_in m
  unfolding registry_in
  left-bits =
      let t = registry-in-tables m in
      ap (λ (r : Registry). r.bits)
      (image-says left valid said (record { containers = valid.containers; policies = valid.policies; matrix = t.matrix; selected = t.selected; allowed = t.allowed }))
