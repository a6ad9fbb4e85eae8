-- Document 02, Note 2: a batch is its blocks admitted one after another.
use Rattle.std.specs.Prelude.{◌≡◌, true, List, ℕ, ◌*◌, ◌%◌, ◌≤◌, length}
use Rattle.block.specs.Cut.{blocks_of}
use Rattle.model.specs.declared.Tally.{Tally}
use Rattle.model.specs.Calls.{change, admit, admit_batch, Answer, run}
use Rattle.model.specs.Batch.{batch_outcome}
use Rattle.formed.specs.Registry.{well_formed}
use Rattle.steps.specs.MemoryStep.{memory_step}

-- the call admit, by its block
abbrev pub admit_on : List ℕ → List ℕ → List ℕ × Answer
admit_on m b = memory_step m (change (admit b))

-- "Book and answers equal those of admitting one after another.": on any well-formed memory, consistent or not, of every batch that is
-- not refused.
unfoldable pub BatchIsAdmissions : Type 0
BatchIsAdmissions =
    (m bs : List ℕ) (n : ℕ) (t : Tally) → well_formed m ≡ true → length bs ≤ 65536 → length bs % 512 ≡ 0 → 2 * length (blocks_of bs) ≤ n
    → memory_step m (change (admit_batch bs n t)) ≡ batch_outcome t (run admit_on m (blocks_of bs))
