-- Document 02, Note 1: what a file gives that a registry was written to, when it is opened and admitted again block by block.
use Rattle.std.specs.Prelude.{◌≡◌, true, List, ℕ, ◌<◌, ◌≤◌, length, get_or}
use Rattle.block.specs.Cut.{blocks_of}
use Rattle.model.specs.Model.{Model, computed_bits}
use Rattle.model.specs.Findings.{containers_of, policies_of}
use Rattle.model.specs.Calls.{ask, write, file_put, run}
use Rattle.model.specs.File.{file_of, reading, read_answers, closed_up}
use Rattle.model.specs.ModelStep.{model_step}
use Rattle.model.specs.Registry.{consistent}
use Rattle.store.specs.Layout.{memory_words}
use Rattle.formed.specs.Registry.{model_in, bits_in, registry_in, ValidEntries, well_formed}
use Rattle.steps.specs.MemoryStep.{memory_step}

-- the slot of the i-th standing container, of the i-th standing policy
abbrev pub nth_container : Model → ℕ → ℕ
nth_container m i = get_or (containers_of m) i 0

abbrev pub nth_policy : Model → ℕ → ℕ
nth_policy m i = get_or (policies_of m) i 0

-- Of a model m, whatever model reads its file.
pub record ReadBack (m : Model) : Type 0 where
  -- "Opened and admitted again, the file gives a book with the same entries in the same order, places closed up."
  pub read : (other : Model) → run model_step other (reading (blocks_of (file_of m))) ≡ (closed_up m, read_answers m)
  -- "the matrix is the old one with the rows and columns of empty places left out", and so the policies' sets
  pub matrix : (i j : ℕ) → i < length (containers_of m) → j < length (containers_of m)
      → (computed_bits (closed_up m)).matrix i j ≡ (computed_bits m).matrix (nth_container m i) (nth_container m j)
  pub selected : (q i : ℕ) → q < length (policies_of m) → i < length (containers_of m)
      → (computed_bits (closed_up m)).selected q i ≡ (computed_bits m).selected (nth_policy m q) (nth_container m i)
  pub allowed : (q i : ℕ) → q < length (policies_of m) → i < length (containers_of m)
      → (computed_bits (closed_up m)).allowed q i ≡ (computed_bits m).allowed (nth_policy m q) (nth_container m i)
  -- "Writing the new book gives the same file."
  pub again : file_of (closed_up m) ≡ file_of m

unfoldable pub ReadsBack : Type 0
ReadsBack = (m : Model) → ValidEntries m → ReadBack m

-- Of the memory old, whose file is read into the memory other, and of the memory that this leaves.
pub record CarriedOver (old other file left : List ℕ) : Type 0 where
  -- "Opened and admitted again, the file gives a book with the same entries in the same order, places closed up."
  pub read : run memory_step other (reading (blocks_of file)) ≡ (left, read_answers (model_in old))
  pub entries : model_in left ≡ closed_up (model_in old)
  pub formed : well_formed left ≡ true
  pub in_step : consistent (registry_in left) ≡ true
  -- "If the old book was in step, the matrix is the old one with the rows and columns of empty places left out."
  pub matrix : consistent (registry_in old) ≡ true → (i j : ℕ) → i < length (containers_of (model_in old)) → j < length (containers_of (model_in old))
      → (bits_in left).matrix i j ≡ (bits_in old).matrix (nth_container (model_in old) i) (nth_container (model_in old) j)
  pub selected : consistent (registry_in old) ≡ true → (q i : ℕ) → q < length (policies_of (model_in old)) → i < length (containers_of (model_in old))
      → (bits_in left).selected q i ≡ (bits_in old).selected (nth_policy (model_in old) q) (nth_container (model_in old) i)
  pub allowed : consistent (registry_in old) ≡ true → (q i : ℕ) → q < length (policies_of (model_in old)) → i < length (containers_of (model_in old))
      → (bits_in left).allowed q i ≡ (bits_in old).allowed (nth_policy (model_in old) q) (nth_container (model_in old) i)
  -- "Writing the new book gives the same file.": into every buffer that the file fits in
  pub again : (n : ℕ) → length file ≤ n → memory_step left (ask (write n)) ≡ (left, file_put file)

-- A memory that was written, and a file of it that is read into any memory of our size: nothing else is asked of either.
unfoldable pub CarriesOver : Type 0
CarriesOver =
    (old other file : List ℕ) (n : ℕ) → length other ≡ memory_words → (memory_step old (ask (write n))).1 ≡ file_put file
    → (left : List ℕ) × CarriedOver old other file left

-- "Writing leaves the book as it was."
unfoldable pub WritingLeaves : Type 0
WritingLeaves = (m : List ℕ) (n : ℕ) → (memory_step m (ask (write n))).0 ≡ m
