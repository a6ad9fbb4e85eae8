-- Document 02, Note 1: a registry put back into blocks, and what the file gives when it is read again.
use mathlib.Core.List.{List, [], ◌∷◌, ◌++◌, map, flatten}
use Rattle.std.proofs.Math.Option.{none, some}
use Rattle.std.specs.Prelude.{ℕ, ◌-◌, length, replicate}
use Rattle.block.specs.Entry.{Entry, container, policy}
use Rattle.block.specs.Written.{block_of, settings_block}
use Rattle.model.specs.Table.{Table, below}
use Rattle.model.specs.Model.{Model}
use Rattle.model.specs.Findings.{containers_of, policies_of}
use Rattle.model.specs.Calls.{Call, open_with, change, admit}
use Rattle.model.specs.Calls.{Answer, done, container_at, policy_at}

-- ---- the file

module _ {A : Type 0} where
  -- the standing entries, by slot
  abbrev pub standing_entries : Table A → List A
  standing_entries [] = []
  standing_entries (none ∷ t) = standing_entries t
  standing_entries (some x ∷ t) = x ∷ standing_entries t

-- "the standing containers by place, then the policies by place"
unfoldable pub file_entries : Model → List Entry
file_entries m = map container (standing_entries m.containers) ++ map policy (standing_entries m.policies)

-- "writes the settings block, the standing containers by place, then the policies by place"
unfoldable pub file_of : Model → List ℕ
file_of m = flatten (settings_block m.settings ∷ map block_of (file_entries m))

-- ---- "Opened and admitted again"

-- the first block opens, the others are admitted
abbrev pub reading : List (List ℕ) → List Call
reading [] = []
reading (b ∷ bs) = open_with b ∷ map (λ x. change (admit x)) bs

-- none refused, and of each table the slots 0, 1, 2, ..
unfoldable pub read_answers : Model → List Answer
read_answers m = done ∷ (map container_at (below (length (containers_of m))) ++ map policy_at (below (length (policies_of m))))

module _ {A : Type 0} where
  -- "the same entries in the same order, places closed up"
  unfoldable pub closed : Table A → Table A
  closed t = map some (standing_entries t) ++ replicate (length t - length (standing_entries t)) none

unfoldable pub closed_up : Model → Model
closed_up m = record { settings = m.settings; containers = closed m.containers; policies = closed m.policies }
