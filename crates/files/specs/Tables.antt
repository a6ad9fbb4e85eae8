-- The blocks of a table's standing entries, one after another.
use mathlib.Core.List.{List, map, flatten}
use Rattle.std.specs.Prelude.{ℕ}
use Rattle.block.specs.Entry.{Container, Policy, Entry, container, policy}
use Rattle.block.specs.Written.{block_of}
use Rattle.model.specs.Table.{Table}
use Rattle.model.specs.File.{standing_entries}

-- of each standing entry its block, by slot
unfoldable pub table_blocks : {A : Type 0} → (A → List ℕ) → Table A → List ℕ
table_blocks block t = flatten (map block (standing_entries t))

-- of an entry of one table, which is an entry of either
abbrev pub block_by : {A : Type 0} → (A → Entry) → A → List ℕ
block_by either x = block_of (either x)

abbrev pub container_block : Container → List ℕ
container_block = block_by container

abbrev pub policy_block : Policy → List ℕ
policy_block = block_by policy
