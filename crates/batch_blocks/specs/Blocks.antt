-- What one block of a batch does to the entries of a memory, and what came with it.
use Rattle.std.specs.Prelude.{◌≡◌, Bool, List, ℕ, ◌+◌, Result, Ok, Err}
use Rattle.std.proofs.Math.Option.{Option, none, some}
use Rattle.bitrow.specs.Bit.{bit_at}
use Rattle.bitrow.specs.Set.{nothing, insert}
use Rattle.block.specs.declared.Refusal.{Refusal}
use Rattle.block.specs.Reader.{read_entry}
use Rattle.model.specs.Model.{Model}
use Rattle.model.specs.Calls.{Answer, said}
use Rattle.model.specs.ModelStep.{admitting}
use Rattle.formed.specs.Registry.{model_in, bits_in, image}
use Rattle.entries.specs.Entries.{NoneFree}
use Rattle.answers.specs.declared.Admitted.{Admitted}
use Rattle.answers.specs.declared.Admitted.TheVariants as admitted
use Rattle.answers.specs.Answers.{admitted_answer}
use Rattle.batch_blocks.specs.declared.Arrived.{Arrived}
use Rattle.batch_blocks.specs.declared.Came.{Came}

-- what the block does to the entries, by the reference model's own admission; every stored bit as it was
unfoldable pub block_placed : List ℕ → List ℕ → List ℕ × Answer
block_placed m b =
    let s = admitting (model_in m) (read_entry (model_in m).settings b) in
    (image (record { model = s.0; bits = bits_in m }), s.1)

-- the slot that an entry came to, 0 where it was refused
abbrev pub slot_of : Result Admitted Refusal → ℕ
slot_of (Err f) = 0
slot_of (Ok (admitted.Container c)) = c.0
slot_of (Ok (admitted.Policy q)) = q.0

-- the position at fault of a block that was refused, 0 where it was taken
abbrev pub position_of : Result Admitted Refusal → ℕ
position_of (Err f) = f.position
position_of (Ok a) = 0

-- nothing came yet
pub record NoneCame (came : Came) : Type 0 where
  pub containers : bit_at came.containers.slots ≡ nothing
  pub policies : bit_at came.policies.slots ≡ nothing
  pub container_from : came.containers.from ≡ 0
  pub policy_from : came.policies.from ≡ 0

-- ---- one answer more

-- the slot that an answer may say, added
abbrev pub with_slot : Option ℕ → (ℕ → Bool) → ℕ → Bool
with_slot none s = s
with_slot (some i) s = insert i s

-- where the next search begins: past that slot
abbrev pub from_past : Option ℕ → ℕ → ℕ
from_past none j = j
from_past (some i) j = i + 1

-- what came to a table, with the slot that an answer may say
pub record ArrivedWith (a : Arrived) (slot : Option ℕ) (r : Arrived) : Type 0 where
  pub slots : bit_at r.slots ≡ with_slot slot (bit_at a.slots)
  pub from : r.from ≡ from_past slot a.from

pub record CameWith (came : Came) (answer : Result Admitted Refusal) (r : Came) : Type 0 where
  pub containers : ArrivedWith came.containers (said (admitted_answer answer)).container r.containers
  pub policies : ArrivedWith came.policies (said (admitted_answer answer)).policy r.policies

-- no slot below where the next search begins is free
pub record FreeFrom (m : Model) (came : Came) : Type 0 where
  pub containers : NoneFree m.containers came.containers.from
  pub policies : NoneFree m.policies came.policies.from
