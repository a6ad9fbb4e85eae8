-- The tables that a memory says, slot by slot.
use Rattle.std.specs.Prelude.{◌≡◌, List, ℕ, ◌+◌, ◌*◌, ◌%◌, ◌≤◌, ◌<◌, eqb, cond, refl}
use Rattle.std.proofs.Math.Option.{Option, none, some}
use Rattle.std.proofs.Common.{lit<, lit≤}
use Rattle.block.specs.Entry.{Container}
use Rattle.model.specs.Table.{Table}
use Rattle.model.specs.Model.{container_slots, policy_slots}
use Rattle.store.specs.Layout.{word_at, containers_start, container_words, policies_start, policy_words, memory_words, container_start}
use Rattle.store.specs.Contents.{tab}
use Rattle.formed.specs.Words.{part_in, container_in, policy_at, policy_in}
use Rattle.formed.specs.Registry.{model_in}

module _ {A : Type 0} where
  -- slot i, whose n words are those of a table from `start` on: free where its first word is 0
  abbrev pub slot_in : ℕ → ℕ → (ℕ → A) → List ℕ → ℕ → Option A
  slot_in start n entry m i = cond (eqb (word_at m (start + n * i)) 0) none (some (entry i))

  -- t is the table of so many slots of n words each that the memory has from `start` on, before its rows; a row has a bit for each slot,
  -- and the bits fill whole words of it
  pub record Tabled (start n slots : ℕ) (entry : ℕ → A) (m : List ℕ) (t : Table A) : Type 0 where
    pub some_words : 0 < n
    pub within : start + n * slots ≤ memory_words
    pub in_row : slots ≤ 256
    pub whole_words : slots % 64 ≡ 0
    pub reads : t ≡ tab slots (slot_in start n entry m)

abbrev pub container_entry : List ℕ → ℕ → Container
container_entry m c = part_in m (container_start c)

pub container_tabled : (m : List ℕ) → Tabled containers_start container_words container_slots (container_entry m) m (model_in m).containers
unfolding model_in container_in
container_tabled m = record { some_words = lit< tt; within = lit≤ tt; in_row = lit≤ tt; whole_words = refl; reads = refl }

pub policy_tabled : (m : List ℕ) → Tabled policies_start policy_words policy_slots (policy_at m) m (model_in m).policies
unfolding model_in policy_in
policy_tabled m = record { some_words = lit< tt; within = lit≤ tt; in_row = lit≤ tt; whole_words = refl; reads = refl }
