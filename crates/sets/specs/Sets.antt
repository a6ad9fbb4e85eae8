-- What candidate sets are to hold of a model.
use Rattle.std.specs.Prelude.{◌≡◌, Bool, not, ◌&&◌, Option, Some, List, ℕ, ◌+◌, ◌<◌, eqb, length}
use Rattle.bitrow.specs.Set.{nothing}
use Rattle.model.specs.Model.{policy_slots, Model, selected_bit, allowed_bit}
use Rattle.store.specs.Layout.{word_at, policy_start}
use Rattle.entries.specs.Entries.{PartOfLabels, trial_set}
use Rattle.sets.specs.declared.PolicySets.{PolicySets}
pub use Rattle.label_table.specs.Rows.{bits, Shaped, Empty}

-- row q is the set f q, for each q below n
pub record RowsAre (n : ℕ) (f : ℕ → ℕ → Bool) (rows : List (List ℕ)) : Type 0 where
  pub row : (q : ℕ) → q < n → bits rows q ≡ f q

-- "two sets for each policy: the containers it selects and those it allows", by the entries
pub record SetsOf (m : Model) (sets : PolicySets) : Type 0 where
  pub selected : RowsAre policy_slots (selected_bit m) sets.selected
  pub allowed : RowsAre policy_slots (allowed_bit m) sets.allowed

-- n rows that have nothing but for row k, where there is one: it is the set f k
pub record EmptyBut (n : ℕ) (k : Option ℕ) (f : ℕ → ℕ → Bool) (rows : List (List ℕ)) : Type 0 where
  pub size : length rows ≡ n
  pub row : (q : ℕ) → k ≡ Some q → q < n → bits rows q ≡ f q
  pub others : (q : ℕ) → (k ≡ Some q → ⊥) → bits rows q ≡ nothing

-- the two sets of policy k alone, by the entries; no policy's where there is none
pub record KnownSets (m : Model) (k : Option ℕ) (sets : PolicySets) : Type 0 where
  pub selected : EmptyBut policy_slots k (selected_bit m) sets.selected
  pub allowed : EmptyBut policy_slots k (allowed_bit m) sets.allowed

-- of the candidates s, those that the part at an offset of policy q's slot matches; none where the slot is free
unfoldable pub part_set : List ℕ → (ℕ → Bool) → ℕ → ℕ → ℕ → Bool
part_set m s offset q c = not (eqb (word_at m (policy_start q)) 0) && trial_set m (policy_start q + offset) s c

-- the part at an offset of each policy's slot lies within the memory, and none of its labels is the word zero
pub record PartsWithin (m : List ℕ) (offset : ℕ) : Type 0 where
  pub part : (q : ℕ) → q < policy_slots → PartOfLabels m (policy_start q + offset)
