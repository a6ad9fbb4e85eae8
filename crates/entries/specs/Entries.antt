-- What the readers of entries give.
use Rattle.std.specs.Prelude.{◌≡◌, Bool, false, cond, List, [], ◌∷◌, ℕ, ◌+◌, ◌*◌, ◌-◌, ◌≤◌, ◌<◌, eqb, length, slice_range, Option as Search, Some, None}
use Rattle.std.proofs.Math.Option.{Option, none, some}
use Rattle.block.specs.Entry.{Label}
use Rattle.bitrow.specs.Set.{meet}
use Rattle.model.specs.Table.{Table, free}
use Rattle.model.specs.Model.{container_slots, policy_slots}
use Rattle.model.specs.Rules.{matches}
use Rattle.store.specs.Layout.{word_at, containers_start, container_words, select_offset, allow_offset, container_start, policy_start}
use Rattle.formed.specs.Words.{label_word, part_in}

-- the part whose header is at `at` lies within the memory
pub record PartWithin (m : List ℕ) (at : ℕ) : Type 0 where
  pub header : at < length m
  pub labels : at + word_at m at ≤ length m

-- the words of its labels
abbrev pub label_words : List ℕ → ℕ → List ℕ
label_words m at = slice_range m (at + 1) (at + 1 + (word_at m at - 1))

-- and none of its labels is the word zero
pub record PartOfLabels (m : List ℕ) (at : ℕ) : Type 0 where
  pub within : PartWithin m at
  pub label : (k : ℕ) → at < k → k < at + word_at m at → 0 < word_at m k

-- the words past the labels of the container whose slot is at `at` are zero
abbrev pub ZeroPast : List ℕ → ℕ → Type 0
ZeroPast m at = (k : ℕ) → at + word_at m at ≤ k → k < at + container_words → word_at m k ≡ 0

-- a container's slot, which lies within the memory
pub record SlotAt (m : List ℕ) (at : ℕ) : Type 0 where
  pub within : at + container_words ≤ length m
  pub head : word_at m at ≤ container_words
  pub past : ZeroPast m at

-- no part of a slot says more labels than its limit, and a container's slot is zero past them: so it is where the words say entries
pub record SlotsFormed (m : List ℕ) : Type 0 where
  pub container : (c : ℕ) → c < container_slots → word_at m (container_start c) ≤ container_words
  pub select : (q : ℕ) → q < policy_slots → word_at m (policy_start q + select_offset) ≤ 5
  pub allow : (q : ℕ) → q < policy_slots → word_at m (policy_start q + allow_offset) ≤ 5
  pub past : (c : ℕ) → c < container_slots → ZeroPast m (container_start c)

-- 64 container slots, one after another from `at` on
pub record SlotsFrom (m : List ℕ) (at : ℕ) : Type 0 where
  pub slot : (i : ℕ) → i < 64 → SlotAt m (at + container_words * i)

-- those of container slots, one after another from `at` on, that carry every label of the part whose header is at `part`
unfoldable pub matching_from : List ℕ → ℕ → ℕ → ℕ → Bool
matching_from m part at i = matches (part_in m part) (part_in m (at + container_words * i))

-- the container slots that carry them
unfoldable pub matching : List ℕ → ℕ → ℕ → Bool
matching m part = matching_from m part containers_start

-- the trial of a part: those of the candidates that it matches
abbrev pub trial_set : List ℕ → ℕ → (ℕ → Bool) → ℕ → Bool
trial_set m part candidates = meet candidates (matching m part)

-- the word of the first label whose key is k, 0 where there is none
unfoldable pub word_under : ℕ → List Label → ℕ
word_under k [] = 0
word_under k (l ∷ ls) = cond (eqb l.key k) (label_word l) (word_under k ls)

-- the word under the user key of the container at slot c
abbrev pub user_word : List ℕ → ℕ → ℕ
user_word m c = word_under (word_at m 0) (part_in m (container_start c))

-- ---- free slots

-- slots of n words each, from `start` on, lie within the memory
pub record SlotsWithin (m : List ℕ) (start n slots : ℕ) : Type 0 where
  pub some : 0 < n
  pub all : start + n * slots ≤ length m

-- the free ones among them
unfoldable pub free_in : List ℕ → ℕ → ℕ → ℕ → Bool
free_in m start n i = eqb (word_at m (start + n * i)) 0

module _ {A : Type 0} where
  -- no slot below n is free
  pub record NoneFree (t : Table A) (n : ℕ) : Type 0 where
    pub below : (i : ℕ) → i < n → free t i ≡ false

-- the answer of the search: the slot of that number
abbrev pub slot_found : {S : Type 0} → (ℕ → S) → Option ℕ → Search S
slot_found slot none = None
slot_found slot (some i) = Some (slot i)
