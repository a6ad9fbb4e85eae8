-- The words of a part's labels, and which containers carry them all.
use Rattle.std.specs.Prelude.{Bool, List, map, ℕ, ◌+◌, ◌*◌, ◌<◌, length, get_or}
use Rattle.model.specs.Rules.{matches}
use Rattle.store.specs.Layout.{container_words}
use Rattle.formed.specs.Words.{label_in, part_in}

-- none of the words is zero, as no label is
pub record NoneZero (words : List ℕ) : Type 0 where
  pub label : (k : ℕ) → k < length words → 0 < get_or words k 0

-- those of container slots, one after another from `at` on, that carry the label of each word
unfoldable pub carrying_from : List ℕ → List ℕ → ℕ → ℕ → Bool
carrying_from m words at i = matches (map label_in words) (part_in m (at + container_words * i))
