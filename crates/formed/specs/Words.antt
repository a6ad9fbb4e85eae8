-- The words of settings and entries, and what words say. A label is one word. Every list of labels is a part: a header word, one
-- more than the count, then as many label words as its limit, zero past the count. A container is a part of 8; a policy is its
-- direction's number and two parts of 4; a free slot is all zero.
use Rattle.std.specs.Prelude.{cond, List, [], ◌∷◌, map, ℕ, zero, suc, ◌+◌, ◌*◌, ◌-◌, ◌/◌, ◌%◌, eqb, length, get_or}
use Rattle.std.proofs.Math.Option.{Option, none, some}
use Rattle.block.specs.Entry.{Label, Container, Policy, Settings}
use Rattle.block.specs.Reader.{direction_of}
use Rattle.block.specs.Written.{direction_number}
use Rattle.store.specs.Layout.{part_size, select_offset, allow_offset, container_start, policy_start, word_at}

-- ---- from entries to words

unfoldable pub label_word : Label → ℕ
label_word l = l.key * 65536 + l.value

-- word k of a part
unfoldable pub part_word : List Label → ℕ → ℕ
part_word ls k = get_or (suc (length ls) ∷ map label_word ls) k 0

abbrev pub settings_word : Settings → ℕ → ℕ
settings_word s k = get_or (s.user_key ∷ s.system_key ∷ s.system_value ∷ []) k 0

abbrev pub container_word : Option Container → ℕ → ℕ
container_word none k = 0
container_word (some ls) k = part_word ls k

-- the parts of a policy, in the order of its slot
abbrev pub parts_of : Policy → List (List Label)
parts_of p = p.select ∷ p.allow ∷ []

abbrev pub policy_word : Option Policy → ℕ → ℕ
policy_word none k = 0
policy_word (some p) zero = direction_number p.direction
policy_word (some p) (suc k) = part_word (get_or (parts_of p) (k / part_size) []) (k % part_size)

-- ---- from words to entries

unfoldable pub label_in : ℕ → Label
label_in w = record { key = w / 65536; value = w % 65536 }

-- n labels from word `at` on
abbrev pub labels_in : List ℕ → ℕ → ℕ → List Label
labels_in m at zero = []
labels_in m at (suc n) = label_in (word_at m at) ∷ labels_in m (at + 1) n

-- the part whose header is at `at`
unfoldable pub part_in : List ℕ → ℕ → List Label
part_in m at = labels_in m (at + 1) (word_at m at - 1)

unfoldable pub settings_in : List ℕ → Settings
settings_in m = record { user_key = word_at m 0; system_key = word_at m 1; system_value = word_at m 2 }

-- the header of a container's slot, and a policy's direction, are 0 where the slot is free
unfoldable pub container_in : List ℕ → ℕ → Option Container
container_in m c = cond (eqb (word_at m (container_start c)) 0) none (some (part_in m (container_start c)))

unfoldable pub policy_at : List ℕ → ℕ → Policy
policy_at m q = record {
  direction = direction_of (word_at m (policy_start q));
  select = part_in m (policy_start q + select_offset);
  allow = part_in m (policy_start q + allow_offset);
}

unfoldable pub policy_in : List ℕ → ℕ → Option Policy
policy_in m q = cond (eqb (word_at m (policy_start q)) 0) none (some (policy_at m q))
