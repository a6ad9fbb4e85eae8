-- A table of labels, and what it is after labels are entered.
use Rattle.std.specs.Prelude.{◌≡◌, ◌||◌, cond, List, ℕ, zero, suc, ◌+◌, ◌-◌, ◌*◌, ◌/◌, ◌%◌, eqb, get_or, set}
use Rattle.store.specs.Layout.{select_offset, allow_offset, policy_start, word_at}

abbrev pub places : ℕ
places = 1024

-- from place h on: the first of n places that has label v or nothing, else the place after them
unfoldable pub probe : List ℕ → ℕ → ℕ → ℕ → ℕ
probe labels v zero h = h
probe labels v (suc n) h = cond (eqb (get_or labels h 0) v || eqb (get_or labels h 0) 0) h (probe labels v n ((h + 1) % places))

-- where probing for label v begins
unfoldable pub first_place : ℕ → ℕ
first_place v = v % 8388608 * 2654435769 / 4194304 % places

-- the place of label v
unfoldable pub table_place : List ℕ → ℕ → ℕ
table_place labels v = probe labels v 8 (first_place v)

-- label v is at its place
abbrev pub Placed : List ℕ → ℕ → Type 0
Placed labels v = get_or labels (table_place labels v) 0 ≡ v

-- ---- labels entered in the table. Nothing needs a law of the table that is left: only the time depends on it.

-- label v entered at its place, if nothing is there
unfoldable pub entered : List ℕ → ℕ → List ℕ
entered labels v = cond (eqb (get_or labels (table_place labels v) 0) 0) (set labels (table_place labels v) v) labels

-- step i, step i + 1, .., n of them, one after another
unfoldable pub in_turn : (List ℕ → ℕ → List ℕ) → ℕ → ℕ → List ℕ → List ℕ
in_turn step i zero labels = labels
in_turn step i (suc n) labels = in_turn step (i + 1) n (step labels i)

-- word i of m entered
abbrev pub word_entered : List ℕ → List ℕ → ℕ → List ℕ
word_entered m labels i = entered labels (word_at m i)

-- the labels of the part whose header is at `part`
unfoldable pub part_entered : List ℕ → List ℕ → ℕ → List ℕ
part_entered m labels part = in_turn (word_entered m) (part + 1) (word_at m part - 1) labels

-- those of both parts of policy q
unfoldable pub policy_entered : List ℕ → List ℕ → ℕ → List ℕ
policy_entered m labels q = part_entered m (part_entered m labels (policy_start q + select_offset)) (policy_start q + allow_offset)
