-- The test of a memory as the code makes it, word by word and row by row (proofs/TestsFormed.antt: it is `well_formed`).
use Rattle.std.specs.Prelude.{Bool, true, false, ◌&&◌, cond, List, ℕ, zero, suc, ◌+◌, ◌*◌, ◌-◌, ◌/◌, ◌%◌, eqb, ltb, leb}
use Rattle.block.specs.Written.{valid_settings}
use Rattle.bitrow.specs.Bit.{bit_at}
use Rattle.bitrow.specs.Set.{nothing, part}
use Rattle.model.specs.Table.{stands}
use Rattle.model.specs.Model.{container_slots, policy_slots}
use Rattle.store.specs.Layout.{word_at, container_start, container_words, policy_start, policy_words, select_offset, allow_offset, selected_row, allowed_row, row_at}
use Rattle.formed.specs.Words.{settings_in}
use Rattle.formed.specs.Registry.{model_in}

-- ---- tests joined. Shut, so that antt finds the tests of a conjunction by itself

infixr 30 ◌and◌
unfoldable pub ◌and◌ : Bool → Bool → Bool
true and b = b
false and b = false

-- one test or the other, by a third
unfoldable pub choose : Bool → Bool → Bool → Bool
choose true a b = a
choose false a b = b

-- f holds at i, i + 1, .., n of them
abbrev pub every : (ℕ → Bool) → ℕ → ℕ → Bool
every f i zero = true
every f i (suc n) = f i and every f (i + 1) n

-- f holds at each i with from ≤ i < to
unfoldable pub between : (ℕ → Bool) → ℕ → ℕ → Bool
between f from to = every f from (to - from)

-- ---- words

abbrev pub zeros : List ℕ → ℕ → ℕ → Bool
zeros m = between (λ i. eqb (word_at m i) 0)

-- a label's word: its key exceeds the key before it and is at most 64, its value is not zero
unfoldable pub label_ok : ℕ → ℕ → Bool
label_ok last w = ltb last (w / 65536) && (leb (w / 65536) 64 && ltb 0 (w % 65536))

-- n labels from word i on
abbrev pub labels_ok : List ℕ → ℕ → ℕ → ℕ → Bool
labels_ok m last i zero = true
labels_ok m last i (suc n) = label_ok last (word_at m i) and labels_ok m (word_at m i / 65536) (i + 1) n

-- the list of labels in the words from `from` on and before `to`
abbrev pub labels_between : List ℕ → ℕ → ℕ → Bool
labels_between m from to = labels_ok m 0 from (to - from)

-- the part whose header is at `at`: at most `limit` labels, and zeros after them
unfoldable pub part_ok : List ℕ → ℕ → ℕ → Bool
part_ok m at limit =
    ltb 0 (word_at m at) and (leb (word_at m at) (limit + 1)
    and (labels_between m (at + 1) (at + word_at m at) and zeros m (at + word_at m at) (at + 1 + limit)))

unfoldable pub container_ok : List ℕ → ℕ → Bool
container_ok m c =
    let s = container_start c in
    choose (eqb (word_at m s) 0) (zeros m s (s + container_words)) (part_ok m s 8)

unfoldable pub policy_ok : List ℕ → ℕ → Bool
policy_ok m q =
    let s = policy_start q in
    choose (eqb (word_at m s) 0) (zeros m s (s + policy_words)) (leb (word_at m s) 2 and (part_ok m (s + select_offset) 4 and part_ok m (s + allow_offset) 4))

unfoldable pub containers_ok : List ℕ → Bool
containers_ok m = between (container_ok m) 0 container_slots

unfoldable pub policies_ok : List ℕ → Bool
policies_ok m = between (policy_ok m) 0 policy_slots

-- ---- rows

-- the slots, `step` words apart from word `at` on, whose first word is w
unfoldable pub firsts : List ℕ → ℕ → ℕ → ℕ → ℕ → Bool
firsts m at step w j = eqb (word_at m (at + step * j)) w

-- s, and nothing where the word is zero: what may be set in a row whose owner's first word is w
unfoldable pub owned_by : ℕ → (ℕ → Bool) → ℕ → Bool
owned_by w s = cond (eqb w 0) nothing s

-- row r, of a slot whose first word is w, where the containers of s stand
unfoldable pub row_ok : List ℕ → (ℕ → Bool) → ℕ → ℕ → Bool
row_ok m s w r = part (bit_at (row_at m r)) (owned_by w s)

abbrev pub matrix_row_ok : List ℕ → (ℕ → Bool) → ℕ → Bool
matrix_row_ok m s a = row_ok m s (word_at m (container_start a)) a

abbrev pub set_rows_ok : List ℕ → (ℕ → Bool) → ℕ → Bool
set_rows_ok m s q = let w = word_at m (policy_start q) in row_ok m s w (selected_row q) and row_ok m s w (allowed_row q)

unfoldable pub matrix_ok : List ℕ → (ℕ → Bool) → Bool
matrix_ok m s = between (matrix_row_ok m s) 0 container_slots

unfoldable pub sets_ok : List ℕ → (ℕ → Bool) → Bool
sets_ok m s = between (set_rows_ok m s) 0 policy_slots

-- ---- the whole test, of a memory of our size

unfoldable pub tests : List ℕ → Bool
tests m =
    let s = stands (model_in m).containers in
    valid_settings (settings_in m) and (containers_ok m and (policies_ok m and (matrix_ok m s and sets_ok m s)))
