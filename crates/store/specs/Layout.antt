-- Where each part of the memory stands, in the names of `src/lib.rt`. Three words of settings; 256 container slots of nine words; 128
-- policy slots of eleven; then 512 rows of four words: rows 0 to 255 are the matrix, then come what policy 0 selects, what it allows,
-- what policy 1 selects, and so on.
use Rattle.std.specs.Prelude.{◌≡◌, Bool, ◌&&◌, List, [], ◌∷◌, ℕ, ◌+◌, ◌*◌, ◌-◌, ◌/◌, ◌%◌, ◌<◌, ◌≤◌, eqb, leb, ltb, length, get_or}
use Rattle.bitrow.specs.Bit.{bit}
use Rattle.store.specs.declared.Band.{Band}
use Rattle.store.specs.declared.Part.{Part}
use Rattle.store.specs.declared.Part.TheVariants.{Select, Allow}

abbrev pub settings_size : ℕ
settings_size = 3

abbrev pub containers_start : ℕ
containers_start = settings_size

abbrev pub container_words : ℕ
container_words = 9

abbrev pub policies_start : ℕ
policies_start = containers_start + 256 * container_words

abbrev pub policy_words : ℕ
policy_words = 11

-- a policy's part: a header and four labels
abbrev pub part_size : ℕ
part_size = 5

-- where part i of a policy begins in its slot, after the direction
abbrev pub part_offset : ℕ → ℕ
part_offset i = 1 + part_size * i

abbrev pub select_offset : ℕ
select_offset = part_offset 0

abbrev pub allow_offset : ℕ
allow_offset = part_offset 1

abbrev pub offset_of : Part → ℕ
offset_of Select = select_offset
offset_of Allow = allow_offset

abbrev pub rows_start : ℕ
rows_start = policies_start + 128 * policy_words

abbrev pub row_count : ℕ
row_count = 512

abbrev pub row_words : ℕ
row_words = 4

abbrev pub memory_words : ℕ
memory_words = rows_start + row_count * row_words

-- of the memory's size
abbrev pub Whole : List ℕ → Type 0
Whole m = length m ≡ memory_words

abbrev pub container_start : ℕ → ℕ
container_start c = containers_start + container_words * c

abbrev pub policy_start : ℕ → ℕ
policy_start q = policies_start + policy_words * q

abbrev pub row_start : ℕ → ℕ
row_start r = rows_start + row_words * r

-- ---- the tables of rows

abbrev pub matrix_band : Band
matrix_band = record { first = 0; step = 1; count = 256 }

abbrev pub selected_band : Band
selected_band = record { first = 256; step = 2; count = 128 }

abbrev pub allowed_band : Band
allowed_band = record { first = 257; step = 2; count = 128 }

abbrev pub band_of : Part → Band
band_of Select = selected_band
band_of Allow = allowed_band

-- where row i of a table stands
abbrev pub band_row : Band → ℕ → ℕ
band_row t i = t.first + t.step * i

-- which row of a table row r is, where it is one
abbrev pub band_index : Band → ℕ → ℕ
band_index t r = (r - t.first) / t.step

-- r is a row of the table
unfoldable pub in_band : Band → ℕ → Bool
in_band t r = leb t.first r && (eqb ((r - t.first) % t.step) 0 && ltb (band_index t r) t.count)

abbrev pub selected_row : ℕ → ℕ
selected_row = band_row selected_band

abbrev pub allowed_row : ℕ → ℕ
allowed_row = band_row allowed_band

-- a table of at most 256 rows, all of them rows of the memory
abbrev pub InRows : Band → Type 0
InRows t = (t.count ≤ 256) × (band_row t (t.count - 1) < row_count)

-- ---- words and bits

abbrev pub word_at : List ℕ → ℕ → ℕ
word_at m k = get_or m k 0

-- bit y of row r
unfoldable pub row_bit : List ℕ → ℕ → ℕ → Bool
row_bit m r y = bit (word_at m (row_start r + y / 64)) (y % 64)

-- the four words of row r
abbrev pub row_at : List ℕ → ℕ → List ℕ
row_at m r = word_at m (row_start r) ∷ word_at m (row_start r + 1) ∷ word_at m (row_start r + 2) ∷ word_at m (row_start r + 3) ∷ []
