-- The block that says an entry, and when an entry is valid.
use Rattle.std.specs.Prelude.{Bool, true, ◌&&◌, cond, List, [], ◌∷◌, ◌++◌, ℕ, ◌-◌, ◌/◌, ◌%◌, eqb, leb, ltb, length, replicate}
use Rattle.block.specs.declared.Direction.{Direction}
use Rattle.block.specs.declared.Direction.TheVariants.{Ingress as ingress, Egress as egress}
use Rattle.block.specs.Entry.{Label, Settings, Entry, container, policy}
use Rattle.block.specs.Bytes.{checksum}
use Rattle.block.specs.Reader.{within}

-- ---- the block that says it

abbrev pub number_bytes : ℕ → List ℕ
number_bytes n = n / 256 ∷ n % 256 ∷ []

-- a block that begins with these bytes: zeros up to 509, then the checksum
unfoldable pub sealed : List ℕ → List ℕ
sealed front =
    let body = front ++ replicate (510 - length front) 0 in
    body ++ number_bytes (checksum body)

abbrev pub label_bytes : List Label → List ℕ
label_bytes [] = []
label_bytes (l ∷ ls) = number_bytes l.key ++ (number_bytes l.value ++ label_bytes ls)

abbrev pub direction_number : Direction → ℕ
direction_number ingress = 1
direction_number egress = 2

unfoldable pub block_of : Entry → List ℕ
block_of (container c) = sealed (67 ∷ length c ∷ 0 ∷ 0 ∷ label_bytes c)
block_of (policy p) =
    sealed (80 ∷ direction_number p.direction ∷ length p.select ∷ length p.allow ∷ (label_bytes p.select ++ label_bytes p.allow))

unfoldable pub settings_block : Settings → List ℕ
settings_block s = sealed (83 ∷ s.user_key ∷ s.system_key ∷ 0 ∷ number_bytes s.system_value)

-- ---- valid entries

unfoldable pub in_range : Label → Bool
in_range l = within 1 64 l.key && within 1 65535 l.value

abbrev pub all_in_range : List Label → Bool
all_in_range [] = true
all_in_range (l ∷ ls) = in_range l && all_in_range ls

-- each key exceeds the key before it
abbrev pub rising_after : ℕ → List Label → Bool
rising_after k [] = true
rising_after k (l ∷ ls) = ltb k l.key && rising_after l.key ls

abbrev pub rising : List Label → Bool
rising [] = true
rising (l ∷ ls) = rising_after l.key ls

-- at most `limit` labels, each in range, in strictly rising order of key
unfoldable pub valid_labels : ℕ → List Label → Bool
valid_labels limit ls = leb (length ls) limit && (all_in_range ls && rising ls)

-- No rule asks for the settings yet.
unfoldable pub valid_entry : Settings → Entry → Bool
valid_entry s (container c) = valid_labels 8 c
valid_entry s (policy p) = valid_labels 4 p.select && valid_labels 4 p.allow

unfoldable pub valid_settings : Settings → Bool
valid_settings s =
    within 1 64 s.user_key
    && (leb s.system_key 64
    && cond (eqb s.system_key 0) (eqb s.system_value 0) (within 1 65535 s.system_value))
