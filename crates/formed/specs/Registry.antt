-- What a memory says, the memory that says a registry, and when a memory is well formed.
use Rattle.std.specs.Prelude.{◌≡◌, Bool, true, false, not, ◌&&◌, ◌||◌, cond, List, [], ◌∷◌, ℕ, ◌-◌, ◌/◌, ◌%◌, ◌<◌, eqb, ltb, length}
use Rattle.std.proofs.Math.Option.{Option, none, some}
use Rattle.block.specs.Entry.{Container, Policy, Settings, container, policy}
use Rattle.block.specs.Written.{valid_settings, valid_entry}
use Rattle.model.specs.Table.{all, at, stands, below}
use Rattle.model.specs.Model.{container_slots, policy_slots, Model, Bits}
use Rattle.model.specs.Registry.{Registry, BitsStand}
use Rattle.store.specs.Layout.{memory_words, rows_start, Whole, containers_start, container_words, policies_start, policy_words, matrix_band, selected_band, allowed_band, band_index, in_band, selected_row, allowed_row, word_at, row_bit}
use Rattle.store.specs.Contents.{Contents, tab, image_of}
use Rattle.store.specs.declared.Part.{Part}
use Rattle.store.specs.declared.Part.TheVariants.{Select, Allow}
use Rattle.formed.specs.Words.{settings_word, container_word, policy_word, settings_in, container_in, policy_in}

-- ---- what the memory says

unfoldable pub model_in : List ℕ → Model
model_in m = record {
  settings = settings_in m;
  containers = tab container_slots (container_in m);
  policies = tab policy_slots (policy_in m);
}

-- bit y of row r, which is slot x's of a table of n slots; clear beyond the tables
unfoldable pub bit_within : List ℕ → ℕ → ℕ → ℕ → ℕ → Bool
bit_within m n x r y = ltb x n && (ltb y container_slots && row_bit m r y)

unfoldable pub bits_in : List ℕ → Bits
bits_in m = record {
  matrix = λ a b. bit_within m container_slots a a b;
  selected = λ q c. bit_within m policy_slots q (selected_row q) c;
  allowed = λ q c. bit_within m policy_slots q (allowed_row q) c;
}

-- the set that a part of policy q has in the bits: those stored, or `computed_bits` of a model
abbrev pub set_in : Bits → Part → ℕ → ℕ → Bool
set_in s Select = s.selected
set_in s Allow = s.allowed

unfoldable pub registry_in : List ℕ → Registry
registry_in m = record { model = model_in m; bits = bits_in m }

-- ---- the memory that says a registry

-- word k before the rows
unfoldable pub entry_word : Model → ℕ → ℕ
entry_word m k =
    let c = k - containers_start in
    let q = k - policies_start in
    cond (ltb k containers_start) (settings_word m.settings k)
    (cond (ltb k policies_start) (container_word (at m.containers (c / container_words)) (c % container_words))
    (policy_word (at m.policies (q / policy_words)) (q % policy_words)))

-- bit y of row x: a bit of the table that has the row
unfoldable pub stored_bit : Bits → ℕ → ℕ → Bool
stored_bit s x y =
    cond (in_band matrix_band x) (s.matrix (band_index matrix_band x) y)
    (cond (in_band selected_band x) (s.selected (band_index selected_band x) y)
    (s.allowed (band_index allowed_band x) y))

unfoldable pub contents_of : Registry → Contents
contents_of r = record { words = entry_word r.model; bits = stored_bit r.bits }

unfoldable pub image : Registry → List ℕ
image r = image_of (contents_of r)

-- ---- well formed

module _ {A : Type 0} where
  -- a slot is free, or its entry passes
  abbrev pub free_or : (A → Bool) → Option A → Bool
  free_or f none = true
  free_or f (some x) = f x

-- a slot is free, or admit into an empty book under the settings would accept its entry: `valid_entry` holds exactly where reading the
-- block that says the entry gives it back (`block`, Written.valid-exactly)
abbrev pub valid_container : Settings → Option Container → Bool
valid_container s = free_or (λ x. valid_entry s (container x))

abbrev pub valid_policy : Settings → Option Policy → Bool
valid_policy s = free_or (λ x. valid_entry s (policy x))

-- no bit of the first m rows and n columns is set for a slot that does not stand, at either end
abbrev pub of_standing : ℕ → ℕ → (ℕ → Bool) → (ℕ → Bool) → (ℕ → ℕ → Bool) → Bool
of_standing m n s t f = all (λ i. all (λ j. not (f i j) || (s i && t j)) (below n)) (below m)

-- "settings that open would accept; at each place either an entry of that table's sort that admit into an empty book under those
-- settings would accept, or all zero; no kept bit set for an empty place".
unfoldable pub acceptable : Registry → Bool
acceptable r =
    let m = r.model in
    let c = stands m.containers in
    let p = stands m.policies in
    valid_settings m.settings
    && (all (valid_container m.settings) m.containers
    && (all (valid_policy m.settings) m.policies
    && (of_standing container_slots container_slots c c r.bits.matrix
    && (of_standing policy_slots container_slots p c r.bits.selected
    && of_standing policy_slots container_slots p c r.bits.allowed))))

-- The same as statements, over all numbers. Of the entries: tables of their sizes, and what open and admit would accept.
pub record ValidEntries (m : Model) : Type 0 where
  pub containers : length m.containers ≡ container_slots
  pub policies : length m.policies ≡ policy_slots
  pub settings : valid_settings m.settings ≡ true
  pub container : (c : ℕ) → valid_container m.settings (at m.containers c) ≡ true
  pub policy : (q : ℕ) → valid_policy m.settings (at m.policies q) ≡ true

-- Of the registry: no bit beyond the tables either.
pub record Acceptable (r : Registry) : Type 0 where
  pub entries : ValidEntries r.model
  pub bits : BitsStand r

-- The words of settings and slots are those of valid entries. Nothing is asked of the rows: what reads entries needs no more, also in the
-- middle of a change, when the bits do not agree with the entries yet.
pub record EntriesFormed (m : List ℕ) : Type 0 where
  pub whole : Whole m
  pub entries : ValidEntries (model_in m)
  pub words : (k : ℕ) → k < rows_start → word_at m k ≡ entry_word (model_in m) k

abbrev pub same_words : List ℕ → List ℕ → Bool
same_words [] [] = true
same_words [] (y ∷ ys) = false
same_words (x ∷ xs) [] = false
same_words (x ∷ xs) (y ∷ ys) = eqb x y && same_words xs ys

-- Our size, acceptable, and no word that the registry does not say.
unfoldable pub well_formed : List ℕ → Bool
well_formed m = eqb (length m) memory_words && (acceptable (registry_in m) && same_words (image (registry_in m)) m)
