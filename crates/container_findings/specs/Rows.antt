-- The findings of a kind at a, as the set of all b, and what those over containers are worked out from.
use Rattle.std.specs.Prelude.{◌≡◌, Bool, true, ◌&&◌, List, ℕ, ◌+◌, ◌<◌, eqb, ltb}
use Rattle.bitrow.specs.Bit.{bit_at}
use Rattle.bitrow.specs.Set.{size}
use Rattle.model.specs.Table.{stands}
use Rattle.model.specs.Findings.{finding, shown}
use Rattle.store.specs.Layout.{word_at, container_start}
use Rattle.formed.specs.Words.{part_in}
use Rattle.formed.specs.Registry.{model_in, bits_in, EntriesFormed}
use Rattle.entries.specs.Entries.{word_under}

-- by the entries and the stored bits that a memory says
unfoldable pub shown_at : List ℕ → ℕ → ℕ → ℕ → Bool
shown_at m k a b = shown (model_in m) (bits_in m) (finding k a b)

abbrev pub containers_stand : List ℕ → ℕ → Bool
containers_stand m = stands (model_in m).containers

abbrev pub policies_stand : List ℕ → ℕ → Bool
policies_stand m = stands (model_in m).policies

-- the number 0 alone, if the test holds
unfoldable pub zero_if : Bool → ℕ → Bool
zero_if t b = t && eqb b 0

-- what is in t, if at least two stand, s being those that do
unfoldable pub if_two_stand : (ℕ → Bool) → (ℕ → Bool) → ℕ → Bool
if_two_stand s t a = ltb 1 (size s 256) && t a

-- the containers whose word under the user key is this one; it is 0 where they have none
unfoldable pub with_user : List ℕ → ℕ → ℕ → Bool
with_user m word c = eqb (word_under (word_at m 0) (part_in m (container_start c))) word

-- the same, counted from a container on
unfoldable pub users_from : List ℕ → ℕ → ℕ → ℕ → Bool
users_from m word first i = with_user m word (first + i)

-- a memory that says entries, the row of its standing containers, and one of them
pub record AtContainer (m row : List ℕ) (a : ℕ) : Type 0 where
  pub formed : EntriesFormed m
  pub slots : bit_at row ≡ containers_stand m
  pub here : containers_stand m a ≡ true
  pub below : a < 256
