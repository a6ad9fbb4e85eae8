-- Sets joined to rows, policy by policy.
use Rattle.std.specs.Prelude.{◌≡◌, Bool, true, ◌&&◌, cond, List, ℕ, ◌-◌, ◌<◌, leb, length}
use Rattle.bitrow.specs.Set.{join}
use Rattle.model.specs.Model.{container_slots}
use Rattle.sets.specs.Sets.{bits}
use Rattle.rules.specs.Lets.{having, union}

-- s, with u joined if the test passes
unfoldable pub join_if : Bool → (ℕ → Bool) → (ℕ → Bool) → ℕ → Bool
join_if t s u = cond t (join s u) s

-- s moved up by n
unfoldable pub raised : ℕ → (ℕ → Bool) → ℕ → Bool
raised n s a = leb n a && s (a - n)

-- u is joined to the row of each container that w has
pub record Joined (w u : ℕ → Bool) (before after : List (List ℕ)) : Type 0 where
  pub size : length after ≡ length before
  pub row : (a : ℕ) → a < container_slots → bits after a ≡ join_if (w a) (bits before a) u

-- for each a of some, row a has what is in the sets in u of those of t below n whose set in s has a
pub record LinesAre (n : ℕ) (some t : ℕ → Bool) (s u : ℕ → ℕ → Bool) (lines : List (List ℕ)) : Type 0 where
  pub size : length lines ≡ container_slots
  pub row : (a : ℕ) → a < container_slots → some a ≡ true → bits lines a ≡ union (having t s a) u n
