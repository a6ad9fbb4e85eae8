-- The written rules over sets: policies are numbers below n, those of a direction a set, each with the set that it selects and the
-- set that it allows.
use Rattle.std.specs.Prelude.{◌≡◌, Bool, not, ◌&&◌, ◌||◌, Option, Some, None, List, ℕ, eqb}
use Rattle.bitrow.specs.Bit.{bit_at}
use Rattle.bitrow.specs.Set.{nothing, some}

-- those of t whose set has a
unfoldable pub having : (ℕ → Bool) → (ℕ → ℕ → Bool) → ℕ → ℕ → Bool
having t s a q = t q && s q a

-- what is in the sets of those of t below n
unfoldable pub union : (ℕ → Bool) → (ℕ → ℕ → Bool) → ℕ → ℕ → Bool
union t s n j = some (having t s j) n

-- what is found of those of t below n whose set in s has a: whether there are any, and what is in their sets in u
pub record Picks (n : ℕ) (t : ℕ → Bool) (s u : ℕ → ℕ → Bool) (a : ℕ) (x : Bool) (y : ℕ → Bool) : Type 0 where
  pub any : x ≡ union t s n a
  pub joined : y ≡ union (having t s a) u n

-- the row that was picked; nothing where there is none
abbrev pub picked : Option (List ℕ) → ℕ → Bool
picked None = nothing
picked (Some r) = bit_at r

-- no policy of w selects c, or some policy of w selects c and allows o
unfoldable pub sets_let : ℕ → (ℕ → Bool) → (ℕ → ℕ → Bool) → (ℕ → ℕ → Bool) → ℕ → ℕ → Bool
sets_let n w sel alw c o = not (union w sel n c) || union (having w sel c) alw n o

-- the same, of o first
unfoldable pub sets_let_by : ℕ → (ℕ → Bool) → (ℕ → ℕ → Bool) → (ℕ → ℕ → Bool) → ℕ → ℕ → Bool
sets_let_by n w sel alw o c = sets_let n w sel alw c o

-- b is in the line of a: both stand (s), and b is a, or the policies of w let a have b and those of v let b have a
unfoldable pub line : ℕ → (ℕ → Bool) → (ℕ → Bool) → (ℕ → Bool) → (ℕ → ℕ → Bool) → (ℕ → ℕ → Bool) → ℕ → ℕ → Bool
line n s w v sel alw a b = s a && (s b && (eqb a b || (sets_let n w sel alw a b && sets_let n v sel alw b a)))
