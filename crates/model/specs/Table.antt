-- Tables of slots, and what is asked of lists.
use Rattle.std.specs.Prelude.{Bool, true, false, not, ◌&&◌, ◌||◌, cond, List, [], ◌∷◌, ℕ, zero, suc, ◌+◌, get_or}
use Rattle.std.proofs.Math.Option.{Option, none, some}

-- "each place empty or with an entry"
abbrev pub Table : Type 0 → Type 0
Table A = List (Option A)

module _ {A : Type 0} where
  abbrev pub any : (A → Bool) → List A → Bool
  any f [] = false
  any f (x ∷ xs) = f x || any f xs

  abbrev pub all : (A → Bool) → List A → Bool
  all f [] = true
  all f (x ∷ xs) = f x && all f xs

  abbrev pub count : (A → Bool) → List A → ℕ
  count f [] = 0
  count f (x ∷ xs) = cond (f x) 1 0 + count f xs

  -- those of a list that pass
  abbrev pub filter : (A → Bool) → List A → List A
  filter f [] = []
  filter f (x ∷ xs) = cond (f x) (x ∷ filter f xs) (filter f xs)

  -- the first of a list that passes
  abbrev pub first : (A → Bool) → List A → Option A
  first f [] = none
  first f (x ∷ xs) = cond (f x) (some x) (first f xs)

module _ {A : Type 0} where
  -- a test of the entry in a slot; a free slot does not pass
  abbrev pub on : (A → Bool) → Option A → Bool
  on f none = false
  on f (some x) = f x

  abbrev pub is_free : Option A → Bool
  is_free none = true
  is_free (some x) = false

  -- what slot i holds
  abbrev pub at : Table A → ℕ → Option A
  at t i = get_or t i none

  -- an entry stands at slot i
  abbrev pub stands : Table A → ℕ → Bool
  stands t i = on (λ x. true) (at t i)

  -- slot i lies within the table and is free
  abbrev pub free : Table A → ℕ → Bool
  free [] i = false
  free (x ∷ t) zero = is_free x
  free (x ∷ t) (suc i) = free t i

  -- the standing slots, rising; the first slot of t is number i
  abbrev pub standing_from : ℕ → Table A → List ℕ
  standing_from i [] = []
  standing_from i (none ∷ t) = standing_from (suc i) t
  standing_from i (some x ∷ t) = i ∷ standing_from (suc i) t

  abbrev pub standing : Table A → List ℕ
  standing t = standing_from 0 t

-- one further on
abbrev pub next : Option ℕ → Option ℕ
next none = none
next (some i) = some (suc i)

-- "The search for it is defined as: this place if it is free, else the search among the rest."
module _ {A : Type 0} where
  abbrev pub lowest_free : Table A → Option ℕ
  lowest_free [] = none
  lowest_free (none ∷ t) = some 0
  lowest_free (some x ∷ t) = next (lowest_free t)

  -- no slot is free
  abbrev pub full : Table A → Bool
  full t = not (any is_free t)

-- n numbers, from i on
abbrev pub up_from : ℕ → ℕ → List ℕ
up_from i zero = []
up_from i (suc n) = i ∷ up_from (suc i) n

-- the numbers below n
abbrev pub below : ℕ → List ℕ
below n = up_from 0 n
