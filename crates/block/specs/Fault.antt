-- Where a test finds fault first, if anywhere.
use Rattle.std.specs.Prelude.{Bool, true, false, List, [], ◌∷◌, ℕ, zero, suc, ◌+◌, ◌-◌, Option, None, Some}
use Rattle.std.specs.Option.{option_or}

-- a fault at position p, unless the test holds
abbrev pub unless : Bool → ℕ → Option ℕ
unless true p = None
unless false p = Some p

-- the first fault among f i, f (i + 1), .., n of them
abbrev pub first_from : (ℕ → Option ℕ) → ℕ → ℕ → Option ℕ
first_from f i zero = None
first_from f i (suc n) = option_or (f i) (first_from f (i + 1) n)

-- the first fault among f i for from ≤ i < to
abbrev pub first_between : (ℕ → Option ℕ) → ℕ → ℕ → Option ℕ
first_between f from to = first_from f from (to - from)

module _ {A : Type 0} where
  -- the first fault that f finds in a list
  abbrev pub first_in : (A → Option ℕ) → List A → Option ℕ
  first_in f [] = None
  first_in f (x ∷ xs) = option_or (f x) (first_in f xs)

-- A field that a check asks about: the byte at which it begins, and whether it is as the check wants it.
pub record Field : Type 0 where
  pub at : ℕ
  pub fits : Bool

abbrev pub field : ℕ → Bool → Field
field p t = record { at = p; fits = t }

-- the first of these fields that is at fault
abbrev pub field_fault : List Field → Option ℕ
field_fault fs = first_in (λ x. unless x.fits x.at) fs
