-- "A new entry takes the lowest free place of its table": what the search finds, told without it.
use Rattle.std.specs.Prelude.{◌≡◌, true, false, ◌↔◌, ℕ, ◌<◌}
use Rattle.std.proofs.Math.Option.{none, some}
use Rattle.model.specs.Table.{Table, free, lowest_free}

module _ {A : Type 0} where
  pub record IsLowest (t : Table A) (i : ℕ) : Type 0 where
    pub itself : free t i ≡ true
    pub below : (j : ℕ) → j < i → free t j ≡ false

-- The search finds slot i exactly if i is the lowest free slot, and none exactly if no slot is free.
unfoldable pub FindsLowest : Type 1
FindsLowest =
    (A : Type 0) (t : Table A)
    → ((i : ℕ) → (lowest_free t ≡ some i) ↔ IsLowest t i) × ((lowest_free t ≡ none) ↔ ((i : ℕ) → free t i ≡ false))
