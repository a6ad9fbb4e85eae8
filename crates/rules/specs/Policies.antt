-- The policies of a set, one after another.
use Rattle.std.specs.Prelude.{◌≡◌, Bool, true, [], ◌∷◌, ℕ, ◌<◌, Option, Some, None}
use Rattle.bitrow.specs.Bit.{bit_at}
use Rattle.bitrow.specs.Set.{nothing, remove}
use Rattle.rules.specs.declared.Policies.{Policies}

-- those that are still to come
unfoldable pub to_come : Policies → ℕ → Bool
to_come s = bit_at (s.low ∷ s.high ∷ [])

-- one of those to come, and the others still are; or there is none
abbrev pub PolicySteps : Policies → Option ℕ → Policies → Type 0
PolicySteps s None t = to_come s ≡ nothing
PolicySteps s (Some q) t = (q < 128) × (to_come s q ≡ true) × (to_come t ≡ remove q (to_come s))
