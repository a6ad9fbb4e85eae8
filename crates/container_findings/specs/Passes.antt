-- What the rows of some containers leave of all: those that each of them reaches, and those that none of them reaches but itself.
use Rattle.std.specs.Prelude.{◌≡◌, Bool, not, ◌&&◌, ◌||◌, List, ℕ, ◌/◌, ◌%◌, eqb}
use Rattle.bitrow.specs.Bit.{bit, bit_at}
use Rattle.bitrow.specs.Set.{part}
use Rattle.model.specs.Model.{Bits}
use Rattle.formed.specs.Registry.{bits_in}
use Rattle.container_findings.specs.declared.Left.{Left}

-- the numbers of a row that are in its word n, which is this one
unfoldable pub word_set : ℕ → ℕ → ℕ → Bool
word_set n word j = eqb (j / 64) n && bit word (j % 64)

-- those of s whose test holds of all of w
unfoldable pub narrowed : (ℕ → ℕ → Bool) → (ℕ → Bool) → (ℕ → Bool) → ℕ → Bool
narrowed f w s a = s a && part w (f a)

-- c reaches a
unfoldable pub reached_by : Bits → ℕ → ℕ → Bool
reached_by s a c = s.matrix c a

-- c is a, or does not reach it
unfoldable pub spares : Bits → ℕ → ℕ → Bool
spares s a c = eqb c a || not (s.matrix c a)

-- left are those that all containers of w reach, and those that all of them spare
pub record Passed (m : List ℕ) (w : ℕ → Bool) (before after : Left) : Type 0 where
  pub by_all : bit_at after.by_all ≡ narrowed (reached_by (bits_in m)) w (bit_at before.by_all)
  pub by_none : bit_at after.by_none ≡ narrowed (spares (bits_in m)) w (bit_at before.by_none)
