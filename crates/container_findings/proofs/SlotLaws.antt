-- At which slots there can be a finding of each kind.
use mathlib.Core.Path.{◌≡◌, refl, sym, ◌∙◌}
use mathlib.Core.Bool.{Bool, true, false, ◌&&◌, false≢true}
use mathlib.Core.List.{List}
use Prim.Native.Nat.{ℕ, ◌<◌}
use native.Mathlib.Omega.{arith}
use lib.Dec.{eqb}
use Rattle.bitrow.specs.Bit.{bit_at}
use Rattle.bitrow.proofs.Sets.{point, nothing-at}
use Rattle.model.specs.Findings.{all_reachable, all_isolated}
use Rattle.store.specs.Layout.{word_at}
use Rattle.formed.specs.Registry.{model_in, bits_in, EntriesFormed}
use Rattle.container_findings.specs.Rows.{shown_at, containers_stand}
use Rattle.container_findings.specs.Views.{told_of, SlotsOfKind}
use Rattle.container_findings.proofs.KindRows.{at_1, at-2, no-container}
use Rattle.container_findings.proofs.ContainerWords.{system-unset}
use Rattle.container_findings.proofs.ContainerRows.{system-none}

-- of a test that asks of b that it is 0, the same at 0
at-zero : (s p q : Bool) → (s && (p && q)) ≡ true → (s && q) ≡ true
at-zero true true q e = e
at-zero true false q e = absurd (false≢true e)
at-zero false p q e = e

-- a finding of kinds 1 to 4 is at a container that stands
stands-at : (m : List ℕ) (k a b : ℕ) → k < 5 → shown_at m k a b ≡ true → containers_stand m a ≡ true
stands-at m k a b l h = go (containers_stand m a) refl
  where
    go : (t : Bool) → containers_stand m a ≡ t → t ≡ true
    go true e = refl
    go false e = absurd (false≢true (sym (nothing-at b) ∙ point (no-container m k a l e) b ∙ h))

-- where there is a finding of kinds 1 and 2, they tell of the container
module _ (m : List ℕ) (a b : ℕ) where
  pub told_by-1 : shown_at m 1 a b ≡ true → told_of m 1 a ≡ true
  unfolding told_of
  told_by-1 h = at_1 m a 0 ∙ at-zero (containers_stand m a) (eqb b 0) (all_reachable (model_in m) (bits_in m) a) (sym (at_1 m a b) ∙ h)

  pub told_by-2 : shown_at m 2 a b ≡ true → told_of m 2 a ≡ true
  unfolding told_of
  told_by-2 h = at-2 m a 0 ∙ at-zero (containers_stand m a) (eqb b 0) (all_isolated (model_in m) (bits_in m) a) (sym (at-2 m a b) ∙ h)

module _ (m : List ℕ) {row : List ℕ} where
  pub slots-1 : bit_at row ≡ told_of m 1 → SlotsOfKind m 1 row
  slots-1 e = record { slot = λ a b h. point e a ∙ told_by-1 m a b h }

  pub slots-2 : bit_at row ≡ told_of m 2 → SlotsOfKind m 2 row
  slots-2 e = record { slot = λ a b h. point e a ∙ told_by-2 m a b h }

  -- where no system label is set there are none
  pub slots-unset : EntriesFormed m → word_at m 1 ≡ 0 → SlotsOfKind m 4 row
  slots-unset ok z = record {
    slot = λ a b h. (let s = stands-at m 4 a b (omega arith) h in absurd (false≢true (sym (nothing-at b) ∙ point (system-none m a s (system-unset m ok a s z)) b ∙ h)));
  }

  -- all containers
  pub slots-standing : (k : ℕ) → k < 5 → bit_at row ≡ containers_stand m → SlotsOfKind m k row
  slots-standing k l e = record { slot = λ a b h. point e a ∙ stands-at m k a b l h }
