-- A row of the matrix from what was gathered.
use mathlib.Core.Path.{◌≡◌, refl, ap, ◌∙◌}
use mathlib.Core.Bool.{Bool, true, false, cond}
use Prim.Native.Nat.{ℕ, ◌<◌}
use Rattle.bitrow.specs.Bit.{bit_at}
use Rattle.bitrow.specs.Set.{nothing, meet, join, less, insert}
use Rattle.bitrow.proofs.Sets.{point}
use Rattle.block.specs.declared.Direction.TheVariants.{Ingress as ingress, Egress as egress}
use Rattle.model.specs.Model.{container_slots, policy_slots, Model, matrix_bit}
use Rattle.sets.specs.Sets.{bits}
use Rattle.rules.specs.Lets.{union, Picks, sets_let, sets_let_by}
use Rattle.rules.proofs.Unions.{lets-chosen, lets-free, lets_by, line-meet, line-free}
use Rattle.reach.specs.Sides.{direction_set}
use Rattle.reach.proofs.Model.{row-law}
use Rattle.matrix_rows.specs.declared.Gathered.{Gathered}
use Rattle.matrix_rows.specs.Rows.{meet_if, Gathers}

module _ (s u : ℕ → Bool) where
  pub meet-yes : {t : Bool} → t ≡ true → meet_if t s u ≡ meet s u
  unfolding meet_if
  meet-yes e = ap (λ t. cond t (meet s u) s) e

  pub meet-no : {t : Bool} → t ≡ false → meet_if t s u ≡ s
  unfolding meet_if
  meet-no e = ap (λ t. cond t (meet s u) s) e

-- ---- a row of the matrix from them

module _ {m : Model} {some : ℕ → Bool} {g : Gathered} (x : Gathers m some g) (a : ℕ) where
  -- of a free slot
  pub free-row : bit_at g.standing a ≡ false → nothing ≡ matrix_bit m a
  free-row f = line-free policy_slots (bit_at g.standing) _ _ _ _ a f ∙ row-law m x.slots x.sets x.standing refl refl a

  -- of one of some
  pub gathered-row : {there : ℕ → Bool} → a < container_slots → some a ≡ true → bit_at g.standing a ≡ true → there ≡ meet_if (bit_at g.bound a) (bit_at g.standing) (bits g.outs a)
      → insert a (join (less there (bit_at g.chosen)) (meet there (bits g.backs a))) ≡ matrix_bit m a
  gathered-row {there} l k f e =
      ap (insert a) (lets_by there back x.chosen ∙ ap (λ t. meet t (sets_let_by policy_slots (direction_set m ingress) (bits g.sets.selected) (bits g.sets.allowed) a)) (e ∙ go (bit_at g.bound a) refl))
      ∙ line-meet policy_slots (bit_at g.standing) _ _ _ _ a f ∙ row-law m x.slots x.sets x.standing refl refl a
    where
      out : Picks policy_slots (direction_set m egress) (bits g.sets.selected) (bits g.sets.allowed) a (bit_at g.bound a) (bits g.outs a)
      out = record { any = point x.bound a; joined = x.out.row a l k }

      back : Picks policy_slots (direction_set m ingress) (bits g.sets.allowed) (bits g.sets.selected) a (union (direction_set m ingress) (bits g.sets.allowed) policy_slots a) (bits g.backs a)
      back = record { any = refl; joined = x.back.row a l k }

      go : (t : Bool) → bit_at g.bound a ≡ t
          → meet_if (bit_at g.bound a) (bit_at g.standing) (bits g.outs a) ≡ meet (bit_at g.standing) (sets_let policy_slots (direction_set m egress) (bits g.sets.selected) (bits g.sets.allowed) a)
      go true d = meet-yes _ (bits g.outs a) d ∙ lets-chosen _ out d
      go false d = meet-no _ (bits g.outs a) d ∙ lets-free _ out d
