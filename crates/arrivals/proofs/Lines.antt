-- What the policies of a direction that came select: a union over all slots is the test over the standing ones.
use mathlib.Core.Path.{◌≡◌, sym, ap, ◌∙◌, fun_ext}
use mathlib.Core.Bool.{Bool, true, ◌&&◌, and_assoc, and-false}
use mathlib.Core.List.{List}
use mathlib.Core.Option.{Option, none, some as just}
use Prim.Native.Nat.{ℕ}
use lib.ListN.{length}
use Rattle.bitrow.specs.Set.{meet, join, some}
use Rattle.bitrow.proofs.Tests.{some-cong}
use Rattle.block.specs.declared.Direction.{Direction}
use Rattle.block.specs.Entry.{Policy}
use Rattle.model.specs.Table.{on, at, stands}
use Rattle.model.specs.Rules.{same_direction, selects}
use Rattle.model.specs.Model.{policy_slots, Model, selected_bit}
use Rattle.model.specs.Settled.{selects_as, some_came_selects}
use Rattle.sets.specs.Sets.{bits, RowsAre}
use Rattle.rules.specs.Lets.{having, union}
use Rattle.reach.specs.Sides.{direction_set}
use Rattle.reach.proofs.Model.{any-standing}

module _ (m : Model) (d : Direction) (qs : ℕ → Bool) where
  abbrev came_selects : ℕ → ℕ → Bool
  came_selects a q = stands m.policies q && (qs q && selects_as d m q a)

  slot-selects : (a q : ℕ) → ((qs q && direction_set m d q) && selected_bit m q a) ≡ came_selects a q
  unfolding selects_as direction_set selected_bit
  slot-selects a q = go (at m.policies q)
    where
      go : (o : Option Policy) → ((qs q && on (λ p. same_direction d p.direction) o) && on (λ p. on (λ x. selects p x) (at m.containers a)) o)
          ≡ (on (λ p. true) o && (qs q && on (λ p. same_direction d p.direction && on (selects p) (at m.containers a)) o))
      go none = and-false (qs q && _)
      go (just p) = and_assoc (qs q) (same_direction d p.direction) (on (selects p) (at m.containers a))

  union-came : (n : ℕ) → length m.policies ≡ n → {sel : List (List ℕ)} → RowsAre n (selected_bit m) sel
      → union (meet qs (direction_set m d)) (bits sel) n ≡ some_came_selects d m qs
  unfolding union having meet some_came_selects
  union-came n size {sel} rows = fun_ext (λ a.
      some-cong _ (came_selects a) n (λ q h. ap (λ (s : ℕ → Bool). (qs q && direction_set m d q) && s a) (rows.row q h) ∙ slot-selects a q)
      ∙ ap (some (came_selects a)) (sym size)
      ∙ sym (any-standing (λ q. qs q && selects_as d m q a) m.policies))

  -- `either(containers, union_of(both(policies, of_direction), selected))`
  pub line-came : length m.policies ≡ policy_slots → {sel : List (List ℕ)} → RowsAre policy_slots (selected_bit m) sel → (cs : ℕ → Bool) {there them chosen line : ℕ → Bool}
      → there ≡ direction_set m d → them ≡ meet qs there → chosen ≡ union them (bits sel) policy_slots → line ≡ join cs chosen → line ≡ join cs (some_came_selects d m qs)
  line-came size {sel} rows cs e f g h =
      h ∙ ap (join cs) (g ∙ ap (λ (t : ℕ → Bool). union t (bits sel) policy_slots) (f ∙ ap (meet qs) e) ∙ union-came policy_slots size rows)
