-- The policies of a direction read from a memory, and the sides of a row and of a column.
use mathlib.Core.Path.{◌≡◌, refl, sym, ap, ◌∙◌, fun_ext}
use mathlib.Core.Bool.{Bool, false, cond}
use mathlib.Core.List.{List, [], ◌∷◌}
use mathlib.Core.Option.{none, some}
use Prim.Native.Nat.{ℕ, zero, suc, ◌+◌, ◌*◌, ◌≤◌, ◌<◌}
use native.Mathlib.Decide.{dec_lt}
use native.Mathlib.Omega.{arith}
use lib.Dec.{eqb}
use lib.ListN.{length}
use Rattle.bitrow.specs.Bit.{bit, bit_at}
use Rattle.bitrow.specs.Set.{under, meet}
use Rattle.bitrow.proofs.Sets.{point}
use Rattle.block.specs.declared.Direction.{Direction}
use Rattle.block.specs.declared.Direction.TheVariants.{Ingress as ingress, Egress as egress}
use Rattle.block.specs.Reader.{direction_of}
use Rattle.block.specs.Written.{direction_number}
use Rattle.model.specs.Table.{on, at}
use Rattle.model.specs.Rules.{same_direction}
use Rattle.model.specs.Model.{policy_slots, Model}
use Rattle.store.specs.Layout.{policies_start, policy_words, policy_start, word_at}
use Rattle.store.proofs.Cases.{by_eqb}
use Rattle.formed.specs.Words.{policy_at, policy_in}
use Rattle.formed.specs.Registry.{model_in, registry_in, EntriesFormed}
use Rattle.formed.specs.Tests.{firsts}
use Rattle.formed.proofs.Acceptable.{policies-size}
use Rattle.formed.proofs.Reading.{policy-slot, policy-beyond, formed-direction}
use Rattle.formed.proofs.Standing.{meet-in, meet-out, two-words, passing, slots-word}
use Rattle.sets.specs.Sets.{bits}
use Rattle.rules.specs.declared.Sides.{Sides}
use Rattle.rules.specs.Lets.{union}
use Rattle.reach.specs.Sides.{SidesOf, Exchanged, direction_set, opposite}

-- ---- the policies of a direction

-- a direction word among 0, 1 and 2
same-direction-word : (d : Direction) (w : ℕ) → w ≤ 2 → eqb w (direction_number d) ≡ cond (eqb w 0) false (same_direction d (direction_of w))
unfolding direction_of same_direction
same-direction-word ingress zero h = refl
same-direction-word ingress (suc zero) h = refl
same-direction-word ingress (suc (suc zero)) h = refl
same-direction-word ingress (suc (suc (suc w))) h = absurd (omega arith)
same-direction-word egress zero h = refl
same-direction-word egress (suc zero) h = refl
same-direction-word egress (suc (suc zero)) h = refl
same-direction-word egress (suc (suc (suc w))) h = absurd (omega arith)

module _ (m : List ℕ) (ok : EntriesFormed m) (d : Direction) where
  abbrev has_direction : ℕ → Bool
  has_direction w = eqb w (direction_number d)

  abbrev those : ℕ → Bool
  those = passing m policies_start policy_words has_direction

  direction-at : (q : ℕ) → q < policy_slots → those q ≡ direction_set (model_in m) d q
  unfolding passing direction_set policy_in policy_at
  direction-at q h =
      same-direction-word d (word_at m (policy_start q)) (formed-direction m ok q h)
      ∙ by_eqb (λ t. cond t false (same_direction d (direction_of (word_at m (policy_start q))))
      ≡ on (λ p. same_direction d p.direction) (cond t none (some (policy_at m q)))) (word_at m (policy_start q)) 0 (λ e. refl) (λ e. refl)
      ∙ sym (ap (on (λ p. same_direction d p.direction)) (policy-slot m q h))

  direction-past : (q : ℕ) → policy_slots ≤ q → direction_set (model_in m) d q ≡ false
  unfolding direction_set
  direction-past q h = ap (on (λ p. same_direction d p.direction)) (policy-beyond m q h)

  word-at : (at w : ℕ) → bit w ≡ meet (firsts m at policy_words (direction_number d)) (under 64) → (i : ℕ) → i < 64
      → bit w i ≡ has_direction (word_at m (at + policy_words * i))
  unfolding firsts
  word-at at w e i h = point e i ∙ meet-in (firsts m at policy_words (direction_number d)) 64 i h

  pub direction-row : (a b : ℕ) → bit a ≡ meet (firsts m policies_start policy_words (direction_number d)) (under 64)
      → bit b ≡ meet (firsts m (policies_start + 64 * policy_words) policy_words (direction_number d)) (under 64)
      → bit_at (a ∷ b ∷ 0 ∷ 0 ∷ []) ≡ direction_set (model_in m) d
  direction-row a b e f =
      two-words those a b (slots-word m policies_start policy_words has_direction 0 a (word-at policies_start a e)) (slots-word m policies_start policy_words has_direction 64 b (word-at (policies_start + 64 * policy_words) b f))
      ∙ fun_ext (λ q. go q (dec_lt q policy_slots))
    where
      go : (q : ℕ) → Dec (q < policy_slots) → meet those (under policy_slots) q ≡ direction_set (model_in m) d q
      go q (yes l) = meet-in those policy_slots q l ∙ direction-at q l
      go q (no l) = meet-out those policy_slots q (omega arith) ∙ sym (direction-past q (omega arith))

-- the sides of a row and of a column
pub sides-exchanged : {m : Model} {d : Direction} {sel : List (List ℕ)} {s t : Sides} → SidesOf m d sel s → Exchanged s sel t → SidesOf m (opposite d) sel t
sides-exchanged {m} {d} {sel} {s} {t} g x = record {
  standing = ap bit_at x.standing ∙ g.standing;
  out = ap bit_at x.out ∙ g.back;
  back = ap bit_at x.back ∙ g.out ∙ ap (direction_set m) (twice d);
  chosen = x.chosen ∙ ap (λ r. union (bit_at r) (bits sel) policy_slots) (sym x.back);
}
  where
    twice : (d : Direction) → d ≡ opposite (opposite d)
    twice ingress = refl
    twice egress = refl

-- ---- what the laws of the rules ask of a memory's model

pub policies-length : (m : List ℕ) → length (model_in m).policies ≡ policy_slots
unfolding registry_in
policies-length m = policies-size m
