-- The registry: entries and stored bits, and how an accepted change sets them.
use Rattle.std.specs.Prelude.{◌≡◌, Bool, true, false, ◌&&◌, ◌||◌, cond, ℕ, ◌<◌, eqb}
use Rattle.std.specs.Bool.{beq}
use Rattle.std.proofs.Math.Option.{Option}
use Rattle.block.specs.declared.Direction.TheVariants.{Ingress as ingress, Egress as egress}
use Rattle.block.specs.Entry.{Container, Policy, Settings}
use Rattle.model.specs.Table.{all, on, at, stands, below}
use Rattle.model.specs.Rules.{selects, same_direction}
use Rattle.model.specs.Model.{container_slots, policy_slots, Model, empty, with_container, with_policy, Bits, computed_bits}

-- The registry ("the book"): entries, and the stored bits ("kept") beside them.
pub record Registry : Type 0 where
  pub model : Model
  pub bits : Bits

-- all bits by the rules
unfoldable pub computed : Model → Registry
computed m = record { model = m; bits = computed_bits m }

-- two tables of bits are the same on the first m rows and n columns
abbrev pub same_bits : ℕ → ℕ → (ℕ → ℕ → Bool) → (ℕ → ℕ → Bool) → Bool
same_bits m n f g = all (λ i. all (λ j. beq (f i j) (g i j)) (below n)) (below m)

-- Consistent ("in step"): "do all kept bits equal the rules?"
unfoldable pub consistent : Registry → Bool
consistent r =
    let s = r.bits in
    let t = computed_bits r.model in
    same_bits container_slots container_slots s.matrix t.matrix
    && (same_bits policy_slots container_slots s.selected t.selected && same_bits policy_slots container_slots s.allowed t.allowed)

-- two tables of bits agree on the first m rows and n columns
unfoldable pub Agree : ℕ → ℕ → (ℕ → ℕ → Bool) → (ℕ → ℕ → Bool) → Type 0
Agree m n f g = (i j : ℕ) → i < m → j < n → f i j ≡ g i j

-- every stored bit equals the rules
pub record FollowsRules (r : Registry) : Type 0 where
  pub matrix : Agree container_slots container_slots r.bits.matrix (computed_bits r.model).matrix
  pub selected : Agree policy_slots container_slots r.bits.selected (computed_bits r.model).selected
  pub allowed : Agree policy_slots container_slots r.bits.allowed (computed_bits r.model).allowed

-- "no kept bit set for an empty place": every bit set is of standing slots
pub record BitsStand (r : Registry) : Type 0 where
  pub matrix : (a b : ℕ) → r.bits.matrix a b ≡ true → (stands r.model.containers a && stands r.model.containers b) ≡ true
  pub selected : (q c : ℕ) → r.bits.selected q c ≡ true → (stands r.model.policies q && stands r.model.containers c) ≡ true
  pub allowed : (q c : ℕ) → r.bits.allowed q c ≡ true → (stands r.model.policies q && stands r.model.containers c) ≡ true

-- ---- the changes: "an accepted change sets these bits by the rules from the entries as they then stand, and changes no other
-- kept bit"

-- by the rule where named, else as before
unfoldable pub set_where : (ℕ → ℕ → Bool) → (ℕ → ℕ → Bool) → (ℕ → ℕ → Bool) → ℕ → ℕ → Bool
set_where named rule old i j = cond (named i j) (rule i j) (old i j)

-- "for a container at c, row c, column c and c's bit in each policy's sets"
unfoldable pub change_container : Registry → ℕ → Option Container → Registry
change_container r c x =
    let m = with_container r.model c x in
    let t = computed_bits m in
    record {
      model = m;
      bits = record {
        matrix = set_where (λ a b. eqb a c || eqb b c) t.matrix r.bits.matrix;
        selected = set_where (λ q b. eqb b c) t.selected r.bits.selected;
        allowed = set_where (λ q b. eqb b c) t.allowed r.bits.allowed;
      };
    }

-- "the matrix rows, if egress, or columns, if ingress, of the containers its select part matches"
unfoldable pub touches : Policy → Container → Container → Bool
touches p x y = (same_direction egress p.direction && selects p x) || (same_direction ingress p.direction && selects p y)

-- "between standing containers"
unfoldable pub touched : Model → Policy → ℕ → ℕ → Bool
touched m p a b = on (λ x. on (λ y. touches p x y) (at m.containers b)) (at m.containers a)

-- "for a policy, its two sets and the matrix rows or columns": policy p, which comes to slot q or goes from it
unfoldable pub change_policy : Registry → ℕ → Policy → Option Policy → Registry
change_policy r q p x =
    let m = with_policy r.model q x in
    let t = computed_bits m in
    record {
      model = m;
      bits = record {
        matrix = set_where (touched m p) t.matrix r.bits.matrix;
        selected = set_where (λ i b. eqb i q) t.selected r.bits.selected;
        allowed = set_where (λ i b. eqb i q) t.allowed r.bits.allowed;
      };
    }

-- "Open leaves an empty book under its settings."
unfoldable pub opened : Settings → Registry
opened s = record { model = empty s; bits = record { matrix = λ a b. false; selected = λ q b. false; allowed = λ q b. false } }

-- "Rebuild sets every kept bit by the rules; a bit of an empty place is clear."
unfoldable pub rebuilt : Registry → Registry
rebuilt r = computed r.model
