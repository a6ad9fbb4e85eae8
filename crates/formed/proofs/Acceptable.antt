-- The test `acceptable` and the statement `Acceptable`.
use mathlib.Core.Path.{◌≡◌, ap, ap₂}
use mathlib.Core.Bool.{Bool, true, not, ◌&&◌, ◌||◌}
use mathlib.Core.List.{List}
use mathlib.Core.Option.{none}
use Prim.Native.Nat.{ℕ, ◌<◌}
use lib.Dec.{ltb}
use lib.ListN.{length, get_or-eq_default}
use borrow.Author.Tests.{ltb-true}
use Rattle.block.specs.Entry.{container, policy}
use Rattle.block.specs.Written.{valid_settings, valid_entry}
use Rattle.model.specs.Table.{Table, all, at, stands, below}
use Rattle.model.specs.Model.{container_slots, policy_slots}
use Rattle.model.specs.Registry.{Registry}
use Rattle.store.specs.Layout.{selected_row, allowed_row, row_bit}
use Rattle.store.proofs.Cases.{by-ltb}
use Rattle.store.proofs.Image.{length-tab}
use Rattle.formed.specs.Words.{container_in, policy_in}
use Rattle.formed.specs.Registry.{model_in, bit_within, bits_in, registry_in, free_or, valid_container, valid_policy, of_standing, acceptable, Acceptable}
use Rattle.model.proofs.Consistent.{all-below, below_all}
use Rattle.model.proofs.Lists.{both}
use Rattle.formed.proofs.Tests.{implies, implied, all-each, each_all}

module _ (m n : ℕ) (s t : ℕ → Bool) (f : ℕ → ℕ → Bool) where
  -- bits that are set are bits of standing slots
  standing-test : ((i j : ℕ) → f i j ≡ true → (s i && t j) ≡ true) → of_standing m n s t f ≡ true
  standing-test h = all-below _ m (λ i l. all-below _ n (λ j k. implied (f i j) (s i && t j) (h i j)))

  test-standing : of_standing m n s t f ≡ true → (i j : ℕ) → i < m → j < n → f i j ≡ true → (s i && t j) ≡ true
  test-standing e i j l k =
      implies (f i j) (s i && t j)
      (below_all (λ j. not (f i j) || (s i && t j)) n j (below_all (λ i. all (λ j. not (f i j) || (s i && t j)) (below n)) m i e l) k)

-- every slot of a table passes, and so does what lies beyond it
table-each : {A : Type 0} (f : A → Bool) (t : Table A) → all (free_or f) t ≡ true → (i : ℕ) → free_or f (at t i) ≡ true
table-each f t e i =
    by-ltb (λ u. free_or f (at t i) ≡ true) i (length t)
    (λ l. each_all (free_or f) none t e i l)
    (λ l. ap (free_or f) (get_or-eq_default t none l))

pub acceptable-test : (r : Registry) → Acceptable r → acceptable r ≡ true
unfolding acceptable
acceptable-test r ok =
    let m = r.model in
    let c = stands m.containers in
    let p = stands m.policies in
    let v = ok.entries in
    ap₂ ◌&&◌ v.settings
    (ap₂ ◌&&◌ (all-each (valid_container m.settings) none m.containers (λ i l. v.container i))
    (ap₂ ◌&&◌ (all-each (valid_policy m.settings) none m.policies (λ i l. v.policy i))
    (ap₂ ◌&&◌ (standing-test container_slots container_slots c c r.bits.matrix ok.bits.matrix)
    (ap₂ ◌&&◌ (standing-test policy_slots container_slots p c r.bits.selected ok.bits.selected)
    (standing-test policy_slots container_slots p c r.bits.allowed ok.bits.allowed)))))

-- tables of their sizes, and no bit beyond them
pub record InTables (r : Registry) : Type 0 where
  pub containers : length r.model.containers ≡ container_slots
  pub policies : length r.model.policies ≡ policy_slots
  pub matrix : (a b : ℕ) → r.bits.matrix a b ≡ true → (a < container_slots) × (b < container_slots)
  pub selected : (q c : ℕ) → r.bits.selected q c ≡ true → (q < policy_slots) × (c < container_slots)
  pub allowed : (q c : ℕ) → r.bits.allowed q c ≡ true → (q < policy_slots) × (c < container_slots)

in-tables-acceptable : (r : Registry) → InTables r → acceptable r ≡ true → Acceptable r
unfolding acceptable
in-tables-acceptable r b e =
    let m = r.model in
    let c = stands m.containers in
    let p = stands m.policies in
    let e1 = both (valid_settings m.settings) _ e in
    let e2 = both (all (valid_container m.settings) m.containers) _ e1.1 in
    let e3 = both (all (valid_policy m.settings) m.policies) _ e2.1 in
    let e4 = both (of_standing container_slots container_slots c c r.bits.matrix) _ e3.1 in
    let e5 = both (of_standing policy_slots container_slots p c r.bits.selected) _ e4.1 in
    record {
      entries = record {
        containers = b.containers;
        policies = b.policies;
        settings = e1.0;
        container = table-each (λ x. valid_entry m.settings (container x)) m.containers e2.0;
        policy = table-each (λ x. valid_entry m.settings (policy x)) m.policies e3.0;
      };
      bits = record {
        matrix = λ i j t. let l = b.matrix i j t in test-standing container_slots container_slots c c r.bits.matrix e4.0 i j l.0 l.1 t;
        selected = λ i j t. let l = b.selected i j t in test-standing policy_slots container_slots p c r.bits.selected e5.0 i j l.0 l.1 t;
        allowed = λ i j t. let l = b.allowed i j t in test-standing policy_slots container_slots p c r.bits.allowed e5.1 i j l.0 l.1 t;
      };
    }

-- ---- tables read from a memory have their sizes, and bits beyond them are clear

module _ (m : List ℕ) where
  pub containers-size : length (registry_in m).model.containers ≡ container_slots
  unfolding registry_in model_in
  containers-size = length-tab container_slots (container_in m)

  pub policies-size : length (registry_in m).model.policies ≡ policy_slots
  unfolding registry_in model_in
  policies-size = length-tab policy_slots (policy_in m)

  bit-inside : (n x r y : ℕ) → bit_within m n x r y ≡ true → (x < n) × (y < container_slots)
  unfolding bit_within
  bit-inside n x r y e =
      let h = both (ltb x n) (ltb y container_slots && row_bit m r y) e in
      (ltb-true x n h.0, ltb-true y container_slots (both (ltb y container_slots) (row_bit m r y) h.1).0)

  pub registry-in-tables : InTables (registry_in m)
  unfolding registry_in bits_in
  registry-in-tables = record {
    containers = containers-size;
    policies = policies-size;
    matrix = λ a b. bit-inside container_slots a a b;
    selected = λ q c. bit-inside policy_slots q (selected_row q) c;
    allowed = λ q c. bit-inside policy_slots q (allowed_row q) c;
  }

  pub test-acceptable : acceptable (registry_in m) ≡ true → Acceptable (registry_in m)
  test-acceptable e = in-tables-acceptable (registry_in m) registry-in-tables e
