-- What a container that comes makes of a memory: the image of the changed registry.
use mathlib.Core.Path.{◌≡◌, sym, ap, ◌∙◌}
use mathlib.Core.Bool.{true}
use mathlib.Core.List.{List}
use mathlib.Core.Option.{Option, none, some}
use Prim.Native.Nat.{ℕ, ◌<◌}
use lib.Seq.{set-get_or}
use Rattle.bitrow.specs.Bit.{bit_at}
use Rattle.bitrow.proofs.Sets.{point}
use Rattle.block.specs.Entry.{Container, container}
use Rattle.block.specs.Written.{valid_entry}
use Rattle.model.specs.Table.{at}
use Rattle.model.specs.Model.{container_slots, policy_slots, Model, Bits, with_container, matrix_bit, computed_bits}
use Rattle.model.specs.Registry.{Registry, change_container}
use Rattle.store.proofs.Carried.{holds_by}
use Rattle.formed.specs.Registry.{model_in, registry_in, image, ValidEntries, EntriesFormed}
use Rattle.formed.specs.Placed.{container_placed}
use Rattle.formed.proofs.Back.{image-written}
use Rattle.formed.proofs.Reading.{entries-hold}
use Rattle.formed.proofs.Placed.{container-placed-valid, container-placed-in, image-entries, image-says}
use Rattle.formed.proofs.Fits.{fits_by}
use Rattle.formed.proofs.StoredLaws.{Fit}
use Rattle.sets.specs.declared.PolicySets.{PolicySets}
use Rattle.sets.specs.Sets.{bits, SetsOf}
use Rattle.container_bits.specs.ContainerBits.{bits_set, holding_set}
use Rattle.container_bits.proofs.HoldingLaws.{holding-at}
use Rattle.clearing.proofs.BitLaws.{mixed, BitsOf, holds-bits, fits_bits}
use Rattle.container_changes.specs.OneContainer.{refreshed}

-- ---- a container's bits by the rules, from the entries as they stand

same-slot : (p : Model) (c : ℕ) → with_container p c (at p.containers c) ≡ p
unfolding with_container
same-slot p c = λ i. record { settings = p.settings; containers = set-get_or p.containers c none i; policies = p.policies }

-- the registry of entries p, container c's bits by the rules and the others as in `old`
abbrev by_rules : Bits → ℕ → Model → Registry
by_rules old c p = record { model = p; bits = mixed c (computed_bits p) old }

refreshed-is : (r : Registry) (c : ℕ) → refreshed r c ≡ by_rules r.bits c r.model
unfolding refreshed change_container
refreshed-is r c = ap (by_rules r.bits c) (same-slot r.model c)

pub refresh-done : (m : List ℕ) → EntriesFormed m → Fit m → (c : ℕ) → c < container_slots → {e row column selected allowed : List ℕ}
    → Fit row → BitsOf c (computed_bits (model_in m)) row column selected allowed → e ≡ bits_set m c row column selected allowed → e ≡ image (refreshed (registry_in m) c)
unfolding registry_in
refresh-done m ok fit c hc {e} few g q =
    let r = registry_in m in
    image-written (by_rules r.bits c r.model) e
    (holds_by (holds-bits r c hc (computed_bits r.model) g (entries-hold m ok)) q) (fits_by _ (fits_bits m c _ _ _ _ fit few) q)
    ∙ ap image (sym (refreshed-is r c))

-- ---- a container that comes

-- then its bits are set by the rules
refreshed-placed : (r : Registry) (c : ℕ) (o : Option Container) → refreshed (container_placed r c o) c ≡ change_container r c o
unfolding change_container container_placed
refreshed-placed r c o = refreshed-is (container_placed r c o) c

module _ (m : List ℕ) (ok : EntriesFormed m) (c : ℕ) (x : Container) (v : valid_entry (model_in m).settings (container x) ≡ true) {e : List ℕ}
    (q : e ≡ image (container_placed (registry_in m) c (some x))) where
  come-valid : ValidEntries (container_placed (registry_in m) c (some x)).model
  come-valid = container-placed-valid m ok c (some x) v

  -- with the slot's words alone the entries are formed, whatever the bits
  pub put_entries : EntriesFormed e
  put_entries = image-entries _ come-valid q

  pub put-done : {f : List ℕ} → f ≡ image (refreshed (registry_in e) c) → f ≡ image (change_container (registry_in m) c (some x))
  put-done s =
      s ∙ ap (λ (r : Registry). image (refreshed r c)) (image-says _ come-valid q (container-placed-in m ok c (some x)))
      ∙ ap image (refreshed-placed (registry_in m) c (some x))

-- ---- the rows that the rules give of a model's sets

module _ (p : Model) (c : ℕ) {row column selecting allowing : List ℕ} {sets : PolicySets} where
  pub bits-by-rules : bit_at row ≡ matrix_bit p c → bit_at column ≡ (λ a. matrix_bit p a c) → SetsOf p sets
      → bit_at selecting ≡ holding_set policy_slots (bits sets.selected) c → bit_at allowing ≡ holding_set policy_slots (bits sets.allowed) c → BitsOf c (computed_bits p) row column selecting allowing
  unfolding computed_bits
  bits-by-rules er ec g es ea = record {
    row = λ b h. point er b;
    column = λ a h. point ec a;
    selected = λ q h. point es q ∙ holding-at policy_slots (bits sets.selected) c q h ∙ point (g.selected.row q h) c;
    allowed = λ q h. point ea q ∙ holding-at policy_slots (bits sets.allowed) c q h ∙ point (g.allowed.row q h) c;
  }
