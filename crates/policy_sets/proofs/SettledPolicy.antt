-- The two sets of a policy, stored: the image of the registry with them, whose entries are as they were.
use mathlib.Core.Path.{◌≡◌, refl, sym, ap, ap₂, ◌∙◌, fun_ext}
use mathlib.Core.Bool.{Bool, true, ◌&&◌, cond}
use mathlib.Core.List.{List}
use Prim.Native.Nat.{ℕ, ◌<◌}
use native.Mathlib.Decide.{ℕ_discrete}
use native.Mathlib.Omega.{arith}
use lib.Dec.{eqb}
use borrow.Author.Tests.{eq-eqb, ne_eqb}
use Rattle.bitrow.specs.Bit.{bit_at}
use Rattle.bitrow.proofs.Sets.{point}
use Rattle.model.specs.Table.{stands}
use Rattle.model.specs.Model.{container_slots, policy_slots, Model, selected_bit, allowed_bit, computed_bits}
use Rattle.model.specs.Registry.{Registry, computed}
use Rattle.model.proofs.Lists.{both}
use Rattle.model.proofs.Clear.{computed-clear}
use Rattle.store.specs.declared.Part.{Part}
use Rattle.store.specs.declared.Part.TheVariants.{Select, Allow}
use Rattle.store.specs.Layout.{offset_of, row_count, selected_row, allowed_row}
use Rattle.store.specs.Contents.{Holds}
use Rattle.store.specs.Memory.{row_set, with_row}
use Rattle.store.proofs.Cases.{by_eqb}
use Rattle.store.proofs.Carried.{SameContents, holds_as, holds_by, holds_row}
use Rattle.formed.specs.Registry.{model_in, bits_in, set_in, registry_in, stored_bit, contents_of, image, ValidEntries, EntriesFormed}
use Rattle.formed.proofs.Acceptable.{InTables, registry-in-tables}
use Rattle.formed.proofs.Fits.{fits_by, fits_row}
use Rattle.formed.proofs.StoredLaws.{Fit, stored-selected, stored-allowed, stored-cong}
use Rattle.formed.proofs.Back.{image-written}
use Rattle.formed.proofs.Reading.{entries-hold}
use Rattle.formed.proofs.Placed.{image-entries, image-model, image-says}
use Rattle.entries.proofs.Trials.{container-below, policy-below}
use Rattle.sets.specs.Sets.{part_set, PartsWithin}
use Rattle.sets.proofs.Candidates.{selects-within, allows-within, selected-set, allowed-set}
use Rattle.policy_sets.specs.PolicySets.{settled, SetsStored}

-- ---- what a part matches

pub part-within : (m : List ℕ) → EntriesFormed m → (p : Part) → PartsWithin m (offset_of p)
part-within m ok Select = selects-within m ok
part-within m ok Allow = allows-within m ok

pub part_set-is : (m : List ℕ) (q : ℕ) → q < policy_slots → (p : Part) → part_set m (stands (model_in m).containers) (offset_of p) q ≡ set_in (computed_bits (model_in m)) p q
unfolding computed_bits
part_set-is m q h Select = selected-set m q h
part_set-is m q h Allow = allowed-set m q h

-- ---- one row of a table made s

abbrev made : ℕ → (ℕ → Bool) → (ℕ → ℕ → Bool) → ℕ → ℕ → Bool
made q s f i = cond (eqb i q) s (f i)

made-here : (q : ℕ) (s : ℕ → Bool) (f : ℕ → ℕ → Bool) (y : ℕ) → made q s f q y ≡ s y
made-here q s f y = ap (λ t. cond t s (f q) y) (eq-eqb q q refl)

made_other : (q : ℕ) (s : ℕ → Bool) (f : ℕ → ℕ → Bool) (i y : ℕ) → (i ≡ q → ⊥) → f i y ≡ made q s f i y
made_other q s f i y n = sym (ap (λ u. cond u s (f i) y) (ne_eqb i q n))

-- a set bit of it is one of s or one that was set
made-set : (P : ℕ → ℕ → Type 0) (q : ℕ) (s : ℕ → Bool) (f : ℕ → ℕ → Bool) → ((y : ℕ) → s y ≡ true → P q y) → ((i y : ℕ) → f i y ≡ true → P i y)
    → (i y : ℕ) → made q s f i y ≡ true → P i y
made-set P q s f here others i y e = go (ℕ_discrete i q)
  where
    go : Dec (i ≡ q) → P i y
    go (yes h) = rw h (here y (sym (made-here q s f y) ∙ ap (λ j. made q s f j y) (sym h) ∙ e))
    go (no n) = others i y (made_other q s f i y n ∙ e)

-- the registry whose sets of policy q are these
abbrev with_sets : Registry → ℕ → (ℕ → Bool) → (ℕ → Bool) → Registry
with_sets r q s a = record { model = r.model; bits = record { matrix = r.bits.matrix; selected = made q s r.bits.selected; allowed = made q a r.bits.allowed } }

-- ---- the rows written

-- a row made s of a registry's memory is the change of its bits that makes the row s and leaves the others
row-changed : (r r' : Registry) (k : ℕ) (s : ℕ → Bool) → r.model ≡ r'.model → ((y : ℕ) → stored_bit r'.bits k y ≡ s y)
    → ((x y : ℕ) → x < row_count → (x ≡ k → ⊥) → stored_bit r.bits x y ≡ stored_bit r'.bits x y) → SameContents (with_row (contents_of r) k s) (contents_of r')
unfolding contents_of with_row
row-changed r r' k s same here others = record {
  words = λ i l. ap (λ (m : Model). (contents_of (record { model = m; bits = r.bits })).words i) same;
  bits = λ x y hx hy. by_eqb (λ t. cond t s (stored_bit r.bits x) y ≡ stored_bit r'.bits x y) x k
      (λ e. sym (here y) ∙ ap (λ (j : ℕ). stored_bit r'.bits j y) (sym e)) (λ n. others x y hx n);
}

module _ (r : Registry) (q : ℕ) (hq : q < policy_slots) where
  selected-written : {m : List ℕ} → Holds m (contents_of r) → (row : List ℕ) → Holds (row_set m (selected_row q) row) (contents_of (with_sets r q (bit_at row) (r.bits.allowed q)))
  selected-written h row =
      let b = r.bits in
      let b' = (with_sets r q (bit_at row) (b.allowed q)).bits in
      holds_as (holds_row h (selected_row q) row (omega arith)) _ (row-changed r _ (selected_row q) (bit_at row) refl
      (λ y. point (stored-selected b' q hq) y ∙ made-here q (bit_at row) b.selected y)
      (λ x y l n. stored-cong b b' x y l (λ a _ _. refl) (λ i _ e. made_other q (bit_at row) b.selected i y (λ z. n (e ∙ ap selected_row z))) (λ i _ _. same b.allowed i y)))
    where
      same : (f : ℕ → ℕ → Bool) (i y : ℕ) → f i y ≡ made q (f q) f i y
      same f i y = by_eqb (λ t. f i y ≡ cond t (f q) (f i) y) i q (λ e. ap (λ j. f j y) e) (λ e. refl)

  allowed-written : {m : List ℕ} (s a : ℕ → Bool) → Holds m (contents_of (with_sets r q s a)) → (row : List ℕ) → Holds (row_set m (allowed_row q) row) (contents_of (with_sets r q s (bit_at row)))
  allowed-written s a h row =
      let b = (with_sets r q s a).bits in
      let b' = (with_sets r q s (bit_at row)).bits in
      holds_as (holds_row h (allowed_row q) row (omega arith)) _ (row-changed (with_sets r q s a) _ (allowed_row q) (bit_at row) refl
      (λ y. point (stored-allowed b' q hq) y ∙ made-here q (bit_at row) r.bits.allowed y)
      (λ x y l n. stored-cong b b' x y l (λ a _ _. refl) (λ i _ _. refl) (λ i _ e. other i y (λ z. n (e ∙ ap allowed_row z)))))
    where
      other : (i y : ℕ) → (i ≡ q → ⊥) → made q a r.bits.allowed i y ≡ made q (bit_at row) r.bits.allowed i y
      other i y n = sym (made_other q a r.bits.allowed i y n) ∙ made_other q (bit_at row) r.bits.allowed i y n

-- ---- what `settle` leaves

module _ (m : List ℕ) (ok : EntriesFormed m) (q : ℕ) (hq : q < policy_slots) where
  abbrev held : Registry
  held = registry_in m

  pub settled-image : Fit m → (s a : List ℕ) → Fit s → Fit a → {e1 e2 : List ℕ} → e1 ≡ row_set m (selected_row q) s → e2 ≡ row_set e1 (allowed_row q) a → bit_at s ≡ selected_bit (model_in m) q → bit_at a ≡ allowed_bit (model_in m) q
      → e2 ≡ image (settled held q)
  unfolding settled registry_in
  settled-image fit s a fits fita {e1} {e2} f1 f2 es ea =
      let h1 = holds_by (selected-written held q hq (entries-hold m ok) s) f1 in
      image-written (with_sets held q (bit_at s) (bit_at a)) e2 (holds_by (allowed-written held q hq (bit_at s) (held.bits.allowed q) h1 a) f2)
      (fits_by _ (fits_row e1 (allowed_row q) a (fits_by _ (fits_row m (selected_row q) s fit fits) f1) fita) f2)
      ∙ ap₂ (λ (x y : ℕ → Bool). image (with_sets held q x y)) es ea

  -- a set by the entries has standing slots only, which lie within their tables
  within : (x c : ℕ) → (stands (model_in m).policies x && stands (model_in m).containers c) ≡ true → (x < policy_slots) × (c < container_slots)
  within x c e = let h = both (stands (model_in m).policies x) (stands (model_in m).containers c) e in (policy-below m x h.0, container-below m c h.1)

  settled-in : InTables (settled held q)
  unfolding settled registry_in computed computed_bits
  settled-in =
      let t = registry-in-tables m in
      let b = computed-clear (model_in m) in
      record {
        containers = t.containers;
        policies = t.policies;
        matrix = t.matrix;
        selected = made-set (λ i c. (i < policy_slots) × (c < container_slots)) q (selected_bit (model_in m) q) (bits_in m).selected (λ c e. within q c (b.selected q c e)) t.selected;
        allowed = made-set (λ i c. (i < policy_slots) × (c < container_slots)) q (allowed_bit (model_in m) q) (bits_in m).allowed (λ c e. within q c (b.allowed q c e)) t.allowed;
      }

  settled-valid : ValidEntries (settled held q).model
  unfolding settled registry_in
  settled-valid = ok.entries

  module _ {e : List ℕ} (f : e ≡ image (settled held q)) where
    pub settled-entries : EntriesFormed e
    settled-entries = image-entries _ settled-valid f

    pub settled-model : model_in e ≡ model_in m
    unfolding settled registry_in
    settled-model = image-model _ settled-valid f

    pub settled_says : registry_in e ≡ settled held q
    settled_says = image-says _ settled-valid f settled-in

    pub settled-stored : SetsStored e q
    unfolding settled registry_in
    settled-stored = record {
      selected = ap (λ (z : Registry). z.bits.selected q) settled_says ∙ fun_ext (made-here q (selected_bit (model_in m) q) (bits_in m).selected) ∙ ap (λ (z : Model). selected_bit z q) (sym settled-model);
      allowed = ap (λ (z : Registry). z.bits.allowed q) settled_says ∙ fun_ext (made-here q (allowed_bit (model_in m) q) (bits_in m).allowed) ∙ ap (λ (z : Model). allowed_bit z q) (sym settled-model);
    }
