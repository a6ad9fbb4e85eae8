-- The slot's words, its sets and the touched bits: together they are the model's change of a policy.
use mathlib.Core.Path.{◌≡◌, refl, sym, ap, ◌∙◌, fun_ext}
use mathlib.Core.Bool.{Bool, true, not, cond}
use mathlib.Core.List.{List}
use mathlib.Core.Option.{Option, none, some}
use Prim.Native.Nat.{ℕ, ◌<◌}
use native.Mathlib.Omega.{arith}
use lib.Dec.{eqb}
use lib.Seq.{get_or-set_same}
use borrow.Author.Tests.{not-true}
use Rattle.bitrow.specs.Set.{has_some}
use Rattle.block.specs.Entry.{Policy}
use Rattle.block.specs.Reader.{direction_of}
use Rattle.block.specs.Written.{direction_number}
use Rattle.block.proofs.Written.{direction-back}
use Rattle.model.specs.Table.{on, at, stands}
use Rattle.model.specs.Rules.{selects}
use Rattle.model.specs.Model.{policy_slots, Model, with_policy, matrix_bit, selected_bit, allowed_bit, computed_bits}
use Rattle.model.specs.Registry.{Registry, set_where, touched, change_policy}
use Rattle.store.specs.Layout.{policy_start, policy_words, word_at}
use Rattle.store.specs.Memory.{slot_set}
use Rattle.store.proofs.Cases.{by_eqb}
use Rattle.formed.specs.Words.{policy_word, policy_in}
use Rattle.formed.specs.Registry.{model_in, registry_in, image, valid_policy, ValidEntries, EntriesFormed}
use Rattle.formed.specs.Placed.{policy_placed}
use Rattle.formed.proofs.Fits.{fits_by, fits-slot, fits-image}
use Rattle.formed.proofs.StoredLaws.{Fit}
use Rattle.formed.proofs.Slots.{first_word}
use Rattle.formed.proofs.Reading.{policy-slot, formed-policy}
use Rattle.formed.proofs.Placed.{policy-image, policy-placed-valid, policy-placed-in, image-entries, image-model, image-says}
use Rattle.policy_sets.specs.PolicySets.{settled, SetsStored}
use Rattle.policy_sets.proofs.SettledPolicy.{settled-entries, settled-model, settled_says, settled-stored}
use Rattle.matrix_resets.specs.Resets.{reset_where}
use Rattle.matrix_resets.proofs.Unnamed.{reset-none}
use Rattle.policy_changes.specs.Region.{selection}
use Rattle.policy_changes.proofs.Touched.{nobody-touched}

change-is : (r : Registry) (q : ℕ) (p : Policy) (x : Option Policy) → let z = settled (policy_placed r q x) q in reset_where z (touched z.model p) ≡ change_policy r q p x
unfolding reset_where settled policy_placed change_policy set_where computed_bits
change-is r q p x =
    let m = with_policy r.model q x in
    let f : (λ i. cond (eqb i q) (selected_bit m q) (r.bits.selected i)) ≡ set_where (λ i b. eqb i q) (selected_bit m) r.bits.selected
    = fun_ext (λ i. fun_ext (λ b. row (selected_bit m) r.bits.selected i b)) in
    let g : (λ i. cond (eqb i q) (allowed_bit m q) (r.bits.allowed i)) ≡ set_where (λ i b. eqb i q) (allowed_bit m) r.bits.allowed
    = fun_ext (λ i. fun_ext (λ b. row (allowed_bit m) r.bits.allowed i b)) in
    λ i. record { model = m; bits = record { matrix = set_where (touched m p) (matrix_bit m) r.bits.matrix; selected = f i; allowed = g i } }
  where
    row : (u v : ℕ → ℕ → Bool) (i b : ℕ) → cond (eqb i q) (u q) (v i) b ≡ cond (eqb i q) (u i b) (v i b)
    row u v i b = by_eqb (λ t. cond t (u q) (v i) b ≡ cond t (u i b) (v i b)) i q (λ e. ap (λ j. u j b) (sym e)) (λ n. refl)

pub selected-selection : (m : Model) (q : ℕ) (p : Policy) → at m.policies q ≡ some p → selected_bit m q ≡ selection m p
unfolding selected_bit selection
selected-selection m q p e = fun_ext (λ c. ap (on (λ p. on (λ x. selects p x) (at m.containers c))) e)

selection-with : (m : Model) (q : ℕ) (x : Option Policy) (p : Policy) → selection m p ≡ selection (with_policy m q x) p
unfolding selection with_policy
selection-with m q x p = refl

-- the direction's word of a policy that stands
pub stored-direction : (m : List ℕ) → EntriesFormed m → (q : ℕ) → q < policy_slots → (p : Policy) → at (model_in m).policies q ≡ some p → word_at m (policy_start q) ≡ direction_number p.direction
stored-direction m ok q hq p e =
    first_word m (policy_start q) _ (policy_word (policy_in m q)) (formed-policy m ok q hq) ∙ ap (λ o. policy_word o 0) (sym (policy-slot m q hq) ∙ e)

-- its direction
pub direction-stored : (m : List ℕ) → EntriesFormed m → (q : ℕ) → q < policy_slots → (p : Policy) → at (model_in m).policies q ≡ some p → direction_of (word_at m (policy_start q)) ≡ p.direction
direction-stored m ok q hq p e = ap direction_of (stored-direction m ok q hq p e) ∙ direction-back p.direction

-- the slot made free
pub slot-freed : (m : List ℕ) → EntriesFormed m → (q : ℕ) → q < policy_slots → Fit m → {e : List ℕ} → e ≡ slot_set m (policy_start q) policy_words (λ k. 0)
    → e ≡ image (policy_placed (registry_in m) q none)
slot-freed m ok q hq fit f = policy-image m ok q none hq f (fits_by _ (fits-slot m (policy_start q) policy_words (λ k. 0) fit (λ k l. omega arith)) f)

-- the slot holds x, and the bits are as they were
module _ (m : List ℕ) (ok : EntriesFormed m) (q : ℕ) (hq : q < policy_slots) (x : Option Policy) (v : valid_policy (model_in m).settings x ≡ true) {e1 : List ℕ} (f : e1 ≡ image (policy_placed (registry_in m) q x)) where
  held-valid : ValidEntries (policy_placed (registry_in m) q x).model
  held-valid = policy-placed-valid m ok q x v

  pub held-entries : EntriesFormed e1
  held-entries = image-entries _ held-valid f

  held-says : registry_in e1 ≡ policy_placed (registry_in m) q x
  held-says = image-says _ held-valid f (policy-placed-in m ok q x)

  held-model : model_in e1 ≡ with_policy (model_in m) q x
  unfolding policy_placed registry_in
  held-model = image-model _ held-valid f

  pub held-standing : stands (model_in m).containers ≡ stands (model_in e1).containers
  unfolding with_policy
  held-standing = ap (λ (z : Model). stands z.containers) (sym held-model)

  pub held_at : at (model_in e1).policies q ≡ x
  unfolding with_policy
  held_at =
      let n = ok.entries.policies in
      ap (λ (z : Model). at z.policies q) held-model ∙ get_or-set_same (model_in m).policies q x none (omega arith)

  pub held-selection : (p : Policy) → selection (model_in m) p ≡ selection (model_in e1) p
  held-selection p = selection-with (model_in m) q x p ∙ ap (λ (z : Model). selection z p) (sym held-model)

  -- and its sets by the entries
  module _ {e2 : List ℕ} (g : e2 ≡ image (settled (registry_in e1) q)) where
    pub change-entries : EntriesFormed e2
    change-entries = settled-entries e1 held-entries q hq g

    change-model : model_in e2 ≡ model_in e1
    change-model = settled-model e1 held-entries q hq g

    pub change-standing : stands (model_in m).containers ≡ stands (model_in e2).containers
    change-standing = held-standing ∙ ap (λ (z : Model). stands z.containers) (sym change-model)

    pub change-selection : (p : Policy) → selection (model_in e1) p ≡ selection (model_in e2) p
    change-selection p = ap (λ (z : Model). selection z p) (sym change-model)

    pub change-stored : SetsStored e2 q
    change-stored = settled-stored e1 held-entries q hq g

    -- and the bits of the matrix that p touches by the rules
    pub change-done : (p : Policy) {e3 : List ℕ} → e3 ≡ image (reset_where (registry_in e2) (touched (model_in e2) p)) → e3 ≡ image (change_policy (registry_in m) q p x)
    unfolding registry_in settled policy_placed
    change-done p h =
        h ∙ ap (λ (z : Registry). image (reset_where z (touched z.model p))) (settled_says e1 held-entries q hq g ∙ ap (λ (z : Registry). settled z q) held-says)
        ∙ ap image (change-is (registry_in m) q p x)

    change-fit : Fit e2
    unfolding settled registry_in
    change-fit = fits_by _ (fits-image (settled (registry_in e1) q) held-entries.entries) g

    -- of these there are none where p selects nobody
    pub change-over : (p : Policy) → {s : ℕ → Bool} → s ≡ selection (model_in e2) p → not (has_some s) ≡ true → e2 ≡ image (change_policy (registry_in m) q p x)
    change-over p k z =
        change-done p (reset-none e2 change-entries change-fit (touched (model_in e2) p) (nobody-touched (model_in e2) p (ap has_some (sym k) ∙ not-true _ z)))
