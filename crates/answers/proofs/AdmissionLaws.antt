-- What the test of its block and the search for a free slot say of an admission: it is refused as its block is; or the table is full and
-- the call is refused 12; or the entry comes to that slot.
use mathlib.Core.Path.{◌≡◌, refl, sym, ap, ◌∙◌}
use mathlib.Core.Bool.{true}
use mathlib.Core.List.{List}
use mathlib.Core.Option.{Option, none, some}
use Prim.Native.Nat.{ℕ}
use Rattle.std.specs.Prelude.{None, Some}
use Rattle.block.specs.declared.Reason.TheVariants.{TableFull}
use Rattle.block.specs.Entry.{Container, Policy, container, policy}
use Rattle.block.specs.Refusal.{reason_number, accepted}
use Rattle.block.specs.Reader.{read_entry}
use Rattle.model.specs.declared.ContainerSlot.{ContainerSlot}
use Rattle.model.specs.declared.PolicySlot.{PolicySlot}
use Rattle.model.specs.Table.{lowest_free}
use Rattle.model.specs.Calls.{change, admit, refusal, container_at, policy_at}
use Rattle.model.specs.Registry.{change_container, change_policy}
use Rattle.formed.specs.Registry.{model_in, registry_in, image, well_formed}
use Rattle.entries.specs.Entries.{slot_found}
use Rattle.entries.proofs.FreeSlots.{found-none, found_some}
use Rattle.steps.specs.MemoryStep.{memory_step}
use Rattle.steps.proofs.Outcomes.{admit-container-full, admit-container-done, admit-policy-full, admit-policy-done}
use Rattle.answers.specs.Admission.{container_admitted_to, policy_admitted_to, container_admitted, policy_admitted}

-- the slot of a number
abbrev pub container_slot : ℕ → ContainerSlot
container_slot i = record { 0 = i }

abbrev pub policy_slot : ℕ → PolicySlot
policy_slot i = record { 0 = i }

module _ (m : List ℕ) where
  -- no slot is free: 12
  pub container-full : (x : Container) → slot_found container_slot (lowest_free (model_in m).containers) ≡ None → container_admitted m x ≡ (m, refusal (reason_number TableFull) 0)
  unfolding container_admitted
  container-full x e = ap (container_admitted_to m x) (found-none container_slot _ e)

  pub policy-full : (p : Policy) → slot_found policy_slot (lowest_free (model_in m).policies) ≡ None → policy_admitted m p ≡ (m, refusal (reason_number TableFull) 0)
  unfolding policy_admitted
  policy-full p e = ap (policy_admitted_to m p) (found-none policy_slot _ e)

  -- the slot that the search gives
  pub container-slot-of : (s : ContainerSlot) → slot_found container_slot (lowest_free (model_in m).containers) ≡ Some s → lowest_free (model_in m).containers ≡ some s.0
  container-slot-of s e = found_some container_slot (λ x. x.0) (λ i. refl) _ s e

  pub policy-slot-of : (s : PolicySlot) → slot_found policy_slot (lowest_free (model_in m).policies) ≡ Some s → lowest_free (model_in m).policies ≡ some s.0
  policy-slot-of s e = found_some policy_slot (λ x. x.0) (λ i. refl) _ s e

  pub container-put : (x : Container) (c : ℕ) (m' : List ℕ) → lowest_free (model_in m).containers ≡ some c
      → m' ≡ image (change_container (registry_in m) c (some x)) → container_admitted m x ≡ (m', container_at c)
  unfolding container_admitted
  container-put x c m' e h = ap (container_admitted_to m x) e ∙ ap (λ y. (y, container_at c)) (sym h)

  pub policy-put : (p : Policy) (q : ℕ) (m' : List ℕ) → lowest_free (model_in m).policies ≡ some q
      → m' ≡ image (change_policy (registry_in m) q p (some p)) → policy_admitted m p ≡ (m', policy_at q)
  unfolding policy_admitted
  policy-put p q m' e h = ap (policy_admitted_to m p) e ∙ ap (λ y. (y, policy_at q)) (sym h)

  module _ (formed : well_formed m ≡ true) where
    pub admit-container : (b : List ℕ) (x : Container) → read_entry (model_in m).settings b ≡ accepted (container x) → memory_step m (change (admit b)) ≡ container_admitted m x
    unfolding container_admitted
    admit-container b x e = pick (lowest_free (model_in m).containers) refl
      where
        pick : (o : Option ℕ) → lowest_free (model_in m).containers ≡ o → memory_step m (change (admit b)) ≡ container_admitted_to m x o
        pick none h = admit-container-full m formed b x e h
        pick (some c) h = admit-container-done m formed b x c e h

    pub admit-policy : (b : List ℕ) (p : Policy) → read_entry (model_in m).settings b ≡ accepted (policy p) → memory_step m (change (admit b)) ≡ policy_admitted m p
    unfolding policy_admitted
    admit-policy b p e = pick (lowest_free (model_in m).policies) refl
      where
        pick : (o : Option ℕ) → lowest_free (model_in m).policies ≡ o → memory_step m (change (admit b)) ≡ policy_admitted_to m p o
        pick none h = admit-policy-full m formed b p e h
        pick (some q) h = admit-policy-done m formed b p q e h
