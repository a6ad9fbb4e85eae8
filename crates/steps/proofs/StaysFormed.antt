-- The registry's step leaves an acceptable registry, whatever its bits: so the step on a well-formed memory leaves a well-formed one.
use mathlib.Core.Path.{◌≡◌, refl, sym, ap, subst, ◌∙◌}
use mathlib.Core.Bool.{true}
use mathlib.Core.List.{List, [], ◌∷◌}
use mathlib.Core.Option.{Option, none, some}
use Prim.Native.Nat.{ℕ}
use Rattle.std.specs.Prelude.{Result, Ok, Err, ⊤}
use Rattle.block.specs.declared.Refusal.{Refusal}
use Rattle.block.specs.Cut.{blocks_of}
use Rattle.block.specs.Entry.{Container, Policy, Entry, container, policy}
use Rattle.block.specs.Refusal.{first_refusal, read_unless}
use Rattle.block.specs.Reader.{entry_checks, settings_said, entry_said, read_settings, AcceptedAs}
use Rattle.block.proofs.Accepted.{entry_read}
use Rattle.model.specs.Table.{at, lowest_free}
use Rattle.model.specs.Model.{empty, with_container, with_policy}
use Rattle.model.specs.Calls.{Call, open_with, change, admit, admit_batch, remove_container, remove_policy, rebuild, ask, run}
use Rattle.model.specs.Registry.{Registry, change_container, change_policy, rebuilt}
use Rattle.model.specs.Refusals.{admit_checks, refusals}
use Rattle.model.specs.RegistryStep.{admit_container, admit_policy, admit_entry, admit_unless, admit_block, take_policy, accepted_step, unless_refused, registry_step}
use Rattle.model.proofs.Clear.{container-clear, policy-clear}
use Rattle.model.proofs.Consistent.{opened-computed}
use Rattle.model.proofs.Refused.{both-passed}
use Rattle.formed.specs.Registry.{registry_in, ValidEntries, Acceptable, well_formed}
use Rattle.formed.proofs.Formed.{formed-memory, acceptable-image}
use Rattle.steps.specs.MemoryStep.{memory_step}
use Rattle.steps.specs.Refinement.{StaysFormed}
use Rattle.steps.proofs.Refinement.{step-image}
use Rattle.steps.proofs.Valid.{acceptable-computed, valid-kept}

module _ (r : Registry) (ok : Acceptable r) where
  container-stays : (c : ℕ) (x : Option Container) → ValidEntries (with_container r.model c x) → Acceptable (change_container r c x)
  unfolding change_container
  container-stays c x valid = record { entries = valid; bits = container-clear r c x ok.bits }

  policy-stays : (q : ℕ) (p : Policy) (x : Option Policy) → ValidEntries (with_policy r.model q x) → Acceptable (change_policy r q p x)
  unfolding change_policy
  policy-stays q p x valid = record { entries = valid; bits = policy-clear r q p x ok.bits }

  -- each call that no check refuses
  admit-container-stays : (b : List ℕ) (x : Container) (o : Option ℕ) → AcceptedAs r.model.settings b (container x) → Acceptable (admit_container r x o).0
  unfolding admit_container
  admit-container-stays b x none e = ok
  admit-container-stays b x (some c) e = container-stays c (some x) (valid-kept.container r.model ok.entries b x e c)

  admit-policy-stays : (b : List ℕ) (p : Policy) (o : Option ℕ) → AcceptedAs r.model.settings b (policy p) → Acceptable (admit_policy r p o).0
  unfolding admit_policy
  admit-policy-stays b p none e = ok
  admit-policy-stays b p (some q) e = policy-stays q p (some p) (valid-kept.policy r.model ok.entries b p e q)

  admit-stays : (b : List ℕ) (x : Entry) → AcceptedAs r.model.settings b x → Acceptable (admit_entry r x).0
  unfolding admit_entry
  admit-stays b (container x) e = admit-container-stays b x (lowest_free r.model.containers) e
  admit-stays b (policy p) e = admit-policy-stays b p (lowest_free r.model.policies) e

  admit-unless-stays : (b : List ℕ) (o : Result ⊤ Refusal) → first_refusal (admit_checks r.model b) ≡ o → Acceptable (admit_unless r b o).0
  unfolding admit_unless admit_checks
  admit-unless-stays b (Ok tt) e =
      let s = r.model.settings in
      admit-stays b (entry_said b) (entry_read s b (Ok tt) (both-passed (entry_checks s b) _ e).0)
  admit-unless-stays b (Err f) e = ok

  pub block-stays : (b : List ℕ) → Acceptable (admit_block r b).0
  unfolding admit_block
  block-stays b = admit-unless-stays b (first_refusal (admit_checks r.model b)) refl

pub admissions-stay : (r : Registry) → Acceptable r → (bs : List (List ℕ)) → Acceptable (run admit_block r bs).0
admissions-stay r ok [] = ok
admissions-stay r ok (b ∷ bs) = admissions-stay (admit_block r b).0 (block-stays r ok b) bs

module _ (r : Registry) (ok : Acceptable r) where
  take-policy-stays : (q : ℕ) (x : Option Policy) → Acceptable (take_policy r q x).0
  unfolding take_policy
  take-policy-stays q none = ok
  take-policy-stays q (some p) = policy-stays r ok q p none (valid-kept.policy_gone r.model ok.entries q)

  accepted-stays : (call : Call) → first_refusal (refusals r call) ≡ Ok tt → Acceptable (accepted_step r call).0
  unfolding accepted_step refusals admit_unless rebuilt read_settings
  accepted-stays (open_with b) e =
      let s = settings_said b in
      subst Acceptable (sym (opened-computed s))
      (acceptable-computed (empty s) (valid-kept.opened b s (ap (λ t. read_unless t s) e)))
  accepted-stays (change (admit b)) e = admit-unless-stays r ok b (Ok tt) e
  accepted-stays (change (admit_batch bs n t)) e = admissions-stay r ok (blocks_of bs)
  accepted-stays (change (remove_container c)) e = container-stays r ok c none (valid-kept.container_gone r.model ok.entries c)
  accepted-stays (change (remove_policy q)) e = take-policy-stays q (at r.model.policies q)
  accepted-stays (change rebuild) e = acceptable-computed r.model ok.entries
  accepted-stays (ask q) e = ok

  step_stays : (call : Call) → Acceptable (registry_step r call).0
  unfolding registry_step unless_refused
  step_stays call = pick (first_refusal (refusals r call)) refl
    where
      pick : (o : Result ⊤ Refusal) → first_refusal (refusals r call) ≡ o → Acceptable (unless_refused r call o).0
      pick (Ok tt) e = accepted-stays call e
      pick (Err f) e = ok

-- A well-formed memory is the image of the registry that it says.
pub stays-formed : StaysFormed
stays-formed m formed call =
    let f = formed-memory m formed in
    let r = registry_in m in
    let ok = f.acceptable in
    subst (λ x. well_formed (memory_step x call).0 ≡ true) f.canonical
    (ap (λ s. well_formed s.0) (step-image r ok call) ∙ acceptable-image (registry_step r call).0 (step_stays r ok call))
