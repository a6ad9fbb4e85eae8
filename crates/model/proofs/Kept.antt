-- A property that the empty model has, and that one entry put or taken away leaves, is left by every call: one walk over the calls.
use mathlib.Core.Path.{◌≡◌, refl}
use mathlib.Core.Bool.{Bool, true, false, ◌&&◌, cond}
use mathlib.Core.List.{List, [], ◌∷◌}
use mathlib.Core.Option.{Option, none, some}
use Prim.Native.Nat.{ℕ, ◌*◌, ◌%◌}
use lib.Dec.{eqb, leb, ltb}
use lib.ListN.{length}
use Rattle.block.specs.Cut.{blocks_of}
use Rattle.block.specs.Entry.{Container, Policy, Settings, Entry, container, policy}
use Rattle.block.specs.Refusal.{Read, refused, accepted}
use Rattle.block.specs.Reader.{read_settings, read_entry}
use Rattle.model.specs.declared.Tally.{Tally}
use Rattle.model.specs.Table.{at, lowest_free}
use Rattle.model.specs.Model.{container_slots, policy_slots, Model, empty, with_container, with_policy}
use Rattle.model.specs.Calls.{Call, open_with, change, admit, admit_batch, remove_container, remove_policy, rebuild, ask, refusal, run}
use Rattle.model.specs.Batch.{batch_outcome}
use Rattle.model.specs.ModelStep.{opening, placing, placing_policy, admitting, removing, removing_policy, admitting_block, admitting_batch, model_step}

-- P holds of no entries under settings that open accepts, and stays where an entry that admit accepts comes, or one goes.
pub record Kept (P : Model → Type 0) : Type 0 where
  pub opened : (b : List ℕ) (s : Settings) → read_settings b ≡ accepted s → P (empty s)
  pub container : (m : Model) → P m → (b : List ℕ) (x : Container) → read_entry m.settings b ≡ accepted (container x) → (c : ℕ) → P (with_container m c (some x))
  pub policy : (m : Model) → P m → (b : List ℕ) (p : Policy) → read_entry m.settings b ≡ accepted (policy p) → (q : ℕ) → P (with_policy m q (some p))
  pub container_gone : (m : Model) → P m → (c : ℕ) → P (with_container m c none)
  pub policy_gone : (m : Model) → P m → (q : ℕ) → P (with_policy m q none)

module _ {P : Model → Type 0} (kept : Kept P) (m : Model) (holds : P m) where
  open-keeps : (b : List ℕ) (o : Read Settings) → read_settings b ≡ o → P (opening m o).0
  unfolding opening
  open-keeps b (refused f) e = holds
  open-keeps b (accepted s) e = kept.opened b s e

  place-keeps : (b : List ℕ) (x : Container) (o : Option ℕ) → read_entry m.settings b ≡ accepted (container x) → P (placing m x o).0
  unfolding placing
  place-keeps b x none e = holds
  place-keeps b x (some c) e = kept.container m holds b x e c

  place-policy-keeps : (b : List ℕ) (p : Policy) (o : Option ℕ) → read_entry m.settings b ≡ accepted (policy p) → P (placing_policy m p o).0
  unfolding placing_policy
  place-policy-keeps b p none e = holds
  place-policy-keeps b p (some q) e = kept.policy m holds b p e q

  admit-keeps : (b : List ℕ) (o : Read Entry) → read_entry m.settings b ≡ o → P (admitting m o).0
  unfolding admitting
  admit-keeps b (refused f) e = holds
  admit-keeps b (accepted (container x)) e = place-keeps b x (lowest_free m.containers) e
  admit-keeps b (accepted (policy p)) e = place-policy-keeps b p (lowest_free m.policies) e

  block-keeps : (b : List ℕ) → P (admitting_block m b).0
  unfolding admitting_block
  block-keeps b = admit-keeps b (read_entry m.settings b) refl

-- blocks one after another
pub admissions-keep : {P : Model → Type 0} (kept : Kept P) (m : Model) → P m → (bs : List (List ℕ)) → P (run admitting_block m bs).0
admissions-keep kept m h [] = h
admissions-keep kept m h (b ∷ bs) = admissions-keep kept (admitting_block m b).0 (block-keeps kept m h b) bs

module _ {P : Model → Type 0} (kept : Kept P) (m : Model) (holds : P m) where
  batch-keeps : (bs : List ℕ) (t : Tally) (u v : Bool)
      → P (cond u (cond v (batch_outcome t (run admitting_block m (blocks_of bs))) (m, refusal 13 0)) (m, refusal 14 0)).0
  batch-keeps bs t false v = holds
  batch-keeps bs t true false = holds
  batch-keeps bs t true true = admissions-keep kept m holds (blocks_of bs)

  remove-keeps : (c : ℕ) (u : Bool) (x : Option Container) → P (cond u (removing m c x) (m, refusal 10 0)).0
  unfolding removing
  remove-keeps c false x = holds
  remove-keeps c true none = holds
  remove-keeps c true (some x) = kept.container_gone m holds c

  remove-policy-keeps : (q : ℕ) (u : Bool) (x : Option Policy) → P (cond u (removing_policy m q x) (m, refusal 10 0)).0
  unfolding removing_policy
  remove-policy-keeps q false x = holds
  remove-policy-keeps q true none = holds
  remove-policy-keeps q true (some p) = kept.policy_gone m holds q

  pub step_keeps : (call : Call) → P (model_step m call).0
  unfolding model_step admitting_batch
  step_keeps (open_with b) = open-keeps kept m holds b (read_settings b) refl
  step_keeps (change (admit b)) = block-keeps kept m holds b
  step_keeps (change (admit_batch bs n t)) = batch-keeps bs t (leb (length bs) 65536 && eqb (length bs % 512) 0) (leb (2 * length (blocks_of bs)) n)
  step_keeps (change (remove_container c)) = remove-keeps c (ltb c container_slots) (at m.containers c)
  step_keeps (change (remove_policy q)) = remove-policy-keeps q (ltb q policy_slots) (at m.policies q)
  step_keeps (change rebuild) = holds
  step_keeps (ask q) = holds
