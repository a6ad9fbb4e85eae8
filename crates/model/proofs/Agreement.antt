-- On computed bits each call's checks, changes and answers come out as the model's own; over a list of calls by induction.
use mathlib.Core.Path.{◌≡◌, refl, sym, ap, ap₂, ◌∙◌}
use mathlib.Core.Bool.{Bool, true, false, not, ◌&&◌, ◌||◌, cond}
use mathlib.Core.Logic.{◌↔◌}
use mathlib.Core.List.{List, [], ◌∷◌, ◌++◌}
use mathlib.Core.Option.{Option, none, some}
use Prim.Native.Nat.{ℕ, ◌*◌, ◌%◌}
use lib.Dec.{eqb, leb, ltb}
use lib.ListN.{length, length-set, length-replicate}
use borrow.Author.Tests.{ltb-true, ltb-false, le-leb, lt-leb}
use Rattle.std.specs.Prelude.{Option as StdOption, None, Some, Result, Ok, Err, ⊤}
use Rattle.block.specs.declared.Refusal.{Refusal}
use Rattle.block.specs.declared.Reason.TheVariants.{BufferLength, BatchLength}
use Rattle.block.specs.Cut.{blocks_of}
use Rattle.block.specs.Entry.{Container, Policy, Settings}
use Rattle.block.specs.Refusal.{Check, check, refuse, first_refusal, read_unless}
use Rattle.block.specs.Reader.{settings_checks, settings_said, read_settings}
use Rattle.model.specs.declared.Tally.{Tally}
use Rattle.model.specs.Table.{Table, on, is_free, at, free}
use Rattle.model.specs.Rules.{carries}
use Rattle.model.specs.Model.{container_slots, policy_slots, Model, empty, with_container, with_policy, computed_bits}
use Rattle.model.specs.Calls.{ask_reaches, ask_user, next_finding, list_findings, counts, audit, write}
use Rattle.model.specs.Calls.{Call, open_with, change, admit, admit_batch, remove_container, remove_policy, rebuild, ask}
use Rattle.model.specs.Calls.{refusal, done, says, file_put, run}
use Rattle.model.specs.Batch.{batch_outcome}
use Rattle.model.specs.File.{file_of}
use Rattle.model.specs.ModelStep.{opening, removing, removing_policy, asking, asking_user, model_answer, admitting_block, admitting_batch, model_step}
use Rattle.model.specs.Registry.{Registry, computed, consistent, FollowsRules, change_container, rebuilt}
use Rattle.model.specs.Refusals.{where0, slot_checks, pair_checks, admit_checks, refusals}
use Rattle.model.specs.RegistryStep.{admit_unless, admit_block, take_policy, answer_to, accepted_step, unless_refused, registry_step}
use Rattle.model.proofs.Tables.{free-at, beyond-ltb}
use Rattle.model.proofs.WrittenRules.{change-computed, container-changed, policy-removed}
use Rattle.model.proofs.Admission.{slot_answer, comes-fits, Outcome, turned, came, outcome}
use Rattle.model.proofs.Kept.{Kept, step_keeps}
use Rattle.model.proofs.Consistent.{consistent-exactly, computed-consistent, opened-computed}

-- the two tables have their numbers of slots
pub record Sized (m : Model) : Type 0 where
  pub containers : length m.containers ≡ container_slots
  pub policies : length m.policies ≡ policy_slots

-- the registry's outcome that answers to a model's: its bits are computed
abbrev pub as_computed : {A : Type 0} → Model × A → Registry × A
as_computed r = (computed r.0, r.1)

-- ---- lists of checks

-- the first refusal if there is one, else the second
unfoldable pub or_refusal : Result ⊤ Refusal → Result ⊤ Refusal → Result ⊤ Refusal
or_refusal (Ok tt) rest = rest
or_refusal (Err f) rest = Err f

pub first-append : (cs ds : List Check) → first_refusal (cs ++ ds) ≡ or_refusal (first_refusal cs) (first_refusal ds)
unfolding or_refusal
first-append [] ds = refl
first-append (c ∷ cs) ds = ap (refuse c.reason c.fault) (first-append cs ds) ∙ pick c.fault
  where
    pick : (f : StdOption ℕ) → refuse c.reason f (or_refusal (first_refusal cs) (first_refusal ds)) ≡ or_refusal (refuse c.reason f (first_refusal cs)) (first_refusal ds)
    pick None = refl
    pick (Some p) = refl

module _ {A : Type 0} (r : Registry) (call : Call) (size : ℕ) (t : Table A) (whole : length t ≡ size) where
  free-within : (i : ℕ) → ltb i size ≡ true → free t i ≡ is_free (at t i)
  free-within i e = free-at t i (rw whole (ltb-true i size e))

  -- a call that meets 10 and 11 of one slot
  slot_step : (i : ℕ) → refusals r call ≡ slot_checks size t i
      → registry_step r call ≡ cond (ltb i size) (cond (is_free (at t i)) (r, refusal 11 0) (accepted_step r call)) (r, refusal 10 0)
  unfolding registry_step unless_refused
  slot_step i e = ap (λ cs. unless_refused r call (first_refusal cs)) e ∙ pick (ltb i size) (is_free (at t i)) refl refl
    where
      pick : (u v : Bool) → ltb i size ≡ u → is_free (at t i) ≡ v
          → unless_refused r call (first_refusal (slot_checks size t i)) ≡ cond u (cond v (r, refusal 11 0) (accepted_step r call)) (r, refusal 10 0)
      pick false v h k = rw (beyond-ltb size i false h)
      pick true true h k = rw (beyond-ltb size i true h, free-within i h, k)
      pick true false h k = rw (beyond-ltb size i true h, free-within i h, k)

-- a call that meets 10 and 11 of two slots
module _ {A : Type 0} (r : Registry) (call : Call) (size : ℕ) (t : Table A) (whole : length t ≡ size) where
  pair_step : (a b : ℕ) → refusals r call ≡ pair_checks size t a b
      → registry_step r call
      ≡ cond (ltb a size && ltb b size) (cond (is_free (at t a) || is_free (at t b)) (r, refusal 11 0) (accepted_step r call)) (r, refusal 10 0)
  unfolding registry_step unless_refused
  pair_step a b e = ap (λ cs. unless_refused r call (first_refusal cs)) e ∙ pick (ltb a size) (ltb b size) (is_free (at t a) || is_free (at t b)) refl refl refl
    where
      pick : (u v w : Bool) → ltb a size ≡ u → ltb b size ≡ v → (is_free (at t a) || is_free (at t b)) ≡ w
          → unless_refused r call (first_refusal (pair_checks size t a b)) ≡ cond (u && v) (cond w (r, refusal 11 0) (accepted_step r call)) (r, refusal 10 0)
      pick false v w h k l = rw (beyond-ltb size a false h)
      pick true false w h k l = rw (beyond-ltb size a true h, beyond-ltb size b false k)
      pick true true true h k l =
          rw (beyond-ltb size a true h, beyond-ltb size b true k, free-within r call size t whole a h, free-within r call size t whole b k, l)
      pick true true false h k l =
          rw (beyond-ltb size a true h, beyond-ltb size b true k, free-within r call size t whole a h, free-within r call size t whole b k, l)

-- ---- each call

-- A batch's fold is that of admit's own step.
pub admit-step : (r : Registry) (b : List ℕ) → registry_step r (change (admit b)) ≡ admit_block r b
unfolding registry_step refusals unless_refused accepted_step admit_block admit_unless
admit-step r b = pick (first_refusal (admit_checks r.model b))
  where
    pick : (o : Result ⊤ Refusal) → unless_refused r (change (admit b)) o ≡ admit_unless r b o
    pick (Ok tt) = refl
    pick (Err f) = refl

module _ (m : Model) where
  open-agrees : (b : List ℕ) (o : Result ⊤ Refusal)
      → unless_refused (computed m) (open_with b) o ≡ as_computed (opening m (read_unless o (settings_said b)))
  unfolding unless_refused accepted_step opening
  open-agrees b (Ok tt) = ap (λ r. (r, done)) (opened-computed (settings_said b))
  open-agrees b (Err f) = refl

  admit-agrees : (b : List ℕ) → admit_block (computed m) b ≡ as_computed (admitting_block m b)
  unfolding computed
  admit-agrees b = pick (outcome (computed m) b)
    where
      pick : Outcome (computed m) b → admit_block (computed m) b ≡ as_computed (admitting_block m b)
      pick (turned n p e s) = s ∙ sym (ap as_computed e)
      pick (came c g e s) = s ∙ ap (λ r. (r, slot_answer c)) (change-computed m c (comes-fits m c g)) ∙ sym (ap as_computed e)

admissions-agree : (m : Model) (bs : List (List ℕ)) → run admit_block (computed m) bs ≡ as_computed (run admitting_block m bs)
admissions-agree m [] = refl
admissions-agree m (b ∷ bs) = rw (admit-agrees m b, admissions-agree (admitting_block m b).0 bs)

not-ltb : (a b : ℕ) → not (ltb a b) ≡ leb b a
not-ltb a b = pick (ltb a b) refl
  where
    pick : (t : Bool) → ltb a b ≡ t → not t ≡ leb b a
    pick true e = sym (lt-leb b a (ltb-true a b e))
    pick false e = sym (le-leb b a (ltb-false a b e))

module _ (m : Model) (sized : Sized m) where
  -- by what is too long, of whole blocks, and has too little room
  batch-agrees : (bs : List ℕ) (n : ℕ) (t : Tally) (u v w : Bool)
      → unless_refused (computed m) (change (admit_batch bs n t)) (first_refusal (check BatchLength (where0 (u || not v)) ∷ check BufferLength (where0 w) ∷ []))
      ≡ as_computed (cond (not u && v) (cond (not w) (batch_outcome t (run admitting_block m (blocks_of bs))) (m, refusal 13 0)) (m, refusal 14 0))
  unfolding unless_refused accepted_step
  batch-agrees bs n t true v w = refl
  batch-agrees bs n t false false w = refl
  batch-agrees bs n t false true true = refl
  batch-agrees bs n t false true false = ap (batch_outcome t) (admissions-agree m (blocks_of bs))

  remove-agrees : (c : ℕ) (u : Bool) (x : Option Container)
      → cond u (cond (is_free x) (computed m, refusal 11 0) (change_container (computed m) c none, done)) (computed m, refusal 10 0)
      ≡ as_computed (cond u (removing m c x) (m, refusal 10 0))
  unfolding removing
  remove-agrees c false x = refl
  remove-agrees c true none = refl
  remove-agrees c true (some x) = ap (λ r. (r, done)) (container-changed m c none)

  remove-policy-agrees : (q : ℕ) (u : Bool) (x : Option Policy) → at m.policies q ≡ x
      → cond u (cond (is_free x) (computed m, refusal 11 0) (take_policy (computed m) q x)) (computed m, refusal 10 0)
      ≡ as_computed (cond u (removing_policy m q x) (m, refusal 10 0))
  unfolding removing_policy take_policy
  remove-policy-agrees q false x e = refl
  remove-policy-agrees q true none e = refl
  remove-policy-agrees q true (some p) e = ap (λ r. (r, done)) (policy-removed m q p e)

  ask-agrees : (a b : ℕ) (u : Bool) (x y : Option Container)
      → cond u (cond (is_free x || is_free y) (computed m, refusal 11 0) (computed m, says ((computed_bits m).matrix a b))) (computed m, refusal 10 0)
      ≡ as_computed (m, cond u (asking m a b x y) (refusal 10 0))
  unfolding asking
  ask-agrees a b false x y = refl
  ask-agrees a b true none y = refl
  ask-agrees a b true (some x) none = refl
  ask-agrees a b true (some x) (some y) = refl

  ask-user-agrees : (v : ℕ) (u : Bool) (x : Option Container)
      → cond u (cond (is_free x) (computed m, refusal 11 0) (computed m, says (on (λ c. carries c (record { key = m.settings.user_key; value = v })) x))) (computed m, refusal 10 0)
      ≡ as_computed (m, cond u (asking_user m v x) (refusal 10 0))
  unfolding asking_user
  ask-user-agrees v false x = refl
  ask-user-agrees v true none = refl
  ask-user-agrees v true (some x) = refl

  -- a buffer of n bytes for a file of l
  write-agrees : (n l : ℕ) (t : Bool) → ltb n l ≡ t
      → unless_refused (computed m) (ask (write n)) (first_refusal (check BufferLength (where0 t) ∷ []))
      ≡ as_computed (m, cond (leb l n) (file_put (file_of m)) (refusal 13 0))
  unfolding unless_refused accepted_step answer_to computed
  write-agrees n l true e = rw (lt-leb l n (ltb-true n l e))
  write-agrees n l false e = rw (le-leb l n (ltb-false n l e))

  -- One call: the registry of computed bits is refused, answers and changes as the model.
  pub step-agrees : (call : Call) → registry_step (computed m) call ≡ as_computed (model_step m call)
  unfolding model_step model_answer registry_step refusals computed accepted_step answer_to unless_refused rebuilt read_settings admitting_batch
  step-agrees (open_with b) = open-agrees m b (first_refusal (settings_checks b))
  step-agrees (change (admit b)) = admit-step (computed m) b ∙ admit-agrees m b
  step-agrees (change (admit_batch bs n t)) =
      let whole = eqb (length bs % 512) 0 in
      let taken = batch_outcome t (run admitting_block m (blocks_of bs)) in
      batch-agrees bs n t (ltb 65536 (length bs)) whole (ltb n (2 * length (blocks_of bs)))
      ∙ ap₂ (λ (u w : Bool). as_computed (cond (u && whole) (cond w taken (m, refusal 13 0)) (m, refusal 14 0)))
      (not-ltb 65536 (length bs)) (not-ltb n (2 * length (blocks_of bs)))
  step-agrees (change (remove_container c)) =
      slot_step (computed m) (change (remove_container c)) container_slots m.containers sized.containers c refl
      ∙ remove-agrees c (ltb c container_slots) (at m.containers c)
  step-agrees (change (remove_policy q)) =
      slot_step (computed m) (change (remove_policy q)) policy_slots m.policies sized.policies q refl
      ∙ remove-policy-agrees q (ltb q policy_slots) (at m.policies q) refl
  step-agrees (change rebuild) = refl
  step-agrees (ask (ask_reaches a b)) =
      pair_step (computed m) (ask (ask_reaches a b)) container_slots m.containers sized.containers a b refl
      ∙ ask-agrees a b (ltb a container_slots && ltb b container_slots) (at m.containers a) (at m.containers b)
  step-agrees (ask (ask_user c v)) =
      slot_step (computed m) (ask (ask_user c v)) container_slots m.containers sized.containers c refl
      ∙ ask-user-agrees v (ltb c container_slots) (at m.containers c)
  step-agrees (ask (next_finding c)) = refl
  step-agrees (ask (list_findings c n)) = refl
  step-agrees (ask counts) = refl
  step-agrees (ask audit) = ap (λ t. (computed m, says t)) (computed-consistent m)
  step-agrees (ask (write n)) = write-agrees n (length (file_of m)) (ltb n (length (file_of m))) refl

-- ---- every call leaves the tables their sizes

pub sized-empty : (s : Settings) → Sized (empty s)
unfolding empty
sized-empty s = record {
  containers = length-replicate {A = Option Container} container_slots none;
  policies = length-replicate {A = Option Policy} policy_slots none;
}

sized-kept : Kept Sized
unfolding with_container with_policy
sized-kept = record {
  opened = λ b s e. sized-empty s;
  container = λ m g b x e c. record { containers = length-set m.containers c (some x) ∙ g.containers; policies = g.policies };
  policy = λ m g b x e q. record { containers = g.containers; policies = length-set m.policies q (some x) ∙ g.policies };
  container_gone = λ m g c. record { containers = length-set m.containers c none ∙ g.containers; policies = g.policies };
  policy_gone = λ m g q. record { containers = g.containers; policies = length-set m.policies q none ∙ g.policies };
}

pub sized-step : (m : Model) → Sized m → (call : Call) → Sized (model_step m call).0
sized-step m sized call = step_keeps sized-kept m sized call

-- Every list of calls: the same refusals, the same answers, the same entries, and bits by the rules.
pub run-agrees : (m : Model) → Sized m → (calls : List Call) → run registry_step (computed m) calls ≡ as_computed (run model_step m calls)
run-agrees m sized [] = refl
run-agrees m sized (call ∷ calls) =
    rw (step-agrees m sized call, run-agrees (model_step m call).0 (sized-step m sized call) calls)

says_same : (t u : Bool) → says t ≡ says u → t ≡ u
says_same t u e = cc

-- Audit says yes exactly if every stored bit equals the rules.
pub audit-exactly : (r : Registry) → ((registry_step r (ask audit)).1 ≡ says true) ↔ FollowsRules r
unfolding registry_step refusals unless_refused accepted_step answer_to
audit-exactly r = (λ e. (consistent-exactly r).0 (says_same (consistent r) true e), λ h. ap says ((consistent-exactly r).1 h))
