-- The step on an acceptable registry's image is the registry's step, on computed bits the model's; over a list of calls by induction.
use mathlib.Core.Path.{◌≡◌, refl, sym, ap, subst, ◌∙◌}
use mathlib.Core.Bool.{cond}
use mathlib.Core.List.{List, [], ◌∷◌}
use mathlib.Core.Option.{Option, none, some}
use Prim.Native.Nat.{ℕ, zero, suc}
use lib.ListN.{length}
use Rattle.std.specs.Prelude.{Result, Ok, Err, ⊤}
use Rattle.block.specs.declared.Refusal.{Refusal}
use Rattle.block.specs.Entry.{Settings}
use Rattle.block.specs.Refusal.{first_refusal, accepted}
use Rattle.block.specs.Refusal.{read_unless}
use Rattle.block.specs.Reader.{settings_checks, settings_said, read_settings}
use Rattle.block.proofs.Accepted.{settings-valid}
use Rattle.model.specs.declared.Finding.{Finding}
use Rattle.model.specs.Findings.{Place}
use Rattle.model.specs.Findings.{place_of, next_after, start, walk}
use Rattle.model.specs.Model.{Model, empty, computed_bits}
use Rattle.model.specs.Calls.{Call, open_with, change, ask, next_finding}
use Rattle.model.specs.Calls.{Answer, done, found_answer}
use Rattle.model.specs.ModelStep.{model_answer, model_step}
use Rattle.model.specs.Registry.{Registry, computed}
use Rattle.model.specs.Refusals.{refusals}
use Rattle.model.specs.RegistryStep.{accepted_step, unless_refused, registry_step}
use Rattle.model.proofs.Consistent.{opened-computed}
use Rattle.model.proofs.Agreement.{step-agrees}
use Rattle.model.proofs.Next.{walk-meets-all}
use Rattle.store.specs.Layout.{memory_words}
use Rattle.formed.specs.Registry.{model_in, bits_in, registry_in, image, ValidEntries, Acceptable, well_formed}
use Rattle.formed.proofs.Back.{registry-image}
use Rattle.formed.proofs.Formed.{acceptable-image}
use Rattle.steps.specs.MemoryStep.{changes, memory_outcome, memory_step}
use Rattle.steps.specs.Refinement.{Lending, ours, other, on_memory, on_model, followed, walk_on, Refined, Refinement}
use Rattle.steps.proofs.Outcomes.{refused-outcome, accepted-outcome, change-changes, step-size, step_past, open-past, open_done}
use Rattle.steps.proofs.Valid.{acceptable-computed, valid-empty, valid-step, valid-sized}

-- ---- one call

abbrev pub imaged : {A : Type 0} → Registry × A → List ℕ × A
imaged r = (image r.0, r.1)

-- what a call that is not refused leaves: a query leaves its registry
changed : (r : Registry) (call : Call) → (cond (changes call) (image (accepted_step r call).0) (image r), (accepted_step r call).1) ≡ imaged (accepted_step r call)
unfolding accepted_step
changed r (open_with b) = refl
changed r (change c) = let s = accepted_step r (change c) in ap (λ t. (cond t (image s.0) (image r), s.1)) (change-changes c)
changed r (ask q) = refl

outcome-image : (r : Registry) (call : Call) (o : Result ⊤ Refusal) → registry_in (image r) ≡ r
    → memory_outcome (image r) call o ≡ imaged (unless_refused r call o)
unfolding unless_refused
outcome-image r call (Ok tt) e =
    accepted-outcome (image r) call
    ∙ ap (λ (v : Registry). (cond (changes call) (image (accepted_step v call).0) (image r), (accepted_step v call).1)) e
    ∙ changed r call
outcome-image r call (Err f) e = refused-outcome (image r) call f

-- The step on the memory of an acceptable registry is the registry's step.
pub step-image : (r : Registry) → Acceptable r → (call : Call) → memory_step (image r) call ≡ imaged (registry_step r call)
unfolding registry_step
step-image r a call =
    let e = registry-image r a in
    step_past (image r) (acceptable-image r a) call
    ∙ ap (λ (v : Registry). memory_outcome (image r) call (first_refusal (refusals v call))) e
    ∙ outcome-image r call (first_refusal (refusals r call)) e

-- the memory of a model whose bits are computed, and what was answered
abbrev pub left : {A : Type 0} → Model × A → List ℕ × A
left r = (image (computed r.0), r.1)

pub step-refines : (m : Model) → ValidEntries m → (call : Call) → memory_step (image (computed m)) call ≡ left (model_step m call)
step-refines m g call = step-image (computed m) (acceptable-computed m g) call ∙ ap imaged (step-agrees m (valid-sized m g) call)

-- ---- every list of calls

run-refines : (m : Model) → ValidEntries m → (calls : List Lending) → on_memory (image (computed m)) calls ≡ left (on_model m calls)
unfolding on_memory on_model
run-refines m g [] = refl
run-refines m g (ours call ∷ calls) = rw (step-refines m g call, run-refines (model_step m call).0 (valid-step m g call) calls)
run-refines m g (other x e call ∷ calls) = rw (step-size x call e, run-refines m g calls)

valid-run : (m : Model) → ValidEntries m → (calls : List Lending) → ValidEntries (on_model m calls).0
unfolding on_model
valid-run m g [] = g
valid-run m g (ours call ∷ calls) = valid-run (model_step m call).0 (valid-step m g call) calls
valid-run m g (other x e call ∷ calls) = valid-run m g calls

-- ---- the walk

-- an answer of next finding, followed: the walk's step
followed-is : (o : Option Finding) (f g : Place → List Finding) → ((c : Place) → f c ≡ g c)
    → followed (found_answer o) f ≡ elim o [ none ↦ [] | some x ↦ x ∷ g (place_of x) ]
followed-is none f g h = refl
followed-is (some x) f g h = ap (λ l. x ∷ l) (h (place_of x))

walk-refines : (m : Model) → ValidEntries m → (n : ℕ) (c : Place) → walk_on (image (computed m)) n c ≡ walk (next_after m (computed_bits m)) n c
unfolding walk_on model_step model_answer
walk-refines m g zero c = refl
walk-refines m g (suc n) c =
    ap (λ (r : List ℕ × Answer). followed r.1 (walk_on (image (computed m)) n)) (step-refines m g (ask (next_finding c)))
    ∙ followed-is (next_after m (computed_bits m) c) (walk_on (image (computed m)) n) (walk (next_after m (computed_bits m)) n) (walk-refines m g n)

-- ---- the theorem

-- from the memory of valid entries
refined : (s : Settings) → ValidEntries (empty s) → (calls : List Lending) → Refined s (image (computed (empty s))) calls
unfolding registry_in computed
refined s g calls =
    let e = run-refines (empty s) g calls in
    let m = (on_model (empty s) calls).0 in
    let k = valid-run (empty s) g calls in
    let h = registry-image (computed m) (acceptable-computed m k) in
    record {
      answers = ap (λ r. r.1) e;
      entries = ap (λ r. model_in r.0) e ∙ ap (λ r. r.model) h;
      bits = ap (λ r. bits_in r.0) e ∙ ap (λ r. r.bits) h;
      walk = λ n l. ap (λ r. walk_on r.0 n start) e ∙ walk-refines m k n start ∙ walk-meets-all m (computed_bits m) n l;
      formed = ap (λ r. well_formed r.0) e ∙ acceptable-image (computed m) (acceptable-computed m k);
    }

-- an open that answers done has read its block
open-read : (m b : List ℕ) → length m ≡ memory_words → (memory_step m (open_with b)).1 ≡ done → read_settings b ≡ accepted (settings_said b)
unfolding read_settings
open-read m b whole e = pick (first_refusal (settings_checks b)) (sym (ap (λ r. r.1) (open-past m b whole)) ∙ e)
  where
    pick : (o : Result ⊤ Refusal) → (memory_outcome m (open_with b) o).1 ≡ done → read_unless o (settings_said b) ≡ accepted (settings_said b)
    pick (Ok tt) h = refl
    pick (Err f) h = cc

-- Demand 3, whole.
pub refinement : Refinement
unfolding Refinement
refinement m b whole e calls =
    let s = settings_said b in
    let h = open-read m b whole e in
    let o : image (computed (empty s)) ≡ (memory_step m (open_with b)).0 = sym (ap (λ r. r.0) (open_done m b whole s h) ∙ ap image (opened-computed s)) in
    subst (λ x. Refined s x calls) o (refined s (valid-empty s (settings-valid b s h)) calls)
