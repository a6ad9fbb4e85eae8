-- The entries that a memory holds are the model's; and where every stored bit is by the rules, the whole registry: demand 3's own step,
-- taken on.
use mathlib.Core.Path.{◌≡◌, refl, ap, subst, ◌∙◌}
use mathlib.Core.Bool.{true}
use mathlib.Core.List.{List, [], ◌∷◌}
use Prim.Native.Nat.{ℕ}
use lib.ListN.{length}
use Rattle.block.specs.Entry.{Settings}
use Rattle.block.specs.Refusal.{accepted}
use Rattle.block.specs.Reader.{read_settings}
use Rattle.block.proofs.Accepted.{settings-valid}
use Rattle.model.specs.Model.{Model, empty, computed_bits}
use Rattle.model.specs.Findings.{next_after}
use Rattle.model.specs.Calls.{Call, Answer, open_with, change, admit, run}
use Rattle.model.specs.ModelStep.{admitting_block, model_step}
use Rattle.model.specs.OnePass.{entries_placed}
use Rattle.model.specs.Registry.{Registry, computed, rebuilt}
use Rattle.model.proofs.Consistent.{opened-computed}
use Rattle.model.proofs.OnePass.{placed-stand}
use Rattle.store.specs.Layout.{memory_words}
use Rattle.formed.specs.Registry.{ValidEntries, Acceptable, model_in, registry_in, image, well_formed}
use Rattle.formed.proofs.Back.{registry-image}
use Rattle.formed.proofs.Formed.{acceptable-image, formed-memory, formed-entries}
use Rattle.steps.specs.MemoryStep.{memory_step}
use Rattle.steps.proofs.Outcomes.{open_done}
use Rattle.steps.proofs.Valid.{acceptable-computed, valid-empty, valid-step}
use Rattle.steps.proofs.Refinement.{step-refines}
use Rattle.findings.proofs.NextFinding.{next_in}
use Rattle.batch_blocks.specs.Blocks.{block_placed}

-- the memory m is that of the model
pub record Keeps (m : List ℕ) (w : Model) : Type 0 where
  pub valid : ValidEntries w
  pub is : m ≡ image (computed w)

keeps-step : (m : List ℕ) (w : Model) → Keeps m w → (call : Call) → memory_step m call ≡ (image (computed (model_step w call).0), (model_step w call).1)
keeps-step m w k call = ap (λ (x : List ℕ). memory_step x call) k.is ∙ step-refines w k.valid call

pub keeps-after : (m : List ℕ) (w : Model) → Keeps m w → (call : Call) → Keeps (memory_step m call).0 (model_step w call).0
keeps-after m w k call = record {
  valid = valid-step w k.valid call;
  is = ap (λ (r : List ℕ × Answer). r.0) (keeps-step m w k call);
}

pub keeps-answer : (m : List ℕ) (w : Model) → Keeps m w → (call : Call) → (memory_step m call).1 ≡ (model_step w call).1
keeps-answer m w k call = ap (λ (r : List ℕ × Answer). r.1) (keeps-step m w k call)

pub keeps-open : (m b : List ℕ) → length m ≡ memory_words → (s : Settings) → read_settings b ≡ accepted s → Keeps (memory_step m (open_with b)).0 (empty s)
keeps-open m b h s e = record {
  valid = valid-empty s (settings-valid b s e);
  is = ap (λ (r : List ℕ × Answer). r.0) (open_done m b h s e) ∙ ap image (opened-computed s);
}

module _ (m : List ℕ) (w : Model) (k : Keeps m w) where
  keeps-registry : registry_in m ≡ computed w
  keeps-registry = ap registry_in k.is ∙ registry-image (computed w) (acceptable-computed w k.valid)

  pub keeps-formed : well_formed m ≡ true
  keeps-formed = ap well_formed k.is ∙ acceptable-image (computed w) (acceptable-computed w k.valid)

  pub keeps-next : next_in m ≡ next_after w (computed_bits w)
  unfolding registry_in computed
  keeps-next = ap (λ r. next_after r.model r.bits) keeps-registry

  pub keeps-entries : model_in m ≡ w
  unfolding registry_in computed
  keeps-entries = ap (λ (r : Registry). r.model) keeps-registry

-- ---- entries alone

-- the memory m is well formed, and its entries are those of the model
pub record Holds (m : List ℕ) (w : Model) : Type 0 where
  pub formed : well_formed m ≡ true
  pub entries : model_in m ≡ w

pub holds-open : (m b : List ℕ) → length m ≡ memory_words → (s : Settings) → read_settings b ≡ accepted s → Holds (memory_step m (open_with b)).0 (empty s)
holds-open m b h s e =
    let k = keeps-open m b h s e in
    record { formed = keeps-formed _ (empty s) k; entries = keeps-entries _ (empty s) k }

valid-run : (w : Model) → ValidEntries w → (l : List (List ℕ)) → ValidEntries (run admitting_block w l).0
unfolding model_step
valid-run w v [] = v
valid-run w v (b ∷ l) = valid-run (admitting_block w b).0 (valid-step w v (change (admit b))) l

module _ (m : List ℕ) (w : Model) (h : Holds m w) where
  valid : ValidEntries (model_in m)
  valid = (formed-entries m h.formed).entries

  -- every stored bit set
  pub holds-rebuilt : Keeps (image (rebuilt (registry_in m))) w
  unfolding rebuilt registry_in
  holds-rebuilt = record { valid = subst ValidEntries h.entries valid; is = ap (λ (x : Model). image (computed x)) h.entries }

  -- blocks placed
  pub holds-placed : (l : List (List ℕ)) → Holds (image (entries_placed (registry_in m) l)) (run admitting_block w l).0
  unfolding entries_placed registry_in
  holds-placed l =
      let r = entries_placed (registry_in m) l in
      let ok : Acceptable r = record { entries = valid-run (model_in m) valid l; bits = placed-stand (registry_in m) l (formed-memory m h.formed).acceptable.bits } in
      record {
        formed = acceptable-image r ok;
        entries = ap (λ (x : Registry). x.model) (registry-image r ok) ∙ ap (λ (x : Model). (run admitting_block x l).0) h.entries;
      }

  pub holds-block : (b : List ℕ) → Holds (block_placed m b).0 (model_step w (change (admit b))).0
  unfolding block_placed entries_placed registry_in admitting_block model_step
  holds-block b = holds-placed (b ∷ [])

  pub holds-answer : (b : List ℕ) → (block_placed m b).1 ≡ (model_step w (change (admit b))).1
  unfolding block_placed admitting_block model_step
  holds-answer b = ap (λ (x : Model). (admitting_block x b).1) h.entries

pub holds-itself : (m : List ℕ) → well_formed m ≡ true → Holds m (model_in m)
holds-itself m h = record { formed = h; entries = refl }

pub rebuilt-formed : (m : List ℕ) → well_formed m ≡ true → well_formed (image (rebuilt (registry_in m))) ≡ true
rebuilt-formed m h = keeps-formed _ (model_in m) (holds-rebuilt m (model_in m) (holds-itself m h))
