-- Demand 3: what the theorem speaks of.
use Rattle.std.specs.Prelude.{◌≡◌, true, List, [], ◌∷◌, ℕ, zero, suc, ◌≤◌, length}
use Rattle.std.proofs.Math.Option.{Option, none, some}
use Rattle.block.specs.Entry.{Settings}
use Rattle.model.specs.declared.Finding.{Finding}
use Rattle.model.specs.Findings.{Place}
use Rattle.block.specs.Reader.{settings_said}
use Rattle.model.specs.Findings.{findings, start}
use Rattle.formed.specs.Registry.{model_in, bits_in, well_formed}
use Rattle.model.specs.Calls.{Call, open_with, ask, next_finding, Answer, refusal, done, said}
use Rattle.model.specs.Model.{Model, empty, computed_bits}
use Rattle.model.specs.ModelStep.{model_step}
use Rattle.store.specs.Layout.{memory_words}
use Rattle.steps.specs.MemoryStep.{memory_step}

-- "Each call is lent that memory whole, with any blocks and numbers. A call lent another size is not fed to the plain book; it may
-- come anywhere between, gets 1 and changes nothing."
pub data Lending : Type 0 where
  ours : Call → Lending
  other : (x : List ℕ) → (length x ≡ memory_words → ⊥) → Call → Lending

-- What is seen of a call: its answer, and the memory of another size that it was lent, as it left it.
pub record Seen : Type 0 where
  pub answer : Answer
  pub other : Option (List ℕ)

-- the calls on memory: our memory at the end, and what was seen
unfoldable pub on_memory : List ℕ → List Lending → List ℕ × List Seen
on_memory m [] = (m, [])
on_memory m (ours call ∷ l) =
    let r = memory_step m call in
    let t = on_memory r.0 l in
    (t.0, record { answer = r.1; other = none } ∷ t.1)
on_memory m (other x e call ∷ l) =
    let r = memory_step x call in
    let t = on_memory m l in
    (t.0, record { answer = r.1; other = some r.0 } ∷ t.1)

-- the calls on the reference model, which is fed those lent our memory alone; the others are to get 1 and leave their memory
unfoldable pub on_model : Model → List Lending → Model × List Seen
on_model m [] = (m, [])
on_model m (ours call ∷ l) =
    let r = model_step m call in
    let t = on_model r.0 l in
    (t.0, record { answer = r.1; other = none } ∷ t.1)
on_model m (other x e call ∷ l) =
    let t = on_model m l in
    (t.0, record { answer = refusal 1 0; other = some x } ∷ t.1)

-- "A walk calls next finding from 0 0 0, then from each finding given, until there is none": the answers of the call itself, at
-- most n of them; the cursor handed back is where the next call begins.
abbrev pub followed : Answer → (Place → List Finding) → List Finding
followed a rest = elim (said a).finding [ none ↦ [] | some p ↦ p.0 ∷ rest p.1 ]

abbrev pub model_findings : Model → List Finding
model_findings m = findings m (computed_bits m)

unfoldable pub walk_on : List ℕ → ℕ → Place → List Finding
walk_on m zero c = []
walk_on m (suc n) c = followed (memory_step m (ask (next_finding c))).1 (walk_on m n)

-- What holds after a list of calls on a memory m that was opened with settings s.
pub record Refined (s : Settings) (m : List ℕ) (calls : List Lending) : Type 0 where
  -- "turn down the same calls with the same numbers, answer all others alike"
  pub answers : (on_memory m calls).1 ≡ (on_model (empty s) calls).1
  -- "hold the same entries at the same places"
  pub entries : model_in (on_memory m calls).0 ≡ (on_model (empty s) calls).0
  -- "no kept bit differs from the rules"
  pub bits : bits_in (on_memory m calls).0 ≡ computed_bits (on_model (empty s) calls).0
  -- a walk over the memory left meets exactly the model's findings, in their order
  pub walk : (n : ℕ) → length (model_findings (on_model (empty s) calls).0) ≤ n
      → walk_on (on_memory m calls).0 n start ≡ model_findings (on_model (empty s) calls).0
  pub formed : well_formed (on_memory m calls).0 ≡ true

-- "Demand 3 is one claim about the whole list and not one for each call. Before the list stands an accepted open on any memory of
-- the book's size; open may come again."
unfoldable pub Refinement : Type 0
Refinement =
    (m b : List ℕ) → length m ≡ memory_words → (memory_step m (open_with b)).1 ≡ done
    → (calls : List Lending) → Refined (settings_said b) (memory_step m (open_with b)).0 calls

-- Every call leaves a well-formed memory well formed, whatever its stored bits.
abbrev pub StaysFormed : Type 0
StaysFormed = (m : List ℕ) → well_formed m ≡ true → (call : Call) → well_formed (memory_step m call).0 ≡ true
