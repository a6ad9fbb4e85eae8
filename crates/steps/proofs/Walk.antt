-- One call more than there are findings: the last of them says that there is none.
use mathlib.Core.Path.{◌≡◌, sym, ap, subst, ◌∙◌}
use mathlib.Core.Bool.{true}
use mathlib.Core.List.{List, [], ◌∷◌}
use mathlib.Core.Option.{Option, none, some}
use Prim.Native.Nat.{ℕ, suc}
use native.Mathlib.Omega.{arith}
use lib.ListN.{length}
use Rattle.block.specs.Entry.{Settings}
use Rattle.model.specs.declared.Finding.{Finding}
use Rattle.model.specs.Findings.{Place}
use Rattle.model.specs.Findings.{place_of, next_after, start}
use Rattle.model.specs.Model.{empty}
use Rattle.model.specs.Calls.{ask, next_finding, found, no_finding, found_answer}
use Rattle.formed.specs.Registry.{model_in, bits_in, well_formed}
use Rattle.steps.specs.MemoryStep.{memory_step}
use Rattle.steps.specs.Refinement.{Lending, on_memory, on_model, followed, model_findings, walk_on, Refined}
use Rattle.steps.proofs.Outcomes.{next-answers}

-- The answers of next finding from a cursor, each followed, until one says none.
pub data WholeWalk (m : List ℕ) : Place → List Finding → Type 0 where
  ends : (c : Place) → (memory_step m (ask (next_finding c))).1 ≡ no_finding → WholeWalk m c []
  meets : (c d : Place) (g : Finding) (l : List Finding) → (memory_step m (ask (next_finding c))).1 ≡ found g d → WholeWalk m d l → WholeWalk m c (g ∷ l)

module _ (m : List ℕ) (formed : well_formed m ≡ true) where
  answer : (c : Place) → (memory_step m (ask (next_finding c))).1 ≡ found_answer (next_after (model_in m) (bits_in m) c)
  answer c = ap (λ r. r.1) (next-answers m formed c)

  walk_ends : (l : List Finding) (c : Place) → walk_on m (suc (length l)) c ≡ l → WholeWalk m c l
  unfolding walk_on
  walk_ends [] c e = pick (next_after (model_in m) (bits_in m) c) (answer c) e
    where
      pick : (o : Option Finding) → (memory_step m (ask (next_finding c))).1 ≡ found_answer o → followed (memory_step m (ask (next_finding c))).1 (walk_on m 0) ≡ [] → WholeWalk m c []
      pick none h e = ends c h
      pick (some g) h e =
          let k : ◌≡◌ {A = List Finding} (g ∷ walk_on m 0 (place_of g)) [] = sym (ap (λ a. followed a (walk_on m 0)) h) ∙ e in
          let z : ◌≡◌ {A = ℕ} 0 1 = cc in
          absurd (omega arith)
  walk_ends (x ∷ l) c e = pick (next_after (model_in m) (bits_in m) c) (answer c) e (walk_ends l)
    where
      rest : Place → List Finding
      rest d = walk_on m (suc (length l)) d

      pick : (o : Option Finding) → (memory_step m (ask (next_finding c))).1 ≡ found_answer o → followed (memory_step m (ask (next_finding c))).1 rest ≡ x ∷ l
          → ((d : Place) → rest d ≡ l → WholeWalk m d l) → WholeWalk m c (x ∷ l)
      pick none h e ih =
          let k : ◌≡◌ {A = List Finding} [] (x ∷ l) = sym (ap (λ a. followed a rest) h) ∙ e in
          let z : ◌≡◌ {A = ℕ} 0 1 = cc in
          absurd (omega arith)
      pick (some g) h e ih =
          let k : ◌≡◌ {A = List Finding} (g ∷ rest (place_of g)) (x ∷ l) = sym (ap (λ a. followed a rest) h) ∙ e in
          let p : g ≡ x = cc in
          let q : rest (place_of g) ≡ l = cc in
          subst (λ y. WholeWalk m c (y ∷ l)) p (meets c (place_of g) g l h (ih (place_of g) q))

-- Of demand 3: from the start, until one says none, the findings of the model left.
pub refined-walk : (s : Settings) (m : List ℕ) (calls : List Lending) → Refined s m calls
    → WholeWalk (on_memory m calls).0 start (model_findings (on_model (empty s) calls).0)
refined-walk s m calls r =
    let l = model_findings (on_model (empty s) calls).0 in
    walk_ends (on_memory m calls).0 r.formed l start (r.walk (suc (length l)) (omega arith))
