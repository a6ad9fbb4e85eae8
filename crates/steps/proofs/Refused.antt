-- The first check at fault refuses, 1 and 2 among them; a refused call and a query leave the memory itself.
use mathlib.Core.Path.{◌≡◌, refl, sym, ap, ◌∙◌}
use mathlib.Core.Logic.{◌↔◌}
use mathlib.Core.Bool.{false}
use mathlib.Core.List.{List, ◌∷◌}
use mathlib.Core.Option.{Option, none, some}
use Prim.Native.Nat.{ℕ}
use native.Mathlib.Omega.{arith}
use Rattle.std.specs.Prelude.{Result, Ok, Err, ⊤}
use Rattle.block.specs.declared.Refusal.{Refusal}
use Rattle.block.specs.declared.Reason.TheVariants.{MemorySize}
use Rattle.block.specs.Refusal.{check, first_refusal}
use Rattle.model.specs.Calls.{Call, refusal, said}
use Rattle.model.specs.Refusals.{where0, refusals, Refuses}
use Rattle.model.proofs.Refused.{FirstRefused, refused-by, first-exactly, both-passed, accepted-answers}
use Rattle.formed.specs.Registry.{registry_in}
use Rattle.steps.specs.MemoryStep.{other_size, meets_formed, memory_refusals, changes, memory_outcome, memory_step}
use Rattle.steps.proofs.Outcomes.{refused-outcome, accepted-outcome, sized-in}

module _ (m : List ℕ) where
  answered : (call : Call) (n p : ℕ) (o : Result ⊤ Refusal) → first_refusal (memory_refusals m call) ≡ o → (memory_outcome m call o).1 ≡ refusal n p
      → FirstRefused (memory_refusals m call) n p
  unfolding memory_refusals registry_in
  answered call n p (Ok tt) h e =
      let d = (both-passed (check MemorySize (where0 (other_size m)) ∷ meets_formed m call) (refusals (registry_in m) call) h).1 in
      let a : ◌≡◌ {A = Option (ℕ × ℕ)} (some (n, p)) none = sym (ap (λ x. (said x).refused) (sym (ap (λ r. r.1) (accepted-outcome m call)) ∙ e)) ∙ accepted-answers (registry_in m) (sized-in m) call d in
      let z : ◌≡◌ {A = ℕ} 0 1 = cc in
      absurd (omega arith)
  answered call n p (Err f) h e = refused-by (memory_refusals m call) n p f h (sym (ap (λ r. r.1) (refused-outcome m call f)) ∙ e)

  pub first-refused : (call : Call) (n p : ℕ) → (memory_step m call).1 ≡ refusal n p → FirstRefused (memory_refusals m call) n p
  unfolding memory_step
  first-refused call n p e = answered call n p (first_refusal (memory_refusals m call)) refl e

  -- Refused with n at p: exactly if n's condition finds fault at p, and no earlier one that the call meets finds any.
  pub memory-refused-exactly : (call : Call) (n p : ℕ) → ((memory_step m call).1 ≡ refusal n p) ↔ Refuses (memory_refusals m call) n p
  unfolding memory_step
  memory-refused-exactly call n p = let cs = memory_refusals m call in (
    λ e. (first-exactly cs n p).0 (first-refused call n p e),
    λ s. let f = (first-exactly cs n p).1 s in
        ap (λ o. (memory_outcome m call o).1) f.first ∙ ap (λ k. refusal k p) f.numbered,
  )

  -- A refused call leaves every word as it was.
  pub refused-unchanged : (call : Call) (n p : ℕ) → (memory_step m call).1 ≡ refusal n p → (memory_step m call).0 ≡ m
  unfolding memory_step
  refused-unchanged call n p e =
      let s = first-refused call n p e in
      ap (λ o. (memory_outcome m call o).0) s.first ∙ ap (λ r. r.0) (refused-outcome m call (record { reason = s.reason; position = p }))

  -- A query leaves every word as it was.
  pub query-unchanged : (call : Call) → changes call ≡ false → (memory_step m call).0 ≡ m
  unfolding memory_step
  query-unchanged call e = pick (first_refusal (memory_refusals m call))
    where
      pick : (o : Result ⊤ Refusal) → (memory_outcome m call o).0 ≡ m
      pick (Ok tt) = ap (λ r. r.0) (accepted-outcome m call) ∙ rw e
      pick (Err f) = ap (λ r. r.0) (refused-outcome m call f)
