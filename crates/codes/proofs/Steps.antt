-- By call: the number that a step answers says the answer itself.
use mathlib.Core.Path.{◌≡◌, refl, ap}
use mathlib.Core.Bool.{Bool}
use mathlib.Core.List.{List, [], ◌∷◌, map}
use mathlib.Core.Option.{Option, none, some}
use Prim.Native.Nat.{ℕ, zero, suc}
use native.Mathlib.Omega.{arith}
use lib.ListN.{length}
use Rattle.std.specs.Prelude.{Result, Ok, Err, ⊤}
use Rattle.block.specs.declared.Refusal.{Refusal}
use Rattle.block.specs.Refusal.{reason_number, first_refusal}
use Rattle.block.specs.Cut.{blocks_of}
use Rattle.block.specs.Entry.{Policy, Entry, container, policy}
use Rattle.block.specs.Reader.{entry_said}
use Rattle.model.specs.declared.Finding.{Finding}
use Rattle.model.specs.declared.Tally.{Tally}
use Rattle.model.specs.Table.{at, lowest_free}
use Rattle.model.specs.Findings.{Place, containers_of, policies_of, findings, place_of, walk, moved, finding_code, pairs}
use Rattle.model.specs.Calls.{ask_reaches, ask_user, next_finding, list_findings, counts, audit, write}
use Rattle.model.specs.Calls.{Call, open_with, change, admit, admit_batch, remove_container, remove_policy, rebuild, ask}
use Rattle.model.specs.Calls.{Answer, refusal, refusal_of, done, container_at, policy_at, says, no_finding, found, findings_put, counted, file_put, batch_put, found_answer, findings_answer, numbers_of, written, run}
use Rattle.model.specs.Batch.{pair_of, tallied, batch_answer}
use Rattle.model.specs.File.{file_of}
use Rattle.model.specs.RegistryStep.{admit_container, admit_policy, admit_entry, admit_block, take_policy, answer_to, accepted_step}
use Rattle.model.proofs.Lists.{All}
use Rattle.model.proofs.Batch.{pairs-back}
use Rattle.model.proofs.Findings.{FromKind, all_listed, findings-from}
use Rattle.model.proofs.Next.{is-next}
use Rattle.formed.specs.Registry.{model_in, bits_in, registry_in}
use Rattle.findings.proofs.NextFinding.{next_in, next-sized}
use Rattle.steps.specs.MemoryStep.{memory_refusals, memory_outcome, memory_step}
use Rattle.block.proofs.Checks.{reason-positive}
use Rattle.codes.specs.Codes.{code_of}
use Rattle.steps.proofs.Outcomes.{container-slot-below, policy-slot-below}
use Rattle.steps.proofs.Positions.{memory-within}
use Rattle.codes.proofs.Few.{containers-few, policies-few, pairs-fit}
use Rattle.codes.proofs.Decoded.{finding_of, counted_of, found_of, truth_of, slot_of, accepted_as, decoded, Decodes, decodes-refusal, decodes-accepted, InRange}
use Rattle.codes.proofs.Decoded.{top-done, top-none, top-container, top-policy, top-truth, truth-back, top-found, none-back, found_back, top-put, findings-back, top-counted, counted_back, top-file, top-zero}

-- ---- the findings that a memory gives

module _ (m : List ℕ) where
  next-in-range : (c : Place) (g : Finding) → next_in m c ≡ some g → InRange g
  next-in-range c g e = record {
    some = all_listed (FromKind 1) g (findings (model_in m) (bits_in m)) (findings-from (model_in m) (bits_in m)) (is-next (model_in m) (bits_in m) c g e).is;
    small = next-sized m c g e;
  }

  walk-in-range : (n : ℕ) (c : Place) → All InRange (walk (next_in m) n c)
  walk-in-range zero c = tt
  walk-in-range (suc n) c = pick (next_in m c) refl (walk-in-range n)
    where
      pick : (o : Option Finding) → next_in m c ≡ o → ((d : Place) → All InRange (walk (next_in m) n d))
          → All InRange (elim o [ none ↦ [] | some g ↦ g ∷ walk (next_in m) n (place_of g) ])
      pick none e ih = tt
      pick (some g) e ih = (next-in-range c g e, ih (place_of g))

-- ---- each call

decodes-truth : (t : Bool) → Decodes (says (truth_of (code_of (says t)))) (says t)
decodes-truth t = decodes-accepted _ (says t) (top-truth t) (ap says (truth-back t))

decodes-done : Decodes done done
decodes-done = decodes-accepted done done top-done refl

-- a batch of these answers
decodes-batch : (t : Tally) (given : List Answer)
    → Decodes (accepted_as (change (admit_batch [] 0 t)) (written (batch_answer t given)) (code_of (batch_answer t given))) (batch_answer t given)
unfolding batch_answer
decodes-batch t given =
    let ps = map pair_of given in
    decodes-accepted _ (batch_put ps (tallied t ps)) (top-zero (numbers_of ps)) (ap (λ (l : List (ℕ × ℕ)). batch_put l (tallied t l)) (pairs-back ps))

module _ (m : List ℕ) where
  decodes-entry : (x : Entry) → Decodes (slot_of x (code_of (admit_entry (registry_in m) x).1)) (admit_entry (registry_in m) x).1
  unfolding registry_in admit_entry admit_container admit_policy
  decodes-entry (container x) = pick (lowest_free (model_in m).containers) refl
    where
      pick : (o : Option ℕ) → lowest_free (model_in m).containers ≡ o
          → Decodes (container_at (code_of (admit_container (registry_in m) x o).1)) (admit_container (registry_in m) x o).1
      pick none e = decodes-refusal 12 0 (omega arith) (container_at (code_of (refusal 12 0))) (omega arith)
      pick (some c) e = decodes-accepted (container_at c) (container_at c) (top-container c (container-slot-below m c e)) refl
  decodes-entry (policy p) = pick (lowest_free (model_in m).policies) refl
    where
      pick : (o : Option ℕ) → lowest_free (model_in m).policies ≡ o → Decodes (policy_at (code_of (admit_policy (registry_in m) p o).1)) (admit_policy (registry_in m) p o).1
      pick none e = decodes-refusal 12 0 (omega arith) (policy_at (code_of (refusal 12 0))) (omega arith)
      pick (some q) e = decodes-accepted (policy_at q) (policy_at q) (top-policy q (policy-slot-below m q e)) refl

  decodes-taken : (q : ℕ) (o : Option Policy) → Decodes done (take_policy (registry_in m) q o).1
  unfolding take_policy
  decodes-taken q none = decodes-refusal 11 0 (omega arith) done (omega arith)
  decodes-taken q (some p) = decodes-done

  decodes-next : (c : Place) (o : Option Finding) → next_in m c ≡ o → Decodes (found_of (code_of (found_answer o))) (found_answer o)
  decodes-next c none e = decodes-accepted _ no_finding top-none none-back
  decodes-next c (some g) e =
      let i = next-in-range m c g e in
      decodes-accepted _ (found g (place_of g)) (top-found g (place_of g) i) (found_back g i)

  decodes-list : (c : Place) (l : List Finding) → All InRange l
      → Decodes (findings_put (map finding_code l) (moved c (map finding_of (map finding_code l)))) (findings_answer c l)
  decodes-list c l t =
      decodes-accepted _ (findings_answer c l) (top-put l (moved c l)) (ap (λ k. findings_put (map finding_code l) (moved c k)) (findings-back l t))

  abbrev counts_in : Answer
  counts_in = counted (length (containers_of (model_in m))) (length (policies_of (model_in m))) (pairs (bits_in m))

  decodes-counts : Decodes (counted_of (code_of counts_in)) counts_in
  decodes-counts =
      decodes-accepted _ counts_in
      (top-counted _ _ _ (containers-few m) (policies-few m) (pairs-fit m)) (counted_back _ _ _ (containers-few m) (policies-few m) (pairs-fit m))

  decodes-step : (call : Call) → let a = (accepted_step (registry_in m) call).1 in Decodes (accepted_as call (written a) (code_of a)) a
  unfolding accepted_step answer_to registry_in
  decodes-step (open_with b) = decodes-done
  decodes-step (change (admit b)) = decodes-entry (entry_said b)
  decodes-step (change (admit_batch bs n t)) = decodes-batch t (run admit_block (registry_in m) (blocks_of bs)).1
  decodes-step (change (remove_container c)) = decodes-done
  decodes-step (change (remove_policy q)) = decodes-taken q (at (model_in m).policies q)
  decodes-step (change rebuild) = decodes-done
  decodes-step (ask (ask_reaches a b)) = decodes-truth _
  decodes-step (ask (ask_user c v)) = decodes-truth _
  decodes-step (ask (next_finding c)) = decodes-next c (next_in m c) refl
  decodes-step (ask (list_findings c n)) = decodes-list c (walk (next_in m) n c) (walk-in-range m n c)
  decodes-step (ask counts) = decodes-counts
  decodes-step (ask audit) = decodes-truth _
  decodes-step (ask (write n)) = decodes-accepted _ (file_put (file_of (model_in m))) (top-file (file_of (model_in m))) refl

  pub decoded-step : (call : Call) → let a = (memory_step m call).1 in decoded call (written a) (code_of a) ≡ a
  unfolding memory_step
  decoded-step call = pick (first_refusal (memory_refusals m call)) refl
    where
      pick : (o : Result ⊤ Refusal) → first_refusal (memory_refusals m call) ≡ o → let a = (memory_outcome m call o).1 in decoded call (written a) (code_of a) ≡ a
      pick (Ok tt) e = decodes-step call
      pick (Err f) e =
          decodes-refusal (reason_number f.reason) f.position (memory-within m call f e) (accepted_as call [] (code_of (refusal_of f))) (reason-positive f.reason)
