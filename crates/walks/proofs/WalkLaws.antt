-- What the cursor's step and its listing are of the call's answer: the model's next finding, and its walk as far as the list holds.
use mathlib.Core.Path.{◌≡◌, refl, sym, ap, ap₂, ◌∙◌}
use mathlib.Core.Bool.{true}
use mathlib.Core.List.{List, map}
use mathlib.Core.Option.{Option, none, some}
use Prim.Native.Nat.{ℕ}
use lib.ListN.{length}
use Rattle.buffer.specs.Buffer.{Puts}
use Rattle.buffer.proofs.BufferLaws.{puts-taken}
use Rattle.model.specs.declared.Finding.{Finding}
use Rattle.model.specs.Findings.{Place, next_after, walk, moved, finding_code}
use Rattle.model.specs.Calls.{ask, next_finding, list_findings, Answer, findings_put, found_answer}
use Rattle.formed.specs.Registry.{model_in, bits_in, well_formed}
use Rattle.steps.specs.MemoryStep.{memory_step}
use Rattle.steps.proofs.Outcomes.{next-answers, findings-answers}
use Rattle.std.specs.Prelude.{Ok, Option as StdOption}
use Rattle.findings.specs.declared.Cursor.{Cursor}
use Rattle.findings.specs.declared.Put.{Put}
use Rattle.findings.specs.Steps.{cursor_place, next_step}
use Rattle.answers.specs.Answers.{next_answer, put_answer}
use Rattle.answers.proofs.AnswerLaws.{Promised, promised-put}

module _ (m : List ℕ) (formed : well_formed m ≡ true) where
  -- the next finding, and the place to go on from
  pub next-answer : (c : Place) (s : StdOption (Finding × Cursor)) → s ≡ next_step (next_after (model_in m) (bits_in m) c)
      → memory_step m (ask (next_finding c)) ≡ (m, next_answer (Ok s))
  next-answer c s e = next-answers m formed c ∙ pick (next_after (model_in m) (bits_in m) c) ∙ ap (λ x. (m, next_answer (Ok x))) (sym e)
    where
      pick : (o : Option Finding) → ◌≡◌ {A = List ℕ × Answer} (m, found_answer o) (m, next_answer (Ok (next_step o)))
      pick none = refl
      pick (some g) = refl

  -- what was put into the list, and the place to go on from
  pub findings-answer : (p : Place) {d e : List ℕ} (r : Put)
      → Puts d 0 (map finding_code (walk (next_after (model_in m) (bits_in m)) (length d) p)) e r.count
      → cursor_place r.cursor ≡ moved p (walk (next_after (model_in m) (bits_in m)) (length d) p)
      → Promised m (ask (list_findings p (length d))) d e (put_answer (Ok r) e) r.count
  findings-answer p {d} {e} r g q =
      promised-put m (ask (list_findings p (length d))) _ _ (ap₂ findings_put (puts-taken g) q) (findings-answers m formed p (length d)) g
