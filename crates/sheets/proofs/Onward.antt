-- The counts and the findings put the first of what is still to come of the text; and so does every step.
use mathlib.Core.Path.{◌≡◌, refl, sym, ap, ◌∙◌, subst}
use mathlib.Core.Bool.{Bool, true, false, cond}
use mathlib.Core.List.{List, [], ◌++◌, map}
use mathlib.Core.Option.{Option}
use mathlib.Core.Logic.{◌⊎◌, inl, inr}
use Prim.Native.Nat.{ℕ, ◌<◌, min}
use native.Mathlib.Omega.{arith}
use lib.Dec.{ltb}
use lib.ListN.{length, take, drop, length-map, length-take, length-drop, take-append-drop}
use borrow.Author.Tests.{ltb-true, ltb-false}
use Rattle.model.specs.declared.Finding.{Finding}
use Rattle.model.specs.Findings.{Place, start, moved, findings, finding_code}
use Rattle.model.specs.Model.{computed_bits}
use Rattle.model.specs.Calls.{Answer, ask, counts, list_findings, findings_answer}
use Rattle.model.specs.ModelStep.{model_answer, model_step}
use Rattle.model.specs.Registry.{rebuilt}
use Rattle.model.proofs.Next.{Leads, leads-walk, findings-lead}
use Rattle.formed.specs.Registry.{registry_in, image, well_formed}
use Rattle.steps.specs.MemoryStep.{memory_step}
use Rattle.steps.proofs.Outcomes.{findings-answers}
use Rattle.findings.specs.declared.Cursor.{Cursor}
use Rattle.findings.specs.Steps.{cursor_place}
use Rattle.findings.proofs.NextFinding.{next_in}
use Rattle.sheets.specs.declared.State.{State}
use Rattle.sheets.specs.declared.State.TheVariants.{Taking, Counting, Listing, Finished}
use Rattle.sheets.specs.Closing.{counting, count_step, cursor_to, lines_in, listing, list_step}
use Rattle.text.specs.Lines.{finding_lines, code_lines}
use Rattle.sheets.specs.Sheet.{closing}
use Rattle.sheets.specs.Step.{told, report_step}
use Rattle.text.proofs.LineLaws.{lines-append, code_lines-law, small-take}
use Rattle.sheets.proofs.Blocks.{no_bytes}
use Rattle.sheets.proofs.Leads.{leads-on, leads-small}
use Rattle.sheets.proofs.Kept.{keeps-answer, keeps-formed, keeps-next, holds-rebuilt}
use Rattle.sheets.proofs.Due.{DueCounts, DueFindings, Due, Onward, piece-onward}

-- ---- counts and findings

count-onward : (m k t i : List ℕ) → length k ≡ 512 → DueCounts m t → let r = image (rebuilt (registry_in m)) in Onward t (told r k (count_step r)) i
unfolding count_step closing model_step model_answer
count-onward m k t i whole g =
    let w = g.w in
    let r = image (rebuilt (registry_in m)) in
    let y = holds-rebuilt m w g.holds in
    let l = findings w (computed_bits w) in
    subst (λ (a : Answer). Onward t (told r k (counting a)) i) (sym (keeps-answer r w y (ask counts))) (record {
      rest = finding_lines l;
      text = g.text;
      size = whole;
      due = record {
        formed = keeps-formed r w y;
        left = l;
        leads = subst (λ (next : Place → Option Finding). Leads next start l) (sym (keeps-next r w y)) (findings-lead w (computed_bits w));
        text = refl;
      };
    })

-- a state after some findings, where these are left
abbrev pub DueLines : List ℕ → State → List Finding → Type 0
DueLines m (Taking n f) l = ⊥
DueLines m Counting l = ⊥
DueLines m (Listing c) l = Leads (next_in m) (cursor_place c) l
DueLines m Finished l = l ≡ []

-- of the lines of l, x put those of some findings, no more than n
pub record Lines (m : List ℕ) (n : ℕ) (l : List Finding) (x : List ℕ × State) : Type 0 where
  pub rest : List Finding
  pub text : finding_lines l ≡ x.0 ++ finding_lines rest
  pub due : DueLines m x.1 rest
  pub falls : 0 < n → (x.1 ≡ Finished) ⊎ (length rest < length l)

module _ (m : List ℕ) (formed : well_formed m ≡ true) (n : ℕ) (c : Cursor) (l : List Finding) (h : Leads (next_in m) (cursor_place c) l) where
  abbrev first_ones : List Finding
  first_ones = take n l

  findings-said : (memory_step m (ask (list_findings (cursor_place c) n))).1 ≡ findings_answer (cursor_place c) first_ones
  findings-said = ap (λ (r : List ℕ × Answer). r.1) (findings-answers m formed (cursor_place c) n) ∙ ap (findings_answer (cursor_place c)) (leads-walk (next_in m) n (cursor_place c) l h)

  lines-put : finding_lines l ≡ code_lines (map finding_code first_ones) ++ finding_lines (drop n l)
  lines-put =
      ap finding_lines (sym (take-append-drop n l)) ∙ lines-append first_ones (drop n l)
      ∙ ap (λ (t : List ℕ). t ++ finding_lines (drop n l)) (sym (code_lines-law first_ones (small-take n l (leads-small m (cursor_place c) l h))))

  put-size : length (map finding_code first_ones) ≡ min n (length l)
  put-size = length-map first_ones finding_code ∙ length-take n l

  pub lines-listed : Lines m n l (listing n (memory_step m (ask (list_findings (cursor_place c) n))).1)
  lines-listed = subst (λ (a : Answer). Lines m n l (listing n a)) (sym findings-said) (pick (ltb (length (map finding_code first_ones)) n) refl)
    where
      pick : (t : Bool) → ltb (length (map finding_code first_ones)) n ≡ t → Lines m n l (code_lines (map finding_code first_ones), cond t Finished (Listing (cursor_to (moved (cursor_place c) first_ones))))
      pick true e = record {
        rest = drop n l;
        text = lines-put;
        due = let z = ltb-true (length (map finding_code first_ones)) n e in no_bytes (drop n l) (omega (arith, z, put-size, length-drop n l));
        falls = λ _. inl refl;
      }
      pick false e = record {
        rest = drop n l;
        text = lines-put;
        due = leads-on (next_in m) n (cursor_place c) l h;
        falls = λ w. let z = ltb-false (length (map finding_code first_ones)) n e in inr (omega (arith, w, z, put-size, length-drop n l));
      }

pub lines-due : (m k i : List ℕ) → well_formed m ≡ true → (s : State) (l : List Finding) → DueLines m s l → Due s m k i (finding_lines l)
unfolding finding_lines
lines-due m k i h (Taking n f) l d = absurd d
lines-due m k i h Counting l d = absurd d
lines-due m k i h (Listing c) l d = record { formed = h; left = l; leads = d; text = refl }
lines-due m k i h Finished l d = ap finding_lines d

list-onward : (m k t i : List ℕ) (room : ℕ) (c : Cursor) → length k ≡ 512 → DueFindings m c t → Onward t (told m k (list_step m room c)) i
unfolding list_step
list-onward m k t i room c whole g =
    let y = lines-listed m g.formed (lines_in room) c g.left g.leads in
    record {
      rest = finding_lines y.rest;
      text = g.text ∙ y.text;
      size = whole;
      due = lines-due m k i g.formed (list_step m room c).1 y.rest y.due;
    }

-- ---- a step

pub step-onward : (m k p q t : List ℕ) (ended : Bool) (room : ℕ) (s : State) → length k ≡ 512 → (ended ≡ true → q ≡ []) → Due s m k (p ++ q) t
    → let x = report_step m k p ended room s in Onward t x (drop x.used p ++ q)
unfolding report_step
step-onward m k p q t ended room (Taking n f) whole fin d = piece-onward m k p q t ended n f whole fin d room
step-onward m k p q t ended room Counting whole fin d = count-onward m k t (p ++ q) whole d
step-onward m k p q t ended room (Listing c) whole fin d = list-onward m k t (p ++ q) room c whole d
step-onward m k p q t ended room Finished whole fin d = record { rest = []; text = d; size = whole; due = refl }
