-- The first refusal of a list is that of its first check at fault, and a call that no check refuses answers no refusal.
use mathlib.Core.Path.{◌≡◌, refl, sym, ap, ap₂, subst, ◌∙◌}
use mathlib.Core.Logic.{◌↔◌}
use mathlib.Core.Bool.{Bool, true, false, ◌&&◌}
use mathlib.Core.List.{List, [], ◌∷◌, ◌++◌}
use mathlib.Core.Option.{Option, none, some}
use Prim.Native.Nat.{ℕ, ◌≤◌, ◌<◌}
use native.Mathlib.Omega.{arith}
use lib.Dec.{T}
use lib.ListN.{length}
use borrow.Author.Tests.{leb-false}
use Rattle.std.specs.Prelude.{Option as StdOption, None, Some, Result, Ok, Err, ⊤, is_none}
use Rattle.block.specs.declared.Reason.{Reason}
use Rattle.block.specs.declared.Reason.TheVariants.{BeyondTable, FreeSlot, TableFull}
use Rattle.block.specs.declared.Refusal.{Refusal}
use Rattle.block.specs.Refusal.{reason_number, Check, check, refuse, first_refusal, accepted, read_unless}
use Rattle.block.specs.Entry.{Container, Policy, Settings, Entry, container, policy}
use Rattle.block.specs.Reader.{entry_checks, entry_said, read_entry}
use Rattle.block.proofs.Checks.{reason-positive}
use Rattle.block.proofs.Positions.{entry-within}
use Rattle.model.specs.declared.Finding.{Finding}
use Rattle.model.specs.Table.{all, is_free, at, free, lowest_free}
use Rattle.model.specs.Model.{policy_slots, Model}
use Rattle.model.specs.Findings.{next_after}
use Rattle.model.specs.Calls.{ask_reaches, ask_user, next_finding, list_findings, counts, audit, write}
use Rattle.model.specs.Calls.{Call, open_with, change, admit, admit_batch, remove_container, remove_policy, rebuild, ask}
use Rattle.model.specs.Calls.{refusal, refusal_of, found_answer, said}
use Rattle.model.specs.Batch.{batch_answer}
use Rattle.model.specs.ModelStep.{placing, placing_policy, admitting, model_step}
use Rattle.model.specs.Registry.{Registry, computed}
use Rattle.model.specs.Refusals.{where0, beyond, slot_checks, no_room, admit_checks, refusals, Refuses}
use Rattle.model.specs.RegistryStep.{admit_container, admit_policy, admit_entry, take_policy, answer_to, accepted_step, unless_refused, registry_step}
use Rattle.model.proofs.Tables.{full-lowest, free-at}
use Rattle.model.proofs.Agreement.{Sized, or_refusal, first-append, step-agrees}

abbrev the_refusal : Reason → ℕ → Refusal
the_refusal w p = record { reason = w; position = p }

-- the first refusal of a list: it has number n, and is at p
pub record FirstRefused (cs : List Check) (n p : ℕ) : Type 0 where
  pub reason : Reason
  pub numbered : reason_number reason ≡ n
  pub first : first_refusal cs ≡ Err (the_refusal reason p)

pub refused-by : (cs : List Check) (n p : ℕ) (f : Refusal) → first_refusal cs ≡ Err f → refusal_of f ≡ refusal n p → FirstRefused cs n p
refused-by cs n p f h e =
    let s : reason_number f.reason ≡ n = cc in
    let q : f.position ≡ p = cc in
    record { reason = f.reason; numbered = s; first = h ∙ ap (λ k. Err (the_refusal f.reason k)) q }

to : (cs : List Check) (w : Reason) (p : ℕ) → first_refusal cs ≡ Err (the_refusal w p) → Refuses cs (reason_number w) p
to [] w p e = let z : ◌≡◌ {A = ℕ} 0 1 = cc in absurd (omega arith)
to (c ∷ cs) w p e = pick c.fault refl e (to cs w p)
  where
    pick : (f : StdOption ℕ) → c.fault ≡ f → refuse c.reason f (first_refusal cs) ≡ Err (the_refusal w p)
        → (first_refusal cs ≡ Err (the_refusal w p) → Refuses cs (reason_number w) p) → Refuses (c ∷ cs) (reason_number w) p
    pick (Some q) h e ih =
        let s : the_refusal c.reason q ≡ the_refusal w p = cc in
        record {
          reason = w;
          numbered = refl;
          before = [];
          after = cs;
          met = ap (λ f. check c.reason f ∷ cs) h ∙ ap (λ f. check f.reason (Some f.position) ∷ cs) s;
          passed = refl;
        }
    pick None h e ih =
        let s = ih e in
        record {
          reason = s.reason;
          numbered = s.numbered;
          before = c ∷ s.before;
          after = s.after;
          met = ap (λ l. c ∷ l) s.met;
          passed = ap₂ ◌&&◌ (ap is_none h) s.passed;
        }

from : (before after : List Check) (w : Reason) (p : ℕ) → all (λ c. is_none c.fault) before ≡ true
    → first_refusal (before ++ (check w (Some p) ∷ after)) ≡ Err (the_refusal w p)
from [] after w p e = refl
from (c ∷ cs) after w p e = pick c.fault e (from cs after w p)
  where
    pick : (f : StdOption ℕ) → (is_none f && all (λ c. is_none c.fault) cs) ≡ true
        → (all (λ c. is_none c.fault) cs ≡ true → first_refusal (cs ++ (check w (Some p) ∷ after)) ≡ Err (the_refusal w p))
        → refuse c.reason f (first_refusal (cs ++ (check w (Some p) ∷ after))) ≡ Err (the_refusal w p)
    pick None e ih = ih e
    pick (Some q) e ih = absurd (subst T (sym e) tt)

-- Of every list of checks.
pub first-exactly : (cs : List Check) (n p : ℕ) → FirstRefused cs n p ↔ Refuses cs n p
first-exactly cs n p = (
  λ r. subst (λ k. Refuses cs k p) r.numbered (to cs r.reason p r.first),
  λ s. record { reason = s.reason; numbered = s.numbered; first = ap first_refusal s.met ∙ from s.before s.after s.reason p s.passed },
)

-- ---- a call that no check refuses answers no refusal

-- a condition that gives no refusal does not hold
passed-false : (w : Reason) (u : Bool) (o : Result ⊤ Refusal) → refuse w (where0 u) o ≡ Ok tt → (u ≡ false) × (o ≡ Ok tt)
passed-false w true o e = let z : ◌≡◌ {A = ℕ} 0 1 = cc in absurd (omega arith)
passed-false w false o e = (refl, e)

-- checks that give no refusal: neither the first of them nor the last give one
pub both-passed : (cs ds : List Check) → first_refusal (cs ++ ds) ≡ Ok tt → (first_refusal cs ≡ Ok tt) × (first_refusal ds ≡ Ok tt)
unfolding or_refusal
both-passed cs ds e = pick (first_refusal cs) (sym (first-append cs ds) ∙ e)
  where
    pick : (o : Result ⊤ Refusal) → or_refusal o (first_refusal ds) ≡ Ok tt → (o ≡ Ok tt) × (first_refusal ds ≡ Ok tt)
    pick (Ok tt) e = (refl, e)
    pick (Err f) e = let z : ◌≡◌ {A = ℕ} 0 1 = cc in absurd (omega arith)

module _ (r : Registry) (sized : Sized r.model) where
  placed : (x : Container) (o : Option ℕ) → is_free o ≡ false → (said (admit_container r x o).1).refused ≡ none
  unfolding admit_container
  placed x none e = absurd (subst T e tt)
  placed x (some c) e = refl

  placed-policy : (p : Policy) (o : Option ℕ) → is_free o ≡ false → (said (admit_policy r p o).1).refused ≡ none
  unfolding admit_policy
  placed-policy p none e = absurd (subst T e tt)
  placed-policy p (some q) e = refl

  admitted : (e : Entry) → no_room r.model e ≡ false → (said (admit_entry r e).1).refused ≡ none
  unfolding no_room admit_entry
  admitted (container x) h = placed x (lowest_free r.model.containers) (full-lowest r.model.containers ∙ h)
  admitted (policy p) h = placed-policy p (lowest_free r.model.policies) (full-lowest r.model.policies ∙ h)

  taken : (q : ℕ) (x : Option Policy) → is_free x ≡ false → (said (take_policy r q x).1).refused ≡ none
  unfolding take_policy
  taken q none e = absurd (subst T e tt)
  taken q (some p) e = refl

  -- a slot that no check refuses holds an entry
  holds-entry : (q : ℕ) → first_refusal (slot_checks policy_slots r.model.policies q) ≡ Ok tt → is_free (at r.model.policies q) ≡ false
  holds-entry q e =
      let h = passed-false BeyondTable (beyond policy_slots q) _ e in
      let l : q < length r.model.policies = rw sized.policies (leb-false policy_slots q h.0) in
      sym (free-at r.model.policies q l) ∙ (passed-false FreeSlot (free r.model.policies q) (Ok tt) h.1).0

  next-answer : (o : Option Finding) → (said (found_answer o)).refused ≡ none
  next-answer none = refl
  next-answer (some g) = refl

  pub accepted-answers : (call : Call) → first_refusal (refusals r call) ≡ Ok tt → (said (accepted_step r call).1).refused ≡ none
  unfolding accepted_step answer_to refusals admit_checks batch_answer
  accepted-answers (open_with b) e = refl
  accepted-answers (change (admit b)) e =
      admitted (entry_said b)
      (passed-false TableFull (no_room r.model (entry_said b)) (Ok tt) (both-passed (entry_checks r.model.settings b) _ e).1).0
  accepted-answers (change (admit_batch bs n t)) e = refl
  accepted-answers (change (remove_container c)) e = refl
  accepted-answers (change (remove_policy q)) e = taken q (at r.model.policies q) (holds-entry q e)
  accepted-answers (change rebuild) e = refl
  accepted-answers (ask (ask_reaches a b)) e = refl
  accepted-answers (ask (ask_user c v)) e = refl
  accepted-answers (ask (next_finding c)) e = next-answer (next_after r.model r.bits c)
  accepted-answers (ask (list_findings c n)) e = refl
  accepted-answers (ask counts) e = refl
  accepted-answers (ask audit) e = refl
  accepted-answers (ask (write n)) e = refl

  answered : (call : Call) (n p : ℕ) (o : Result ⊤ Refusal) → first_refusal (refusals r call) ≡ o → (unless_refused r call o).1 ≡ refusal n p → FirstRefused (refusals r call) n p
  unfolding unless_refused
  answered call n p (Ok tt) h e =
      let a : ◌≡◌ {A = Option (ℕ × ℕ)} (some (n, p)) none = sym (ap (λ x. (said x).refused) e) ∙ accepted-answers call h in
      let z : ◌≡◌ {A = ℕ} 0 1 = cc in
      absurd (omega arith)
  answered call n p (Err f) h e = refused-by (refusals r call) n p f h e

  -- Refused with n at p: exactly if n's condition finds fault at p, and no earlier one that the call meets finds any.
  pub refused-exactly : (call : Call) (n p : ℕ) → ((registry_step r call).1 ≡ refusal n p) ↔ Refuses (refusals r call) n p
  unfolding registry_step unless_refused
  refused-exactly call n p = (
    λ e. (first-exactly (refusals r call) n p).0 (answered call n p (first_refusal (refusals r call)) refl e),
    λ s. let f = (first-exactly (refusals r call) n p).1 s in
        ap (λ o. (unless_refused r call o).1) f.first ∙ ap (λ k. refusal k p) f.numbered,
  )

-- The same of the model.
pub model-refused-exactly : (m : Model) → Sized m → (call : Call) (n p : ℕ)
    → ((model_step m call).1 ≡ refusal n p) ↔ Refuses (refusals (computed m) call) n p
unfolding computed
model-refused-exactly m sized call n p =
    let e = ap (λ s. s.1) (step-agrees m sized call) in
    let x = refused-exactly (computed m) sized call n p in
    (λ h. x.0 (e ∙ h), λ s. sym e ∙ x.1 s)

-- ---- the numbers of a refused block

-- the refusal's number is not 0, and its position is one of a block
abbrev pub Numbers : Option (ℕ × ℕ) → Type 0
Numbers none = Unit
Numbers (some x) = (0 < x.0) × (x.1 ≤ 510)

pub admitting-numbers : (m : Model) (s : Settings) (b : List ℕ) → Numbers (said (admitting m (read_entry s b)).1).refused
unfolding admitting placing placing_policy read_entry
admitting-numbers m s b = pick (first_refusal (entry_checks s b)) refl
  where
    comes : (x : Container) (o : Option ℕ) → Numbers (said (placing m x o).1).refused
    comes x none = (omega arith, omega arith)
    comes x (some c) = tt

    comes_policy : (p : Policy) (o : Option ℕ) → Numbers (said (placing_policy m p o).1).refused
    comes_policy p none = (omega arith, omega arith)
    comes_policy p (some q) = tt

    entry : (e : Entry) → Numbers (said (admitting m (accepted e)).1).refused
    entry (container x) = comes x (lowest_free m.containers)
    entry (policy p) = comes_policy p (lowest_free m.policies)

    pick : (o : Result ⊤ Refusal) → first_refusal (entry_checks s b) ≡ o → Numbers (said (admitting m (read_unless o (entry_said b))).1).refused
    pick (Ok tt) e = entry (entry_said b)
    pick (Err f) e = (reason-positive f.reason, entry-within s b f e)
