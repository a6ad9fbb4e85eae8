-- What holds of each check that a call meets holds of its refusal: the position is that of Note 5, or 0, and lies in the block.
use mathlib.Core.Path.{◌≡◌, refl, sym, ◌∙◌, subst}
use mathlib.Core.Bool.{Bool, true, false}
use mathlib.Core.List.{List, [], ◌∷◌, ◌++◌, map}
use mathlib.Core.Option.{Option, none, some}
use Prim.Native.Nat.{ℕ, ◌≤◌}
use native.Mathlib.Omega.{arith}
use Rattle.std.specs.Prelude.{Some, Result, Ok, Err, ⊤}
use Rattle.block.specs.declared.Reason.{Reason}
use Rattle.block.specs.declared.Reason.TheVariants.{MemorySize, NotWellFormed, Checksum, Limit, Range, Order, Unused, BeyondTable, FreeSlot, TableFull, BufferLength, BatchLength}
use Rattle.block.specs.declared.Refusal.{Refusal}
use Rattle.block.specs.Cut.{blocks_of}
use Rattle.block.specs.Entry.{Entry, container, policy}
use Rattle.block.specs.Positions.{SettingsFaultAt, EntryFaultAt}
use Rattle.block.specs.Reader.{settings_checks, entry_checks, entry_said}
use Rattle.block.specs.Refusal.{lone_refusal, Check, check, first_refusal}
use Rattle.block.proofs.Checks.{EveryRefusal, every-none, every-next, append-passed, append-refused}
use Rattle.block.proofs.Positions.{Positioned, settings-positioned, entry-positioned}
use Rattle.model.specs.declared.Tally.{Tally}
use Rattle.model.specs.Table.{lowest_free}
use Rattle.model.specs.Calls.{ask_reaches, ask_user, next_finding, list_findings, counts, audit, write}
use Rattle.model.specs.Calls.{Call, open_with, change, admit, admit_batch, remove_container, remove_policy, rebuild, ask}
use Rattle.model.specs.Calls.{Answer, refusal, batch_put, run}
use Rattle.model.specs.Batch.{pair_of, batch_answer}
use Rattle.model.specs.Refusals.{where0, admit_checks, refusals}
use Rattle.model.specs.Registry.{Registry}
use Rattle.model.specs.RegistryStep.{admit_container, admit_policy, admit_entry, admit_unless, admit_block, accepted_step}
use Rattle.model.proofs.Refused.{FirstRefused}
use Rattle.formed.specs.Registry.{registry_in}
use Rattle.steps.specs.MemoryStep.{memory_refusals, memory_outcome, memory_step}
use Rattle.steps.specs.Positions.{RefusedAt, EachRefusedAt, of_a_block, Positions}
use Rattle.steps.proofs.Refused.{first-refused}

-- ---- what is told of the refusals of a call

-- refusals that are of no place in a block
abbrev placeless : Reason → Bool
placeless Checksum = false
placeless Limit = false
placeless Range = false
placeless Order = false
placeless Unused = false
placeless w = true

module _ (P : Refusal → Type 0) where
  -- of the block that a call is lent
  abbrev OfBlock : Registry → Call → Type 0
  OfBlock r (open_with b) = EveryRefusal P (settings_checks b)
  OfBlock r (change (admit b)) = EveryRefusal P (entry_checks r.model.settings b)
  OfBlock r call = Unit {0}

module _ (P : Refusal → Type 0) (lone : (w : Reason) → placeless w ≡ true → P (lone_refusal w)) where
  at-none : (w : Reason) → placeless w ≡ true → (t : Bool) (p : ℕ) → where0 t ≡ Some p → P (record { reason = w; position = p })
  at-none w h true p e = let s : 0 ≡ p = cc in subst (λ (k : ℕ). P (record { reason = w; position = k })) s (lone w h)
  at-none w h false p e = cc

  every-lone : (w : Reason) → placeless w ≡ true → (t : Bool) {cs : List Check} → EveryRefusal P cs → EveryRefusal P (check w (where0 t) ∷ cs)
  every-lone w h t rest = every-next (at-none w h t) (λ e. rest)

  every-append : (xs ys : List Check) → EveryRefusal P xs → EveryRefusal P ys → EveryRefusal P (xs ++ ys)
  every-append xs ys h k = record { holds = pick (first_refusal xs) refl }
    where
      pick : (o : Result ⊤ Refusal) → first_refusal xs ≡ o → (f : Refusal) → first_refusal (xs ++ ys) ≡ Err f → P f
      pick (Ok tt) q f e = k.holds f (sym (append-passed xs ys q) ∙ e)
      pick (Err g) q f e = h.holds f (q ∙ sym (append-refused xs ys g q) ∙ e)

  every-admit : (r : Registry) (b : List ℕ) → EveryRefusal P (entry_checks r.model.settings b) → EveryRefusal P (admit_checks r.model b)
  unfolding admit_checks
  every-admit r b h = every-append (entry_checks r.model.settings b) _ h (every-lone TableFull refl _ every-none)

  every-met : (r : Registry) (call : Call) → OfBlock P r call → EveryRefusal P (refusals r call)
  unfolding refusals
  every-met r (open_with b) h = h
  every-met r (change (admit b)) h = every-admit r b h
  every-met r (change (admit_batch bs n t)) h = every-lone BatchLength refl _ (every-lone BufferLength refl _ every-none)
  every-met r (change (remove_container c)) h = every-lone BeyondTable refl _ (every-lone FreeSlot refl _ every-none)
  every-met r (change (remove_policy q)) h = every-lone BeyondTable refl _ (every-lone FreeSlot refl _ every-none)
  every-met r (change rebuild) h = every-none
  every-met r (ask (ask_reaches a b)) h = every-lone BeyondTable refl _ (every-lone FreeSlot refl _ every-none)
  every-met r (ask (ask_user c v)) h = every-lone BeyondTable refl _ (every-lone FreeSlot refl _ every-none)
  every-met r (ask (next_finding c)) h = every-none
  every-met r (ask (list_findings c n)) h = every-none
  every-met r (ask counts) h = every-none
  every-met r (ask audit) h = every-none
  every-met r (ask (write n)) h = every-lone BufferLength refl _ every-none

  every-call : (m : List ℕ) (call : Call) → OfBlock P (registry_in m) call → EveryRefusal P (memory_refusals m call)
  unfolding memory_refusals
  every-call m (open_with b) h = every-lone MemorySize refl _ (every-met (registry_in m) (open_with b) h)
  every-call m (change c) h = every-lone MemorySize refl _ (every-lone NotWellFormed refl _ (every-met (registry_in m) (change c) h))
  every-call m (ask q) h = every-lone MemorySize refl _ (every-lone NotWellFormed refl _ (every-met (registry_in m) (ask q) h))

-- ---- the position lies in the block

abbrev Within : Refusal → Type 0
Within f = f.position ≤ 510

every-within : (m : List ℕ) (call : Call) → EveryRefusal Within (memory_refusals m call)
every-within m call = every-call Within (λ w h. omega arith) m call (by call)
  where
    by : (call : Call) → OfBlock Within (registry_in m) call
    by (open_with b) = record { holds = λ f e. ((settings-positioned b).holds f e).1 }
    by (change (admit b)) = record { holds = λ f e. ((entry-positioned (registry_in m).model.settings b).holds f e).1 }
    by (change (admit_batch bs n t)) = tt
    by (change (remove_container c)) = tt
    by (change (remove_policy q)) = tt
    by (change rebuild) = tt
    by (ask q) = tt

pub memory-within : (m : List ℕ) (call : Call) (f : Refusal) → first_refusal (memory_refusals m call) ≡ Err f → f.position ≤ 510
memory-within m call f e = (every-within m call).holds f e

pub refused-within : (m : List ℕ) (call : Call) (n p : ℕ) → (memory_step m call).1 ≡ refusal n p → p ≤ 510
refused-within m call n p e = (every-within m call).holds _ (first-refused m call n p e).first

-- ---- the position is Note 5's

module _ (F : Reason → ℕ → Type 0) where
  lone-positioned : (w : Reason) → placeless w ≡ true → Positioned F (lone_refusal w)
  lone-positioned Checksum h = cc
  lone-positioned Limit h = cc
  lone-positioned Range h = cc
  lone-positioned Order h = cc
  lone-positioned Unused h = cc
  lone-positioned w h = (refl, omega arith)

  refused-at : {cs : List Check} {n p : ℕ} → EveryRefusal (Positioned F) cs → FirstRefused cs n p → RefusedAt F n p
  refused-at t r = record { reason = r.reason; numbered = r.numbered; position = (t.holds _ r.first).0 }

-- ---- the blocks of a batch

module _ (r : Registry) (b : List ℕ) where
  -- the two numbers of a block that was answered so
  abbrev PairAt : Answer → Type 0
  PairAt a = ((pair_of a).0 ≡ 0 → ⊥) → RefusedAt (EntryFaultAt b) (pair_of a).0 (pair_of a).1

  full-at : PairAt (refusal 12 0)
  full-at h = record { reason = TableFull; numbered = refl; position = refl }

  entry-at : (e : Entry) → PairAt (admit_entry r e).1
  unfolding admit_entry admit_container admit_policy
  entry-at (container x) = pick (lowest_free r.model.containers)
    where
      pick : (o : Option ℕ) → PairAt (admit_container r x o).1
      pick none = full-at
      pick (some c) = λ h. absurd (h refl)
  entry-at (policy p) = pick (lowest_free r.model.policies)
    where
      pick : (o : Option ℕ) → PairAt (admit_policy r p o).1
      pick none = full-at
      pick (some q) = λ h. absurd (h refl)

  block-at : PairAt (admit_block r b).1
  unfolding admit_block admit_unless
  block-at = pick (first_refusal (admit_checks r.model b)) refl
    where
      pick : (o : Result ⊤ Refusal) → first_refusal (admit_checks r.model b) ≡ o → PairAt (admit_unless r b o).1
      pick (Ok tt) e = entry-at (entry_said b)
      pick (Err f) e = λ h. record {
        reason = f.reason;
        numbered = refl;
        position = ((every-admit (Positioned (EntryFaultAt b)) (lone-positioned (EntryFaultAt b)) r b (entry-positioned r.model.settings b)).holds f e).0;
      }

blocks-at : (r : Registry) (l : List (List ℕ)) → EachRefusedAt l (map pair_of (run admit_block r l).1)
blocks-at r [] = tt
blocks-at r (b ∷ l) = (block-at r b, blocks-at (admit_block r b).0 l)

-- ---- the theorem

pub positions : (m : List ℕ) → Positions m
unfolding memory_step accepted_step batch_answer
positions m = record {
  opening = λ b n p e. refused-at (SettingsFaultAt b) (every-call (Positioned (SettingsFaultAt b)) (lone-positioned (SettingsFaultAt b)) m (open_with b) (settings-positioned b)) (first-refused m (open_with b) n p e);
  admission = λ b n p e.
      refused-at (EntryFaultAt b) (every-call (Positioned (EntryFaultAt b)) (lone-positioned (EntryFaultAt b)) m (change (admit b)) (entry-positioned (registry_in m).model.settings b)) (first-refused m (change (admit b)) n p e);
  batch = λ bs k t u ps e. batched bs k t u ps (first_refusal (memory_refusals m (change (admit_batch bs k t)))) e;
  alone = λ call n p h e. (every-call (λ f. f.position ≡ 0) (λ w k. refl) m call (no_block call h)).holds _ (first-refused m call n p e).first;
}
  where
    batched : (bs : List ℕ) (k : ℕ) (t u : Tally) (ps : List (ℕ × ℕ)) (o : Result ⊤ Refusal) → (memory_outcome m (change (admit_batch bs k t)) o).1 ≡ batch_put ps u → EachRefusedAt (blocks_of bs) ps
    batched bs k t u ps (Ok tt) e =
        let s : map pair_of (run admit_block (registry_in m) (blocks_of bs)).1 ≡ ps = cc in
        subst (EachRefusedAt (blocks_of bs)) s (blocks-at (registry_in m) (blocks_of bs))
    batched bs k t u ps (Err f) e = cc

    no_block : (call : Call) → of_a_block call ≡ false → OfBlock (λ f. f.position ≡ 0) (registry_in m) call
    no_block (open_with b) h = cc
    no_block (change (admit b)) h = cc
    no_block (change (admit_batch bs n t)) h = tt
    no_block (change (remove_container c)) h = tt
    no_block (change (remove_policy q)) h = tt
    no_block (change rebuild) h = tt
    no_block (ask q) h = tt
