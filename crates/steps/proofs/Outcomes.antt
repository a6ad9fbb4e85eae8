-- The first check at fault decides: each outcome of a call, in the form in which a function's `return` cites it.
use mathlib.Core.Path.{◌≡◌, refl, ap, ◌∙◌}
use mathlib.Core.Bool.{Bool, true, false, not, cond, or-true}
use mathlib.Core.List.{List, [], ◌∷◌, ◌++◌}
use mathlib.Core.Option.{Option, none, some}
use Prim.Native.Nat.{ℕ, ◌≤◌, ◌<◌}
use native.Mathlib.Omega.{arith}
use lib.Dec.{leb}
use lib.ListN.{length}
use borrow.Author.Tests.{eq-eqb, ne_eqb, le-leb, lt-leb, lt-ltb, le-ltb}
use Rattle.std.specs.Prelude.{Result, Ok, Err, ⊤}
use Rattle.block.specs.declared.Reason.TheVariants.{MemorySize, NotWellFormed, BeyondTable, TableFull, BufferLength}
use Rattle.block.specs.Cut.{blocks_of}
use Rattle.block.specs.Entry.{Container, Policy, Settings, Entry, container, policy}
use Rattle.block.specs.declared.Refusal.{Refusal}
use Rattle.block.specs.Refusal.{Check, check, first_refusal, refused, accepted}
use Rattle.block.specs.Refusal.{read_unless}
use Rattle.block.specs.Reader.{settings_checks, entry_checks, settings_said, entry_said, read_settings, read_entry}
use Rattle.model.specs.declared.Tally.{Tally}
use Rattle.model.specs.Findings.{Place}
use Rattle.model.specs.Table.{Table, on, is_free, at, free, lowest_free}
use Rattle.model.specs.Rules.{carries}
use Rattle.model.specs.Model.{container_slots, policy_slots}
use Rattle.model.specs.Findings.{containers_of, policies_of, next_after, walk, pairs}
use Rattle.model.specs.Calls.{ask_reaches, ask_user, next_finding, list_findings, counts, audit, write}
use Rattle.model.specs.Calls.{Call, Change, Query, open_with, change, admit, admit_batch, remove_container, remove_policy, rebuild, ask}
use Rattle.model.specs.Calls.{refusal, refusal_of, done, container_at, policy_at, says, counted, file_put, found_answer, findings_answer, run}
use Rattle.model.specs.Batch.{batch_answer}
use Rattle.model.specs.File.{file_of}
use Rattle.model.specs.Registry.{computed, consistent, change_container, change_policy, opened, rebuilt}
use Rattle.model.specs.Refusals.{where0, slot_checks, pair_checks, no_room, admit_checks, batch_checks, refusals}
use Rattle.model.specs.RegistryStep.{admit_container, admit_policy, admit_entry, admit_block, take_policy, answer_to, accepted_step}
use Rattle.model.proofs.Tables.{free-at, full-lowest}
use Rattle.model.proofs.Lowest.{lowest-below}
use Rattle.model.proofs.Agreement.{Sized, or_refusal, first-append}
use Rattle.store.specs.Layout.{memory_words}
use Rattle.store.proofs.Image.{length-tab}
use Rattle.formed.specs.Registry.{model_in, bits_in, registry_in, image, well_formed}
use Rattle.formed.proofs.Formed.{formed-memory}
use Rattle.steps.specs.MemoryStep.{formed_check, meets_formed, memory_refusals, changes, memory_outcome, memory_step}

-- ---- the two outcomes. All that follows cites these, so that a wrong outcome is met here and explained once

pub refused-outcome : (m : List ℕ) (call : Call) (f : Refusal) → memory_outcome m call (Err f) ≡ (m, refusal_of f)
refused-outcome m call f = refl

pub accepted-outcome : (m : List ℕ) (call : Call) → memory_outcome m call (Ok tt)
    ≡ (cond (changes call) (image (accepted_step (registry_in m) call).0) m, (accepted_step (registry_in m) call).1)
accepted-outcome m call = refl

pub change-changes : (c : Change) → changes (change c) ≡ true
change-changes c = refl

changed-outcome : (m : List ℕ) (c : Change) → memory_outcome m (change c) (Ok tt)
    ≡ (image (accepted_step (registry_in m) (change c)).0, (accepted_step (registry_in m) (change c)).1)
changed-outcome m c =
    let r = accepted_step (registry_in m) (change c) in
    accepted-outcome m (change c) ∙ ap (λ t. (cond t (image r.0) m, r.1)) (change-changes c)

-- ---- any call

module _ (m : List ℕ) (call : Call) where
  -- 1
  pub step-size : (length m ≡ memory_words → ⊥) → memory_step m call ≡ (m, refusal 1 0)
  unfolding memory_step memory_refusals
  step-size h =
      ap (λ t. memory_outcome m call (first_refusal (check MemorySize (where0 (not t)) ∷ (meets_formed m call ++ refusals (registry_in m) call))))
      (ne_eqb (length m) memory_words h)
      ∙ refused-outcome m call (record { reason = MemorySize; position = 0 })

  past-size : length m ≡ memory_words → memory_step m call ≡ memory_outcome m call (first_refusal (meets_formed m call ++ refusals (registry_in m) call))
  unfolding memory_step memory_refusals
  past-size h =
      ap (λ t. memory_outcome m call (first_refusal (check MemorySize (where0 (not t)) ∷ (meets_formed m call ++ refusals (registry_in m) call))))
      (eq-eqb (length m) memory_words h)

  -- 2, of a call that meets it
  pub step-formed : length m ≡ memory_words → well_formed m ≡ false → meets_formed m call ≡ formed_check m → memory_step m call ≡ (m, refusal 2 0)
  step-formed h w e =
      past-size h
      ∙ ap (λ cs. memory_outcome m call (first_refusal (cs ++ refusals (registry_in m) call))) e
      ∙ ap (λ t. memory_outcome m call (first_refusal (check NotWellFormed (where0 (not t)) ∷ refusals (registry_in m) call))) w
      ∙ refused-outcome m call (record { reason = NotWellFormed; position = 0 })

module _ (m : List ℕ) where
  -- what a call meets after 1, and on a well-formed memory after 2
  past-formed : well_formed m ≡ true → (call : Call) (cs : List Check) → first_refusal (meets_formed m call ++ cs) ≡ first_refusal cs
  past-formed w call cs = go call
    where
      passes : first_refusal (formed_check m ++ cs) ≡ first_refusal cs
      passes = ap (λ t. first_refusal (check NotWellFormed (where0 (not t)) ∷ cs)) w

      go : (call : Call) → first_refusal (meets_formed m call ++ cs) ≡ first_refusal cs
      go (open_with b) = refl
      go (change c) = passes
      go (ask q) = passes

  pub step_past : well_formed m ≡ true → (call : Call) → memory_step m call ≡ memory_outcome m call (first_refusal (refusals (registry_in m) call))
  step_past w call = past-size m call (formed-memory m w).whole ∙ ap (memory_outcome m call) (past-formed w call (refusals (registry_in m) call))

  pub step-refused : well_formed m ≡ true → (call : Call) (f : Refusal) → first_refusal (refusals (registry_in m) call) ≡ Err f
      → memory_step m call ≡ (m, refusal_of f)
  step-refused w call f e = step_past w call ∙ ap (memory_outcome m call) e ∙ refused-outcome m call f

  -- a change, and a call that asks
  step-changed : well_formed m ≡ true → (c : Change) → first_refusal (refusals (registry_in m) (change c)) ≡ Ok tt
      → memory_step m (change c) ≡ (image (accepted_step (registry_in m) (change c)).0, (accepted_step (registry_in m) (change c)).1)
  step-changed w c e = step_past w (change c) ∙ ap (memory_outcome m (change c)) e ∙ changed-outcome m c

  step-asked : well_formed m ≡ true → (q : Query) → first_refusal (refusals (registry_in m) (ask q)) ≡ Ok tt
      → memory_step m (ask q) ≡ (m, (accepted_step (registry_in m) (ask q)).1)
  step-asked w q e = step_past w (ask q) ∙ ap (memory_outcome m (ask q)) e ∙ accepted-outcome m (ask q)

module _ (cs ds : List Check) where
  append-refused : (f : Refusal) → first_refusal cs ≡ Err f → first_refusal (cs ++ ds) ≡ Err f
  unfolding or_refusal
  append-refused f e = first-append cs ds ∙ ap (λ o. or_refusal o (first_refusal ds)) e

  append-passed : first_refusal cs ≡ Ok tt → first_refusal (cs ++ ds) ≡ first_refusal ds
  unfolding or_refusal
  append-passed e = first-append cs ds ∙ ap (λ o. or_refusal o (first_refusal ds)) e

-- ---- the slots that a call names

module _ {A : Type 0} (size : ℕ) (t : Table A) where
  pair-beyond-right : (a b : ℕ) → size ≤ b → first_refusal (pair_checks size t a b) ≡ Err (record { reason = BeyondTable; position = 0 })
  pair-beyond-right a b h = rw (le-leb size b h, or-true (leb size a))

  module _ (whole : length t ≡ size) where
    free-is : (i : ℕ) → i < size → free t i ≡ is_free (at t i)
    free-is i h = free-at t i (rw whole h)

    slot-taken : (i : ℕ) (x : A) → i < size → at t i ≡ some x → first_refusal (slot_checks size t i) ≡ Ok tt
    slot-taken i x h e = rw (lt-leb size i h, free-is i h, e)

    pair-taken : (a b : ℕ) (x y : A) → a < size → b < size → at t a ≡ some x → at t b ≡ some y → first_refusal (pair_checks size t a b) ≡ Ok tt
    pair-taken a b x y h k e f = rw (lt-leb size a h, lt-leb size b k, free-is a h, free-is b k, e, f)

-- the tables that a memory says have their numbers of slots
pub sized-in : (m : List ℕ) → Sized (model_in m)
unfolding model_in
sized-in m = record { containers = length-tab container_slots _; policies = length-tab policy_slots _ }

-- the slot that the search finds is one of its table
pub container-slot-below : (m : List ℕ) (c : ℕ) → lowest_free (model_in m).containers ≡ some c → c < container_slots
container-slot-below m c e = omega (arith, lowest-below (model_in m).containers c e, (sized-in m).containers)

pub policy-slot-below : (m : List ℕ) (q : ℕ) → lowest_free (model_in m).policies ≡ some q → q < policy_slots
policy-slot-below m q e = omega (arith, lowest-below (model_in m).policies q e, (sized-in m).policies)

-- ---- open

read-refused : {A : Type 0} (o : Result ⊤ Refusal) (x : A) (f : Refusal) → read_unless o x ≡ refused f → o ≡ Err f
read-refused (Ok tt) x f e = cc
read-refused (Err g) x f e = cc

read-accepted : {A : Type 0} (o : Result ⊤ Refusal) (x y : A) → read_unless o x ≡ accepted y → (o ≡ Ok tt) × (x ≡ y)
read-accepted (Ok tt) x y e = (refl, cc)
read-accepted (Err g) x y e = (cc, cc)

module _ (m b : List ℕ) (whole : length m ≡ memory_words) where
  pub open-past : memory_step m (open_with b) ≡ memory_outcome m (open_with b) (first_refusal (settings_checks b))
  unfolding refusals
  open-past = past-size m (open_with b) whole

  pub open-refused : (f : Refusal) → read_settings b ≡ refused f → memory_step m (open_with b) ≡ (m, refusal_of f)
  unfolding read_settings
  open-refused f e =
      open-past ∙ ap (memory_outcome m (open_with b)) (read-refused (first_refusal (settings_checks b)) (settings_said b) f e) ∙ refused-outcome m (open_with b) f

  -- says nothing of what was there
  pub open_done : (s : Settings) → read_settings b ≡ accepted s → memory_step m (open_with b) ≡ (image (opened s), done)
  unfolding read_settings accepted_step
  open_done s e =
      let h = read-accepted (first_refusal (settings_checks b)) (settings_said b) s e in
      open-past ∙ ap (memory_outcome m (open_with b)) h.0 ∙ accepted-outcome m (open_with b) ∙ ap (λ v. (image (opened v), done)) h.1

-- ---- the other calls, on a well-formed memory

module _ (m : List ℕ) (formed : well_formed m ≡ true) where
  -- admit
  module _ (b : List ℕ) where
    abbrev asked : List Check
    asked = entry_checks (model_in m).settings b

    abbrev room : Entry → List Check
    room x = check TableFull (where0 (no_room (model_in m) x)) ∷ []

    pub admit-refused : (f : Refusal) → read_entry (model_in m).settings b ≡ refused f → memory_step m (change (admit b)) ≡ (m, refusal_of f)
    unfolding read_entry refusals admit_checks registry_in
    admit-refused f e =
        step-refused m formed (change (admit b)) f
        (append-refused asked (room (entry_said b)) f (read-refused (first_refusal asked) (entry_said b) f e))

    -- a block that is read: 12, or what the entry does
    admit-read : (x : Entry) → read_entry (model_in m).settings b ≡ accepted x
        → memory_step m (change (admit b))
        ≡ cond (no_room (model_in m) x) (m, refusal 12 0) (image (admit_entry (registry_in m) x).0, (admit_entry (registry_in m) x).1)
    unfolding read_entry refusals admit_checks registry_in accepted_step
    admit-read x e =
        let h = read-accepted (first_refusal asked) (entry_said b) x e in
        step_past m formed (change (admit b))
        ∙ ap (memory_outcome m (change (admit b))) (append-passed asked (room (entry_said b)) h.0)
        ∙ pick (no_room (model_in m) (entry_said b))
        ∙ ap (λ v. cond (no_room (model_in m) v) (m, refusal 12 0) (image (admit_entry (registry_in m) v).0, (admit_entry (registry_in m) v).1)) h.1
      where
        pick : (t : Bool) → memory_outcome m (change (admit b)) (first_refusal (check TableFull (where0 t) ∷ []))
            ≡ cond t (m, refusal 12 0) (image (admit_entry (registry_in m) (entry_said b)).0, (admit_entry (registry_in m) (entry_said b)).1)
        pick true = refused-outcome m (change (admit b)) (record { reason = TableFull; position = 0 })
        pick false = changed-outcome m (admit b)

    pub admit-container-full : (x : Container) → read_entry (model_in m).settings b ≡ accepted (container x)
        → lowest_free (model_in m).containers ≡ none → memory_step m (change (admit b)) ≡ (m, refusal 12 0)
    unfolding no_room
    admit-container-full x e h = admit-read (container x) e ∙ rw (← full-lowest (model_in m).containers, h)

    pub admit-container-done : (x : Container) (c : ℕ) → read_entry (model_in m).settings b ≡ accepted (container x)
        → lowest_free (model_in m).containers ≡ some c
        → memory_step m (change (admit b)) ≡ (image (change_container (registry_in m) c (some x)), container_at c)
    unfolding no_room admit_entry admit_container registry_in
    admit-container-done x c e h = admit-read (container x) e ∙ rw (← full-lowest (model_in m).containers, h)

    pub admit-policy-full : (p : Policy) → read_entry (model_in m).settings b ≡ accepted (policy p)
        → lowest_free (model_in m).policies ≡ none → memory_step m (change (admit b)) ≡ (m, refusal 12 0)
    unfolding no_room
    admit-policy-full p e h = admit-read (policy p) e ∙ rw (← full-lowest (model_in m).policies, h)

    pub admit-policy-done : (p : Policy) (q : ℕ) → read_entry (model_in m).settings b ≡ accepted (policy p)
        → lowest_free (model_in m).policies ≡ some q
        → memory_step m (change (admit b)) ≡ (image (change_policy (registry_in m) q p (some p)), policy_at q)
    unfolding no_room admit_entry admit_policy registry_in
    admit-policy-done p q e h = admit-read (policy p) e ∙ rw (← full-lowest (model_in m).policies, h)

  -- a batch
  module _ (bs : List ℕ) (n : ℕ) (t : Tally) where
    pub batch-refused : (f : Refusal) → first_refusal (batch_checks bs n) ≡ Err f → memory_step m (change (admit_batch bs n t)) ≡ (m, refusal_of f)
    unfolding refusals
    batch-refused f e = step-refused m formed (change (admit_batch bs n t)) f e

    pub batch-admits : first_refusal (batch_checks bs n) ≡ Ok tt
        → let d = run admit_block (registry_in m) (blocks_of bs) in memory_step m (change (admit_batch bs n t)) ≡ (image d.0, batch_answer t d.1)
    unfolding refusals accepted_step
    batch-admits e = step-changed m formed (admit_batch bs n t) e

  -- remove a container
  module _ (c : ℕ) where
    pub remove-done : (x : Container) → c < container_slots → at (model_in m).containers c ≡ some x
        → memory_step m (change (remove_container c)) ≡ (image (change_container (registry_in m) c none), done)
    unfolding refusals registry_in accepted_step
    remove-done x h e =
        step-changed m formed (remove_container c) (slot-taken container_slots (model_in m).containers (sized-in m).containers c x h e)

  -- remove a policy
  module _ (q : ℕ) where
    pub remove-policy-done : (p : Policy) → q < policy_slots → at (model_in m).policies q ≡ some p
        → memory_step m (change (remove_policy q)) ≡ (image (change_policy (registry_in m) q p none), done)
    unfolding refusals registry_in accepted_step take_policy
    remove-policy-done p h e =
        step-changed m formed (remove_policy q) (slot-taken policy_slots (model_in m).policies (sized-in m).policies q p h e)
        ∙ ap (λ (o : Option Policy). (image (take_policy (registry_in m) q o).0, (take_policy (registry_in m) q o).1)) e

  -- whether a reaches b
  module _ (a b : ℕ) where
    pub reaches-beyond-right : container_slots ≤ b → memory_step m (ask (ask_reaches a b)) ≡ (m, refusal 10 0)
    unfolding refusals registry_in
    reaches-beyond-right h = step-refused m formed (ask (ask_reaches a b)) _ (pair-beyond-right container_slots (model_in m).containers a b h)

    -- the stored bit
    pub reaches-says : (x y : Container) → a < container_slots → b < container_slots
        → at (model_in m).containers a ≡ some x → at (model_in m).containers b ≡ some y
        → memory_step m (ask (ask_reaches a b)) ≡ (m, says ((bits_in m).matrix a b))
    unfolding refusals registry_in accepted_step answer_to
    reaches-says x y h k e f =
        step-asked m formed (ask_reaches a b) (pair-taken container_slots (model_in m).containers (sized-in m).containers a b x y h k e f)

  -- whether c carries v under the user key
  module _ (c v : ℕ) where
    pub user-says : (x : Container) → c < container_slots → at (model_in m).containers c ≡ some x
        → memory_step m (ask (ask_user c v)) ≡ (m, says (carries x (record { key = (model_in m).settings.user_key; value = v })))
    unfolding refusals registry_in accepted_step answer_to
    user-says x h e =
        step-asked m formed (ask_user c v) (slot-taken container_slots (model_in m).containers (sized-in m).containers c x h e)
        ∙ ap (λ (o : Option Container). (m, says (on (λ y. carries y (record { key = (model_in m).settings.user_key; value = v })) o))) e

  -- those that meet 1 and 2 alone
  pub next-answers : (c : Place) → memory_step m (ask (next_finding c)) ≡ (m, found_answer (next_after (model_in m) (bits_in m) c))
  unfolding refusals registry_in accepted_step answer_to
  next-answers c = step-asked m formed (next_finding c) refl

  pub findings-answers : (c : Place) (n : ℕ) → memory_step m (ask (list_findings c n)) ≡ (m, findings_answer c (walk (next_after (model_in m) (bits_in m)) n c))
  unfolding refusals registry_in accepted_step answer_to
  findings-answers c n = step-asked m formed (list_findings c n) refl

  pub counts-answers : memory_step m (ask counts) ≡ (m, counted (length (containers_of (model_in m))) (length (policies_of (model_in m))) (pairs (bits_in m)))
  unfolding refusals registry_in accepted_step answer_to
  counts-answers = step-asked m formed counts refl

  pub rebuild-done : memory_step m (change rebuild) ≡ (image (computed (model_in m)), done)
  unfolding refusals registry_in accepted_step rebuilt
  rebuild-done = step-changed m formed rebuild refl

  pub audit-says : memory_step m (ask audit) ≡ (m, says (consistent (registry_in m)))
  unfolding refusals accepted_step answer_to
  audit-says = step-asked m formed audit refl

  -- into a buffer of n bytes: 13, or the file
  module _ (n : ℕ) where
    pub write-short : n < length (file_of (model_in m)) → memory_step m (ask (write n)) ≡ (m, refusal 13 0)
    unfolding refusals registry_in
    write-short h = step-refused m formed (ask (write n)) (record { reason = BufferLength; position = 0 }) (rw (lt-ltb n (length (file_of (model_in m))) h))

    pub write-puts : length (file_of (model_in m)) ≤ n → memory_step m (ask (write n)) ≡ (m, file_put (file_of (model_in m)))
    unfolding refusals registry_in accepted_step answer_to
    write-puts h = step-asked m formed (write n) (rw (le-ltb n (length (file_of (model_in m))) h))
