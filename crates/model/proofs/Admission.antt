-- What a block does to any registry, whatever its bits: refused, it changes nothing; else its entry comes to the lowest free slot of its table.
use mathlib.Core.Path.{◌≡◌, refl, ap, ◌∙◌}
use mathlib.Core.Bool.{Bool, true, false, cond}
use mathlib.Core.List.{List, [], ◌∷◌, ◌++◌}
use mathlib.Core.Option.{Option, none, some}
use Prim.Native.Nat.{ℕ}
use Rattle.std.specs.Prelude.{Result, Ok, Err, ⊤}
use Rattle.block.specs.declared.Refusal.{Refusal}
use Rattle.block.specs.declared.Reason.TheVariants.{TableFull}
use Rattle.block.specs.Entry.{Container, Policy, Entry, container, policy}
use Rattle.block.specs.Refusal.{reason_number, Check, check, first_refusal, Read, refused, accepted, read_unless}
use Rattle.block.specs.Reader.{entry_checks, entry_said, read_entry}
use Rattle.block.proofs.Checks.{append-passed, append-refused}
use Rattle.model.specs.Table.{is_free, lowest_free}
use Rattle.model.specs.Model.{Model}
use Rattle.model.specs.Calls.{Answer, refusal, refusal_of, container_at, policy_at}
use Rattle.model.specs.ModelStep.{placing, placing_policy, admitting, admitting_block}
use Rattle.model.specs.Registry.{Registry}
use Rattle.model.specs.Refusals.{where0, no_room, admit_checks}
use Rattle.model.specs.RegistryStep.{admit_container, admit_policy, admit_entry, admit_unless, admit_block}
use Rattle.model.proofs.Tables.{lowest-is-free, full-lowest}
use Rattle.model.proofs.Book.{IsOrFree, EntryChange, container_becomes, policy_becomes, put_entry, Fitting}
use Rattle.model.proofs.WrittenRules.{model_book, registry_after}

-- ---- the reading of the block decides

module _ (r : Registry) where
  abbrev admit_read : Read Entry → Registry × Answer
  admit_read (refused f) = (r, refusal_of f)
  admit_read (accepted e) = admit_entry r e

  -- with no room the search finds no slot
  room-checked : (e : Entry) → cond (no_room r.model e) (r, refusal 12 0) (admit_entry r e) ≡ admit_entry r e
  unfolding no_room admit_entry admit_container admit_policy
  room-checked (container x) = rw (← full-lowest r.model.containers) (pick (lowest_free r.model.containers))
    where
      pick : (o : Option ℕ) → cond (is_free o) (r, refusal 12 0) (admit_container r x o) ≡ admit_container r x o
      pick none = refl
      pick (some c) = refl
  room-checked (policy p) = rw (← full-lowest r.model.policies) (pick (lowest_free r.model.policies))
    where
      pick : (o : Option ℕ) → cond (is_free o) (r, refusal 12 0) (admit_policy r p o) ≡ admit_policy r p o
      pick none = refl
      pick (some q) = refl

  block_read : (b : List ℕ) → admit_block r b ≡ admit_read (read_entry r.model.settings b)
  unfolding admit_block admit_checks admit_unless read_entry
  block_read b = pick (first_refusal read) refl
    where
      read : List Check
      read = entry_checks r.model.settings b

      room : List Check
      room = check TableFull (where0 (no_room r.model (entry_said b))) ∷ []

      passed : (u : Bool) → admit_unless r b (first_refusal (check TableFull (where0 u) ∷ [])) ≡ cond u (r, refusal 12 0) (admit_entry r (entry_said b))
      passed true = refl
      passed false = refl

      pick : (o : Result ⊤ Refusal) → first_refusal read ≡ o → admit_unless r b (first_refusal (read ++ room)) ≡ admit_read (read_unless o (entry_said b))
      pick (Ok tt) e = ap (admit_unless r b) (append-passed read room e) ∙ passed (no_room r.model (entry_said b)) ∙ room-checked (entry_said b)
      pick (Err f) e = ap (admit_unless r b) (append-refused read room f e)

-- ---- refused, or an entry comes

-- an entry comes to the lowest free slot of its table
abbrev pub Comes : Model → EntryChange Policy → Type 0
Comes m (container_becomes c x) = lowest_free m.containers ≡ some c
Comes m (policy_becomes q p x) = (lowest_free m.policies ≡ some q) × (x ≡ some p)

-- and is answered so
abbrev pub slot_answer : EntryChange Policy → Answer
slot_answer (container_becomes c x) = container_at c
slot_answer (policy_becomes q p x) = policy_at q

pub comes-fits : (m : Model) (c : EntryChange Policy) → Comes m c → Fitting model_book m c
unfolding Fitting IsOrFree model_book
comes-fits m (container_becomes c x) g = tt
comes-fits m (policy_becomes q p x) g = (λ f h. rw (lowest-is-free m.policies q g.0), λ f h. rw g.1 h)

-- what the block does to the model, and to the registry
pub data Outcome (r : Registry) (b : List ℕ) : Type 0 where
  turned : (n p : ℕ) → admitting_block r.model b ≡ (r.model, refusal n p) → admit_block r b ≡ (r, refusal n p) → Outcome r b
  came : (c : EntryChange Policy) → Comes r.model c → admitting_block r.model b ≡ (put_entry model_book r.model c, slot_answer c)
      → admit_block r b ≡ (registry_after r c, slot_answer c) → Outcome r b

module _ (r : Registry) (b : List ℕ) where
  container-outcome : (x : Container) → read_entry r.model.settings b ≡ accepted (container x)
      → (o : Option ℕ) → lowest_free r.model.containers ≡ o → Outcome r b
  unfolding admitting_block admitting placing admit_entry admit_container put_entry model_book
  container-outcome x h none e = turned 12 0 (rw (h, e)) (block_read r b ∙ rw (h, e))
  container-outcome x h (some c) e = came (container_becomes c (some x)) e (rw (h, e)) (block_read r b ∙ rw (h, e))

  policy-outcome : (p : Policy) → read_entry r.model.settings b ≡ accepted (policy p)
      → (o : Option ℕ) → lowest_free r.model.policies ≡ o → Outcome r b
  unfolding admitting_block admitting placing_policy admit_entry admit_policy put_entry model_book
  policy-outcome p h none e = turned 12 0 (rw (h, e)) (block_read r b ∙ rw (h, e))
  policy-outcome p h (some q) e = came (policy_becomes q p (some p)) (e, refl) (rw (h, e)) (block_read r b ∙ rw (h, e))

  pub outcome : Outcome r b
  unfolding admitting_block admitting
  outcome = pick (read_entry r.model.settings b) refl
    where
      pick : (o : Read Entry) → read_entry r.model.settings b ≡ o → Outcome r b
      pick (refused f) h = turned (reason_number f.reason) f.position (rw h) (block_read r b ∙ rw h)
      pick (accepted (container x)) h = container-outcome x h (lowest_free r.model.containers) refl
      pick (accepted (policy p)) h = policy-outcome p h (lowest_free r.model.policies) refl
