-- What the queries read, past the tests of the slots that they name; a pair's checks are the first slot's tests and then the second's.
use mathlib.Core.Path.{◌≡◌, refl, sym, ap, ◌∙◌}
use mathlib.Core.Bool.{Bool, true, false, not, ◌&&◌, ◌||◌}
use mathlib.Core.List.{List}
use mathlib.Core.Option.{some}
use Prim.Native.Nat.{ℕ, ◌+◌, ◌*◌, ◌/◌, ◌%◌, ◌<◌, ◌≤◌}
use lib.Dec.{eqb, leb}
use lib.ListN.{length}
use borrow.Author.Tests.{leb-false, lt-leb}
use Rattle.bitrow.specs.Bit.{bit}
use Rattle.std.specs.Prelude.{Ok, Err, ⊤, Result}
use Rattle.block.specs.declared.Reason.{Reason}
use Rattle.block.specs.declared.Reason.TheVariants.{BeyondTable, FreeSlot}
use Rattle.block.specs.declared.Refusal.{Refusal}
use Rattle.block.specs.Refusal.{reason_number, lone_refusal, first_refusal}
use Rattle.model.specs.Table.{Table, at, on, stands, free}
use Rattle.model.specs.Rules.{carries}
use Rattle.model.specs.Model.{container_slots}
use Rattle.model.specs.Findings.{containers_of, policies_of, pairs}
use Rattle.model.specs.Calls.{ask, ask_reaches, ask_user, counts, refusal, says, counted}
use Rattle.model.specs.Refusals.{pair_checks, refusals}
use Rattle.model.proofs.Agreement.{or_refusal}
use Rattle.store.specs.Layout.{containers_start, container_words, container_start, row_start, word_at, row_bit}
use Rattle.formed.specs.Words.{label_in, part_in, settings_in}
use Rattle.formed.specs.Registry.{model_in, bits_in, registry_in, well_formed}
use Rattle.formed.proofs.Formed.{formed-entries}
use Rattle.formed.proofs.Reading.{matrix-in}
use Rattle.entries.specs.Entries.{free_in, word_under}
use Rattle.entries.specs.Tables.{container_tabled}
use Rattle.entries.proofs.PartLabels.{label_of}
use Rattle.entries.proofs.Keys.{carries-word}
use Rattle.entries.proofs.FormedEntries.{formed-labels}
use Rattle.steps.specs.MemoryStep.{memory_step}
use Rattle.steps.proofs.Outcomes.{step-refused, reaches-says, user-says, counts-answers}
use Rattle.call_tests.specs.Tests.{slot_test}
use Rattle.call_tests.proofs.TestLaws.{reason_for, passed_for, slot_tests, tabled-free}

-- ---- a pair of slots

module _ {A : Type 0} (size : ℕ) (t : Table A) (f : ℕ → Bool) (same : (i : ℕ) → i < size → free t i ≡ f i) where
  -- "asking about a pair tests both places for 10 before either for 11"
  pair-checks : (a b : ℕ) → leb size b ≡ false → first_refusal (pair_checks size t a b) ≡ or_refusal (slot_tests (leb size a) (f a)) (slot_tests (leb size b) (f b))
  unfolding or_refusal
  pair-checks a b k = pick (leb size a) refl ∙ ap (λ s. or_refusal (slot_tests (leb size a) (f a)) (slot_tests s (f b))) (sym k)
    where
      go : (x y : Bool) → slot_tests false (x || y) ≡ or_refusal (slot_tests false x) (slot_tests false y)
      go true y = refl
      go false y = refl

      pick : (s : Bool) → leb size a ≡ s → slot_tests (s || leb size b) (free t a || free t b) ≡ or_refusal (slot_tests s (f a)) (slot_tests false (f b))
      pick true h = refl
      pick false h =
          ap (λ s. slot_tests s (free t a || free t b)) k
          ∙ ap (λ x. slot_tests false (x || free t b)) (same a (leb-false size a h))
          ∙ ap (λ y. slot_tests false (f a || y)) (same b (leb-false size b k))
          ∙ go (f a) (f b)

module _ (m : List ℕ) (formed : well_formed m ≡ true) where
  -- what is known past the test of a container's slot
  pub record Stands (c : ℕ) : Type 0 where
    pub below : c < container_slots
    pub there : at (model_in m).containers c ≡ some (part_in m (container_start c))

  abbrev container_test : ℕ → Result ⊤ Reason
  container_test = slot_test container_slots (free_in m containers_start container_words)

  -- whether a reaches b, where b is a slot of the table
  module _ (a b : ℕ) where
    module _ (r : Reason) (k : b < container_slots) where
      -- the tests of a slot, with the refusal whole
      abbrev tests : ℕ → Result ⊤ Refusal
      tests i = slot_tests (leb container_slots i) (free_in m containers_start container_words i)

      pair-refused : or_refusal (tests a) (tests b) ≡ Err (lone_refusal r) → memory_step m (ask (ask_reaches a b)) ≡ (m, refusal (reason_number r) 0)
      unfolding refusals registry_in
      pair-refused e =
          step-refused m formed (ask (ask_reaches a b)) (lone_refusal r)
          (pair-checks container_slots (model_in m).containers (free_in m containers_start container_words) (tabled-free (container_tabled m)) a b (lt-leb container_slots b k) ∙ e)

      test-refused : (i : ℕ) → container_test i ≡ Err r → tests i ≡ Err (lone_refusal r)
      unfolding slot_test
      test-refused i e = reason_for BeyondTable (leb container_slots i) FreeSlot (free_in m containers_start container_words i) e

      pub reaches-refused-left : container_test a ≡ Err r → memory_step m (ask (ask_reaches a b)) ≡ (m, refusal (reason_number r) 0)
      unfolding or_refusal
      reaches-refused-left e = pair-refused (ap (λ x. or_refusal x (tests b)) (test-refused a e))

      pub reaches-refused-right : {u : ⊤} → container_test a ≡ Ok u → container_test b ≡ Err r → memory_step m (ask (ask_reaches a b)) ≡ (m, refusal (reason_number r) 0)
      unfolding slot_test or_refusal
      reaches-refused-right {u} e g =
          let p = passed_for (tests a) e in
          pair-refused (ap (λ x. or_refusal x (tests b)) p ∙ test-refused b g)

    -- the stored bit
    pub reaches-answer : (t : Bool) → Stands a → Stands b → t ≡ bit (word_at m (row_start a + b / 64)) (b % 64) → memory_step m (ask (ask_reaches a b)) ≡ (m, says t)
    unfolding row_bit
    reaches-answer t p q h =
        reaches-says m formed a b (part_in m (container_start a)) (part_in m (container_start b)) p.below q.below p.there q.there
        ∙ ap (λ t. (m, says t)) (matrix-in m a b p.below q.below ∙ sym h)

  -- ---- a value under the user key

  module _ (c v : ℕ) (p : Stands c) where
    -- no label has a value above 65,535
    pub user-above : 65535 < v → memory_step m (ask (ask_user c v)) ≡ (m, says false)
    unfolding model_in settings_in
    user-above h =
        let x = part_in m (container_start c) in
        let s : stands (model_in m).containers c ≡ true = ap (on (λ x. true)) p.there in
        user-says m formed c v x p.below p.there
        ∙ ap (λ t. (m, says t)) (carries-word 8 x (formed-labels m (formed-entries m formed) c s) (word_at m 0) v
        ∙ ap (λ t. t && (not (eqb v 0) && eqb (word_under (word_at m 0) x) (word_at m 0 * 65536 + v))) (lt-leb v 65535 h))

    pub user-answer : (t : Bool) → v ≤ 65535 → t ≡ carries (part_in m (container_start c)) (label_in (word_at m 0 * 65536 + v))
        → memory_step m (ask (ask_user c v)) ≡ (m, says t)
    unfolding model_in settings_in
    user-answer t h s =
        let x = part_in m (container_start c) in
        user-says m formed c v x p.below p.there
        ∙ ap (λ t. (m, says t)) (ap (carries x) (sym (label_of (word_at m 0) v h)) ∙ sym s)

  -- ---- the whole registry

  pub counts-answer : (a b n : ℕ) → a ≡ length (containers_of (model_in m)) → b ≡ length (policies_of (model_in m)) → n ≡ pairs (bits_in m)
      → memory_step m (ask counts) ≡ (m, counted a b n)
  counts-answer a b n e f g = counts-answers m formed ∙ rw (e, f, g)
