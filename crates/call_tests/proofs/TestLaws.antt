-- What the tests say of a call that meets their checks first: refused by a test, the call is refused so; past it, the memory is well
-- formed and an entry stands at the slot.
use mathlib.Core.Path.{◌≡◌, refl, sym, ap, ◌∙◌}
use mathlib.Core.Bool.{Bool, true, false, not, cond}
use mathlib.Core.List.{List, [], ◌∷◌, ◌++◌}
use mathlib.Core.Option.{none, some}
use Prim.Native.Nat.{ℕ, ◌+◌, ◌*◌, ◌<◌}
use native.Mathlib.Omega.{arith}
use lib.Dec.{eqb, leb}
use lib.ListN.{length}
use borrow.Author.Tests.{leb-false, eq-eqb, ne_eqb}
use Rattle.block.specs.declared.Refusal.{Refusal}
use Rattle.std.specs.Prelude.{Result, Ok, Err, ⊤, IfOk}
use Rattle.block.specs.declared.Reason.{Reason}
use Rattle.block.specs.declared.Reason.TheVariants.{MemorySize, NotWellFormed, BeyondTable, FreeSlot}
use Rattle.block.specs.declared.Sort.{Sort}
use Rattle.block.specs.Entry.{Settings, Entry, container, policy}
use Rattle.block.specs.Refusal.{reason_number, lone_refusal, check, first_refusal, Read, refused, accepted, read_unless}
use Rattle.block.specs.Reader.{entry_checks, is_container, container_said, policy_said, entry_said, read_entry, AcceptedAs}
use Rattle.block.specs.Reading.{sort_of, read_sort}
use Rattle.model.specs.Table.{Table, is_free, at, free}
use Rattle.model.specs.Calls.{Call, refusal}
use Rattle.model.specs.Refusals.{where0, slot_checks, refusals}
use Rattle.model.proofs.Tables.{free-at}
use Rattle.model.proofs.Agreement.{or_refusal, first-append}
use Rattle.store.specs.Layout.{memory_words, word_at}
use Rattle.store.proofs.Image.{length-tab, get_or-tab}
use Rattle.formed.specs.Registry.{registry_in, well_formed}
use Rattle.entries.specs.Entries.{free_in}
use Rattle.entries.specs.Tables.{slot_in, Tabled}
use Rattle.steps.specs.MemoryStep.{other_size, formed_check, meets_formed, memory_refusals, memory_outcome, memory_step}
use Rattle.steps.proofs.Outcomes.{step-refused}
use Rattle.call_tests.specs.Tests.{reason_of, memory_test, slot_test, said_as}

-- ---- a test's answer

-- two conditions of no place in a block, one after the other
abbrev pub two_tests : Reason → Bool → Reason → Bool → Result ⊤ Refusal
two_tests v s w t = first_refusal (check v (where0 s) ∷ check w (where0 t) ∷ [])

-- the reason that a test gives is the whole refusal
pub reason_for : (v : Reason) (s : Bool) (w : Reason) (t : Bool) {r : Reason} → reason_of (two_tests v s w t) ≡ Err r → two_tests v s w t ≡ Err (lone_refusal r)
reason_for v true w t {r} e = let h : v ≡ r = cc in ap (λ x. Err (lone_refusal x)) h
reason_for v false w true {r} e = let h : w ≡ r = cc in ap (λ x. Err (lone_refusal x)) h
reason_for v false w false e = cc

pub passed_for : {A : Type 0} (o : Result A Refusal) {x : A} → reason_of o ≡ Ok x → o ≡ Ok x
passed_for (Ok y) e = cc
passed_for (Err f) e = cc

-- ---- 1 and 2

module _ (m : List ℕ) where
  pub test-size : (length m ≡ memory_words → ⊥) → memory_test m ≡ Err MemorySize
  unfolding memory_test
  test-size h = ap (λ s. reason_of (first_refusal (check MemorySize (where0 (not s)) ∷ formed_check m))) (ne_eqb (length m) memory_words h)

  pub test-formed : (t : Bool) → length m ≡ memory_words → well_formed m ≡ t → memory_test m ≡ reason_of (first_refusal (check NotWellFormed (where0 (not t)) ∷ []))
  unfolding memory_test
  test-formed t h w =
      ap (λ s. reason_of (first_refusal (check MemorySize (where0 (not s)) ∷ formed_check m))) (eq-eqb (length m) memory_words h)
      ∙ ap (λ t. reason_of (first_refusal (check NotWellFormed (where0 (not t)) ∷ []))) w

  pub memory-refused : (r : Reason) → memory_test m ≡ Err r → (call : Call) → meets_formed m call ≡ formed_check m → memory_step m call ≡ (m, refusal (reason_number r) 0)
  unfolding memory_test memory_step memory_refusals or_refusal
  memory-refused r e call o =
      let size = check MemorySize (where0 (other_size m)) in
      let rest = refusals (registry_in m) call in
      let f = reason_for MemorySize (other_size m) NotWellFormed (not (well_formed m)) e in
      ap (λ cs. memory_outcome m call (first_refusal (size ∷ (cs ++ rest)))) o
      ∙ ap (memory_outcome m call) (first-append (size ∷ formed_check m) rest ∙ ap (λ t. or_refusal t (first_refusal rest)) f)

-- ---- 10 and 11

-- beyond the table, and free
abbrev pub slot_tests : Bool → Bool → Result ⊤ Refusal
slot_tests s t = two_tests BeyondTable s FreeSlot t

module _ (size : ℕ) (f : ℕ → Bool) (i : ℕ) where
  pub test-beyond : leb size i ≡ true → slot_test size f i ≡ Err BeyondTable
  unfolding slot_test
  test-beyond h = ap (λ s. reason_of (slot_tests s (f i))) h

  pub test-within : (t : Bool) → leb size i ≡ false → f i ≡ t → slot_test size f i ≡ reason_of (first_refusal (check FreeSlot (where0 t) ∷ []))
  unfolding slot_test
  test-within t h e = ap (λ s. reason_of (slot_tests s (f i))) h ∙ ap (λ u. reason_of (slot_tests false u)) e

  slot-passed : {u : ⊤} → slot_test size f i ≡ Ok u → (i < size) × (f i ≡ false)
  unfolding slot_test
  slot-passed {u} e = let p = pick (leb size i) (f i) refl refl e in (leb-false size i p.0, p.1)
    where
      pick : (s t : Bool) → leb size i ≡ s → f i ≡ t → reason_of (slot_tests s t) ≡ Ok u → (leb size i ≡ false) × (f i ≡ false)
      pick true t s w e = (cc, cc)
      pick false true s w e = (cc, cc)
      pick false false s w e = (s, w)

  -- the checks of a table's slot, where the table and the test agree on which slots are free
  slot-checks : {A : Type 0} (t : Table A) → (i < size → free t i ≡ f i) → first_refusal (slot_checks size t i) ≡ slot_tests (leb size i) (f i)
  slot-checks t same = pick (leb size i) refl
    where
      pick : (s : Bool) → leb size i ≡ s → slot_tests s (free t i) ≡ slot_tests s (f i)
      pick true h = refl
      pick false h = ap (slot_tests false) (same (leb-false size i h))

-- ---- the slots of a memory

free-if : {A : Type 0} (t : Bool) (x : A) → is_free (cond t none (some x)) ≡ t
free-if true x = refl
free-if false x = refl

module _ {A : Type 0} {m : List ℕ} {start words n : ℕ} {entry : ℕ → A} {t : Table A} (g : Tabled start words n entry m t) where
  abbrev test : ℕ → Result ⊤ Reason
  test = slot_test n (free_in m start words)

  entry-at : (i : ℕ) → i < n → at t i ≡ slot_in start words entry m i
  entry-at i h = ap (λ (u : Table A). at u i) g.reads ∙ get_or-tab n (slot_in start words entry m) i none h

  pub tabled-free : (i : ℕ) → i < n → free t i ≡ free_in m start words i
  unfolding free_in
  tabled-free i h =
      let l : length t ≡ n = ap length g.reads ∙ length-tab n (slot_in start words entry m) in
      free-at t i (omega arith) ∙ ap is_free (entry-at i h) ∙ free-if (eqb (word_at m (start + words * i)) 0) (entry i)

  -- past both tests an entry stands there
  entry-stands : (i : ℕ) {u : ⊤} → test i ≡ Ok u → (i < n) × (at t i ≡ some (entry i))
  unfolding free_in
  entry-stands i e =
      let p = slot-passed n (free_in m start words) i e in
      (p.0, entry-at i p.0 ∙ ap (λ b. cond b none (some (entry i))) p.1)

  pub stands-if : (i : ℕ) (o : Result ⊤ Reason) → o ≡ test i → IfOk o (λ u. i < n) × IfOk o (λ u. at t i ≡ some (entry i))
  stands-if i (Ok u) e = entry-stands i (sym e)
  stands-if i (Err r) e = (tt, tt)

  -- a call that meets the checks of one slot alone
  pub slot-refused : well_formed m ≡ true → (call : Call) (i : ℕ) {r : Reason} → refusals (registry_in m) call ≡ slot_checks n t i → test i ≡ Err r
      → memory_step m call ≡ (m, refusal (reason_number r) 0)
  unfolding slot_test
  slot-refused formed call i {r} o e =
      let f = reason_for BeyondTable (leb n i) FreeSlot (free_in m start words i) e in
      step-refused m formed call (lone_refusal r) (ap first_refusal o ∙ slot-checks n (free_in m start words) i t (tabled-free i) ∙ f)

-- ---- 3 to 9

module _ (s : Settings) (b : List ℕ) where
  pub entry-refused : (f : Refusal) → read_sort (read_entry s b) ≡ Err f → read_entry s b ≡ refused f
  entry-refused f e = pick (read_entry s b) e
    where
      pick : (o : Read Entry) → read_sort o ≡ Err f → o ≡ refused f
      pick (refused g) h = cc
      pick (accepted x) h = cc

  -- which entry it is
  entry-read : (x : Sort) → read_sort (read_entry s b) ≡ Ok x → (read_entry s b ≡ accepted (entry_said b)) × (sort_of (entry_said b) ≡ x)
  unfolding read_entry
  entry-read x e = pick (first_refusal (entry_checks s b)) e
    where
      pick : (o : Result ⊤ Refusal) → read_sort (read_unless o (entry_said b)) ≡ Ok x → (read_unless o (entry_said b) ≡ accepted (entry_said b)) × (sort_of (entry_said b) ≡ x)
      pick (Ok t) h = (refl, let w : sort_of (entry_said b) ≡ x = cc in w)
      pick (Err f) h = cc

  entry-as : (x : Sort) → read_sort (read_entry s b) ≡ Ok x → AcceptedAs s b (said_as x b)
  unfolding entry_said
  entry-as x e = let p = entry-read x e in p.0 ∙ ap accepted (sym (own (is_container b)) ∙ ap (λ x. said_as x b) p.1)
    where
      own : (t : Bool) → said_as (sort_of (cond t (container (container_said b)) (policy (policy_said b)))) b ≡ cond t (container (container_said b)) (policy (policy_said b))
      own true = refl
      own false = refl

  pub entries-as : (o : Result Sort Refusal) → read_sort (read_entry s b) ≡ o → IfOk o (λ x. AcceptedAs s b (said_as x b))
  entries-as (Ok x) e = entry-as x e
  entries-as (Err f) e = tt
