-- The list of calls, computed through the model's step; and so answered on every memory.
use mathlib.Core.Path.{◌≡◌, refl, sym, ap, ap₂, ◌∙◌}
use mathlib.Core.Bool.{Bool, true, false, ◌&&◌, cond}
use mathlib.Core.List.{List, [], ◌∷◌, ◌++◌, map, flatten}
use mathlib.Core.Option.{none, some}
use Prim.Native.Nat.{ℕ, suc, ◌+◌, ◌*◌, ◌%◌, ◌≤◌}
use native.Mathlib.Omega.{arith}
use lib.Dec.{eqb, leb}
use borrow.Author.Tests.{eq-eqb, le-leb}
use lib.ListN.{length, replicate, drop, length-append, length-replicate}
use Rattle.block.specs.declared.Direction.{Direction}
use Rattle.block.specs.declared.Direction.TheVariants.{Ingress as ingress, Egress as egress}
use Rattle.std.specs.Prelude.{Err}
use Rattle.block.specs.Entry.{Label, Settings, Entry, container, policy}
use Rattle.block.specs.declared.Reason.{Reason}
use Rattle.block.specs.declared.Reason.TheVariants.{BlockLength, Checksum, Kind, Limit, Range, Order, Unused}
use Rattle.block.specs.declared.Refusal.{Refusal}
use Rattle.block.specs.Refusal.{Check, first_refusal, Read, refused, accepted, read_unless}
use Rattle.block.specs.Cut.{blocks_of}
use Rattle.block.specs.Bytes
use Rattle.block.specs.Reader
use Rattle.block.specs.Reader.{entry_said, settings_said, frame, settings_checks, entry_checks, read_settings, read_entry}
use Rattle.block.specs.Written
use Rattle.block.specs.Written.{sealed, block_of, settings_block, valid_entry, valid_settings}
use Rattle.block.proofs.Cut.{blocks_end, blocks-first}
use Rattle.block.proofs.Sealed.{sealed-length, sealed-checked}
use Rattle.block.proofs.Accepted.{settings-accepted}
use Rattle.block.proofs.Written.{written-length, written_read, settings-read}
use Rattle.model.specs.declared.Tally.{Tally}
use Rattle.model.specs.Rules
use Rattle.model.specs.Model
use Rattle.model.specs.Model.{Model, empty, matrix_bit}
use Rattle.model.specs.Findings
use Rattle.model.specs.Findings.{containers_of, policies_of, pairs_in}
use Rattle.stars.specs.Stars.{label, policy_to}
use Rattle.model.specs.Calls.{ask_reaches, ask_user, next_finding, list_findings, counts, audit, write}
use Rattle.model.specs.Calls.{Call, open_with, change, admit, admit_batch, remove_container, remove_policy, rebuild, ask}
use Rattle.model.specs.Calls.{Answer, refusal, counted, file_put, run}
use Rattle.model.specs.Batch
use Rattle.model.specs.Batch.{batch_outcome}
use Rattle.model.specs.File
use Rattle.model.specs.File.{file_of}
use Rattle.model.specs.ModelStep
use Rattle.model.specs.ModelStep.{opening, admitting, model_answer, admitting_block, admitting_batch, model_step}
use Rattle.model.proofs.Pairs.{pairs-computed}
use Rattle.store.specs.Layout.{memory_words}
use Rattle.formed.specs.Registry.{ValidEntries}
use Rattle.files.proofs.FileLaws.{file-size}
use Rattle.steps.specs.MemoryStep.{memory_step}
use Rattle.steps.specs.Refinement.{Lending, ours, other, Seen, on_memory, on_model, Refinement}
use Rattle.listed.specs.Listed
use Rattle.listed.specs.Listed.{calls_of, seen_of, listed, printed_settings, other_settings, no_labels, tally_of}
use Rattle.listed.specs.Listed.{short_block, unchecked_block, kind_block, nine_block, value_block, order_block, unused_block, key_block}
use Rattle.steps.proofs.Outcomes.{open_done}
use Rattle.steps.proofs.Valid.{valid-empty, valid-step}
use Rattle.steps.proofs.Refinement.{refinement}

-- ---- a call, and what its block is read as

-- a block of 512 bytes
record Block : Type 0 where
  bytes : List ℕ
  size : length bytes ≡ 512
  read : Read Entry
  reads : (s : Settings) → read_entry s bytes ≡ read

data Known : Type 0 where
  call : Call → Known
  -- counts, PAIRS counted over the standing slots, which computes
  counting : Known
  -- a file, its length counted by its blocks, which computes
  writing : ℕ → Known
  entry : (b : List ℕ) (o : Read Entry) → ((s : Settings) → read_entry s b ≡ o) → Known
  settings : (b : List ℕ) (o : Read Settings) → read_settings b ≡ o → Known
  -- blocks at once
  batch : (l : List Block) → length l ≤ 128 → ℕ → Tally → Known
  elsewhere : (x : List ℕ) → (length x ≡ memory_words → ⊥) → Call → Known

abbrev bytes_of : List Block → List (List ℕ)
bytes_of l = map (λ b. b.bytes) l

abbrev lending : Known → Lending
lending (call c) = ours c
lending counting = ours (ask counts)
lending (writing n) = ours (ask (write n))
lending (entry b o e) = ours (change (admit b))
lending (settings b o e) = ours (open_with b)
lending (batch l h n t) = ours (change (admit_batch (flatten (bytes_of l)) n t))
lending (elsewhere x e c) = other x e c

abbrev counted_standing : Model → ℕ → Answer
counted_standing m n = counted (length (containers_of m)) (length (policies_of m)) n

abbrev written_into : Model → ℕ → ℕ → Answer
written_into m n size = cond (leb size n) (file_put (file_of m)) (refusal 13 0)

-- 14 is passed
abbrev batch_into : Model → List Block → ℕ → Tally → Model × Answer
batch_into m l n t = cond (leb (2 * length l) n) (batch_outcome t (run admitting m (map (λ b. b.read) l))) (m, refusal 13 0)

known_step : Model → Known → Model × Seen
known_step m (call c) = let r = model_step m c in (r.0, record { answer = r.1; other = none })
known_step m counting = (m, record { answer = counted_standing m (pairs_in (matrix_bit m) (containers_of m) (containers_of m)); other = none })
known_step m (writing n) = (m, record { answer = written_into m n (512 * (1 + (length (containers_of m) + length (policies_of m)))); other = none })
known_step m (entry b o e) = let r = admitting m o in (r.0, record { answer = r.1; other = none })
known_step m (settings b o e) = let r = opening m o in (r.0, record { answer = r.1; other = none })
known_step m (batch l h n t) = let r = batch_into m l n t in (r.0, record { answer = r.1; other = none })
known_step m (elsewhere x e c) = (m, record { answer = refusal 1 0; other = some x })

on_known : Model → List Known → List Seen
on_known m [] = []
on_known m (k ∷ l) = let r = known_step m k in r.1 ∷ on_known r.0 l

-- the seen of one call, then of the rest
abbrev answered : Answer → List Seen → List Seen
answered a l = record { answer = a; other = none } ∷ l

-- blocks joined, and cut again
flat-blocks : (l : List Block) → blocks_of (flatten (bytes_of l)) ≡ bytes_of l
unfolding flatten
flat-blocks [] = blocks_end
flat-blocks (b ∷ l) = blocks-first b.bytes (flatten (bytes_of l)) b.size ∙ ap (λ (r : List (List ℕ)). b.bytes ∷ r) (flat-blocks l)

flat-length : (l : List Block) → length (flatten (bytes_of l)) ≡ 512 * length l
unfolding flatten
flat-length [] = refl
flat-length (b ∷ l) = let h = flat-length l in omega (arith, length-append b.bytes (flatten (bytes_of l)), b.size, h)

bytes_count : (l : List Block) → length (bytes_of l) ≡ length l
bytes_count [] = refl
bytes_count (b ∷ l) = ap suc (bytes_count l)

run-reads : (m : Model) (l : List Block) → run admitting_block m (bytes_of l) ≡ run admitting m (map (λ b. b.read) l)
unfolding admitting_block
run-reads m [] = refl
run-reads m (b ∷ l) = rw (b.reads m.settings, run-reads (admitting m b.read).0 l)

batch-known : (m : Model) (l : List Block) → length l ≤ 128 → (n : ℕ) (t : Tally) → admitting_batch m (flatten (bytes_of l)) n t ≡ batch_into m l n t
unfolding admitting_batch
batch-known m l h n t =
    let bs = flatten (bytes_of l) in
    let k = flat-length l in
    let few : leb (length bs) 65536 ≡ true = le-leb (length bs) 65536 (omega (arith, k, h)) in
    let whole : eqb (length bs % 512) 0 ≡ true = eq-eqb (length bs % 512) 0 (omega (arith, k)) in
    let count : 2 * length (blocks_of bs) ≡ 2 * length l = ap (λ (j : ℕ). 2 * j) (ap length (flat-blocks l) ∙ bytes_count l) in
    let taken : run admitting_block m (blocks_of bs) ≡ run admitting m (map (λ b. b.read) l) = ap (run admitting_block m) (flat-blocks l) ∙ run-reads m l in
    ap₂ (λ (u v : Bool). cond (u && v) (cond (leb (2 * length (blocks_of bs)) n) (batch_outcome t (run admitting_block m (blocks_of bs))) (m, refusal 13 0)) (m, refusal 14 0)) few whole
    ∙ ap₂ (λ (j : ℕ) (r : Model × List Answer). cond (leb j n) (batch_outcome t r) (m, refusal 13 0)) count taken

known-run : (m : Model) → ValidEntries m → (l : List Known) → (on_model m (map lending l)).1 ≡ on_known m l
unfolding on_model on_known known_step model_step admitting_block model_answer
known-run m s [] = refl
known-run m s (call c ∷ l) = ap (answered (model_step m c).1) (known-run (model_step m c).0 (valid-step m s c) l)
known-run m s (counting ∷ l) = ap₂ (λ n. answered (counted_standing m n)) (pairs-computed m s.containers) (known-run m s l)
known-run m s (writing n ∷ l) = ap₂ (λ k. answered (written_into m n k)) (file-size m s) (known-run m s l)
known-run m s (entry b o e ∷ l) =
    rw (← e m.settings) (ap (answered (model_step m (change (admit b))).1) (known-run (model_step m (change (admit b))).0 (valid-step m s (change (admit b))) l))
known-run m s (settings b o e ∷ l) =
    rw (← e) (ap (answered (model_step m (open_with b)).1) (known-run (model_step m (open_with b)).0 (valid-step m s (open_with b)) l))
known-run m s (batch b h n t ∷ l) =
    let c = change (admit_batch (flatten (bytes_of b)) n t) in
    rw (← batch-known m b h n t) (ap (answered (model_step m c).1) (known-run (model_step m c).0 (valid-step m s c) l))
known-run m s (elsewhere x e c ∷ l) = ap (λ t. record { answer = refusal 1 0; other = some x } ∷ t) (known-run m s l)

-- ---- the blocks of the list

-- the block of an entry that is valid, whatever the settings
module _ (e : Entry) (valid : (s : Settings) → valid_entry s e ≡ true) where
  reads : Known
  reads = entry (block_of e) (accepted e) (λ s. written_read s e (valid s))

abbrev at : Reason → ℕ → Refusal
at w p = record { reason = w; position = p }

-- a sealed block passes 3 and 4, so what refuses it is one of the checks after them
module _ (front : List ℕ) (h : length front ≤ 510) where
  framed : {A : Type 0} (cs : List Check) (x : A) (r : Refusal) → first_refusal cs ≡ Err r → read_unless (first_refusal (frame (sealed front) ++ cs)) x ≡ refused r
  framed cs x r e = rw (eq-eqb _ 512 (sealed-length front h), eq-eqb _ _ (sealed-checked front h), e)

  entry-refused : (s : Settings) (r : Refusal) → first_refusal (drop 2 (entry_checks s (sealed front))) ≡ Err r → read_entry s (sealed front) ≡ refused r
  unfolding Reader.read_entry Reader.entry_checks
  entry-refused s r e = framed (drop 2 (entry_checks s (sealed front))) (entry_said (sealed front)) r e

  settings-refused : (r : Refusal) → first_refusal (drop 2 (settings_checks (sealed front))) ≡ Err r → read_settings (sealed front) ≡ refused r
  unfolding Reader.read_settings Reader.settings_checks
  settings-refused r e = framed (drop 2 (settings_checks (sealed front))) (settings_said (sealed front)) r e

-- each refused block: its refusal, and the position at fault
record Refusals (s : Settings) : Type 0 where
  short : read_entry s short_block ≡ refused (at BlockLength 0)
  unchecked : read_entry s unchecked_block ≡ refused (at Checksum 510)
  kind : read_entry s kind_block ≡ refused (at Kind 0)
  nine : read_entry s nine_block ≡ refused (at Limit 1)
  value : read_entry s value_block ≡ refused (at Range 10)
  order : read_entry s order_block ≡ refused (at Order 8)
  unused : read_entry s unused_block ≡ refused (at Unused 3)
  user_key : read_settings key_block ≡ refused (at Range 1)

short-refused : (s : Settings) → read_entry s short_block ≡ refused (at BlockLength 0)
unfolding short_block Reader.read_entry Reader.entry_checks
short-refused s = refl

unchecked-refused : (s : Settings) → read_entry s unchecked_block ≡ refused (at Checksum 510)
unfolding unchecked_block Bytes.checksum Bytes.weighted Reader.read_entry Reader.entry_checks
unchecked-refused s = refl

block-refusals : (s : Settings) → Refusals s
unfolding kind_block nine_block value_block order_block unused_block key_block
    Written.sealed Reader.entry_checks Reader.layout_of Reader.container_layout Reader.policy_layout Reader.zero_fault Reader.order_fault
    Reader.rise_fault Reader.range_fault Reader.label_fault Reader.within Reader.settings_checks Reader.settings_fields Reader.settings_unused
block-refusals s = record {
  short = short-refused s;
  unchecked = unchecked-refused s;
  kind = entry-refused (83 ∷ 1 ∷ []) (omega arith) s (at Kind 0) refl;
  nine = entry-refused (67 ∷ 9 ∷ []) (omega arith) s (at Limit 1) refl;
  value = entry-refused (67 ∷ 2 ∷ 0 ∷ 0 ∷ 0 ∷ 3 ∷ 0 ∷ 1 ∷ 0 ∷ 1 ∷ 0 ∷ 0 ∷ []) (omega arith) s (at Range 10) refl;
  order = entry-refused (80 ∷ 2 ∷ 0 ∷ 2 ∷ 0 ∷ 3 ∷ 0 ∷ 1 ∷ 0 ∷ 3 ∷ 0 ∷ 2 ∷ []) (omega arith) s (at Order 8) refl;
  unused = entry-refused (67 ∷ 0 ∷ 0 ∷ 1 ∷ []) (omega arith) s (at Unused 3) refl;
  user_key = settings-refused (83 ∷ 65 ∷ []) (omega arith) (at Range 1) refl;
}

-- ---- the list, with what its blocks are read as

container_of : (ls : List Label) → ((s : Settings) → valid_entry s (container ls) ≡ true) → Known
container_of ls v = reads (container ls) v

policy_of : (d : Direction) (x y : List Label) → ((s : Settings) → valid_entry s (policy (policy_to d x y)) ≡ true) → Known
policy_of d x y v = reads (policy (policy_to d x y)) v

opens_with : (s : Settings) → valid_settings s ≡ true → Known
opens_with s v = settings (settings_block s) (accepted s) (settings-read s v)

elsewhere_at : (n : ℕ) → eqb n memory_words ≡ false → Call → Known
elsewhere_at n h c = elsewhere (replicate n 0) (Listed.zeros-other n h) c

block_for : (e : Entry) → ((s : Settings) → valid_entry s e ≡ true) → Block
block_for e v = record { bytes = block_of e; size = written-length printed_settings e (v printed_settings); read = accepted e; reads = λ s. written_read s e (v s) }

unchecked-size : length unchecked_block ≡ 512
unfolding unchecked_block
unchecked-size = ap suc (length-replicate {A = ℕ} 511 0)

three_known : List Block
unfolding Written.valid_entry Written.valid_labels Written.in_range Reader.within
three_known =
    block_for (container (label 3 2 ∷ [])) (λ s. refl)
    ∷ record { bytes = unchecked_block; size = unchecked-size; read = refused (at Checksum 510); reads = λ s. (block-refusals s).unchecked }
    ∷ block_for (policy (policy_to egress (label 3 2 ∷ []) [])) (λ s. refl)
    ∷ []

three-few : length three_known ≤ 128
unfolding three_known
three-few = omega arith

fresh : Known
unfolding Written.valid_entry Written.valid_labels
fresh = reads no_labels (λ s. refl)

knowns : List Known
unfolding Written.valid_entry Written.valid_labels Written.in_range Reader.within Written.valid_settings
knowns =
    counting
    ∷ call (ask (next_finding Findings.start))
    ∷ call (ask (list_findings Findings.start 3))
    ∷ writing 511
    ∷ writing 512
    ∷ call (change (remove_container 0))
    ∷ container_of (label 1 11 ∷ label 3 1 ∷ []) (λ s. refl)
    ∷ elsewhere_at 5762 refl (Listed.container_of (label 1 11 ∷ label 3 2 ∷ []))
    ∷ container_of (label 1 11 ∷ label 3 2 ∷ []) (λ s. refl)
    ∷ container_of (label 1 12 ∷ label 3 1 ∷ []) (λ s. refl)
    ∷ container_of (label 1 99 ∷ label 2 9 ∷ []) (λ s. refl)
    ∷ policy_of ingress (label 3 2 ∷ []) (label 3 1 ∷ []) (λ s. refl)
    ∷ policy_of ingress (label 1 11 ∷ label 3 2 ∷ []) (label 1 11 ∷ label 3 1 ∷ []) (λ s. refl)
    ∷ policy_of egress (label 3 2 ∷ []) (label 1 13 ∷ []) (λ s. refl)
    ∷ counting
    ∷ call (ask (next_finding Findings.start))
    ∷ call (ask (next_finding (Listed.cursor 4 3 1)))
    ∷ call (ask (next_finding (Listed.cursor 7 2 1)))
    ∷ call (ask (list_findings Findings.start 3))
    ∷ call (ask (list_findings (Listed.cursor 3 3 2) 5))
    ∷ call (ask (list_findings (Listed.cursor 3 2 0) 0))
    ∷ call (ask (list_findings (Listed.cursor 7 2 1) 1))
    ∷ elsewhere_at 5762 refl (ask (list_findings Findings.start 3))
    ∷ writing 4095
    ∷ writing 5000
    ∷ elsewhere_at 5762 refl (ask (write 5000))
    ∷ call (ask (ask_reaches 1 0))
    ∷ call (ask (ask_reaches 1 1))
    ∷ call (ask (ask_reaches 2 1))
    ∷ call (ask (ask_reaches 4 256))
    ∷ call (ask (ask_reaches 3 4))
    ∷ call (ask (ask_user 2 12))
    ∷ call (ask (ask_user 2 65548))
    ∷ call (ask (ask_user 255 12))
    ∷ call (ask (ask_user 256 12))
    ∷ entry short_block (refused (at BlockLength 0)) (λ s. (block-refusals s).short)
    ∷ entry unchecked_block (refused (at Checksum 510)) (λ s. (block-refusals s).unchecked)
    ∷ entry kind_block (refused (at Kind 0)) (λ s. (block-refusals s).kind)
    ∷ entry nine_block (refused (at Limit 1)) (λ s. (block-refusals s).nine)
    ∷ entry value_block (refused (at Range 10)) (λ s. (block-refusals s).value)
    ∷ entry order_block (refused (at Order 8)) (λ s. (block-refusals s).order)
    ∷ entry unused_block (refused (at Unused 3)) (λ s. (block-refusals s).unused)
    ∷ settings key_block (refused (at Range 1)) (block-refusals printed_settings).user_key
    ∷ elsewhere_at 5764 refl (open_with (settings_block other_settings))
    ∷ call (ask audit)
    ∷ call (change (remove_policy 2))
    ∷ call (change (remove_policy 2))
    ∷ call (change (remove_policy 128))
    ∷ call (ask (ask_reaches 1 0))
    ∷ call (change (remove_container 0))
    ∷ call (ask (ask_reaches 0 1))
    ∷ writing 3072
    ∷ container_of [] (λ s. refl)
    ∷ counting
    ∷ call (ask (next_finding (Listed.cursor 5 65535 65535)))
    ∷ call (change rebuild)
    ∷ counting
    ∷ call (Listed.batch_of (short_block ∷ []) 0 (tally_of 0 0))
    ∷ batch three_known three-few 5 (tally_of 0 0)
    ∷ batch [] (omega arith) 0 (tally_of 3 4)
    ∷ elsewhere_at 5762 refl (Listed.batch_of Listed.three_blocks 6 (tally_of 0 0))
    ∷ batch three_known three-few 7 (tally_of 18446744073709551614 8)
    ∷ counting
    ∷ call (ask audit)
    ∷ opens_with other_settings refl
    ∷ counting
    ∷ (replicate 128 fresh
    ++ (fresh
    ∷ container_of [] (λ s. refl)
    ∷ call (change (remove_policy 5))
    ∷ fresh
    ∷ elsewhere_at 0 refl (ask audit)
    ∷ counting
    ∷ call (ask audit)
    ∷ []))

knowns-listed : calls_of listed ≡ map lending knowns
unfolding listed knowns container_of policy_of reads opens_with elsewhere_at fresh three_known block_for Listed.three_blocks
knowns-listed = refl

computes : on_known (empty printed_settings) knowns ≡ seen_of listed
unfolding listed knowns container_of policy_of reads opens_with elsewhere_at fresh three_known block_for
    on_known known_step flatten
    Batch.batch_answer Batch.tallied_one ModelStep.admitting_batch Listed.short_block
    Rules.reaches Rules.both_permit Rules.permits Rules.some_allows Rules.some_selects Rules.same_direction Rules.allows Rules.selects Rules.matches Rules.carries Rules.same_label
    Model.empty Model.with_container Model.with_policy Model.computed_bits Model.matrix_bit Model.selected_bit Model.allowed_bit
    ModelStep.model_step ModelStep.opening ModelStep.placing ModelStep.placing_policy ModelStep.admitting ModelStep.removing ModelStep.removing_policy
    ModelStep.asking ModelStep.asking_user ModelStep.model_answer
    Findings.findings Findings.kinds Findings.irrelevance Findings.needless Findings.conflict Findings.shadow Findings.among Findings.connected
    Findings.system_isolation Findings.user_cross Findings.all_isolated Findings.all_reachable Findings.connects Findings.one_direction
    Findings.is_system Findings.same_user Findings.next_after Findings.after Findings.finding_code
    File.file_of File.file_entries
computes = refl

-- ---- the claims

printed-valid : ValidEntries (empty printed_settings)
unfolding Written.valid_settings Reader.within
printed-valid = valid-empty printed_settings refl

-- The model answers the list as it is written.
pub listed-answers : (on_model (empty printed_settings) (calls_of listed)).1 ≡ seen_of listed
listed-answers = ap (λ l. (on_model (empty printed_settings) l).1) knowns-listed ∙ known-run (empty printed_settings) printed-valid knowns ∙ computes

printed-read : read_settings (settings_block printed_settings) ≡ accepted printed_settings
unfolding Written.valid_settings Reader.within
printed-read = settings-read printed_settings refl

-- So does the step on memory, after an open on any memory of our size.
pub listed-on-memory : (m : List ℕ) → length m ≡ memory_words
    → (on_memory (memory_step m (open_with (settings_block printed_settings))).0 (calls_of listed)).1 ≡ seen_of listed
unfolding Refinement
listed-on-memory m whole =
    let b = settings_block printed_settings in
    let e = open_done m b whole printed_settings printed-read in
    let q = ((settings-accepted b printed_settings).0 printed-read).says in
    (refinement m b whole (ap (λ r. r.1) e) (calls_of listed)).answers
    ∙ ap (λ s. (on_model (empty s) (calls_of listed)).1) (sym q)
    ∙ listed-answers
