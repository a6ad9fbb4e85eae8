-- Cut into blocks, the file of valid entries gives their blocks, and each reads back as its entry: so they come one after another, and fill
-- the tables in their order. On memory by the refinement, call by call.
use mathlib.Core.Path.{◌≡◌, refl, sym, ap, ap₂, subst, ◌∙◌}
use mathlib.Core.Bool.{Bool, true, false}
use mathlib.Core.List.{List, [], ◌∷◌, ◌++◌, map, flatten, map-append, map-map}
use mathlib.Core.Option.{none, some}
use Prim.Native.Nat.{ℕ, suc, ◌≤◌}
use native.Mathlib.Omega.{arith}
use lib.Dec.{eqb, ltb}
use lib.ListN.{length, set, replicate}
use borrow.Author.Tests.{eqb-true, eqb-false, ltb-true, ltb-false}
use Rattle.block.specs.Cut.{blocks_of}
use Rattle.block.specs.Entry.{Container, Policy, Settings, Entry, container, policy}
use Rattle.block.specs.Written.{block_of, settings_block, valid_entry}
use Rattle.block.proofs.Cut.{blocks_end, blocks-first}
use Rattle.block.proofs.Written.{written-length, settings-length, written_read, settings-read}
use Rattle.model.specs.Table.{Table, at, standing, lowest_free, below}
use Rattle.model.specs.Model.{container_slots, policy_slots, Model, empty, with_container, with_policy, computed_bits}
use Rattle.model.specs.Findings.{containers_of, policies_of}
use Rattle.model.specs.Calls.{Call, open_with, change, admit, ask, write}
use Rattle.model.specs.Calls.{Answer, refusal, done, container_at, policy_at, file_put, run}
use Rattle.model.specs.File.{standing_entries, file_entries, file_of, reading, read_answers, closed, closed_up}
use Rattle.model.specs.ModelStep.{opening, placing, placing_policy, admitting, admitting_block, model_step}
use Rattle.model.specs.Registry.{consistent, Agree, computed}
use Rattle.model.proofs.Lists.{All, all_append, all-mapped}
use Rattle.model.proofs.Consistent.{consistent-exactly, computed-consistent, opened-computed}
use Rattle.model.proofs.File.{entries-standing, entries_fit, standing-within, closed-matrix, closed-selected, closed-allowed, closed-file}
use Rattle.model.proofs.File.{run-next, run-append, run-fills}
use Rattle.store.specs.Layout.{memory_words}
use Rattle.formed.specs.Registry.{model_in, bits_in, registry_in, image, free_or, ValidEntries, well_formed}
use Rattle.formed.proofs.Back.{registry-image}
use Rattle.formed.proofs.Formed.{formed-memory, acceptable-image}
use Rattle.steps.specs.MemoryStep.{memory_step}
use Rattle.steps.specs.ReadBack.{ReadsBack, CarriedOver, CarriesOver, WritingLeaves}
use Rattle.steps.proofs.Outcomes.{step-size, step-formed, open_done, write-short, write-puts}
use Rattle.steps.proofs.Refinement.{left, step-refines}
use Rattle.steps.proofs.Refused.{query-unchanged}
use Rattle.steps.proofs.Valid.{acceptable-computed, valid-empty, valid-step}

-- a test that every slot passes, all standing entries pass
all-standing : {A : Type 0} (f : A → Bool) (t : Table A) → ((i : ℕ) → free_or f (at t i) ≡ true) → All (λ x. f x ≡ true) (standing_entries t)
all-standing f [] h = tt
all-standing f (none ∷ t) h = all-standing f t (λ i. h (suc i))
all-standing f (some x ∷ t) h = (h 0, all-standing f t (λ i. h (suc i)))

-- ---- the entries of a table, under settings s

abbrev model_of : Settings → Table Container → Table Policy → Model
model_of s cs ps = record { settings = s; containers = cs; policies = ps }

-- the call that admits an entry
abbrev admits : Entry → Call
admits x = change (admit (block_of x))

module _ (s : Settings) where
  -- the blocks of valid entries, joined and cut again
  blocks-back : (l : List Entry) → All (λ x. valid_entry s x ≡ true) l → blocks_of (flatten (map block_of l)) ≡ map block_of l
  unfolding flatten
  blocks-back [] h = blocks_end
  blocks-back (x ∷ l) h =
      blocks-first (block_of x) (flatten (map block_of l)) (written-length s x h.0) ∙ ap (λ (r : List (List ℕ)). block_of x ∷ r) (blocks-back l h.1)

  -- a valid entry comes to the lowest free slot of its table
  container-comes : (ps : Table Policy) (t : Table Container) (x : Container) (i : ℕ) → valid_entry s (container x) ≡ true → lowest_free t ≡ some i
      → model_step (model_of s t ps) (admits (container x)) ≡ (model_of s (set t i (some x)) ps, container_at i)
  unfolding model_step admitting_block admitting placing with_container
  container-comes ps t x i v e = ap (admitting (model_of s t ps)) (written_read s (container x) v) ∙ ap (placing (model_of s t ps) x) e

  policy-comes : (cs : Table Container) (t : Table Policy) (x : Policy) (i : ℕ) → valid_entry s (policy x) ≡ true → lowest_free t ≡ some i
      → model_step (model_of s cs t) (admits (policy x)) ≡ (model_of s cs (set t i (some x)), policy_at i)
  unfolding model_step admitting_block admitting placing_policy with_policy
  policy-comes cs t x i v e = ap (admitting (model_of s cs t)) (written_read s (policy x) v) ∙ ap (placing_policy (model_of s cs t) x) e

  -- the standing entries of a table come to a free table of its size, and are that table closed up
  module _ {A : Type 0} (entry : A → Entry) (hold : Table A → Model) (answer : ℕ → Answer)
      (comes : (t : Table A) (x : A) (i : ℕ) → valid_entry s (entry x) ≡ true → lowest_free t ≡ some i
      → model_step (hold t) (admits (entry x)) ≡ (hold (set t i (some x)), answer i)) where
    table-comes : (t : Table A) → ((i : ℕ) → free_or (λ x. valid_entry s (entry x)) (at t i) ≡ true)
        → run model_step (hold (replicate (length t) none)) (map (λ x. admits (entry x)) (standing_entries t))
        ≡ (hold (closed t), map answer (below (length (standing t))))
    unfolding closed
    table-comes t valid =
        run-fills model_step hold (λ x. admits (entry x)) answer (λ x. valid_entry s (entry x) ≡ true) comes [] (standing_entries t) (length t)
        (all-standing (λ x. valid_entry s (entry x)) t valid) (entries_fit t)
        ∙ ap (λ (n : ℕ). (hold (closed t), map answer (below n))) (entries-standing t)

-- ---- the file of a model

-- the calls after the first, and their answers
abbrev admissions : Model → List Call
admissions m = map (λ b. change (admit b)) (map block_of (file_entries m))

abbrev placed : Model → List Answer
placed m = map container_at (below (length (containers_of m))) ++ map policy_at (below (length (policies_of m)))

module _ (m : Model) (valid : ValidEntries m) where
  abbrev s : Settings
  s = m.settings

  abbrev containers : List Container
  containers = standing_entries m.containers

  abbrev policies : List Policy
  policies = standing_entries m.policies

  file-valid : All (λ x. valid_entry s x ≡ true) (file_entries m)
  unfolding file_entries
  file-valid =
      all_append (λ x. valid_entry s x ≡ true) (map container containers) (map policy policies)
      (all-mapped (λ x. valid_entry s x ≡ true) container containers (all-standing (λ x. valid_entry s (container x)) m.containers valid.container))
      (all-mapped (λ x. valid_entry s x ≡ true) policy policies (all-standing (λ x. valid_entry s (policy x)) m.policies valid.policy))

  file-blocks : blocks_of (file_of m) ≡ settings_block s ∷ map block_of (file_entries m)
  unfolding file_of flatten
  file-blocks =
      blocks-first (settings_block s) (flatten (map block_of (file_entries m))) (settings-length s)
      ∙ ap (λ (r : List (List ℕ)). settings_block s ∷ r) (blocks-back s (file_entries m) file-valid)

  admissions-are : admissions m ≡ map (λ x. admits (container x)) containers ++ map (λ x. admits (policy x)) policies
  unfolding file_entries
  admissions-are =
      map-map (λ b. change (admit b)) block_of (file_entries m)
      ∙ map-append admits (map container containers) (map policy policies)
      ∙ ap₂ ◌++◌ (map-map admits container containers) (map-map admits policy policies)

  empty-is : empty s ≡ model_of s (replicate (length m.containers) none) (replicate (length m.policies) none)
  unfolding empty
  empty-is = sym (ap₂ (λ c q. model_of s (replicate c none) (replicate q none)) valid.containers valid.policies)

  -- containers, then policies
  entries-come : run model_step (empty s) (admissions m) ≡ (closed_up m, placed m)
  unfolding closed_up
  entries-come =
      let cs = map (λ x. admits (container x)) containers in
      let ps = map (λ x. admits (policy x)) policies in
      let no_policies : Table Policy = replicate (length m.policies) none in
      ap₂ (run model_step) empty-is admissions-are
      ∙ run-append model_step (model_of s (replicate (length m.containers) none) no_policies) cs ps
      ∙ ap (λ (r : Model × List Answer). ((run model_step r.0 ps).0, r.1 ++ (run model_step r.0 ps).1))
      (table-comes s container (λ t. model_of s t no_policies) container_at (container-comes s no_policies) m.containers valid.container)
      ∙ ap (λ (r : Model × List Answer). (r.0, map container_at (below (length (containers_of m))) ++ r.1))
      (table-comes s policy (model_of s (closed m.containers)) policy_at (policy-comes s (closed m.containers)) m.policies valid.policy)

  -- by any step whose open accepts the first block, and which takes the entries so
  file-read : {S : Type 0} (step : S → Call → S × Answer) (x y z : S) → step x (open_with (settings_block s)) ≡ (y, done)
      → run step y (admissions m) ≡ (z, placed m) → run step x (reading (blocks_of (file_of m))) ≡ (z, read_answers m)
  unfolding read_answers
  file-read {S} step x y z e f =
      ap (λ (bs : List (List ℕ)). run step x (reading bs)) file-blocks
      ∙ run-next step x y done (open_with (settings_block s)) (admissions m) e
      ∙ ap (λ (r : S × List Answer). (r.0, done ∷ r.1)) f

  model-reads : (other : Model) → run model_step other (reading (blocks_of (file_of m))) ≡ (closed_up m, read_answers m)
  unfolding model_step opening
  model-reads other = file-read model_step other (empty s) (closed_up m) (ap (opening other) (settings-read s valid.settings)) entries-come

pub reads-back : ReadsBack
unfolding ReadsBack
reads-back m valid = record {
  read = model-reads m valid;
  matrix = closed-matrix m;
  selected = closed-selected m;
  allowed = closed-allowed m;
  again = closed-file m;
}

-- ---- on memory

run-image : (m : Model) → ValidEntries m → (calls : List Call) → run memory_step (image (computed m)) calls ≡ left (run model_step m calls)
run-image m g [] = refl
run-image m g (call ∷ calls) = rw (step-refines m g call, run-image (model_step m call).0 (valid-step m g call) calls)

valid-after : (m : Model) → ValidEntries m → (calls : List Call) → ValidEntries (run model_step m calls).0
valid-after m g [] = g
valid-after m g (call ∷ calls) = valid-after (model_step m call).0 (valid-step m g call) calls

module _ (m : Model) (valid : ValidEntries m) where
  closed-valid : ValidEntries (closed_up m)
  closed-valid =
      subst ValidEntries (ap (λ r. r.0) (entries-come m valid)) (valid-after (empty m.settings) (valid-empty m.settings valid.settings) (admissions m))

  memory-reads : (other : List ℕ) → length other ≡ memory_words
      → run memory_step other (reading (blocks_of (file_of m))) ≡ (image (computed (closed_up m)), read_answers m)
  memory-reads other whole =
      let s = m.settings in
      file-read m valid memory_step other (image (computed (empty s))) (image (computed (closed_up m)))
      (open_done other (settings_block s) whole s (settings-read s valid.settings) ∙ ap (λ r. (image r, done)) (opened-computed s))
      (run-image (empty s) (valid-empty s valid.settings) (admissions m) ∙ ap left (entries-come m valid))

-- the file of a well-formed memory
carried : (old other : List ℕ) → well_formed old ≡ true → length other ≡ memory_words
    → CarriedOver old other (file_of (model_in old)) (image (computed (closed_up (model_in old))))
unfolding registry_in computed Agree
carried old other formed whole =
    let m = model_in old in
    let valid : ValidEntries m = (formed-memory old formed).acceptable.entries in
    let c = closed_up m in
    let x = image (computed c) in
    let ok = acceptable-computed c (closed-valid m valid) in
    let h : registry_in x ≡ computed c = registry-image (computed c) ok in
    let bits : bits_in x ≡ computed_bits c = ap (λ r. r.bits) h in
    let f = acceptable-image (computed c) ok in
    let same : file_of (model_in x) ≡ file_of m = ap (λ r. file_of r.model) h ∙ closed-file m in
    let rules = (consistent-exactly (registry_in old)).0 in
    let slot = standing-within m.containers container_slots valid.containers in
    let policy_slot = standing-within m.policies policy_slots valid.policies in
    record {
      read = memory-reads m valid other whole;
      entries = ap (λ r. r.model) h;
      formed = f;
      in_step = ap consistent h ∙ computed-consistent c;
      matrix = λ e i j a b. ap (λ s. s.matrix i j) bits ∙ closed-matrix m i j a b ∙ sym ((rules e).matrix _ _ (slot i a) (slot j b));
      selected = λ e q i a b. ap (λ s. s.selected q i) bits ∙ closed-selected m q i a b ∙ sym ((rules e).selected _ _ (policy_slot q a) (slot i b));
      allowed = λ e q i a b. ap (λ s. s.allowed q i) bits ∙ closed-allowed m q i a b ∙ sym ((rules e).allowed _ _ (policy_slot q a) (slot i b));
      again = λ n l. write-puts x f n (subst (λ (w : List ℕ). length w ≤ n) (sym same) l) ∙ ap (λ (w : List ℕ). (x, file_put w)) same;
    }

-- a memory that was written is well formed, and its file is that of its entries
wrote : (m file : List ℕ) (n : ℕ) → (memory_step m (ask (write n))).1 ≡ file_put file → (well_formed m ≡ true) × (file_of (model_in m) ≡ file)
wrote m file n e = pick (eqb (length m) memory_words) refl (well_formed m) refl (ltb n (length (file_of (model_in m)))) refl
  where
    never : {A : Type 0} (k : ℕ) → memory_step m (ask (write n)) ≡ (m, refusal k 0) → A
    never k h =
        let r : file_put file ≡ refusal k 0 = sym e ∙ ap (λ s. s.1) h in
        let z : ◌≡◌ {A = ℕ} 0 1 = cc in
        absurd (omega arith)

    pick : (t : Bool) → eqb (length m) memory_words ≡ t → (u : Bool) → well_formed m ≡ u → (v : Bool) → ltb n (length (file_of (model_in m))) ≡ v
        → (well_formed m ≡ true) × (file_of (model_in m) ≡ file)
    pick false l u w v b = never 1 (step-size m (ask (write n)) (eqb-false (length m) memory_words l))
    pick true l false w v b = never 2 (step-formed m (ask (write n)) (eqb-true (length m) memory_words l) w refl)
    pick true l true w true b = never 13 (write-short m w n (ltb-true n (length (file_of (model_in m))) b))
    pick true l true w false b =
        let r : file_put (file_of (model_in m)) ≡ file_put file = sym (ap (λ s. s.1) (write-puts m w n (ltb-false n (length (file_of (model_in m))) b))) ∙ e in
        (w, cc)

pub carries_over : CarriesOver
unfolding CarriesOver
carries_over old other file n whole e =
    let p = wrote old file n e in
    let x = image (computed (closed_up (model_in old))) in
    (x, subst (λ (w : List ℕ). CarriedOver old other w x) p.1 (carried old other p.0 whole))

pub writing-leaves : WritingLeaves
unfolding WritingLeaves
writing-leaves m n = query-unchanged m (ask (write n)) refl
