-- One block more, from none to all; then what is settled is what the admissions leave one after another, and the numbers and the tally are theirs.
use mathlib.Core.Path.{◌≡◌, sym, ap, ap₂, subst, ◌∙◌}
use mathlib.Core.Bool.{Bool, true, not, ◌||◌}
use mathlib.Core.List.{List, [], ◌∷◌, ◌++◌, map, map-append, append_assoc}
use Prim.Native.Nat.{ℕ, ◌+◌, ◌*◌, ◌%◌, ◌≤◌}
use native.Mathlib.Omega.{arith}
use lib.Dec.{eqb, ltb}
use lib.ListN.{length, take, drop, set, length-set}
use Rattle.bitrow.specs.Bit.{bit_at}
use Rattle.buffer.specs.Buffer.{overwritten, Puts}
use Rattle.buffer.proofs.BufferLaws.{puts_none, puts-next, puts-as, puts-start, puts-taken}
use Rattle.block.specs.Cut.{blocks_of}
use Rattle.std.specs.Prelude.{Result, Ok, Err, IsErrAnd}
use Rattle.block.specs.declared.Reason.{Reason}
use Rattle.block.specs.declared.Reason.TheVariants.{BufferLength, BatchLength}
use Rattle.block.specs.declared.Refusal.{Refusal}
use Rattle.block.specs.Refusal.{reason_number, lone_refusal, first_refusal}
use Rattle.block.proofs.Cut.{blocks-count}
use Rattle.model.specs.declared.Tally.{Tally}
use Rattle.model.specs.Calls.{change, admit_batch, Answer, refusal, batch_put, numbers_of, pairs_of, written, tally_left, run, said}
use Rattle.model.specs.Batch.{pair_of, is_taken, tallied_one, tallied, batch_answer}
use Rattle.model.specs.Model.{Model}
use Rattle.model.specs.ModelStep.{admitting_block}
use Rattle.model.specs.OnePass.{containers_came, policies_came, entries_placed, one_pass, AdmittedOnce}
use Rattle.model.specs.Refusals.{batch_checks}
use Rattle.model.specs.Registry.{Registry, BitsStand}
use Rattle.model.specs.Settled.{settled}
use Rattle.model.proofs.Batch.{pairs-back, numbers-last, tallied-last}
use Rattle.model.proofs.OnePass.{admitted-once, placed-stand}
use Rattle.formed.specs.Registry.{model_in, bits_in, registry_in, image, well_formed}
use Rattle.formed.proofs.Apart.{formed-apart}
use Rattle.formed.proofs.Formed.{formed-memory, formed-entries}
use Rattle.formed.proofs.StoredLaws.{Fit}
use Rattle.steps.specs.MemoryStep.{memory_step}
use Rattle.steps.proofs.Outcomes.{batch-refused, batch-admits}
use Rattle.call_tests.proofs.TestLaws.{reason_for}
use Rattle.answers.specs.Answers.{admitted_answer, batched_answer, tally_after}
use Rattle.answers.proofs.AnswerLaws.{returned, promised-refused}
use Rattle.batch_blocks.specs.Blocks.{block_placed}
use Rattle.batch_blocks.proofs.Left.{left-formed, left-fit, left-model, left-bits}
use Rattle.batch_blocks.proofs.Cursors.{placed-free-from, free-from-none}
use Rattle.batches.specs.declared.Progress.{Progress}
use Rattle.batches.specs.Progress.{batch_test, Begun, first_blocks, first_answers, TookBlock, BatchAt}
use Rattle.batches.proofs.Blocks.{first-none, first-all, entries_next, answers_next}
use Rattle.batches.proofs.CameLaws.{none_came, came-with}

module _ (m bs d : List ℕ) (t : Tally) where
  -- ---- none yet

  no-answers : first_answers m bs 0 ≡ []
  unfolding first_answers
  no-answers = ap (λ (l : List (List ℕ)). (run admitting_block (model_in m) l).1) (first-none bs)

  pub batch-none : well_formed m ≡ true → Fit m → {p : Progress} → Begun t p → BatchAt m bs d t 0 m d p
  unfolding entries_placed containers_came policies_came
  batch-none formed fit g = record {
    formed = formed-entries m formed;
    fits = fit;
    placed = ap (entries_placed (registry_in m)) (sym (first-none bs));
    free = free-from-none (model_in m) g.none;
    containers = g.none.containers ∙ none_came (λ x. (said x).container) ∙ ap containers_came (sym no-answers);
    policies = g.none.policies ∙ none_came (λ x. (said x).policy) ∙ ap policies_came (sym no-answers);
    tally = g.tally ∙ ap (λ (l : List Answer). tallied t (map pair_of l)) (sym no-answers);
    list = puts-as (puts_none (omega arith)) (ap (λ (l : List Answer). numbers_of (map pair_of l)) (sym no-answers));
  }

  -- ---- one more

  module _ {i : ℕ} {m' e : List ℕ} {p : Progress} (g : BatchAt m bs d t i m' e p) (within : 512 * i + 512 ≤ length bs) (room : 2 * i + 2 ≤ length e) where
    abbrev block : List ℕ
    block = take 512 (drop (512 * i) bs)

    -- the memory says the entries of the blocks before
    model-here : model_in m' ≡ (run admitting_block (model_in m) (first_blocks bs i)).0
    unfolding registry_in entries_placed
    model-here = ap (λ (r : Registry). r.model) g.placed

    bits-here : bits_in m' ≡ bits_in m
    unfolding registry_in entries_placed
    bits-here = ap (λ (r : Registry). r.bits) g.placed

    module _ {m'' f : List ℕ} {p' : Progress} (w : TookBlock m' block e i p m'' f p') where
      abbrev a : Answer
      a = admitted_answer w.answer

      answers-here : first_answers m bs (i + 1) ≡ first_answers m bs i ++ (a ∷ [])
      unfolding block_placed admitting_block
      answers-here =
          let q : (admitting_block (run admitting_block (model_in m) (first_blocks bs i)).0 block).1 ≡ a =
          ap (λ (x : Model). (admitting_block x block).1) (sym model-here) ∙ sym (ap (λ (s : List ℕ × Answer). s.1) w.placed) in
          answers_next bs i within m ∙ ap (λ (x : Answer). first_answers m bs i ++ (x ∷ [])) q

      pairs-here : map pair_of (first_answers m bs (i + 1)) ≡ map pair_of (first_answers m bs i) ++ (pair_of a ∷ [])
      pairs-here = ap (map pair_of) answers-here ∙ map-append pair_of (first_answers m bs i) (a ∷ [])

      entries-here : model_in m'' ≡ (run admitting_block (model_in m) (first_blocks bs (i + 1))).0
      unfolding admitting_block
      entries-here =
          left-model m' block g.formed w.placed
          ∙ ap (λ (x : Model). (admitting_block x block).0) model-here
          ∙ sym (entries_next bs i within m)

      registry-here : registry_in m'' ≡ entries_placed (registry_in m) (first_blocks bs (i + 1))
      unfolding registry_in entries_placed
      registry-here =
          let b : bits_in m'' ≡ bits_in m = left-bits m' block g.formed w.placed ∙ bits-here in
          λ j. record { model = entries-here j; bits = b j }

      list-here : Puts d 0 (numbers_of (map pair_of (first_answers m bs (i + 1)))) f (2 * (i + 1))
      list-here =
          let l = numbers_of (map pair_of (first_answers m bs i)) in
          let x = (pair_of a).0 in
          let y = (pair_of a).1 in
          let n : 2 * i + 1 + 1 ≡ 2 * (i + 1) = omega arith in
          let s : length (set e (2 * i) x) ≡ length e = length-set e (2 * i) x in
          let u = puts-next g.list x (omega (arith, room)) in
          let v = puts-next u y (omega (arith, room, s)) in
          let q : (l ++ x ∷ []) ++ y ∷ [] ≡ numbers_of (map pair_of (first_answers m bs (i + 1))) =
          append_assoc l (x ∷ []) (y ∷ []) ∙ sym (numbers-last (map pair_of (first_answers m bs i)) (pair_of a)) ∙ ap numbers_of (sym pairs-here) in
          subst (λ (k : ℕ). Puts d 0 (numbers_of (map pair_of (first_answers m bs (i + 1)))) f k) n
          (subst (λ (z : List ℕ). Puts d 0 (numbers_of (map pair_of (first_answers m bs (i + 1)))) z (2 * i + 1 + 1)) (sym w.list) (puts-as v q))

      next : BatchAt m bs d t (i + 1) m'' f p'
      unfolding containers_came policies_came
      next = record {
        formed = left-formed m' block g.formed w.placed;
        fits = left-fit m' block g.formed w.placed;
        placed = registry-here;
        free = placed-free-from m' block w.answer w.placed g.formed w.came g.free;
        containers = w.came.containers.slots ∙ came-with (λ x. (said x).container) (first_answers m bs i) a g.containers ∙ ap containers_came (sym answers-here);
        policies = w.came.policies.slots ∙ came-with (λ x. (said x).policy) (first_answers m bs i) a g.policies ∙ ap policies_came (sym answers-here);
        tally =
            w.tally
            ∙ ap (λ (x : Tally). tallied_one x (is_taken (pair_of a))) g.tally
            ∙ sym (tallied-last t (map pair_of (first_answers m bs i)) (pair_of a))
            ∙ ap (tallied t) (sym pairs-here);
        list = list-here;
      }

    -- the block that was lent is that part of the batch
    pub batch-next : {b m'' f : List ℕ} {p' : Progress} → b ≡ block → TookBlock m' b e i p m'' f p' → BatchAt m bs d t (i + 1) m'' f p'
    batch-next {b} {m''} {f} {p'} q w = next (subst (λ (x : List ℕ). TookBlock m' x e i p m'' f p') q w)

  -- ---- all of them

  module _ {k : ℕ} (whole : length bs ≡ 512 * k) (formed : well_formed m ≡ true) {m' e : List ℕ} {p : Progress} (g : BatchAt m bs d t k m' e p) where
    abbrev r : Registry
    r = registry_in m

    abbrev answers : List Answer
    answers = (run admitting_block (model_in m) (blocks_of bs)).1

    all-answers : first_answers m bs k ≡ answers
    unfolding first_answers
    all-answers = ap (λ (l : List (List ℕ)). (run admitting_block (model_in m) l).1) (first-all bs k whole)

    pub all_placed : registry_in m' ≡ entries_placed r (blocks_of bs)
    all_placed = g.placed ∙ ap (entries_placed r) (first-all bs k whole)

    pub list_done : Puts d 0 (numbers_of (map pair_of answers)) e (2 * k)
    list_done = puts-as g.list (ap (λ (l : List Answer). numbers_of (map pair_of l)) all-answers)

    -- no stored bit has moved, and no slot was freed
    pub placed-formed : well_formed m' ≡ true
    placed-formed = (formed-apart m' g.fits).1 (g.formed, subst BitsStand (sym all_placed) (placed-stand r (blocks_of bs) (formed-memory m formed).acceptable.bits))

    module _ (n : ℕ) (passed : first_refusal (batch_checks bs n) ≡ Ok tt) {f : List ℕ}
        (settles : f ≡ image (settled (bit_at p.came.containers.slots) (bit_at p.came.policies.slots) (registry_in m'))) where
      -- what is settled is what one pass leaves
      settled-once : f ≡ image (one_pass r (blocks_of bs)).0
      unfolding one_pass registry_in
      settled-once =
          settles
          ∙ ap₂ (λ (c q : ℕ → Bool). image (settled c q (registry_in m'))) (g.containers ∙ ap containers_came all-answers) (g.policies ∙ ap policies_came all-answers)
          ∙ ap (λ (x : Registry). image (settled (containers_came answers) (policies_came answers) x)) all_placed

      pub batch-done : memory_step m (change (admit_batch bs n t)) ≡ (f, batch_answer t answers)
      unfolding AdmittedOnce one_pass registry_in
      batch-done =
          batch-admits m formed bs n t passed
          ∙ ap (λ (x : Registry × List Answer). (image x.0, batch_answer t x.1)) (admitted-once r (blocks_of bs))
          ∙ ap (λ (x : List ℕ). (x, batch_answer t answers)) (sym settled-once)

      -- ---- the three promises

      tally-done : p.tally ≡ tallied t (map pair_of answers)
      tally-done = g.tally ∙ ap (λ (l : List Answer). tallied t (map pair_of l)) all-answers

      pub promised-answer : (f, batch_put (pairs_of (take (2 * length (blocks_of bs)) e)) p.tally) ≡ memory_step m (change (admit_batch bs n t))
      unfolding batch_answer
      promised-answer =
          let c : 2 * length (blocks_of bs) ≡ 2 * k = ap (λ (j : ℕ). 2 * j) (blocks-count k bs whole) in
          let l : pairs_of (take (2 * length (blocks_of bs)) e) ≡ map pair_of answers =
          ap (λ (j : ℕ). pairs_of (take j e)) c ∙ ap pairs_of (puts-taken list_done) ∙ pairs-back (map pair_of answers) in
          ap₂ (λ (x : List (ℕ × ℕ)) (y : Tally). (f, batch_put x y)) l tally-done ∙ sym batch-done

      pub promised-list : e ≡ overwritten d (written (memory_step m (change (admit_batch bs n t))).1)
      unfolding batch_answer
      promised-list = puts-start list_done ∙ ap (λ (s : List ℕ × Answer). overwritten d (written s.1)) (sym batch-done)

      pub promised-tally : p.tally ≡ tally_left t (memory_step m (change (admit_batch bs n t))).1
      unfolding batch_answer
      promised-tally = tally-done ∙ ap (λ (s : List ℕ × Answer). tally_left t s.1) (sym batch-done)

  -- ---- a batch that is refused

  pub batch-turned : (n : ℕ) (l : List ℕ) (o : Result Tally Refusal) (r : Reason) → IsErrAnd o (λ x. x ≡ lone_refusal r)
      → memory_step m (change (admit_batch bs n t)) ≡ (m, refusal (reason_number r) 0)
      → let s = memory_step m (change (admit_batch bs n t)) in
      ((m, batched_answer o l) ≡ s) × ((d ≡ overwritten d (written s.1)) × (tally_after t o ≡ tally_left t s.1))
  batch-turned n l o r w h =
      let g = promised-refused m (change (admit_batch bs n t)) d (reason_number r) 0 h in
      let e : o ≡ Err (lone_refusal r) = returned w in
      (ap (λ (x : Result Tally Refusal). (m, batched_answer x l)) e ∙ g.0, (g.1.1, ap (tally_after t) e ∙ ap (λ (s : List ℕ × Answer). tally_left t s.1) (sym h)))

-- refused by 14 or 13
pub batch-refused-by : (m bs : List ℕ) (n : ℕ) (t : Tally) {r : Reason} → well_formed m ≡ true → batch_test bs n ≡ Err r
    → memory_step m (change (admit_batch bs n t)) ≡ (m, refusal (reason_number r) 0)
batch-refused-by m bs n t {r} formed e =
    batch-refused m formed bs n t (lone_refusal r) (reason_for BatchLength (ltb 65536 (length bs) || not (eqb (length bs % 512) 0)) BufferLength (ltb n (2 * length (blocks_of bs))) e)
