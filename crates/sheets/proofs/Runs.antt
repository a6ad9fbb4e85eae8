-- However the input is cut and whatever the buffers hold, the text of all steps, joined, is the sheet.
use mathlib.Core.Path.{◌≡◌, refl, sym, ap, ◌∙◌, subst}
use mathlib.Core.Bool.{Bool, true, false, false≢true, cond, not, ◌&&◌}
use mathlib.Core.List.{List, [], ◌∷◌, ◌++◌, append-nil}
use mathlib.Core.Option.{Option, none, some}
use mathlib.Core.Logic.{◌⊎◌, inl, inr}
use Prim.Native.Nat.{ℕ, zero, suc, ◌+◌, ◌-◌, ◌*◌, ◌≤◌, ◌<◌, min}
use native.Mathlib.Omega.{arith}
use lib.Dec.{eqb, ltb}
use lib.ListN.{length, take, drop, length-append, length-drop}
use lib.Seq.{paste, take-paste, length_paste_head}
use borrow.Author.Tests.{le-ltb, ne_eqb, eqb-true, eqb-false, not-true}
use Rattle.model.specs.declared.Finding.{Finding}
use Rattle.model.specs.Findings.{Place, start, findings}
use Rattle.block.specs.Entry.{Settings}
use Rattle.block.specs.Refusal.{Read, refused, accepted}
use Rattle.block.specs.Reader.{read_settings}
use Rattle.model.specs.Model.{Model, computed_bits}
use Rattle.model.specs.Calls.{Call, Answer, open_with, change, admit, ask, counts, list_findings, said}
use Rattle.model.specs.ModelStep.{opening, admitting_block, model_answer, model_step}
use Rattle.model.specs.Registry.{rebuilt}
use Rattle.model.proofs.Next.{Leads, findings-lead}
use Rattle.model.proofs.Lists.{both}
use Rattle.store.specs.Layout.{memory_words}
use Rattle.formed.specs.Registry.{model_in, registry_in, image, well_formed}
use Rattle.steps.specs.MemoryStep.{memory_step}
use Rattle.steps.proofs.Outcomes.{open-refused, open_done}
use Rattle.findings.specs.declared.Cursor.{Cursor}
use Rattle.findings.specs.Steps.{cursor_place, start_cursor}
use Rattle.findings.proofs.NextFinding.{next_in}
use Rattle.sheets.specs.declared.State.{State}
use Rattle.sheets.specs.declared.State.TheVariants.{Taking, Counting, Listing, Finished}
use Rattle.sheets.specs.Left.{Left, left}
use Rattle.batch_blocks.specs.Blocks.{block_placed}
use Rattle.sheets.specs.Blocks.{taken, admitted_lines, admits_all, end_of}
use Rattle.sheets.specs.Pieces.{with_block, share, waits, take_with, take_one, whole_blocks, take_several, take_step}
use Rattle.sheets.proofs.BlockLaws.{one_of}
use Rattle.sheets.proofs.PieceLaws.{take_on, with-more, with-end, with-block, Several, whole-several, take-one, take-several}
use Rattle.sheets.specs.Closing.{counting, count_step, lines_in, listing, list_step}
use Rattle.text.specs.Lines.{refused_by, finding_lines}
use Rattle.block.specs.Cut.{blocks_of}
use Rattle.block.proofs.Cut.{blocks_end, blocks-first}
use Rattle.sheets.specs.Sheet.{closing, sheet_of, sheet}
use Rattle.sheets.specs.Step.{told, report_step, start_state, finished_in}
use Rattle.sheets.specs.Runs.{ReportRun, ends, goes, Lent, lent_step, Follows, over, stepped, call_by, lines_by, TextIsSheet, EveryRunIsSheet, AtOnce, BlockAtOnce}
use Rattle.sheets.proofs.StepLaws.{lines-some}
use Rattle.sheets.proofs.Kept.{keeps-answer, keeps-formed, keeps-next, holds-rebuilt}
use Rattle.sheets.proofs.Due.{before-first, DueCounts, DueBlocks, Due, at_end, piece-left, piece-waits, piece-end, piece-block, piece-several, not_last}
use Rattle.sheets.proofs.Onward.{Lines, DueLines, lines-listed, lines-due, step-onward}

run-due : (m k : List ℕ) (s : State) (input text t : List ℕ) → length k ≡ 512 → Due s m k input t → ReportRun m k s input text → text ≡ t
run-due m k s input text t whole d (ends _ _ _ _ _ e q) = q ∙ sym (subst (λ (x : State). Due x m k input t) e d)
run-due m k s input text t whole d (goes _ _ _ _ _ p q ended room rest e fin h r w) =
    let x = report_step m k p ended room s in
    let y = step-onward m k p q t ended room s whole fin (subst (λ (i : List ℕ). Due s m k i t) e d) in
    w ∙ ap (λ (u : List ℕ). x.text ++ u) (run-due x.memory x.block x.state (drop x.used p ++ q) rest y.rest y.size y.due r) ∙ sym y.text

pub text-is-sheet : TextIsSheet
unfolding TextIsSheet sheet
text-is-sheet m k input text h whole w r =
    run-due m k start_state input text (sheet_of (blocks_of input)) whole
    (record { part = omega arith; few = omega (arith, w); after = before-first refl h refl }) r

-- ---- every run ends

-- a state at the end of the input
abbrev AtEnd : State → Type 0
AtEnd (Taking n f) = ⊥
AtEnd Counting = Unit
AtEnd (Listing c) = ⊥
AtEnd Finished = Unit

at-end : (u : Bool) → AtEnd (at_end u).1
at-end true = tt
at-end false = tt

-- a state after a block
abbrev Begins : State → Type 0
Begins (Taking n f) = f ≡ 0
Begins Counting = ⊥
Begins (Listing c) = ⊥
Begins Finished = Unit

begins-opened : (o : Option (ℕ × ℕ)) → Begins (elim o [ none ↦ Taking 1 0 | some r ↦ Finished ])
begins-opened none = refl
begins-opened (some r) = tt

begins-taken : (m b : List ℕ) (n : ℕ) → Begins (taken m b n).state
unfolding taken
begins-taken m b n = pick (eqb n 0)
  where
    pick : (u : Bool) → Begins (one_of m b n u).state
    pick true = begins-opened (said (memory_step m (open_with b)).1).refused
    pick false = refl

module _ (lend : ℕ → (input : List ℕ) → Lent input) where
  -- by what a step leaves
  step_follows : (j : ℕ) (m k : List ℕ) (s : State) (i t rest : List ℕ) (x : Left) → lent_step m k s (lend j i) ≡ x → t ≡ x.text ++ rest
      → Follows lend (suc j) x.memory x.block x.state (drop x.used (lend j i).p ++ (lend j i).q) rest → Follows lend j m k s i t
  step_follows j m k s i t rest x e q r =
      stepped j m k s i t rest
      (subst (λ (y : Left). Follows lend (suc j) y.memory y.block y.state (drop y.used (lend j i).p ++ (lend j i).q) rest) (sym e) r)
      (q ∙ ap (λ (y : Left). y.text ++ rest) (sym e))

  -- the findings
  listing-ends : (n j : ℕ) (m k i : List ℕ) (c : Cursor) (l : List Finding) → well_formed m ≡ true → Leads (next_in m) (cursor_place c) l → length l < n
      → Follows lend j m k (Listing c) i (finding_lines l)
  unfolding report_step list_step
  listing-ends zero j m k i c l h g w = absurd (omega arith)
  listing-ends (suc n) j m k i c l h g w =
      stepped j m k (Listing c) i (finding_lines l) (finding_lines y.rest)
      (pick (list_step m room c).1 y.due (y.falls (lines-some room (lend j i).enough)) (λ d g' z. listing-ends n (suc j) m k (p ++ q) d y.rest h g' z))
      y.text
    where
      room : ℕ
      room = (lend j i).room

      p : List ℕ
      p = (lend j i).p

      q : List ℕ
      q = (lend j i).q

      y : Lines m (lines_in room) l (listing (lines_in room) (memory_step m (ask (list_findings (cursor_place c) (lines_in room)))).1)
      y = lines-listed m h (lines_in room) c l g

      pick : (s : State) → DueLines m s y.rest → (s ≡ Finished) ⊎ (length y.rest < length l)
          → ((d : Cursor) → Leads (next_in m) (cursor_place d) y.rest → length y.rest < n → Follows lend (suc j) m k (Listing d) (p ++ q) (finding_lines y.rest))
          → Follows lend (suc j) m k s (p ++ q) (finding_lines y.rest)
      pick (Taking a b) d f ih = absurd d
      pick Counting d f ih = absurd d
      pick (Listing d) g' (inl e) ih = absurd (false≢true (ap finished_in e))
      pick (Listing d) g' (inr z) ih = ih d g' (omega (arith, z, w))
      pick Finished d f ih = over (suc j) m k Finished (p ++ q) (finding_lines y.rest) refl (lines-due m k (p ++ q) h Finished y.rest d)

  -- the counts
  counting-ends : (j : ℕ) (m k i t : List ℕ) → DueCounts m t → Follows lend j m k Counting i t
  unfolding report_step count_step closing model_step model_answer
  counting-ends j m k i t g =
      let w = g.w in
      let r = image (rebuilt (registry_in m)) in
      let y = holds-rebuilt m w g.holds in
      let l = findings w (computed_bits w) in
      step_follows j m k Counting i t (finding_lines l) (told r k (counting (model_step w (ask counts)).1)) (ap (λ (a : Answer). told r k (counting a)) (keeps-answer r w y (ask counts))) g.text
      (listing-ends (suc (length l)) (suc j) r k ((lend j i).p ++ (lend j i).q) start_cursor l (keeps-formed r w y)
      (subst (λ (next : Place → Option Finding). Leads next start l) (sym (keeps-next r w y)) (findings-lead w (computed_bits w))) (omega arith))

  end-ends : (s : State) → AtEnd s → (j : ℕ) (m k i t : List ℕ) → Due s m k i t → Follows lend j m k s i t
  end-ends (Taking n f) a j m k i t d = absurd a
  end-ends Counting a j m k i t d = counting-ends j m k i t d
  end-ends (Listing c) a j m k i t d = absurd a
  end-ends Finished a j m k i t d = over j m k Finished i t refl d

  -- the input, by what is left of it
  abbrev input_left : ℕ → List ℕ → ℕ
  input_left f i = 2 * length i + min f 1

  abbrev Below : ℕ → ℕ → Type 0
  Below a j = (m k i t : List ℕ) (n f : ℕ) → length k ≡ 512 → DueBlocks n f m k i t → input_left f i < a → Follows lend j m k (Taking n f) i t

  taking-ends : (a j : ℕ) (m k i t : List ℕ) (n f : ℕ) → length k ≡ 512 → DueBlocks n f m k i t → input_left f i < a → Follows lend j m k (Taking n f) i t
  unfolding report_step
  taking-ends zero j m k i t n f whole g w = absurd (omega arith)
  taking-ends (suc a) j m k i t n f whole g w = choose (eqb blocks 0) refl (taking-ends a (suc j))
    where
      l : Lent i
      l = lend j i

      fin : Bool
      fin = l.ended

      d : DueBlocks n f m k (l.p ++ l.q) t
      d = subst (λ (x : List ℕ). DueBlocks n f m k x t) l.split g

      blocks : ℕ
      blocks = whole_blocks l.room (length l.p) n f

      c : ℕ
      c = share f (length l.p)

      e : ℕ
      e = f + c

      k2 : List ℕ
      k2 = paste k f l.p c

      i2 : List ℕ
      i2 = drop c l.p ++ l.q

      left-size : length i2 ≡ length i - c
      left-size = piece-left m k l.p l.q t fin n f whole l.last d ∙ ap (λ (x : List ℕ). length x - c) (sym l.split)

      piece-most : c ≤ length i
      piece-most = let x = ap length l.split in let y = length-append l.p l.q in omega (arith, x, y)

      begun : blocks ≡ 0 → take_step m k l.p fin l.room n f ≡ take_with m k2 fin n e c
      begun alone =
          take-one m k l.p fin l.room n f blocks refl alone
          ∙ take_on m k l.p fin n f (not_last m k l.p l.q t fin n f whole l.last d) c refl k2 refl

      after_block : (s : State) → Begins s → (m' : List ℕ) (t' : List ℕ) → Below a (suc j) → input_left 0 i2 < a → Due s m' k2 i2 t' → length k2 ≡ 512 → Follows lend (suc j) m' k2 s i2 t'
      after_block (Taking n' f') b m' t' ih z y v = ih m' k2 i2 t' n' f' v y (omega (arith, z, b))
      after_block Counting b m' t' ih z y v = absurd b
      after_block (Listing x) b m' t' ih z y v = absurd b
      after_block Finished b m' t' ih z y v = over (suc j) m' k2 Finished i2 t' refl y

      pick : blocks ≡ 0 → (u : Bool) → waits e fin ≡ u → (v : Bool) → eqb e 0 ≡ v → Below a (suc j) → Follows lend j m k (Taking n f) i t
      pick alone true z v o ih =
          let x = piece-waits m k l.p l.q t fin n f whole l.last d z in
          let some-used : 0 < c = let h = l.fed (not-true fin (both (ltb e 512) (not fin) z).1) in omega (arith, h, d.part) in
          step_follows j m k (Taking n f) i t x.rest (left m k2 [] (Taking n e) c) (begun alone ∙ with-more m k2 fin n e c z) x.text
          (ih m k2 i2 x.rest n e x.size x.due (omega (arith, w, some-used, left-size, piece-most)))
      pick alone false z true o ih =
          let y = eqb-true e 0 o in
          let x = piece-end m k l.p l.q t fin n f whole l.last d z y in
          step_follows j m k (Taking n f) i t x.rest (left m k2 (end_of n).0 (end_of n).1 c) (begun alone ∙ with-end m k2 fin n e c z y) x.text
          (end-ends (end_of n).1 (at-end (eqb n 0)) (suc j) m k2 i2 x.rest x.due)
      pick alone false z false o ih =
          let y = eqb-false e 0 o in
          let r = taken m (take e k2) n in
          let x = piece-block m k l.p l.q t fin n f whole l.last d z y in
          step_follows j m k (Taking n f) i t x.rest (with_block k2 c r) (begun alone ∙ with-block m k2 fin n e c z y) x.text
          (after_block r.state (begins-taken m (take e k2) n) r.memory x.rest ih (omega (arith, w, y, left-size, piece-most)) x.due x.size)

      choose : (u : Bool) → eqb blocks 0 ≡ u → Below a (suc j) → Follows lend j m k (Taking n f) i t
      choose true z ih = pick (eqb-true blocks 0 z) (waits e fin) refl (eqb e 0) refl ih
      choose false z ih =
          let y = eqb-false blocks 0 z in
          let s = whole-several l.room (length l.p) n f y in
          let x = piece-several m k l.p l.q t fin n f whole l.last d blocks s in
          let falls : input_left 0 (drop (512 * blocks) l.p ++ l.q) < a
          = let u = length-append (drop (512 * blocks) l.p) l.q in let v = length-drop (512 * blocks) l.p in let r = ap length l.split ∙ length-append l.p l.q in omega (arith, u, v, r, s.within, y, w) in
          step_follows j m k (Taking n f) i t x.rest (take_several m k l.p n blocks) (take-several m k l.p fin l.room n f blocks refl y) x.text
          (ih (admits_all m n (blocks_of (take (512 * blocks) l.p))).0 k (drop (512 * blocks) l.p ++ l.q) x.rest (n + blocks) 0 whole x.due falls)

pub every-run-is-sheet : EveryRunIsSheet
unfolding EveryRunIsSheet sheet
every-run-is-sheet lend m k input h whole w =
    taking-ends lend (suc (2 * length input)) 0 m k input (sheet_of (blocks_of input)) 0 0 whole
    (record { part = omega arith; few = omega (arith, w); after = before-first refl h refl }) (omega arith)

-- ---- at once

-- open is answered as the model answers it
open-answer : (m b : List ℕ) (w : Model) → length m ≡ memory_words → (memory_step m (open_with b)).1 ≡ (model_step w (open_with b)).1
unfolding model_step opening
open-answer m b w h = pick (read_settings b) refl
  where
    pick : (o : Read Settings) → read_settings b ≡ o → (memory_step m (open_with b)).1 ≡ (opening w o).1
    pick (refused f) e = ap (λ (x : List ℕ × Answer). x.1) (open-refused m b h f e)
    pick (accepted s) e = ap (λ (x : List ℕ × Answer). x.1) (open_done m b h s e)

taken-text : (m b : List ℕ) (n : ℕ) → length m ≡ memory_words → (taken m b n).text ≡ refused_by (n + 1) (model_step (model_in m) (call_by n b)).1
unfolding taken block_placed admitting_block model_step
taken-text m b n h = pick (eqb n 0) refl
  where
    pick : (u : Bool) → eqb n 0 ≡ u → (one_of m b n u).text ≡ refused_by (n + 1) (model_step (model_in m) (cond u (open_with b) (change (admit b)))).1
    pick true e =
        ap (refused_by 1) (open-answer m b (model_in m) h)
        ∙ ap (λ (i : ℕ). refused_by (i + 1) (model_step (model_in m) (open_with b)).1) (sym (eqb-true n 0 e))
    pick false e = refl

-- a block after n others is what `lines_by` begins with
one_line : (m b : List ℕ) (n : ℕ) → length m ≡ memory_words → length b ≡ 512 → (taken m b n).text ≡ lines_by (model_in m) n (blocks_of b)
unfolding lines_by
one_line m b n h i =
    let r = refused_by (n + 1) (model_step (model_in m) (call_by n b)).1 in
    let e : blocks_of b ≡ b ∷ [] = ap blocks_of (sym (append-nil b)) ∙ blocks-first b [] i ∙ ap (λ (x : List (List ℕ)). b ∷ x) blocks_end in
    taken-text m b n h ∙ sym (append-nil r) ∙ ap (lines_by (model_in m) n) (sym e)

-- where it is not the first, all are admitted
admitted-lines : (l : List (List ℕ)) (w : Model) (n : ℕ) → (n ≡ 0 → ⊥) → admitted_lines w n l ≡ lines_by w n l
unfolding admitted_lines lines_by model_step
admitted-lines [] w n z = refl
admitted-lines (b ∷ l) w n z =
    let c = change (admit b) in
    let r = model_step w c in
    let e : call_by n b ≡ c = ap (λ (u : Bool). cond u (open_with b) c) (ne_eqb n 0 z) in
    ap (λ (x : List ℕ). refused_by (n + 1) r.1 ++ x) (admitted-lines l r.0 (n + 1) (λ y. omega (arith, y)))
    ∙ ap (λ (x : Call). refused_by (n + 1) (model_step w x).1 ++ lines_by (model_step w x).0 (n + 1) l) (sym e)

module _ (m k p : List ℕ) (ended : Bool) (room n f : ℕ) (words : length m ≡ memory_words) (whole : length k ≡ 512) (h : f < 512) (last : n ≡ 18446744073709551615 → ⊥) (enough : 512 ≤ f + length p) where
  one-at-once : AtOnce m k p n f (take_one m k p ended n f)
  one-at-once =
      let c = share f (length p) in
      let l = paste k f p c in
      let full : f + c ≡ 512 = omega arith in
      let b : take (f + c) l ≡ take f k ++ take c p = take-paste k f p c (omega (arith, whole, h)) (omega arith) in
      let size : length (take f k ++ take c p) ≡ 512 = length_paste_head k f p c (omega (arith, whole, h)) (omega arith) ∙ full in
      let e = take_on m k p ended n f last c refl l refl
      ∙ with-block m l ended n (f + c) c (ap (λ (u : Bool). u && not ended) (le-ltb (f + c) 512 (omega (arith, full)))) (λ z. omega (arith, z, full)) in
      subst (AtOnce m k p n f) (sym e)
      (record {
        rest = omega (arith, full);
        lent = omega arith;
        whole = omega (arith, full);
        text = ap (λ (x : List ℕ). (taken m x n).text) b ∙ one_line m (take f k ++ take c p) n words size;
      })

  several-at-once : (j : ℕ) → (j ≡ 0 → ⊥) → Several (length p) n f j → AtOnce m k p n f (take_several m k p n j)
  unfolding admits_all
  several-at-once j z s = record {
    rest = omega (arith, z);
    lent = s.within;
    whole = omega (arith, s.begins);
    text = admitted-lines (blocks_of (take (512 * j) p)) (model_in m) n s.later ∙ ap (λ (i : ℕ). lines_by (model_in m) n (blocks_of (take i k ++ take (512 * j) p))) (sym s.begins);
  }

pub block-at-once : BlockAtOnce
unfolding BlockAtOnce report_step
block-at-once m k p ended room n f words whole h last enough = pick (eqb j 0) refl
  where
    j : ℕ
    j = whole_blocks room (length p) n f

    pick : (u : Bool) → eqb j 0 ≡ u → AtOnce m k p n f (take_step m k p ended room n f)
    pick true e = subst (AtOnce m k p n f) (sym (take-one m k p ended room n f j refl (eqb-true j 0 e))) (one-at-once m k p ended room n f words whole h last enough)
    pick false e =
        let z = eqb-false j 0 e in
        subst (AtOnce m k p n f) (sym (take-several m k p ended room n f j refl z))
        (several-at-once m k p ended room n f words whole h last enough j z (whole-several room (length p) n f z))
