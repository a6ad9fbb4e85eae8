-- What is still to come of the text: a piece of the input puts the first of it, and the rest is still to come.
use mathlib.Core.Path.{◌≡◌, refl, sym, ap, ◌∙◌, subst}
use mathlib.Core.Bool.{Bool, true, false, false≢true, cond, not, ◌&&◌}
use mathlib.Core.List.{List, [], ◌∷◌, ◌++◌, append_assoc, append-nil}
use Prim.Native.Nat.{ℕ, suc, ◌+◌, ◌*◌, ◌-◌, ◌/◌, ◌≤◌, ◌<◌}
use native.Mathlib.Omega.{arith}
use lib.Dec.{eqb, ltb}
use lib.ListN.{length, take, drop, length-drop, length-append, take-append-drop}
use lib.Seq.{length-take-le, paste, take-paste, length-paste}
use borrow.Author.Tests.{eq-eqb, ne_eqb, ltb-true, ltb-false, eqb-true, eqb-false}
use Rattle.block.specs.Entry.{Settings}
use Rattle.block.specs.Refusal.{Read, refused, accepted, reason_number}
use Rattle.block.specs.Reader.{read_settings}
use Rattle.model.specs.declared.Finding.{Finding}
use Rattle.model.specs.Model.{Model, empty}
use Rattle.model.specs.Calls.{Answer, open_with, change, admit, run}
use Rattle.model.specs.ModelStep.{admitting_block, model_step}
use Rattle.model.proofs.Next.{Leads}
use Rattle.model.proofs.Lists.{both}
use Rattle.store.specs.Layout.{memory_words}
use Rattle.formed.specs.Registry.{well_formed}
use Rattle.steps.specs.MemoryStep.{memory_step}
use Rattle.steps.proofs.Outcomes.{open-refused, open_done}
use Rattle.findings.specs.declared.Cursor.{Cursor}
use Rattle.findings.specs.Steps.{cursor_place}
use Rattle.findings.proofs.NextFinding.{next_in}
use Rattle.sheets.specs.declared.State.{State}
use Rattle.sheets.specs.declared.State.TheVariants.{Taking, Counting, Listing, Finished}
use Rattle.sheets.specs.Left.{Left, left}
use Rattle.batch_blocks.specs.Blocks.{block_placed}
use Rattle.sheets.specs.Blocks.{taken, opens, admits, admitted_lines, admits_all, end_of}
use Rattle.sheets.specs.Pieces.{with_block, share, waits, take_with, take_one, whole_blocks, take_several, take_step}
use Rattle.sheets.proofs.BlockLaws.{one_of}
use Rattle.sheets.proofs.PieceLaws.{take_on, with-more, with-end, with-block, Several, whole-several, take-one, take-several}
use Rattle.text.specs.Lines.{refused_line, refused_by, finding_lines}
use Rattle.block.specs.Cut.{blocks_of}
use Rattle.block.proofs.Cut.{blocks_end, blocks-count}
use Rattle.sheets.specs.Sheet.{closing, lines_from, sheet_from, sheet_of}
use Rattle.sheets.proofs.Blocks.{no_bytes, blocks-several, blocks-whole, blocks-short}
use Rattle.sheets.proofs.Kept.{Holds, holds-open, holds-placed, holds-block, holds-answer}

-- after n blocks, with the bytes l of the next ones
pub data AfterBlocks (n : ℕ) (m l t : List ℕ) : Type 0 where
  before-first : n ≡ 0 → length m ≡ memory_words → t ≡ sheet_of (blocks_of l) → AfterBlocks n m l t
  after-some : (n ≡ 0 → ⊥) → (w : Model) → Holds m w → t ≡ lines_from (n + 1) w (blocks_of l) → AfterBlocks n m l t

pub record DueCounts (m t : List ℕ) : Type 0 where
  pub w : Model
  pub holds : Holds m w
  pub text : t ≡ closing w

pub record DueFindings (m : List ℕ) (c : Cursor) (t : List ℕ) : Type 0 where
  pub formed : well_formed m ≡ true
  pub left : List Finding
  pub leads : Leads (next_in m) (cursor_place c) left
  pub text : t ≡ finding_lines left

-- the blocks have numbers
abbrev Few : ℕ → ℕ → List ℕ → Type 0
Few n f i = n + (f + length i + 511) / 512 ≤ 36028797018963968

pub record DueBlocks (n f : ℕ) (m k i t : List ℕ) : Type 0 where
  pub part : f < 512
  pub few : Few n f i
  pub after : AfterBlocks n m (take f k ++ i) t

abbrev pub Due : State → (m k i t : List ℕ) → Type 0
Due (Taking n f) m k i t = DueBlocks n f m k i t
Due Counting m k i t = DueCounts m t
Due (Listing c) m k i t = DueFindings m c t
Due Finished m k i t = t ≡ []

-- The text t is what x put and then what is due.
pub record Onward (t : List ℕ) (x : Left) (i : List ℕ) : Type 0 where
  pub rest : List ℕ
  pub text : t ≡ x.text ++ rest
  pub size : length x.block ≡ 512
  pub due : Due x.state x.memory x.block i rest

-- ---- a block

module _ (k b i : List ℕ) (whole : length k ≡ 512) where
  block-open : (m t : List ℕ) (c : ℕ) → length m ≡ memory_words → Few 1 0 i → (o : Read Settings) → read_settings b ≡ o → t ≡ sheet_from o (blocks_of i)
      → Onward t (with_block k c (opens (memory_step m (open_with b)))) i
  unfolding sheet_from
  block-open m t c h w (refused r) e q =
      subst (λ (x : List ℕ × Answer). Onward t (with_block k c (opens x)) i) (sym (open-refused m b h r e)) (record {
        rest = [];
        text = q ∙ sym (append-nil (refused_line 1 (reason_number r.reason, r.position)));
        size = whole;
        due = refl;
      })
  block-open m t c h w (accepted s) e q =
      let y = subst (λ (x : List ℕ). Holds x (empty s)) (ap (λ (x : List ℕ × Answer). x.0) (open_done m b h s e)) (holds-open m b h s e) in
      subst (λ (x : List ℕ × Answer). Onward t (with_block k c (opens x)) i) (sym (open_done m b h s e)) (record {
        rest = t;
        text = refl;
        size = whole;
        due = record { part = omega arith; few = w; after = after-some (λ z. absurd (omega arith)) (empty s) y q };
      })

  block-admit : (m t : List ℕ) (n c : ℕ) (w : Model) → Holds m w → Few (n + 1) 0 i → t ≡ lines_from (n + 1) w (b ∷ blocks_of i)
      → Onward t (with_block k c (admits n (block_placed m b))) i
  unfolding lines_from
  block-admit m t n c w g h q = record {
    rest = lines_from (n + 1 + 1) (model_step w (change (admit b))).0 (blocks_of i);
    text = q ∙ ap (λ (a : Answer). refused_by (n + 1) a ++ lines_from (n + 1 + 1) (model_step w (change (admit b))).0 (blocks_of i)) (sym (holds-answer m w g b));
    size = whole;
    due = record { part = omega arith; few = h; after = after-some (λ z. absurd (omega arith)) (model_step w (change (admit b))).0 (holds-block m w g b) refl };
  }

  block-taken : (m t : List ℕ) (n c : ℕ) (l : List ℕ) → AfterBlocks n m l t → Few (n + 1) 0 i → blocks_of l ≡ b ∷ blocks_of i → Onward t (with_block k c (taken m b n)) i
  unfolding taken sheet_of
  block-taken m t n c l (before-first z h q) w e =
      subst (λ (u : Bool). Onward t (with_block k c (one_of m b n u)) i) (sym (eq-eqb n 0 z))
      (block-open m t c h (subst (λ j. Few (j + 1) 0 i) z w) (read_settings b) refl (q ∙ ap sheet_of e))
  block-taken m t n c l (after-some z v g q) w e =
      subst (λ (u : Bool). Onward t (with_block k c (one_of m b n u)) i) (sym (ne_eqb n 0 z))
      (block-admit m t n c v g w (q ∙ ap (lines_from (n + 1) v) e))

-- ---- several blocks

-- the lines of the blocks l, where others come after them
admitted-first : (l others : List (List ℕ)) (n : ℕ) (w : Model)
    → lines_from (n + 1) w (l ++ others) ≡ admitted_lines w n l ++ lines_from (n + length l + 1) (run admitting_block w l).0 others
unfolding admitted_lines lines_from model_step
admitted-first [] others n w = let i : n + 1 ≡ n + 0 + 1 = omega arith in ap (λ (x : ℕ). lines_from x w others) i
admitted-first (b ∷ l) others n w =
    let r = admitting_block w b in
    let t = admitted_lines r.0 (n + 1) l in
    let after = (run admitting_block r.0 l).0 in
    let i : n + 1 + length l + 1 ≡ n + suc (length l) + 1 = omega arith in
    ap (λ (u : List ℕ). refused_by (n + 1) r.1 ++ u) (admitted-first l others (n + 1) r.0)
    ∙ sym (append_assoc (refused_by (n + 1) r.1) t (lines_from (n + 1 + length l + 1) after others))
    ∙ ap (λ (y : ℕ). (refused_by (n + 1) r.1 ++ t) ++ lines_from y after others) i

-- ---- a piece

abbrev pub at_end : Bool → List ℕ × State
at_end u = cond u (refused_line 1 (3, 0), Finished) ([], Counting)

module _ (m k p q t : List ℕ) (ended : Bool) (n f : ℕ) (whole : length k ≡ 512) (fin : ended ≡ true → q ≡ []) (g : DueBlocks n f m k (p ++ q) t) where
  abbrev c : ℕ
  c = share f (length p)

  abbrev filled_block : List ℕ
  filled_block = paste k f p c

  piece-size : length filled_block ≡ 512
  piece-size = length-paste k f p c (omega (arith, whole, g.part)) (omega arith) ∙ whole

  piece-taken : take (f + c) filled_block ≡ take f k ++ take c p
  piece-taken = take-paste k f p c (omega (arith, whole, g.part)) (omega arith)

  start-size : length (take f k) ≡ f
  start-size = length-take-le f k (omega (arith, whole, g.part))

  -- the bytes that are still to come as blocks
  piece-same : take f k ++ (p ++ q) ≡ take (f + c) filled_block ++ (drop c p ++ q)
  piece-same =
      ap (λ (x : List ℕ). take f k ++ (x ++ q)) (sym (take-append-drop c p)) ∙ ap (λ (x : List ℕ). take f k ++ x) (append_assoc (take c p) (drop c p) q)
      ∙ sym (append_assoc (take f k) (take c p) (drop c p ++ q)) ∙ ap (λ (x : List ℕ). x ++ (drop c p ++ q)) (sym piece-taken)

  pub piece-left : length (drop c p ++ q) ≡ length (p ++ q) - c
  piece-left = let i = length-append (drop c p) q in let j = length-append p q in let l = length-drop c p in omega (arith, i, j, l)

  piece-all : length (p ++ q) ≡ length p + length q
  piece-all = length-append p q

  after-as : {l : List ℕ} → take f k ++ (p ++ q) ≡ l → AfterBlocks n m l t
  after-as {l} e = subst (λ (x : List ℕ). AfterBlocks n m x t) e g.after

  pub piece-waits : waits (f + c) ended ≡ true → Onward t (left m filled_block [] (Taking n (f + c)) c) (drop c p ++ q)
  piece-waits w =
      let h = ltb-true (f + c) 512 (both (ltb (f + c) 512) (not ended) w).0 in
      record {
        rest = t;
        text = refl;
        size = piece-size;
        due = record { part = h; few = omega (arith, g.few, piece-left, piece-all); after = after-as piece-same };
      }

  -- where no more is waited for, the block is whole or the input has ended
  no-wait : {P : Type 0} → waits (f + c) ended ≡ false → (512 ≤ f + c → P) → (f + c < 512 → q ≡ [] → P) → P
  no-wait {P} w yes-whole yes-short = pick (ltb (f + c) 512) refl ended refl w
    where
      pick : (u : Bool) → ltb (f + c) 512 ≡ u → (v : Bool) → ended ≡ v → (u && not v) ≡ false → P
      pick false e v d x = yes-whole (ltb-false (f + c) 512 e)
      pick true e true d x = yes-short (ltb-true (f + c) 512 e) (fin d)
      pick true e false d x = absurd (false≢true (sym x))

  pub piece-end : waits (f + c) ended ≡ false → f + c ≡ 0 → Onward t (left m filled_block (end_of n).0 (end_of n).1 c) (drop c p ++ q)
  unfolding sheet_of lines_from
  piece-end w z = finish g.after
    where
      none_left : blocks_of (take f k ++ (p ++ q)) ≡ []
      none_left =
          no-wait w (λ h. absurd (omega (arith, h, z))) (λ h e.
          ap blocks_of (no_bytes (take f k ++ (p ++ q)) (let i = length-append (take f k) (p ++ q) in let j = ap length e in omega (arith, i, j, start-size, piece-all, z, h, g.part))) ∙ blocks_end)

      finish : AfterBlocks n m (take f k ++ (p ++ q)) t → Onward t (left m filled_block (end_of n).0 (end_of n).1 c) (drop c p ++ q)
      finish (before-first y h e) =
          subst (λ (u : Bool). Onward t (left m filled_block (at_end u).0 (at_end u).1 c) (drop c p ++ q)) (sym (eq-eqb n 0 y))
          (record { rest = []; text = e ∙ ap sheet_of none_left ∙ sym (append-nil (refused_line 1 (3, 0))); size = piece-size; due = refl })
      finish (after-some y v h e) =
          subst (λ (u : Bool). Onward t (left m filled_block (at_end u).0 (at_end u).1 c) (drop c p ++ q)) (sym (ne_eqb n 0 y))
          (record { rest = t; text = refl; size = piece-size; due = record { w = v; holds = h; text = e ∙ ap (lines_from (n + 1) v) none_left } })

  pub piece-block : waits (f + c) ended ≡ false → (f + c ≡ 0 → ⊥) → Onward t (with_block filled_block c (taken m (take (f + c) filled_block) n)) (drop c p ++ q)
  piece-block w z =
      block-taken filled_block (take (f + c) filled_block) (drop c p ++ q) piece-size m t n c (take f k ++ (p ++ q)) g.after
      (no-wait w (λ h. omega (arith, h, g.few, g.part, piece-left, piece-all)) (λ h e. let j = ap length e in omega (arith, h, z, j, g.few, g.part, piece-left, piece-all)))
      (no-wait w
      (λ h. blocks-whole (take f k) p q c (omega arith) (omega (arith, h, g.part, start-size)) ∙ ap (λ (x : List ℕ). x ∷ blocks_of (drop c p ++ q)) (sym piece-taken))
      (λ h e. blocks-short (take f k) p q c (omega arith) e (omega (arith, h)) (omega (arith, h, start-size)) (omega (arith, z, start-size)) ∙ ap (λ (x : List ℕ). x ∷ blocks_of (drop c p ++ q)) (sym piece-taken)))

  pub not_last : n ≡ 18446744073709551615 → ⊥
  not_last e = omega (arith, e, g.few)

  one-onward : let x = take_one m k p ended n f in Onward t x (drop x.used p ++ q)
  one-onward =
      subst (λ (x : Left). Onward t x (drop x.used p ++ q)) (sym (take_on m k p ended n f not_last c refl filled_block refl))
      (pick (waits (f + c) ended) refl (eqb (f + c) 0) refl)
    where
      pick : (u : Bool) → waits (f + c) ended ≡ u → (v : Bool) → eqb (f + c) 0 ≡ v → let x = take_with m filled_block ended n (f + c) c in Onward t x (drop x.used p ++ q)
      pick true e v d = subst (λ (x : Left). Onward t x (drop x.used p ++ q)) (sym (with-more m filled_block ended n (f + c) c e)) (piece-waits e)
      pick false e true d = subst (λ (x : Left). Onward t x (drop x.used p ++ q)) (sym (with-end m filled_block ended n (f + c) c e (eqb-true (f + c) 0 d))) (piece-end e (eqb-true (f + c) 0 d))
      pick false e false d = subst (λ (x : Left). Onward t x (drop x.used p ++ q)) (sym (with-block m filled_block ended n (f + c) c e (eqb-false (f + c) 0 d))) (piece-block e (eqb-false (f + c) 0 d))

  pub piece-several : (j : ℕ) → Several (length p) n f j → Onward t (take_several m k p n j) (drop (512 * j) p ++ q)
  unfolding admits_all
  piece-several j s = finish g.after
    where
      bytes : List ℕ
      bytes = take (512 * j) p

      others : List ℕ
      others = drop (512 * j) p ++ q

      bytes-size : length bytes ≡ 512 * j
      bytes-size = length-take-le (512 * j) p s.within

      same : take f k ++ (p ++ q) ≡ bytes ++ others
      same =
          ap (λ (i : ℕ). take i k ++ (p ++ q)) s.begins ∙ ap (λ (x : List ℕ). x ++ q) (sym (take-append-drop (512 * j) p))
          ∙ append_assoc bytes (drop (512 * j) p) q

      few : Few (n + j) 0 others
      few =
          let a = length-append (drop (512 * j) p) q in
          let d = length-drop (512 * j) p in
          omega (arith, a, d, g.few, s.begins, s.within, piece-all)

      finish : AfterBlocks n m (take f k ++ (p ++ q)) t → Onward t (take_several m k p n j) others
      finish (before-first y h e) = absurd (s.later y)
      finish (after-some y v h e) =
          let bs = blocks_of bytes in
          let after = (run admitting_block v bs).0 in
          let rest = lines_from (n + j + 1) after (blocks_of others) in
          record {
            rest = rest;
            text =
                e ∙ ap (λ (l : List ℕ). lines_from (n + 1) v (blocks_of l)) same ∙ ap (lines_from (n + 1) v) (blocks-several j bytes others bytes-size)
                ∙ admitted-first bs (blocks_of others) n v
                ∙ ap (λ (i : ℕ). admitted_lines v n bs ++ lines_from (n + i + 1) after (blocks_of others)) (blocks-count j bytes bytes-size)
                ∙ ap (λ (w : Model). admitted_lines w n bs ++ rest) (sym h.entries);
            size = whole;
            due = record { part = omega arith; few = few; after = after-some (λ z. y (omega (arith, z))) after (holds-placed m v h bs) refl };
          }

  pub piece-onward : (room : ℕ) → let x = take_step m k p ended room n f in Onward t x (drop x.used p ++ q)
  piece-onward room = pick (eqb j 0) refl
    where
      j : ℕ
      j = whole_blocks room (length p) n f

      pick : (u : Bool) → eqb j 0 ≡ u → let x = take_step m k p ended room n f in Onward t x (drop x.used p ++ q)
      pick true e = subst (λ (x : Left). Onward t x (drop x.used p ++ q)) (sym (take-one m k p ended room n f j refl (eqb-true j 0 e))) one-onward
      pick false e =
          let z = eqb-false j 0 e in
          subst (λ (x : Left). Onward t x (drop x.used p ++ q)) (sym (take-several m k p ended room n f j refl z)) (piece-several j (whole-several room (length p) n f z))
