-- A step does what is said of its parts, and leaves less ahead.
use mathlib.Core.Path.{◌≡◌, refl, sym, ap, ◌∙◌, subst}
use mathlib.Core.Bool.{Bool, true, false, true≢false, cond, not}
use mathlib.Core.List.{List, [], map}
use mathlib.Core.Option.{Option, none, some}
use Prim.Native.Nat.{ℕ, ◌+◌, ◌≤◌, ◌<◌}
use native.Mathlib.Decide.{ℕ_discrete}
use native.Mathlib.Omega.{arith}
use lib.Dec.{eqb, ltb}
use lib.ListN.{length, take, length-map}
use lib.Seq.{paste}
use borrow.Author.Tests.{ltb-true, ltb-false, eqb-true, eqb-false, not-true}
use Rattle.buffer.specs.Buffer.{Puts}
use Rattle.buffer.proofs.BufferLaws.{puts_none, puts-size}
use Rattle.model.specs.declared.Finding.{Finding}
use Rattle.model.specs.Findings.{Place, walk, moved, finding_code}
use Rattle.model.specs.Calls.{Answer, refusal, open_with, ask, counts, list_findings, findings_answer, said}
use Rattle.model.specs.Registry.{rebuilt}
use Rattle.model.proofs.Lists.{both}
use Rattle.store.specs.Layout.{memory_words}
use Rattle.formed.specs.Registry.{registry_in, image, well_formed}
use Rattle.steps.specs.MemoryStep.{memory_step}
use Rattle.steps.proofs.Outcomes.{step-size, step-formed, findings-answers}
use Rattle.findings.specs.declared.Cursor.{Cursor}
use Rattle.findings.specs.Steps.{cursor_place}
use Rattle.findings.proofs.NextFinding.{next_in}
use Rattle.sheets.specs.declared.State.{State}
use Rattle.sheets.specs.declared.State.TheVariants.{Taking, Counting, Listing, Finished}
use Rattle.sheets.specs.declared.Told.{Told}
use Rattle.sheets.specs.declared.Stepped.{Stepped}
use Rattle.sheets.specs.Told.{Tells}
use Rattle.sheets.specs.Left.{Left, Does}
use Rattle.sheets.specs.Blocks.{taken, end_of}
use Rattle.sheets.specs.Pieces.{share, waits, take_with, take_one, whole_blocks, take_step}
use Rattle.sheets.proofs.BlockLaws.{one_of}
use Rattle.sheets.proofs.PieceLaws.{does-as, take_last, take_on, with-more, with-end, with-block, Several, whole-several, take-one, take-several}
use Rattle.sheets.specs.Closing.{after_counts, count_step, cursor_to, lines_in, listing, list_step}
use Rattle.sheets.specs.Step.{told, report_step, started_in, finished_in, places_from, ahead, Fed}
use Rattle.sheets.proofs.Leads.{walk-rises}

-- ---- the findings

module _ (m : List ℕ) (p : Place) (n : ℕ) where
  -- the answer is a refusal, or the findings of a well-formed memory
  findings-or : (P : Answer → Type 0) → ((r : ℕ) → P (refusal r 0)) → (well_formed m ≡ true → P (findings_answer p (walk (next_in m) n p))) → P (memory_step m (ask (list_findings p n))).1
  findings-or P declined formed = pick (ℕ_discrete (length m) memory_words) (well_formed m) refl
    where
      by : (x : List ℕ × Answer) → memory_step m (ask (list_findings p n)) ≡ x → P x.1 → P (memory_step m (ask (list_findings p n))).1
      by x e q = subst (λ (y : List ℕ × Answer). P y.1) (sym e) q

      pick : Dec (length m ≡ memory_words) → (t : Bool) → well_formed m ≡ t → P (memory_step m (ask (list_findings p n))).1
      pick d true e = by (m, findings_answer p (walk (next_in m) n p)) (findings-answers m e p n) (formed e)
      pick (yes h) false e = by (m, refusal 2 0) (step-formed m (ask (list_findings p n)) h e refl) (declined 2)
      pick (no h) false e = by (m, refusal 1 0) (step-size m (ask (list_findings p n)) h) (declined 1)

-- a buffer that a line of refusal fits in has room for some findings
pub lines-some : (room : ℕ) → 128 ≤ room → 0 < lines_in room
unfolding lines_in
lines-some room h = omega (arith, h)

-- the lines put have moved the cursor on
list-near : (m : List ℕ) (room : ℕ) (c : Cursor) → 128 ≤ room → c.kind < 65536 → c.a < 65536 → c.b < 65536
    → (started_in (list_step m room c).1 ≡ 0) × (ahead (list_step m room c).1 < places_from c)
unfolding list_step finding_code
list-near m room c h i j k =
    findings-or m (cursor_place c) (lines_in room) (λ (a : Answer). Closer (listing (lines_in room) a).1) (λ r. (refl, omega (arith, i, j, k)))
    (λ _. pick (ltb (length (map finding_code l)) (lines_in room)) refl)
  where
    l : List Finding
    l = walk (next_in m) (lines_in room) (cursor_place c)

    Closer : State → Type 0
    Closer s = (started_in s ≡ 0) × (ahead s < places_from c)

    pick : (t : Bool) → ltb (length (map finding_code l)) (lines_in room) ≡ t → Closer (cond t Finished (Listing (cursor_to (moved (cursor_place c) l))))
    pick true e = (refl, omega (arith, i, j, k))
    pick false e =
        let some : 0 < lines_in room = lines-some room h in
        let many = ltb-false (length (map finding_code l)) (lines_in room) e in
        let size = length-map l finding_code in
        let r = (walk-rises m (lines_in room) (cursor_place c) (record { small_kind = i; small_a = j; small_b = k })).1 (omega (arith, some, many, size)) in
        (refl, omega (arith, r, i, j, k))

-- ---- a step

module _ (p : List ℕ) (ended : Bool) (n f : ℕ) (h : f < 512) (w : n ≤ 18446744073709551615) where
  -- s has less ahead than the state of n blocks and f bytes
  abbrev Near : State → Type 0
  Near s = (started_in s < 512) × (Fed p ended → ahead s < ahead (Taking n f))

  near-counting : Near Counting
  near-counting = (omega arith, λ _. omega arith)

  near-finished : Near Finished
  near-finished = (omega arith, λ _. omega arith)

  near-opened : n ≡ 0 → (o : Option (ℕ × ℕ)) → Near (elim o [ none ↦ Taking 1 0 | some r ↦ Finished ])
  near-opened z none = (omega arith, λ _. omega (arith, z, h))
  near-opened z (some r) = near-finished

  near-admitted : (n ≡ 18446744073709551615 → ⊥) → Near (Taking (n + 1) 0)
  near-admitted z = let l : n < 18446744073709551615 = omega (arith, z, w) in (omega arith, λ _. omega (arith, h, l))

  near-end : (t : Bool) → Near (cond t (end_of 0) ([], Counting)).1
  near-end true = near-finished
  near-end false = near-counting

  near-taken : (n ≡ 18446744073709551615 → ⊥) → (m b : List ℕ) → Near (taken m b n).state
  unfolding taken
  near-taken z m b = pick (eqb n 0) refl
    where
      pick : (t : Bool) → eqb n 0 ≡ t → Near (one_of m b n t).state
      pick true e = near-opened (eqb-true n 0 e) (said (memory_step m (open_with b)).1).refused
      pick false e = near-admitted z

  near-more : (c : ℕ) → c ≡ share f (length p) → waits (f + c) ended ≡ true → Near (Taking n (f + c))
  near-more c q v =
      let b = both (ltb (f + c) 512) (not ended) v in
      let j = ltb-true (f + c) 512 b.0 in
      (j, λ g. let i = g (not-true ended b.1) in omega (arith, i, j, q, h))

  near-with : (n ≡ 18446744073709551615 → ⊥) → (m k : List ℕ) (c : ℕ) → c ≡ share f (length p) → Near (take_with m k ended n (f + c) c).state
  near-with z m k c q = pick (waits (f + c) ended) refl (eqb (f + c) 0) refl
    where
      pick : (t : Bool) → waits (f + c) ended ≡ t → (u : Bool) → eqb (f + c) 0 ≡ u → Near (take_with m k ended n (f + c) c).state
      pick true e u i = subst (λ (x : Left). Near x.state) (sym (with-more m k ended n (f + c) c e)) (near-more c q e)
      pick false e true i = subst (λ (x : Left). Near x.state) (sym (with-end m k ended n (f + c) c e (eqb-true (f + c) 0 i))) (near-end (eqb n 0))
      pick false e false i = subst (λ (x : Left). Near x.state) (sym (with-block m k ended n (f + c) c e (eqb-false (f + c) 0 i))) (near-taken z m (take (f + c) k))

  one-near : (m k : List ℕ) → Near (take_one m k p ended n f).state
  one-near m k = pick (eqb n 18446744073709551615) refl
    where
      pick : (t : Bool) → eqb n 18446744073709551615 ≡ t → Near (take_one m k p ended n f).state
      pick true e = subst (λ (x : Left). Near x.state) (sym (take_last m k p ended n f (eqb-true n 18446744073709551615 e))) near-counting
      pick false e =
          let z = eqb-false n 18446744073709551615 e in
          let c = share f (length p) in
          subst (λ (x : Left). Near x.state) (sym (take_on m k p ended n f z c refl (paste k f p c) refl)) (near-with z m (paste k f p c) c refl)

  near-several : (j : ℕ) → (j ≡ 0 → ⊥) → Several (length p) n f j → Near (Taking (n + j) 0)
  near-several j z s = let l = s.numbered in let b = s.begins in (omega arith, λ _. omega (arith, z, l, b))

  take-near : (m k : List ℕ) (room : ℕ) → Near (take_step m k p ended room n f).state
  take-near m k room = pick (eqb j 0) refl
    where
      j : ℕ
      j = whole_blocks room (length p) n f

      pick : (t : Bool) → eqb j 0 ≡ t → Near (take_step m k p ended room n f).state
      pick true e = subst (λ (x : Left). Near x.state) (sym (take-one m k p ended room n f j refl (eqb-true j 0 e))) (one-near m k)
      pick false e =
          let z = eqb-false j 0 e in
          subst (λ (x : Left). Near x.state) (sym (take-several m k p ended room n f j refl z)) (near-several j z (whole-several room (length p) n f z))

near-counted : (o : Option (ℕ × ℕ × ℕ)) → (started_in (after_counts o).1 < 512) × (ahead (after_counts o).1 < ahead Counting)
near-counted none = (omega arith, omega arith)
near-counted (some n) = (omega arith, omega arith)

put-most : {o t e : List ℕ} {put : ℕ} → Puts o 0 t e put → put ≤ length e
put-most g = omega (arith, g.room, puts-size g)

-- what is promised of a step
abbrev Steps : (m k p : List ℕ) → Bool → ℕ → State → (m' k' o e : List ℕ) → Stepped → Type 0
Steps m k p ended room s m' k' o e r =
    Does (report_step m k p ended room s) m' k' o e r × (((r.used ≤ length p) × (r.put ≤ length e) × (started_in r.state < 512)) × (finished_in s ≡ false → Fed p ended → ahead r.state < ahead s))

abbrev as_told : Told → Stepped
as_told t = record { state = t.state; used = 0; put = t.put }

does-told : (m k : List ℕ) {o e : List ℕ} {t : Told} {x : List ℕ × State} → Tells x o e t → Does (told m k x) m k o e (as_told t)
does-told m k g = record { memory = refl; block = refl; text = g.text; state = g.state; used = refl }

module _ (m k p : List ℕ) (ended : Bool) (room : ℕ) (s : State) where
  pub step-take : {o e m' k' : List ℕ} {r : Stepped} {n f : ℕ} → s ≡ Taking n f → f < 512 → n ≤ 18446744073709551615 → Does (take_step m k p ended room n f) m' k' o e r → r.used ≤ length p → Steps m k p ended room s m' k' o e r
  unfolding report_step
  step-take {r = r} {n = n} {f = f} q h w d u =
      let x = take-near p ended n f h w m k room in
      let y : r.state ≡ (take_step m k p ended room n f).state = d.state in (
        does-as (ap (report_step m k p ended room) q) d,
        (
          (u, put-most d.text, subst (λ t. started_in t < 512) (sym y) x.0),
          λ _ g. subst (λ t. ahead r.state < ahead t) (sym q) (subst (λ t. ahead t < ahead (Taking n f)) (sym y) (x.1 g)),
        ),
      )

  module _ {o e : List ℕ} {t : Told} where
    pub step_count : s ≡ Counting → {m' : List ℕ} → m' ≡ image (rebuilt (registry_in m)) → Tells (count_step m') o e t → Steps m k p ended room s m' k o e (as_told t)
    unfolding report_step count_step
    step_count q {m'} i g =
        let x = near-counted (said (memory_step m' (ask counts)).1).counts in
        let y = g.state in (
          does-as (ap (report_step m k p ended room) q ∙ ap (λ (r : List ℕ). told r k (count_step r)) (sym i)) (does-told m' k g),
          (
            (omega arith, put-most g.text, subst (λ z. started_in z < 512) (sym y) x.0),
            λ _ _. subst (λ z. ahead t.state < ahead z) (sym q) (subst (λ z. ahead z < ahead Counting) (sym y) x.1),
          ),
        )

    pub step-list : {c : Cursor} → s ≡ Listing c → 128 ≤ room → c.kind < 65536 → c.a < 65536 → c.b < 65536 → Tells (list_step m room c) o e t → Steps m k p ended room s m k o e (as_told t)
    unfolding report_step
    step-list {c = c} q w i j l g =
        let x = list-near m room c w i j l in
        let y = g.state in (
          does-as (ap (report_step m k p ended room) q) (does-told m k g),
          (
            (omega arith, put-most g.text, subst (λ z. started_in z < 512) (sym y) (omega (arith, x.0))),
            λ _ _. subst (λ z. ahead t.state < ahead z) (sym q) (subst (λ z. ahead z < places_from c) (sym y) x.1),
          ),
        )

  pub step-none : {o : List ℕ} → s ≡ Finished → Steps m k p ended room s m k o o (record { state = Finished; used = 0; put = 0 })
  unfolding report_step
  step-none q = (
    does-as (ap (report_step m k p ended room) q) (record { memory = refl; block = refl; text = puts_none (omega arith); state = refl; used = refl }),
    ((omega arith, omega arith, omega arith), λ u. absurd (true≢false (sym (ap finished_in q) ∙ u))),
  )
