-- Every step leaves what the next one asks of the memory.
use mathlib.Core.Path.{◌≡◌, refl, sym, ap, subst}
use mathlib.Core.Bool.{Bool, true, false, cond}
use mathlib.Core.List.{List, []}
use mathlib.Core.Option.{Option, none, some}
use Prim.Native.Nat.{ℕ, ◌+◌}
use native.Mathlib.Omega.{arith}
use lib.Dec.{eqb, ltb}
use lib.ListN.{length}
use lib.Seq.{paste}
use borrow.Author.Tests.{eqb-true, eqb-false}
use Rattle.block.specs.Entry.{Settings}
use Rattle.block.specs.Refusal.{Read, refused, accepted}
use Rattle.block.specs.Reader.{read_settings}
use Rattle.model.specs.Calls.{Answer, open_with, ask, counts, list_findings, said}
use Rattle.model.specs.Findings.{Place}
use Rattle.model.specs.Registry.{rebuilt}
use Rattle.store.specs.Layout.{memory_words}
use Rattle.formed.specs.Registry.{model_in, registry_in, image, well_formed}
use Rattle.steps.specs.MemoryStep.{memory_step}
use Rattle.steps.proofs.Outcomes.{open-refused, open_done}
use Rattle.findings.specs.Steps.{cursor_place}
use Rattle.text.specs.Lines.{code_lines}
use Rattle.sheets.specs.declared.State.{State}
use Rattle.sheets.specs.declared.State.TheVariants.{Taking, Counting, Listing, Finished}
use Rattle.sheets.specs.declared.Stepped.{Stepped}
use Rattle.sheets.specs.Left.{Left, Does}
use Rattle.sheets.specs.Blocks.{state_after_open, taken, admits_all}
use Rattle.sheets.specs.Pieces.{share, waits, take_with, take_one, whole_blocks, take_step}
use Rattle.sheets.specs.Closing.{after_counts, count_step, cursor_to, lines_in, listing, list_step}
use Rattle.sheets.specs.Step.{report_step, Ready}
use Rattle.sheets.proofs.BlockLaws.{one_of}
use Rattle.sheets.proofs.PieceLaws.{take_last, take_on, with-more, with-end, with-block, whole-several, take-one, take-several}
use Rattle.sheets.proofs.Kept.{holds-open, holds-placed, holds-block, holds-itself, rebuilt-formed}
use Rattle.sheets.proofs.Due.{at_end}

abbrev ReadyAfter : Left → Type 0
ReadyAfter x = Ready x.state x.memory

-- ---- a block

module _ (m b : List ℕ) (n : ℕ) (words : length m ≡ memory_words) where
  ready-opened : Ready (state_after_open (memory_step m (open_with b)).1) (memory_step m (open_with b)).0
  ready-opened = pick (read_settings b) refl
    where
      by : {a : Answer} → (memory_step m (open_with b)).1 ≡ a → Ready (state_after_open a) (memory_step m (open_with b)).0 → Ready (state_after_open (memory_step m (open_with b)).1) (memory_step m (open_with b)).0
      by e = subst (λ (x : Answer). Ready (state_after_open x) (memory_step m (open_with b)).0) (sym e)

      pick : (o : Read Settings) → read_settings b ≡ o → Ready (state_after_open (memory_step m (open_with b)).1) (memory_step m (open_with b)).0
      pick (refused f) e = by (ap (λ (x : List ℕ × Answer). x.1) (open-refused m b words f e)) tt
      pick (accepted s) e = by (ap (λ (x : List ℕ × Answer). x.1) (open_done m b words s e)) (λ _. (holds-open m b words s e).formed)

  ready-taken : ((n ≡ 0 → ⊥) → well_formed m ≡ true) → Ready (taken m b n).state (taken m b n).memory
  unfolding taken
  ready-taken g = pick (eqb n 0) refl
    where
      pick : (u : Bool) → eqb n 0 ≡ u → Ready (one_of m b n u).state (one_of m b n u).memory
      pick true e = ready-opened
      pick false e = λ _. (holds-block m (model_in m) (holds-itself m (g (eqb-false n 0 e))) b).formed

-- ---- a piece

module _ (m k p : List ℕ) (ended : Bool) (room n f : ℕ) (words : length m ≡ memory_words) (g : Ready (Taking n f) m) where
  ready-end : (u : Bool) → eqb n 0 ≡ u → Ready (at_end u).1 m
  ready-end true e = tt
  ready-end false e = g (eqb-false n 0 e)

  ready-with : (l : List ℕ) (c : ℕ) → ReadyAfter (take_with m l ended n (f + c) c)
  ready-with l c = pick (waits (f + c) ended) refl (eqb (f + c) 0) refl
    where
      pick : (u : Bool) → waits (f + c) ended ≡ u → (v : Bool) → eqb (f + c) 0 ≡ v → ReadyAfter (take_with m l ended n (f + c) c)
      pick true e v d = subst ReadyAfter (sym (with-more m l ended n (f + c) c e)) g
      pick false e true d = subst ReadyAfter (sym (with-end m l ended n (f + c) c e (eqb-true (f + c) 0 d))) (ready-end (eqb n 0) refl)
      pick false e false d = subst ReadyAfter (sym (with-block m l ended n (f + c) c e (eqb-false (f + c) 0 d))) (ready-taken m _ n words g)

  ready-one : ReadyAfter (take_one m k p ended n f)
  ready-one = pick (eqb n 18446744073709551615) refl
    where
      pick : (u : Bool) → eqb n 18446744073709551615 ≡ u → ReadyAfter (take_one m k p ended n f)
      pick true e =
          let i = eqb-true n 18446744073709551615 e in
          subst ReadyAfter (sym (take_last m k p ended n f i)) (g (λ z. omega (arith, i, z)))
      pick false e =
          let c = share f (length p) in
          subst ReadyAfter (sym (take_on m k p ended n f (eqb-false n 18446744073709551615 e) c refl (paste k f p c) refl)) (ready-with (paste k f p c) c)

  ready-take : ReadyAfter (take_step m k p ended room n f)
  unfolding admits_all
  ready-take = pick (eqb j 0) refl
    where
      j : ℕ
      j = whole_blocks room (length p) n f

      pick : (u : Bool) → eqb j 0 ≡ u → ReadyAfter (take_step m k p ended room n f)
      pick true e = subst ReadyAfter (sym (take-one m k p ended room n f j refl (eqb-true j 0 e))) ready-one
      pick false e =
          let z = eqb-false j 0 e in
          let later = (whole-several room (length p) n f z).later in
          subst ReadyAfter (sym (take-several m k p ended room n f j refl z)) (λ _. (holds-placed m (model_in m) (holds-itself m (g later)) _).formed)

-- ---- the counts and the findings

ready-counted : (m : List ℕ) → well_formed m ≡ true → (o : Option (ℕ × ℕ × ℕ)) → Ready (after_counts o).1 m
ready-counted m h none = tt
ready-counted m h (some x) = h

abbrev listed : ℕ → Option (List ℕ × Place) → List ℕ × State
listed n o = elim o [ none ↦ ([], Finished) | some x ↦ (code_lines x.0, cond (ltb (length x.0) n) Finished (Listing (cursor_to x.1))) ]

ready-listed : (m : List ℕ) → well_formed m ≡ true → (n : ℕ) (a : Answer) → Ready (listing n a).1 m
ready-listed m h n a = put (said a).put
  where
    more : (u : Bool) (p : Place) → Ready (cond u Finished (Listing (cursor_to p))) m
    more true p = tt
    more false p = h

    put : (o : Option (List ℕ × Place)) → Ready (listed n o).1 m
    put none = tt
    put (some x) = more (ltb (length x.0) n) x.1

-- ---- a step

module _ (m k p : List ℕ) (ended : Bool) (room : ℕ) (words : length m ≡ memory_words) where
  step-ready : (s : State) → Ready s m → ReadyAfter (report_step m k p ended room s)
  unfolding report_step count_step list_step
  step-ready (Taking n f) g = ready-take m k p ended room n f words g
  step-ready Counting g =
      let r = image (rebuilt (registry_in m)) in
      ready-counted r (rebuilt-formed m g) (said (memory_step r (ask counts)).1).counts
  step-ready (Listing c) g = ready-listed m g (lines_in room) (memory_step m (ask (list_findings (cursor_place c) (lines_in room)))).1
  step-ready Finished g = tt

  pub does-ready : (s : State) → Ready s m → {m' k' o e : List ℕ} {r : Stepped} → Does (report_step m k p ended room s) m' k' o e r → Ready r.state m'
  does-ready s g d = rw (d.state, d.memory) (step-ready s g)
