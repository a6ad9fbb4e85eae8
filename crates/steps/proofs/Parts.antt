-- A walk of k + n findings is one of n, then one of k from the place handed back: so the parts, joined, are the findings.
use mathlib.Core.Path.{◌≡◌, refl, sym, ap, ap₂, subst, ◌∙◌}
use mathlib.Core.Bool.{true}
use mathlib.Core.List.{List, [], ◌∷◌, ◌++◌, map, map-append, append_cancel_left}
use mathlib.Core.Option.{Option, none, some}
use Prim.Native.Nat.{ℕ, zero, suc, ◌+◌, ◌-◌, ◌≤◌, ◌<◌}
use native.Mathlib.Decide.{dec_lt}
use native.Mathlib.Omega.{arith}
use native.Mathlib.Nat.{add-zero}
use lib.ListN.{length, length-append, length-map}
use Rattle.block.specs.Entry.{Settings}
use Rattle.model.specs.declared.Finding.{Finding}
use Rattle.model.specs.Findings.{Place, findings, place_of, next_after, start, walk, moved, finding_code}
use Rattle.model.specs.Model.{empty}
use Rattle.model.specs.Calls.{ask, list_findings, findings_put}
use Rattle.model.proofs.Next.{walk-meets-all}
use Rattle.formed.specs.Registry.{model_in, bits_in, well_formed}
use Rattle.steps.specs.MemoryStep.{memory_step}
use Rattle.steps.specs.Refinement.{Lending, on_memory, on_model, model_findings, Refined}
use Rattle.steps.proofs.Outcomes.{findings-answers}

-- All that the call findings puts from a cursor, with room for n numbers, and again from the place that it hands back, until it puts
-- fewer than n.
pub data Parts (m : List ℕ) (n : ℕ) : Place → List ℕ → Type 0 where
  last : (c d : Place) (l : List ℕ) → (memory_step m (ask (list_findings c n))).1 ≡ findings_put l d → length l < n → Parts m n c l
  full : (c d : Place) (l r : List ℕ) → (memory_step m (ask (list_findings c n))).1 ≡ findings_put l d → length l ≡ n → Parts m n d r → Parts m n c (l ++ r)

-- the calls leave no choice of what is put
parts-alike : {m : List ℕ} {n : ℕ} {c : Place} {l k : List ℕ} → Parts m n c l → Parts m n c k → l ≡ k
parts-alike (last c d l e h) (last a b k f i) = let s : findings_put l d ≡ findings_put k b = sym e ∙ f in cc
parts-alike (last c d l e h) (full a b k q f i t) =
    let s : findings_put l d ≡ findings_put k b = sym e ∙ f in
    let z : length l ≡ length k = cc in
    absurd (omega arith)
parts-alike (full c d l r e h t) (last a b k f i) =
    let s : findings_put l d ≡ findings_put k b = sym e ∙ f in
    let z : length l ≡ length k = cc in
    absurd (omega arith)
parts-alike {m} {n} (full c d l r e h t) (full a b k q f i u) =
    let s : findings_put l d ≡ findings_put k b = sym e ∙ f in
    let x : l ≡ k = cc in
    let y : d ≡ b = cc in
    ap₂ ◌++◌ x (parts-alike (subst (λ p. Parts m n p r) y t) u)

-- ---- a walk, and the rest of it

module _ (next : Place → Option Finding) where
  abbrev from : ℕ → Option Finding → List Finding
  from n o = elim o [ none ↦ [] | some g ↦ g ∷ walk next n (place_of g) ]

  walk_none : (n : ℕ) (c : Place) → next c ≡ none → walk next n c ≡ []
  walk_none zero c e = refl
  walk_none (suc n) c e = ap (from n) e

  walk_split : (n k : ℕ) (c : Place) → walk next (k + n) c ≡ walk next n c ++ walk next k (moved c (walk next n c))
  walk_split zero k c = ap (λ j. walk next j c) (add-zero k)
  walk_split (suc n) k c = let s : k + suc n ≡ suc (k + n) = omega arith in ap (λ j. walk next j c) s ∙ pick (next c) refl (walk_split n k)
    where
      pick : (o : Option Finding) → next c ≡ o → ((d : Place) → walk next (k + n) d ≡ walk next n d ++ walk next k (moved d (walk next n d)))
          → from (k + n) o ≡ from n o ++ walk next k (moved c (from n o))
      pick none e ih = sym (walk_none k c e)
      pick (some g) e ih = ap (λ l. g ∷ l) (ih (place_of g))

  walk-most : (n : ℕ) (c : Place) → length (walk next n c) ≤ n
  walk-most zero c = omega arith
  walk-most (suc n) c = pick (next c) (walk-most n)
    where
      pick : (o : Option Finding) → ((d : Place) → length (walk next n d) ≤ n) → length (from n o) ≤ suc n
      pick none ih = omega arith
      pick (some g) ih = let h = ih (place_of g) in omega arith

  -- from the cursor these are all
  abbrev Ends : Place → List Finding → Type 0
  Ends c l = (k : ℕ) → length l ≤ k → walk next k c ≡ l

  -- the first n of at least as many, and the rest
  record Split (c : Place) (l : List Finding) (n : ℕ) : Type 0 where
    rest : List Finding
    whole : l ≡ walk next n c ++ rest
    first : length (walk next n c) ≡ n
    ends : Ends (moved c (walk next n c)) rest
    fewer : length rest ≡ length l - n

  split : (c : Place) (l : List Finding) (n : ℕ) → Ends c l → n ≤ length l → Split c l n
  split c l n e h =
      let p = walk next n c in
      let d = moved c p in
      let r = walk next (length l - n) d in
      let both : (k : ℕ) → length l ≤ k + n → l ≡ p ++ walk next k d = λ k b. sym (e (k + n) b) ∙ walk_split n k c in
      let w : l ≡ p ++ r = both (length l - n) (omega arith) in
      let s : length l ≡ length p + length r = ap length w ∙ length-append p r in
      let x = walk-most n c in
      let y = walk-most (length l - n) d in
      record {
        rest = r;
        whole = w;
        first = omega arith;
        ends = λ k b. append_cancel_left p (walk next k d) r (sym (both k (omega arith)) ∙ w);
        fewer = omega arith;
      }

-- ---- the parts

module _ (m : List ℕ) (formed : well_formed m ≡ true) (n : ℕ) (some-room : 1 ≤ n) where
  abbrev after : Place → Option Finding
  after = next_after (model_in m) (bits_in m)

  answer : (c : Place) → (memory_step m (ask (list_findings c n))).1 ≡ findings_put (map finding_code (walk after n c)) (moved c (walk after n c))
  answer c = ap (λ r. r.1) (findings-answers m formed c n)

  part-last : (c : Place) (l : List Finding) → Ends after c l → length l < n → Parts m n c (map finding_code l)
  part-last c l e h =
      let d = moved c (walk after n c) in
      last c d (map finding_code l) (answer c ∙ ap (λ y. findings_put (map finding_code y) d) (e n (omega arith))) (omega (arith, length-map l finding_code))

  -- with at most f findings left
  parts : (f : ℕ) (c : Place) (l : List Finding) → length l ≤ f → Ends after c l → Parts m n c (map finding_code l)
  parts zero c l b e = part-last c l e (omega arith)
  parts (suc f) c l b e = pick (dec_lt (length l) n) (parts f)
    where
      pick : Dec (length l < n) → ((d : Place) (r : List Finding) → length r ≤ f → Ends after d r → Parts m n d (map finding_code r)) → Parts m n c (map finding_code l)
      pick (yes h) ih = part-last c l e h
      pick (no h) ih =
          let p = walk after n c in
          let d = moved c p in
          let s = split after c l n e (omega arith) in
          let r = s.rest in
          let q : map finding_code l ≡ map finding_code p ++ map finding_code r = ap (map finding_code) s.whole ∙ map-append finding_code p r in
          rw q (full c d (map finding_code p) (map finding_code r) (answer c) (length-map p finding_code ∙ s.first) (ih d r (omega (arith, s.fewer)) s.ends))

-- Of demand 3: from the start, whatever room each call has, the calls come to their end and put the codes of the findings of the
-- model left, in their order.
pub refined-parts : (s : Settings) (m : List ℕ) (calls : List Lending) → Refined s m calls → (n : ℕ) → 1 ≤ n
    → Parts (on_memory m calls).0 n start (map finding_code (model_findings (on_model (empty s) calls).0))
refined-parts s m calls r n h =
    let x = (on_memory m calls).0 in
    let l = findings (model_in x) (bits_in x) in
    subst (λ y. Parts x n start (map finding_code y)) (ap₂ findings r.entries r.bits) (parts x r.formed n h (length l) start l (omega arith) (walk-meets-all (model_in x) (bits_in x)))

-- And nothing else.
pub refined-parts-only : (s : Settings) (m : List ℕ) (calls : List Lending) → Refined s m calls → (n : ℕ) → 1 ≤ n
    → (l : List ℕ) → Parts (on_memory m calls).0 n start l → l ≡ map finding_code (model_findings (on_model (empty s) calls).0)
refined-parts-only s m calls r n h l p = parts-alike p (refined-parts s m calls r n h)
