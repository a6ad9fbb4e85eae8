-- The words after a header, one after another: what is left to test at a turn, and that all of it is the test of the labels and the zeros.
use Rattle.std.proofs.Common.{◌≡◌, ◌∙◌, refl, sym, ap, ap₂, ℕ, zero, suc, ◌+◌, ◌-◌, ◌/◌, ◌%◌, ◌≤◌, ◌<◌, Bool, true, false, ◌&&◌, eqb, ltb, leb, List, length, arith}
use borrow.Author.Tests.{ltb-true, leb-false, le-ltb, lt-ltb, lt-leb, le-leb, eq-eqb, ne_eqb, leb-true}
use Rattle.store.specs.Layout.{word_at}
use Rattle.store.proofs.Cases.{by-ltb}
use Rattle.formed.specs.Tests.{◌and◌, choose, every, between, label_ok, labels_ok, labels_between, zeros}
use Rattle.formed.proofs.Runs.{and-fails, and-passes, choose_yes, choose_no, between_done, labels-done, labels-skip, labels-hit}

-- a label's word after the key `last`, but for the range of its key
abbrev pub follows : ℕ → ℕ → Bool
follows last w = ltb last (w / 65536) && ltb 0 (w % 65536)

-- the n words from word i on: labels before `end`, zeros from there on, and the last key in range
abbrev pub left_ok : List ℕ → ℕ → ℕ → ℕ → ℕ → Bool
left_ok m end last i zero = leb last 64
left_ok m end last i (suc n) =
    choose (ltb i end) (follows last (word_at m i) and left_ok m end (word_at m i / 65536) (i + 1) n) (eqb (word_at m i) 0 and left_ok m end last (i + 1) n)

-- ---- a label's word

then-fails : (a b : Bool) → (a ≡ true → b ≡ false) → (a and b) ≡ false
unfolding ◌and◌
then-fails true b h = h refl
then-fails false b h = refl

first-of : (a b : Bool) → (a && b) ≡ true → a ≡ true
first-of true b e = refl
first-of false b e = e

middle-out : (a b c : Bool) → (a && (b && c)) ≡ true → ((a && c) ≡ true) × (b ≡ true)
middle-out true true c e = (e, refl)
middle-out true false c e = (absurd cc, e)
middle-out false b c e = (e, absurd cc)

middle-in : (a b c : Bool) → (a && (b && c)) ≡ false → (a && c) ≡ true → b ≡ false
middle-in true true c e h = absurd cc
middle-in true false c e h = refl
middle-in false b c e h = absurd cc

rises : (last w : ℕ) → follows last w ≡ true → last < w / 65536
rises last w e = ltb-true last (w / 65536) (first-of _ _ e)

in-range : (last w : ℕ) → label_ok last w ≡ true → (follows last w ≡ true) × (w / 65536 ≤ 64)
unfolding label_ok
in-range last w e = let h = middle-out (ltb last (w / 65536)) (leb (w / 65536) 64) (ltb 0 (w % 65536)) e in (h.0, leb-true _ _ h.1)

out-of-range : (last w : ℕ) → label_ok last w ≡ false → follows last w ≡ true → 64 < w / 65536
unfolding label_ok
out-of-range last w e f = leb-false _ _ (middle-in (ltb last (w / 65536)) (leb (w / 65536) 64) (ltb 0 (w % 65536)) e f)

-- ---- all words

module _ (m : List ℕ) (end : ℕ) where
  abbrev word-zero : ℕ → Bool
  word-zero i = eqb (word_at m i) 0

  -- keys rise, so one past 64 is found at the last
  beyond : (n last i : ℕ) → 64 < last → left_ok m end last i n ≡ false
  unfolding choose
  beyond zero last i h = lt-leb last 64 h
  beyond (suc n) last i h =
      let w = word_at m i in
      by-ltb (λ t. choose t (follows last w and left_ok m end (w / 65536) (i + 1) n) (eqb w 0 and left_ok m end last (i + 1) n) ≡ false) i end
      (λ l. then-fails (follows last w) _ (λ f. let k = rises last w f in beyond n (w / 65536) (i + 1) (omega arith)))
      (λ l. then-fails (eqb w 0) _ (λ f. beyond n last (i + 1) h))

  zeros-left : (n last i : ℕ) → end ≤ i → last ≤ 64 → left_ok m end last i n ≡ every word-zero i n
  zeros-left zero last i h k = le-leb last 64 k
  zeros-left (suc n) last i h k =
      choose_no (ltb i end) _ _ (le-ltb i end h) (ap (λ t. word-zero i and t) (zeros-left n last (i + 1) (omega arith) k))

  -- a label's word, by what is left after it
  label-left : (n last i : ℕ) → i < end → (t : Bool) → label_ok last (word_at m i) ≡ t
      → (word_at m i / 65536 ≤ 64 → left_ok m end (word_at m i / 65536) (i + 1) n ≡ (labels_ok m (word_at m i / 65536) (i + 1) (end - (i + 1)) and zeros m end (i + 1 + n)))
      → (follows last (word_at m i) and left_ok m end (word_at m i / 65536) (i + 1) n) ≡ (labels_ok m last i (end - i) and zeros m end (i + suc n))
  label-left n last i b true e rest =
      let r = in-range last (word_at m i) e in
      let d : i + 1 + n ≡ i + suc n = omega arith in
      and-passes _ _ r.0 (rest r.1) ∙ ap₂ ◌and◌ (sym (labels-skip m last i end b e)) (ap (zeros m end) d)
  label-left n last i b false e rest =
      then-fails (follows last (word_at m i)) _ (λ f. beyond n (word_at m i / 65536) (i + 1) (out-of-range last (word_at m i) e f))
      ∙ sym (and-fails _ _ (labels-hit m last i end b e))

  all-left : (n last i : ℕ) → i ≤ end → end ≤ i + n → last ≤ 64 → left_ok m end last i n ≡ (labels_ok m last i (end - i) and zeros m end (i + n))
  unfolding choose between
  all-left zero last i h l k =
      le-leb last 64 k ∙ sym (and-passes _ _ (labels-done m last i end (omega arith)) (between_done word-zero end (i + 0) (omega arith)))
  all-left (suc n) last i h l k =
      let w = word_at m i in
      by-ltb (λ t. choose t (follows last w and left_ok m end (w / 65536) (i + 1) n) (eqb w 0 and left_ok m end last (i + 1) n) ≡ (labels_ok m last i (end - i) and zeros m end (i + suc n))) i end
      (λ b. label-left n last i b (label_ok last w) refl (λ r. all-left n (w / 65536) (i + 1) (omega arith) (omega arith) r))
      (λ b. let e : i ≡ end = omega arith in let d : suc n ≡ i + suc n - end = omega arith in
      ap (λ t. word-zero i and t) (zeros-left n last (i + 1) (omega arith) k) ∙ ap₂ (every word-zero) e d ∙ sym (and-passes _ _ (labels-done m last i end b) refl))

  pub words-left : 0 < end → end ≤ length m → left_ok m end 0 1 (length m - 1) ≡ (labels_between m 1 end and zeros m end (length m))
  words-left h l =
      let e : 1 + (length m - 1) ≡ length m = omega arith in
      all-left (length m - 1) 0 1 (omega arith) (omega arith) (omega arith) ∙ ap (λ k. labels_between m 1 end and zeros m end k) e

-- ---- a turn

module _ (m : List ℕ) (end last i to : ℕ) (h : i < to) where
  next : left_ok m end last i (to - i) ≡ left_ok m end last i (suc (to - (i + 1)))
  next = ap (left_ok m end last i) e
    where
      e : to - i ≡ suc (to - (i + 1))
      e = omega arith

  pub zero-skip : end ≤ i → word_at m i ≡ 0 → left_ok m end last i (to - i) ≡ left_ok m end last (i + 1) (to - (i + 1))
  zero-skip l e = next ∙ choose_no (ltb i end) _ _ (le-ltb i end l) (and-passes _ _ (eq-eqb _ _ e) refl)

  pub zero-hit : end ≤ i → (word_at m i ≡ 0 → ⊥) → left_ok m end last i (to - i) ≡ false
  zero-hit l n = next ∙ choose_no (ltb i end) _ _ (le-ltb i end l) (and-fails _ _ (ne_eqb _ _ n))

  pub label-skip : i < end → follows last (word_at m i) ≡ true → left_ok m end last i (to - i) ≡ left_ok m end (word_at m i / 65536) (i + 1) (to - (i + 1))
  label-skip l e = next ∙ choose_yes (ltb i end) _ _ (lt-ltb i end l) (and-passes _ _ e refl)

  pub label-hit : i < end → follows last (word_at m i) ≡ false → left_ok m end last i (to - i) ≡ false
  label-hit l e = next ∙ choose_yes (ltb i end) _ _ (lt-ltb i end l) (and-fails _ _ e)

pub none-left : (m : List ℕ) (end last i to : ℕ) → to ≤ i → left_ok m end last i (to - i) ≡ leb last 64
none-left m end last i to h = ap (left_ok m end last i) e
  where
    e : to - i ≡ 0
    e = omega arith
