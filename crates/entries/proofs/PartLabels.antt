-- A label as one word, and the labels of a part read one after another.
use mathlib.Core.Path.{◌≡◌, refl, sym, ap, ap₂, ◌∙◌}
use mathlib.Core.Bool.{Bool, true, false, ◌&&◌, ◌||◌, cond, or_assoc, or-false}
use mathlib.Core.List.{List, [], ◌∷◌, map}
use Prim.Native.Nat.{ℕ, zero, suc, ◌+◌, ◌*◌, ◌-◌, ◌/◌, ◌%◌, ◌<◌, ◌≤◌}
use native.Mathlib.Decide.{dec_lt}
use native.Mathlib.Omega.{arith}
use lib.Dec.{eqb}
use lib.ListN.{length, get_or, take, drop, length-take, length-drop}
use Rattle.std.proofs.lemmas.List.{get_or-take, get_or-drop}
use Rattle.std.specs.Prelude.{Some, unwrap_or}
use Rattle.std.specs.List.{list_any, find}
use Rattle.std.proofs.Math.Seq.{drop-cons}
use borrow.Author.Tests.{eqb-true, eq-eqb, ne_eqb}
use Rattle.block.specs.Entry.{Label, Container}
use Rattle.bitrow.specs.Set.{some}
use Rattle.bitrow.proofs.Tests.{same_test}
use Rattle.model.specs.Rules.{same_label, carries, matches}
use Rattle.model.proofs.Lists.{both}
use Rattle.store.specs.Layout.{word_at}
use Rattle.store.proofs.Cases.{by_eqb}
use Rattle.formed.specs.Words.{label_in, labels_in, part_in}
use Rattle.formed.proofs.Parts.{label-word}
use Rattle.entries.specs.Entries.{PartWithin, label_words, word_under}

-- ---- a label is one word

pub same_word-law : (v w : ℕ) → same_label (label_in v) (label_in w) ≡ eqb v w
unfolding same_label label_in
same_word-law v w =
    same_test (eqb (v / 65536) (w / 65536) && eqb (v % 65536) (w % 65536)) (eqb v w)
    (λ e.
    let h = both (eqb (v / 65536) (w / 65536)) (eqb (v % 65536) (w % 65536)) e in
    let k : v / 65536 ≡ w / 65536 = eqb-true (v / 65536) (w / 65536) h.0 in
    let r : v % 65536 ≡ w % 65536 = eqb-true (v % 65536) (w % 65536) h.1 in
    eq-eqb v w (omega arith))
    (λ e. let p : v ≡ w = eqb-true v w e in ap₂ ◌&&◌ (eq-eqb (v / 65536) (w / 65536) (omega arith)) (eq-eqb (v % 65536) (w % 65536) (omega arith)))

-- the label that a key and a value make
pub label_of : (k v : ℕ) → v ≤ 65535 → label_in (k * 65536 + v) ≡ record { key = k; value = v }
unfolding label_in
label_of k v h =
    let x : (k * 65536 + v) / 65536 ≡ k = omega arith in
    let y : (k * 65536 + v) % 65536 ≡ v = omega arith in
    λ i. record { key = x i; value = y i }

-- ---- the labels from word i up to before word `end`

module _ (m : List ℕ) where
  abbrev pub labels_from : ℕ → ℕ → List Label
  labels_from i end = labels_in m i (end - i)

  pub labels_next : (i end : ℕ) → i < end → labels_from i end ≡ label_in (word_at m i) ∷ labels_from (i + 1) end
  labels_next i end h = let e : end - i ≡ suc (end - (i + 1)) = omega arith in ap (labels_in m i) e

  labels-end : (i end : ℕ) → end ≤ i → labels_from i end ≡ []
  labels-end i end h = let e : end - i ≡ 0 = omega arith in ap (labels_in m i) e

  part-labels : (p : ℕ) → part_in m p ≡ labels_from (p + 1) (p + word_at m p)
  unfolding part_in
  part-labels p = let e : word_at m p - 1 ≡ p + word_at m p - (p + 1) = omega arith in ap (labels_in m (p + 1)) e

  -- whether one of them is the label w

  pub carries-part : (p w : ℕ) → carries (part_in m p) (label_in w) ≡ carries (labels_from (p + 1) (p + word_at m p)) (label_in w)
  carries-part p w = ap (λ ls. carries ls (label_in w)) (part-labels p)

  module _ (w i end : ℕ) where
    carries-next : i < end → carries (labels_from i end) (label_in w) ≡ (eqb w (word_at m i) || carries (labels_from (i + 1) end) (label_in w))
    unfolding carries
    carries-next h = ap (λ ls. carries ls (label_in w)) (labels_next i end h) ∙ ap (λ t. t || carries (labels_from (i + 1) end) (label_in w)) (same_word-law w (word_at m i))

    pub carries-hit : i < end → word_at m i ≡ w → carries (labels_from i end) (label_in w) ≡ true
    carries-hit h e = carries-next h ∙ ap (λ t. t || carries (labels_from (i + 1) end) (label_in w)) (eq-eqb w (word_at m i) (sym e))

    pub carries-skip : i < end → (word_at m i ≡ w → ⊥) → carries (labels_from i end) (label_in w) ≡ carries (labels_from (i + 1) end) (label_in w)
    carries-skip h o = carries-next h ∙ ap (λ t. t || carries (labels_from (i + 1) end) (label_in w)) (ne_eqb w (word_at m i) (λ e. o (sym e)))

    pub carries-done : end ≤ i → carries (labels_from i end) (label_in w) ≡ false
    unfolding carries
    carries-done h = ap (λ ls. carries ls (label_in w)) (labels-end i end h)

  -- the n words after a part's header, of which those past its labels are zero: w is a label of the part if it is one of them
  module _ (p w n : ℕ) (pos : 0 < w) (few : word_at m p ≤ n + 1) (past : (k : ℕ) → p + word_at m p ≤ k → k < p + (n + 1) → word_at m k ≡ 0) where
    abbrev is_word : ℕ → Bool
    is_word j = eqb (word_at m (p + suc j)) w

    abbrev from : ℕ → Bool
    from i = carries (labels_from i (p + word_at m p)) (label_in w)

    from_next : (i : ℕ) → i < p + (n + 1) → from i ≡ (eqb (word_at m i) w || from (i + 1))
    from_next i h = go (dec_lt i (p + word_at m p))
      where
        go : Dec (i < p + word_at m p) → from i ≡ (eqb (word_at m i) w || from (i + 1))
        go (yes l) = by_eqb (λ t. from i ≡ (t || from (i + 1))) (word_at m i) w (carries-hit w i _ l) (carries-skip w i _ l)
        go (no l) =
            carries-done w i _ (omega arith)
            ∙ sym (ap (λ t. t || from (i + 1)) (ne_eqb (word_at m i) w (λ e. omega (arith, past i (omega arith) h))) ∙ carries-done w (i + 1) _ (omega arith))

    -- one of the first j of them, or a label after those
    from_start : (j : ℕ) → j ≤ n → from (p + 1) ≡ (some is_word j || from (p + suc j))
    unfolding some
    from_start zero h = refl
    from_start (suc j) h =
        let e : p + suc j + 1 ≡ p + suc (suc j) = omega arith in
        from_start j (omega arith) ∙ ap (λ t. some is_word j || t) (from_next (p + suc j) (omega arith) ∙ ap (λ i. is_word j || from i) e)
        ∙ sym (or_assoc (some is_word j) (is_word j) (from (p + suc (suc j))))

    pub carries_words : carries (part_in m p) (label_in w) ≡ some (λ j. eqb (word_at m (p + suc j)) w) n
    carries_words =
        carries-part p w ∙ from_start n (omega arith) ∙ ap (λ t. some is_word n || t) (carries-done w (p + suc n) _ (omega arith)) ∙ or-false (some is_word n)

  -- whether c carries all of them

  pub matches-part : (p : ℕ) (c : Container) → matches (part_in m p) c ≡ matches (labels_from (p + 1) (p + word_at m p)) c
  matches-part p c = ap (λ ls. matches ls c) (part-labels p)

  module _ (c : Container) (i end : ℕ) where
    matches-next : i < end → matches (labels_from i end) c ≡ (carries c (label_in (word_at m i)) && matches (labels_from (i + 1) end) c)
    unfolding matches
    matches-next h = ap (λ ls. matches ls c) (labels_next i end h)

    pub matches-fail : i < end → carries c (label_in (word_at m i)) ≡ false → matches (labels_from i end) c ≡ false
    matches-fail h e = matches-next h ∙ ap (λ t. t && matches (labels_from (i + 1) end) c) e

    pub matches-skip : i < end → carries c (label_in (word_at m i)) ≡ true → matches (labels_from i end) c ≡ matches (labels_from (i + 1) end) c
    matches-skip h e = matches-next h ∙ ap (λ t. t && matches (labels_from (i + 1) end) c) e

    pub matches-done : end ≤ i → matches (labels_from i end) c ≡ true
    unfolding matches
    matches-done h = ap (λ ls. matches ls c) (labels-end i end h)

-- ---- the words of a part's labels

labels-words : (m : List ℕ) (n at : ℕ) → at + n ≤ length m → labels_in m at n ≡ map label_in (take n (drop at m))
labels-words m zero at h = refl
labels-words m (suc n) at h =
    let l : at < length m = omega arith in
    let e : suc at ≡ at + 1 = omega arith in
    ap (λ ls. label_in (word_at m at) ∷ ls) (labels-words m n (at + 1) (omega arith) ∙ ap (λ (i : ℕ). map label_in (take n (drop i m))) (sym e))
    ∙ sym (ap (λ ws. map label_in (take (suc n) ws)) (drop-cons m at 0 l))

module _ (m : List ℕ) (p : ℕ) (w : PartWithin m p) where
  pub part_words : map label_in (label_words m p) ≡ part_in m p
  unfolding part_in
  part_words =
      let h = w.header in
      let l = w.labels in
      let e : p + 1 + (word_at m p - 1) - (p + 1) ≡ word_at m p - 1 = omega arith in
      ap (λ n. map label_in (take n (drop (p + 1) m))) e ∙ sym (labels-words m (word_at m p - 1) (p + 1) (omega arith))

  pub label-count : length (label_words m p) ≡ word_at m p - 1
  label-count =
      let h = w.header in
      let l = w.labels in
      omega (arith, length-take (p + 1 + (word_at m p - 1) - (p + 1)) (drop (p + 1) m), length-drop (p + 1) m)

  -- word k of them
  module _ (k : ℕ) where
    pub label-before : k < length (label_words m p) → p + 1 + k < p + word_at m p
    label-before h = omega (arith, label-count)

    pub label-behind : length (label_words m p) ≤ k → p + word_at m p ≤ p + 1 + k
    label-behind h = omega (arith, label-count)

    pub nth-label : k < length (label_words m p) → get_or (label_words m p) k 0 ≡ word_at m (p + 1 + k)
    nth-label h = get_or-take (p + 1 + (word_at m p - 1) - (p + 1)) (drop (p + 1) m) k 0 (omega (arith, label-count)) ∙ get_or-drop (p + 1) m k 0

eqb-other : (a b : ℕ) → eqb a b ≡ eqb b a
eqb-other a b = same_test (eqb a b) (eqb b a) (λ e. eq-eqb b a (sym (eqb-true a b e))) (λ e. eq-eqb a b (sym (eqb-true b a e)))

-- one of them is the label w
pub carries-any : (ws : List ℕ) (w : ℕ) → carries (map label_in ws) (label_in w) ≡ list_any (λ y. eqb y w) ws
unfolding carries
carries-any [] w = refl
carries-any (x ∷ ws) w = ap₂ ◌||◌ (same_word-law w x ∙ eqb-other w x) (carries-any ws w)

-- the first of them under the key k
module _ (k : ℕ) where
  abbrev pub keyed : ℕ → Bool
  keyed w = eqb (w / 65536) k

  pub under-find : (ws : List ℕ) → word_under k (map label_in ws) ≡ unwrap_or (find keyed ws) 0
  unfolding word_under label_in
  under-find [] = refl
  under-find (x ∷ ws) = ap (λ w. cond (keyed x) w (word_under k (map label_in ws))) (label-word x) ∙ go (keyed x) (under-find ws)
    where
      go : (t : Bool) → word_under k (map label_in ws) ≡ unwrap_or (find keyed ws) 0 → cond t x (word_under k (map label_in ws)) ≡ unwrap_or (cond t (Some x) (find keyed ws)) 0
      go true e = refl
      go false e = e
