-- The label under a key, of labels whose keys rise.
use mathlib.Core.Path.{◌≡◌, refl, sym, ap, ap₂, ◌∙◌}
use mathlib.Core.Bool.{Bool, true, false, not, ◌&&◌, ◌||◌, cond, or-false, and-false}
use mathlib.Core.List.{List, [], ◌∷◌}
use Prim.Native.Nat.{ℕ, ◌+◌, ◌*◌, ◌<◌, ◌≤◌}
use native.Mathlib.Omega.{arith}
use lib.Dec.{eqb, leb, ltb}
use lib.ListN.{length}
use borrow.Author.Tests.{eqb-true, eq-eqb, ne_eqb, le-leb, leb-true, ltb-true}
use Rattle.block.specs.Entry.{Label}
use Rattle.block.specs.Written.{in_range, all_in_range, rising_after, rising, valid_labels}
use Rattle.bitrow.proofs.Tests.{same_test}
use Rattle.model.specs.Table.{any, on, stands}
use Rattle.model.specs.Rules.{same_label, carries}
use Rattle.model.specs.Findings.{same_user}
use Rattle.model.proofs.Lists.{both}
use Rattle.store.specs.Layout.{word_at, container_start}
use Rattle.store.proofs.Cases.{by_eqb}
use Rattle.formed.specs.Words.{label_word, part_in, settings_in}
use Rattle.formed.specs.Registry.{model_in}
use Rattle.formed.proofs.Parts.{LabelBounds, label-bounds}
use Rattle.entries.specs.Entries.{word_under, user_word}
use Rattle.entries.proofs.Trials.{container-at}

-- ---- rising keys

-- labels in range whose keys rise
record Fine (ls : List Label) : Type 0 where
  range : all_in_range ls ≡ true
  rises : rising ls ≡ true

fine_of : (limit : ℕ) (ls : List Label) → valid_labels limit ls ≡ true → Fine ls
unfolding valid_labels
fine_of limit ls v =
    let h = both (leb (length ls) limit) (all_in_range ls && rising ls) v in
    let r = both (all_in_range ls) (rising ls) h.1 in
    record { range = r.0; rises = r.1 }

rises-after : (k : ℕ) (ls : List Label) → rising_after k ls ≡ true → rising ls ≡ true
rises-after k [] e = refl
rises-after k (l ∷ ls) e = (both (ltb k l.key) (rising_after l.key ls) e).1

fine-rest : (l : Label) (ls : List Label) → Fine (l ∷ ls) → Fine ls
fine-rest l ls f = record { range = (both (in_range l) (all_in_range ls) f.range).1; rises = rises-after l.key ls f.rises }

fine-first : (l : Label) (ls : List Label) → Fine (l ∷ ls) → LabelBounds l
fine-first l ls f = label-bounds l (both (in_range l) (all_in_range ls) f.range).0

-- a test that asks for a key fails on labels whose keys are above it
absent : (f : Label → Bool) (j k : ℕ) (ls : List Label) → ((l : Label) → (l.key ≡ j → ⊥) → f l ≡ false) → j ≤ k → rising_after k ls ≡ true → any f ls ≡ false
absent f j k [] h a e = refl
absent f j k (l ∷ ls) h a e =
    let b = both (ltb k l.key) (rising_after l.key ls) e in
    let c : k < l.key = ltb-true k l.key b.0 in
    ap₂ ◌||◌ (h l (λ q. omega arith)) (absent f j l.key ls h (omega arith) b.1)

-- ---- the label under a key

module _ (k v : ℕ) where
  abbrev asked : Label
  asked = record { key = k; value = v }

  other_key : (l : Label) → (l.key ≡ k → ⊥) → same_label asked l ≡ false
  unfolding same_label
  other_key l o = ap (λ t. t && eqb v l.value) (ne_eqb k l.key (λ e. o (sym e)))

  same_key : (l : Label) → l.key ≡ k → same_label asked l ≡ eqb v l.value
  unfolding same_label
  same_key l e = ap (λ t. t && eqb v l.value) (eq-eqb k l.key (sym e))

  -- in range, and w is its word
  abbrev is_word : ℕ → Bool
  is_word w = leb v 65535 && (not (eqb v 0) && eqb w (k * 65536 + v))

  in-range : (w : ℕ) → v ≤ 65535 → 0 < v → w ≡ k * 65536 + v → is_word w ≡ true
  in-range w a b e = ap₂ ◌&&◌ (le-leb v 65535 a) (ap₂ ◌&&◌ (ap not (ne_eqb v 0 (λ z. omega arith))) (eq-eqb w (k * 65536 + v) e))

  word-is : (w : ℕ) → is_word w ≡ true → (v ≤ 65535) × (w ≡ k * 65536 + v)
  word-is w t =
      let h = both (leb v 65535) (not (eqb v 0) && eqb w (k * 65536 + v)) t in
      (leb-true v 65535 h.0, eqb-true w (k * 65536 + v) (both (not (eqb v 0)) (eqb w (k * 65536 + v)) h.1).1)

  no_word : is_word 0 ≡ false
  no_word =
      by_eqb (λ t. (leb v 65535 && (not t && eqb 0 (k * 65536 + v))) ≡ false) v 0 (λ e. and-false (leb v 65535))
      (λ o. let n : eqb 0 (k * 65536 + v) ≡ false = ne_eqb 0 (k * 65536 + v) (λ z. o (omega arith)) in rw n (and-false (leb v 65535)))

  one_word : (l : Label) → LabelBounds l → l.key ≡ k → eqb v l.value ≡ is_word (label_word l)
  unfolding label_word
  one_word l b e =
      same_test (eqb v l.value) (is_word (label_word l))
      (λ t.
      let q : v ≡ l.value = eqb-true v l.value t in
      in-range (label_word l) (omega arith) (omega arith) (omega arith))
      (λ t. let w = word-is (label_word l) t in eq-eqb v l.value (omega arith))

  carries-fine : (ls : List Label) → Fine ls → carries ls asked ≡ is_word (word_under k ls)
  unfolding carries word_under
  carries-fine [] f = sym no_word
  carries-fine (l ∷ ls) f =
      by_eqb (λ t. (same_label asked l || any (same_label asked) ls) ≡ is_word (cond t (label_word l) (word_under k ls))) l.key k
      (λ e.
      ap₂ ◌||◌ (same_key l e) (absent (same_label asked) k l.key ls other_key (omega arith) f.rises)
      ∙ or-false (eqb v l.value)
      ∙ one_word l (fine-first l ls f) e)
      (λ o. ap (λ t. t || any (same_label asked) ls) (other_key l o) ∙ carries-fine ls (fine-rest l ls f))

-- ---- one label under a key in two lists

module _ (k : ℕ) (y : List Label) (g : Fine y) where
  -- l is under k, and y carries it
  abbrev shared : Label → Bool
  shared l = eqb l.key k && carries y l

  -- w is a label's word, and y's under k
  abbrev shared_word : ℕ → Bool
  shared_word w = not (eqb w 0) && eqb w (word_under k y)

  shared-one : (l : Label) → LabelBounds l → l.key ≡ k → carries y l ≡ shared_word (label_word l)
  unfolding label_word
  shared-one l b e =
      carries-fine l.key l.value y g
      ∙ ap (λ j. is_word l.key l.value (word_under j y)) e
      ∙ same_test (is_word l.key l.value (word_under k y)) (shared_word (label_word l))
      (λ t.
      let w = word-is l.key l.value (word_under k y) t in
      ap₂ ◌&&◌ (ap not (ne_eqb (label_word l) 0 (λ z. omega arith))) (eq-eqb (label_word l) (word_under k y) (omega arith)))
      (λ t.
      let w : label_word l ≡ word_under k y = eqb-true (label_word l) (word_under k y) (both (not (eqb (label_word l) 0)) (eqb (label_word l) (word_under k y)) t).1 in
      in-range l.key l.value (word_under k y) (omega arith) (omega arith) (omega arith))

  shared-fine : (x : List Label) → Fine x → any shared x ≡ shared_word (word_under k x)
  unfolding word_under
  shared-fine [] f = refl
  shared-fine (l ∷ ls) f =
      by_eqb (λ t. ((t && carries y l) || any shared ls) ≡ shared_word (cond t (label_word l) (word_under k ls))) l.key k
      (λ e.
      ap (λ t. carries y l || t)
      (absent shared k l.key ls (λ x o. ap (λ t. t && carries y x) (ne_eqb x.key k o)) (omega arith) f.rises)
      ∙ or-false (carries y l)
      ∙ shared-one l (fine-first l ls f) e)
      (λ o. shared-fine ls (fine-rest l ls f))

-- ---- the laws for callers

-- valid labels carry a key with a value, any number at all, exactly if the value is in range and the key's word says it
pub carries-word : (limit : ℕ) (ls : List Label) → valid_labels limit ls ≡ true → (k v : ℕ)
    → carries ls (record { key = k; value = v }) ≡ (leb v 65535 && (not (eqb v 0) && eqb (word_under k ls) (k * 65536 + v)))
carries-word limit ls w k v = carries-fine k v ls (fine_of limit ls w)

-- two lists of valid labels have one label under a key exactly if its words are equal and not 0
shared-word : (n o : ℕ) (x y : List Label) → valid_labels n x ≡ true → valid_labels o y ≡ true → (k : ℕ)
    → any (λ l. eqb l.key k && carries y l) x ≡ (not (eqb (word_under k x) 0) && eqb (word_under k x) (word_under k y))
shared-word n o x y v w k = shared-fine k y (fine_of o y w) x (fine_of n x v)

-- both carry the user key with one value
pub same-user : (m : List ℕ) (a b : ℕ) → stands (model_in m).containers a ≡ true → stands (model_in m).containers b ≡ true
    → valid_labels 8 (part_in m (container_start a)) ≡ true → valid_labels 8 (part_in m (container_start b)) ≡ true
    → same_user (model_in m) a b ≡ (not (eqb (user_word m a) 0) && eqb (user_word m a) (user_word m b))
unfolding same_user model_in settings_in
same-user m a b s t v w =
    ap₂ (λ p q. on (λ x. on (λ y. any (λ l. eqb l.key (word_at m 0) && carries y l) x) q) p) (container-at m a s) (container-at m b t)
    ∙ shared-word 8 8 (part_in m (container_start a)) (part_in m (container_start b)) v w (word_at m 0)
