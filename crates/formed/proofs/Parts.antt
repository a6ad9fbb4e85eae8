-- Labels and parts: what is read from a part's words, and how large the words are.
use mathlib.Core.Path.{◌≡◌, refl, sym, ap, ap₂, ◌∙◌}
use mathlib.Core.Bool.{true, ◌&&◌}
use mathlib.Core.List.{List, [], ◌∷◌, map}
use Prim.Native.Nat.{ℕ, zero, suc, ◌+◌, ◌*◌, ◌-◌, ◌/◌, ◌%◌, ◌^◌, ◌<◌, ◌≤◌}
use native.Mathlib.Nat.{add-zero}
use native.Mathlib.Decide.{ℕ_discrete}
use native.Mathlib.Omega.{arith}
use lib.Dec.{leb}
use lib.ListN.{length, get_or}
use borrow.Author.Tests.{leb-true}
use Rattle.block.specs.Entry.{Label}
use Rattle.block.specs.Reader.{within}
use Rattle.block.proofs.Checks.{within-bounds}
use Rattle.block.specs.Written.{in_range, all_in_range, rising, valid_labels}
use Rattle.model.proofs.Lists.{both}
use Rattle.store.specs.Layout.{word_at}
use Rattle.formed.specs.Words.{label_word, part_word, label_in, labels_in, part_in}

-- ---- labels

pub record LabelBounds (l : Label) : Type 0 where
  pub key : (1 ≤ l.key) × (l.key ≤ 64)
  pub value : (1 ≤ l.value) × (l.value ≤ 65535)

pub label-bounds : (l : Label) → in_range l ≡ true → LabelBounds l
unfolding in_range
label-bounds l e =
    let h = both (within 1 64 l.key) (within 1 65535 l.value) e in
    record { key = within-bounds 1 64 l.key h.0; value = within-bounds 1 65535 l.value h.1 }

pub label-word : (w : ℕ) → label_word (label_in w) ≡ w
unfolding label_word label_in
label-word w = omega arith

label-back : (l : Label) → in_range l ≡ true → label_in (label_word l) ≡ l
unfolding label_in label_word
label-back l e =
    let h = label-bounds l e in
    let k : (l.key * 65536 + l.value) / 65536 ≡ l.key = omega arith in
    let v : (l.key * 65536 + l.value) % 65536 ≡ l.value = omega arith in
    λ i. record { key = k i; value = v i }

label_small : (l : Label) → in_range l ≡ true → label_word l < 2 ^ 23
unfolding label_word
label_small l e = let h = label-bounds l e in omega arith

pub labels-back : (m : List ℕ) (ls : List Label) (s : ℕ) → all_in_range ls ≡ true
    → ((j : ℕ) → j < length ls → word_at m (s + j) ≡ get_or (map label_word ls) j 0) → labels_in m s (length ls) ≡ ls
labels-back m [] s ok w = refl
labels-back m (l ∷ ls) s ok w =
    let h = both (in_range l) (all_in_range ls) ok in
    let e : label_in (word_at m s) ≡ l = ap (λ k. label_in (word_at m k)) (sym (add-zero s)) ∙ ap label_in (w 0 (omega arith)) ∙ label-back l h.0 in
    let r : labels_in m (s + 1) (length ls) ≡ ls = labels-back m ls (s + 1) h.1 (λ j b. ap (λ k. word_at m k) (shift j) ∙ w (suc j) (omega arith)) in
    ap₂ (λ (x : Label) (xs : List Label). x ∷ xs) e r
  where
    shift : (j : ℕ) → s + 1 + j ≡ s + suc j
    shift j = omega arith

labels-small : (ls : List Label) → all_in_range ls ≡ true → (k : ℕ) → get_or (map label_word ls) k 0 < 2 ^ 23
labels-small [] ok k = omega arith
labels-small (l ∷ ls) ok zero = label_small l (both (in_range l) (all_in_range ls) ok).0
labels-small (l ∷ ls) ok (suc k) = labels-small ls (both (in_range l) (all_in_range ls) ok).1 k

-- a label in range is not the word zero
pub labels-some : (m : List ℕ) (n s : ℕ) → all_in_range (labels_in m s n) ≡ true → (k : ℕ) → s ≤ k → k < s + n → 0 < word_at m k
unfolding label_in
labels-some m zero s ok k a b = absurd (omega arith)
labels-some m (suc n) s ok k a b =
    let h = both (in_range (label_in (word_at m s))) (all_in_range (labels_in m (s + 1) n)) ok in
    let l = label-bounds (label_in (word_at m s)) h.0 in
    go (ℕ_discrete k s) (omega arith) (labels-some m n (s + 1) h.1 k)
  where
    go : Dec (k ≡ s) → 0 < word_at m s → (s + 1 ≤ k → k < s + 1 + n → 0 < word_at m k) → 0 < word_at m k
    go (yes e) first rest = rw e first
    go (no o) first rest = rest (omega arith) (omega arith)

pub length-labels-in : (m : List ℕ) (s n : ℕ) → length (labels_in m s n) ≡ n
length-labels-in m s zero = refl
length-labels-in m s (suc n) = ap suc (length-labels-in m (s + 1) n)

-- ---- parts

module _ (limit : ℕ) (ls : List Label) (v : valid_labels limit ls ≡ true) where
  pub labels-few : length ls ≤ limit
  unfolding valid_labels
  labels-few = leb-true (length ls) limit (both (leb (length ls) limit) (all_in_range ls && rising ls) v).0

  pub labels-in-range : all_in_range ls ≡ true
  unfolding valid_labels
  labels-in-range = (both (all_in_range ls) (rising ls) (both (leb (length ls) limit) (all_in_range ls && rising ls) v).1).0

  pub part_small : limit < 2 ^ 23 → (k : ℕ) → part_word ls k ≤ 2 ^ 23
  unfolding part_word
  part_small h zero = omega (arith, labels-few)
  part_small h (suc k) = omega (arith, labels-small ls labels-in-range k)

  -- a part whose words are those of valid labels says them
  pub part-back : (m : List ℕ) (s : ℕ) → ((j : ℕ) → j < limit + 1 → word_at m (s + j) ≡ part_word ls j) → part_in m s ≡ ls
  unfolding part_in part_word
  part-back m s w =
      let few = labels-few in
      let head : word_at m s ≡ suc (length ls) = ap (λ k. word_at m k) (sym (add-zero s)) ∙ w 0 (omega arith) in
      let n : word_at m s - 1 ≡ length ls = omega arith in
      ap (labels_in m (s + 1)) n
      ∙ labels-back m ls (s + 1) labels-in-range (λ j h. ap (λ k. word_at m k) (shift j) ∙ w (suc j) (omega arith))
    where
      shift : (j : ℕ) → s + 1 + j ≡ s + suc j
      shift j = omega arith
