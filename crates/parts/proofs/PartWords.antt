-- The words of a part whose labels stand in a block.
use mathlib.Core.Path.{◌≡◌, sym, ap, ◌∙◌}
use mathlib.Core.List.{List, map}
use Prim.Native.Nat.{ℕ, zero, suc, ◌+◌, ◌*◌, ◌<◌, ◌≤◌}
use native.Mathlib.Omega.{arith}
use lib.ListN.{length, get_or, set, length-map, get_or-eq_default}
use Rattle.block.specs.Bytes.{number_at}
use Rattle.block.specs.Reader.{label_at, labels_at}
use Rattle.block.proofs.LabelLists.{length-labels-at}
use Rattle.store.specs.Memory.{slot_set}
use Rattle.store.proofs.Stores.{slot-first, slot-join}
use Rattle.formed.specs.Words.{label_word, part_word}

-- word k of the labels
label-at : (b : List ℕ) (p n k : ℕ) → k < n → get_or (map label_word (labels_at b p n)) k 0 ≡ label_word (label_at b (p + 4 * k))
label-at b p zero k h = absurd (omega arith)
label-at b p (suc n) zero h = let e : p ≡ p + 4 * 0 = omega arith in ap (λ (q : ℕ). label_word (label_at b q)) e
label-at b p (suc n) (suc k) h =
    let e : p + 4 + 4 * k ≡ p + 4 * suc k = omega arith in
    label-at b (p + 4) n k (omega arith) ∙ ap (λ (q : ℕ). label_word (label_at b q)) e

module _ (b : List ℕ) (p n : ℕ) where
  -- a word of a part after its header
  part-after : (k : ℕ) → part_word (labels_at b p n) (1 + k) ≡ get_or (map label_word (labels_at b p n)) k 0
  unfolding part_word
  part-after k = let e : 1 + k ≡ suc k = omega arith in rw e

  -- label k, and the zeros past the last
  pub part-label : (k key value : ℕ) → k < n → key ≡ number_at b (p + 4 * k) → value ≡ number_at b (p + 4 * k + 2)
      → key * 65536 + value ≡ part_word (labels_at b p n) (1 + k)
  unfolding label_word label_at
  part-label k key value h x y =
      let w : key * 65536 + value ≡ label_word (label_at b (p + 4 * k)) = cc in
      w ∙ sym (part-after k ∙ label-at b p n k h)

  pub part-past : (k : ℕ) → n ≤ k → 0 ≡ part_word (labels_at b p n) (1 + k)
  part-past k h =
      let l : length (map label_word (labels_at b p n)) ≡ n = length-map (labels_at b p n) label_word ∙ length-labels-at b p n in
      sym (part-after k ∙ get_or-eq_default (map label_word (labels_at b p n)) 0 (omega arith))

  part-header : 1 + n ≡ part_word (labels_at b p n) 0
  unfolding part_word
  part-header = omega (arith, length-labels-at b p n)

  -- the header, and the words after it
  pub part-put : (m l : List ℕ) (at k limit : ℕ) → l ≡ slot_set (set m at (1 + n)) (at + 1) k (λ (j : ℕ). part_word (labels_at b p n) (1 + j)) → k ≡ limit
      → l ≡ slot_set m at (1 + limit) (part_word (labels_at b p n))
  part-put m l at k limit e q =
      e ∙ ap (λ (h : List ℕ). slot_set h (at + 1) k (λ (j : ℕ). part_word (labels_at b p n) (1 + j))) (ap (set m at) part-header ∙ slot-first m at (part_word (labels_at b p n)))
      ∙ slot-join m at 1 k (part_word (labels_at b p n)) ∙ ap (λ (i : ℕ). slot_set m at (1 + i) (part_word (labels_at b p n))) q
