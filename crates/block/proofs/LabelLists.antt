-- Labels in a block: no fault of range or order exactly where the labels that are read are in range and rising.
use mathlib.Core.Path.{◌≡◌, refl, sym, ap, ◌∙◌}
use mathlib.Core.Bool.{Bool, true, ◌&&◌, and-true}
use mathlib.Core.List.{List, [], ◌∷◌, ◌++◌}
use Prim.Native.Nat.{ℕ, zero, suc, ◌+◌, ◌-◌, ◌*◌}
use native.Mathlib.Nat.{add-zero, add_assoc, sub-zero, add-sub_cancel, div-add-mod'}
use native.Mathlib.Omega.{arith}
use lib.Dec.{leb}
use lib.ListN.{length}
use lib.Seq.{get_or-append-add}
use Rattle.std.specs.Prelude.{Option, is_none}
use Rattle.block.specs.Entry.{Label}
use Rattle.block.specs.Fault.{first_from}
use Rattle.block.specs.Bytes.{number_at}
use Rattle.block.specs.Reader.{label_fault, range_fault, rise_fault, order_fault, label_at, labels_at}
use Rattle.block.specs.Written.{number_bytes, label_bytes, in_range, all_in_range, rising_after, rising, valid_labels}
use Rattle.block.proofs.Faults.{clear-unless, clear-or_else, clear-field}

-- a test over n positions, each 4 past the last, is the search for a fault over them
module _ (f : ℕ → Option ℕ) (test : ℕ → ℕ → Bool) (at : ℕ) where
  by-fours : ((p : ℕ) → test p 0 ≡ true) → ((p n : ℕ) → test p (suc n) ≡ (is_none (f p) && test (p + 4) n)) → (n i : ℕ) → is_none (first_from (λ k. f (at + 4 * k)) i n) ≡ test (at + 4 * i) n
  by-fours z s zero i = sym (z (at + 4 * i))
  by-fours z s (suc n) i =
      let q : at + 4 * i + 4 ≡ at + 4 * (i + 1) = omega arith in
      simp (s, clear-or_else, q, by-fours z s n (i + 1))

module _ (b : List ℕ) where
  label-clear : (p : ℕ) → is_none (label_fault b p) ≡ in_range (label_at b p)
  unfolding label_fault in_range label_at
  label-clear p = simp (clear-field, and-true)

  range_clear : (at n : ℕ) → is_none (range_fault b at n) ≡ all_in_range (labels_at b at n)
  unfolding range_fault
  range_clear at n = rw sub-zero (by-fours (label_fault b) (λ p m. all_in_range (labels_at b p m)) at (λ p. refl) (λ p m. rw label-clear) n 0 ∙ rw add-zero)

  order-clear : (at n : ℕ) → is_none (order_fault b at n) ≡ rising (labels_at b at n)
  unfolding order_fault rise_fault label_at
  order-clear at zero = refl
  order-clear at (suc n) =
      let q : suc n - 1 ≡ n = omega arith in
      rw q (by-fours (rise_fault b) (λ p m. rising_after (number_at b (p - 4)) (labels_at b p m)) at (λ p. refl) (λ p m. simp (clear-unless, add-sub_cancel)) n 1 ∙ rw add-sub_cancel)

  pub length-labels-at : (p n : ℕ) → length (labels_at b p n) ≡ n
  length-labels-at p zero = refl
  length-labels-at p (suc n) = ap suc (length-labels-at (p + 4) n)

  pub valid-clear : (limit at n : ℕ) → valid_labels limit (labels_at b at n) ≡ (leb n limit && (is_none (range_fault b at n) && is_none (order_fault b at n)))
  unfolding valid_labels
  valid-clear limit at n = simp (length-labels-at, range_clear, order-clear)

-- ---- labels, written and read

labels-after : (a b : List ℕ) (p n : ℕ) → labels_at (a ++ b) (length a + p) n ≡ labels_at b p n
unfolding label_at
labels-after a b p zero = refl
labels-after a b p (suc n) = simp (get_or-append-add, add_assoc, labels-after a b (p + 4) n)

labels-back : (ls : List Label) (rest : List ℕ) → labels_at (label_bytes ls ++ rest) 0 (length ls) ≡ ls
unfolding label_at
labels-back [] rest = refl
labels-back (l ∷ ls) rest =
    let four = number_bytes l.key ++ number_bytes l.value in
    simp (div-add-mod', labels-after four (label_bytes ls ++ rest) 0 (length ls), labels-back ls rest)

-- the labels that were written are read again
pub labels-read : (a : List ℕ) (ls : List Label) (rest : List ℕ) → labels_at (a ++ (label_bytes ls ++ rest)) (length a) (length ls) ≡ ls
labels-read a ls rest = ap (λ (p : ℕ). labels_at (a ++ (label_bytes ls ++ rest)) p (length ls)) (sym (add-zero (length a))) ∙ labels-after a (label_bytes ls ++ rest) 0 (length ls) ∙ labels-back ls rest

pub length-bytes : (ls : List Label) → length (label_bytes ls) ≡ 4 * length ls
length-bytes [] = refl
length-bytes (l ∷ ls) = let e = length-bytes ls in omega arith
