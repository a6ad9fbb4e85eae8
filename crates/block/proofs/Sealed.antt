-- Laws of a block that begins with given bytes: its length, its bytes and its checksum.
use mathlib.Core.Path.{◌≡◌, refl, sym, ap, ◌∙◌}
use mathlib.Core.List.{List, [], ◌++◌, append_assoc}
use Prim.Native.Nat.{ℕ, zero, suc, ◌+◌, ◌-◌, ◌%◌, ◌≤◌, ◌<◌}
use native.Mathlib.Nat.{add_assoc, div-add-mod'}
use native.Mathlib.Omega.{arith}
use borrow.Author.Tests.{eq-eqb}
use lib.ListN.{length, replicate, length-append, length-replicate, get_or-append}
use lib.Seq.{get_or-append-add}
use Rattle.std.specs.Prelude.{None}
use Rattle.block.specs.Bytes.{byte_at, number_at, weighted, checksum}
use Rattle.block.specs.Reader.{zero_fault}
use Rattle.block.specs.Written.{number_bytes, sealed}
use Rattle.block.proofs.Faults.{faults-all}
use Rattle.block.proofs.Weights.{same-weight}

-- a number past the first part of a list
number-after : (a b : List ℕ) (p : ℕ) → number_at (a ++ b) (length a + p) ≡ number_at b p
number-after a b p = simp (add_assoc, get_or-append-add)

pub number-back : (n : ℕ) (rest : List ℕ) → number_at (number_bytes n ++ rest) 0 ≡ n
number-back n rest = div-add-mod' n 256

-- ---- bytes, zeros up to n, and then a number

zeros : (k i : ℕ) → byte_at (replicate k 0) i ≡ 0
zeros zero i = refl
zeros (suc k) zero = refl
zeros (suc k) (suc i) = zeros k i

abbrev filled : ℕ → List ℕ → List ℕ
filled n front = front ++ replicate (n - length front) 0

module _ (front : List ℕ) (n c : ℕ) (h : length front ≤ n) where
  filled-length : length (filled n front) ≡ n
  filled-length = simp (length-append, length-replicate) (omega arith)

  -- below n the number does not show
  body : (i : ℕ) → i < n → byte_at (filled n front ++ number_bytes c) i ≡ byte_at (filled n front) i
  body i l = get_or-append (filled n front) (number_bytes c) 0 i (rw filled-length l)

  past-front : (i : ℕ) → length front ≤ i → i < n → byte_at (filled n front ++ number_bytes c) i ≡ 0
  past-front i l m =
      let q : i ≡ length front + (i - length front) = omega arith in
      body i m ∙ ap (byte_at (filled n front)) q ∙ get_or-append-add front (replicate (n - length front) 0) (i - length front) 0 ∙ zeros (n - length front) (i - length front)

  whole_length : length (filled n front ++ number_bytes c) ≡ n + 2
  whole_length = length-append (filled n front) (number_bytes c) ∙ ap (λ (m : ℕ). m + 2) filled-length

  whole-weight : weighted (filled n front ++ number_bytes c) n ≡ weighted (filled n front) n
  whole-weight = same-weight (filled n front ++ number_bytes c) (filled n front) n body

  whole-number : number_at (filled n front ++ number_bytes c) n ≡ c
  whole-number = let q : n ≡ length (filled n front) + 0 = rw filled-length (omega arith) in ap (number_at (filled n front ++ number_bytes c)) q ∙ number-after (filled n front) (number_bytes c) 0 ∙ number-back c []

-- ---- a sealed block

-- what comes after the given bytes
pub ending : List ℕ → List ℕ
ending front = replicate (510 - length front) 0 ++ number_bytes (checksum (filled 510 front))

pub sealed-begins : (front : List ℕ) → sealed front ≡ front ++ ending front
unfolding sealed ending
sealed-begins front = append_assoc front (replicate (510 - length front) 0) (number_bytes (checksum (filled 510 front)))

module _ (front : List ℕ) (h : length front ≤ 510) where
  pub sealed-length : length (sealed front) ≡ 512
  unfolding sealed
  sealed-length = whole_length front 510 (checksum (filled 510 front)) h

  pub sealed-checked : number_at (sealed front) 510 ≡ checksum (sealed front)
  unfolding sealed checksum
  sealed-checked = whole-number front 510 (checksum (filled 510 front)) h ∙ ap (λ (m : ℕ). m % 65521) (sym (whole-weight front 510 (checksum (filled 510 front)) h))

  pub sealed-unused : (from : ℕ) → length front ≤ from → zero_fault (sealed front) from 510 ≡ None
  unfolding sealed zero_fault
  sealed-unused from l = faults-all _ from 510 (λ k m o. rw (eq-eqb _ 0 (past-front front 510 (checksum (filled 510 front)) h k (omega arith) o)))
