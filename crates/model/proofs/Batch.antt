-- The checks of a batch by plain conditions; the numbers of its answer, and the pairs that they are; one block more.
use mathlib.Core.Path.{◌≡◌, refl, ap, ◌∙◌}
use mathlib.Core.Bool.{Bool, true, false, not, ◌||◌, or-true}
use mathlib.Core.List.{List, [], ◌∷◌, ◌++◌}
use Prim.Native.Nat.{ℕ, ◌*◌, ◌%◌, ◌≤◌, ◌<◌}
use native.Mathlib.Omega.{arith}
use lib.Dec.{eqb, ltb}
use lib.ListN.{length}
use borrow.Author.Tests.{eq-eqb, ne_eqb, lt-ltb, le-ltb}
use Rattle.std.specs.Prelude.{Result, Ok, Err, ⊤}
use Rattle.block.specs.declared.Refusal.{Refusal}
use Rattle.block.specs.declared.Reason.TheVariants.{BufferLength, BatchLength}
use Rattle.block.specs.Cut.{blocks_of}
use Rattle.block.specs.Refusal.{check, first_refusal}
use Rattle.model.specs.declared.Tally.{Tally}
use Rattle.model.specs.Calls.{numbers_of, pairs_of}
use Rattle.model.specs.Batch.{is_taken, tallied_one, tallied}
use Rattle.model.specs.Refusals.{where0, batch_checks}

-- ---- 14 and 13

module _ (bs : List ℕ) (n : ℕ) where
  -- by what is too long, of whole blocks, and has too little room
  abbrev tested : Bool → Bool → Bool → Result ⊤ Refusal
  tested u v w = first_refusal (check BatchLength (where0 (u || not v)) ∷ check BufferLength (where0 w) ∷ [])

  abbrev long : Bool
  long = ltb 65536 (length bs)

  abbrev whole : Bool
  whole = eqb (length bs % 512) 0

  abbrev short : Bool
  short = ltb n (2 * length (blocks_of bs))

  pub batch-long : 65536 < length bs → first_refusal (batch_checks bs n) ≡ Err (record { reason = BatchLength; position = 0 })
  batch-long h = ap (λ (u : Bool). tested u whole short) (lt-ltb 65536 (length bs) h)

  pub batch-cut : (length bs % 512 ≡ 0 → ⊥) → first_refusal (batch_checks bs n) ≡ Err (record { reason = BatchLength; position = 0 })
  batch-cut h =
      ap (λ (v : Bool). tested long v short) (ne_eqb (length bs % 512) 0 h)
      ∙ ap (λ (x : Bool). first_refusal (check BatchLength (where0 x) ∷ check BufferLength (where0 short) ∷ [])) (or-true long)

  module _ (few : length bs ≤ 65536) (cut : length bs % 512 ≡ 0) where
    past-14 : (w : Bool) → short ≡ w → first_refusal (batch_checks bs n) ≡ tested false true w
    past-14 w e =
        ap (λ (u : Bool). tested u whole short) (le-ltb 65536 (length bs) few)
        ∙ ap (λ (v : Bool). tested false v short) (eq-eqb (length bs % 512) 0 cut)
        ∙ ap (tested false true) e

    pub batch-short : n < 2 * length (blocks_of bs) → first_refusal (batch_checks bs n) ≡ Err (record { reason = BufferLength; position = 0 })
    batch-short h = past-14 true (lt-ltb n (2 * length (blocks_of bs)) h)

    pub batch-passes : 2 * length (blocks_of bs) ≤ n → first_refusal (batch_checks bs n) ≡ Ok tt
    batch-passes h = past-14 false (le-ltb n (2 * length (blocks_of bs)) h)

-- ---- numbers and pairs

pub pairs-back : (ps : List (ℕ × ℕ)) → pairs_of (numbers_of ps) ≡ ps
pairs-back [] = refl
pairs-back (p ∷ ps) = ap (λ (l : List (ℕ × ℕ)). p ∷ l) (pairs-back ps)

pub numbers-length : (ps : List (ℕ × ℕ)) → length (numbers_of ps) ≡ 2 * length ps
numbers-length [] = refl
numbers-length (p ∷ ps) = let h = numbers-length ps in omega (arith, h)

-- ---- one block more

pub numbers-last : (ps : List (ℕ × ℕ)) (p : ℕ × ℕ) → numbers_of (ps ++ (p ∷ [])) ≡ numbers_of ps ++ (p.0 ∷ p.1 ∷ [])
numbers-last [] p = refl
numbers-last (q ∷ ps) p = ap (λ (l : List ℕ). q.0 ∷ q.1 ∷ l) (numbers-last ps p)

pub tallied-last : (t : Tally) (ps : List (ℕ × ℕ)) (p : ℕ × ℕ) → tallied t (ps ++ (p ∷ [])) ≡ tallied_one (tallied t ps) (is_taken p)
tallied-last t [] p = refl
tallied-last t (q ∷ ps) p = tallied-last (tallied_one t (is_taken q)) ps p
