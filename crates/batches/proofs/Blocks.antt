-- The first blocks of a batch: one more is the next 512 bytes, and at the end they are all.
use mathlib.Core.Path.{◌≡◌, sym, ap, ap₂, ◌∙◌}
use mathlib.Core.List.{List, [], ◌∷◌, ◌++◌}
use Prim.Native.Nat.{ℕ, ◌+◌, ◌*◌, ◌/◌, ◌%◌, ◌≤◌}
use native.Mathlib.Omega.{arith}
use lib.ListN.{length, take, drop, length-drop, length-append}
use lib.Seq.{length-take-le, take_all, take-add, take-append_seam, drop-append_seam, drop-drop}
use Rattle.block.specs.Cut.{blocks_of}
use Rattle.block.proofs.Cut.{blocks_end, blocks_last, blocks-count}
use Rattle.model.specs.Calls.{Answer, run}
use Rattle.model.specs.Model.{Model}
use Rattle.model.specs.ModelStep.{admitting_block}
use Rattle.model.proofs.File.{run-append}
use Rattle.formed.specs.Registry.{model_in}
use Rattle.batches.specs.Progress.{first_blocks, first_answers}

pub first-none : (bs : List ℕ) → first_blocks bs 0 ≡ []
unfolding first_blocks
first-none bs = blocks_end

pub first-all : (bs : List ℕ) (k : ℕ) → length bs ≡ 512 * k → first_blocks bs k ≡ blocks_of bs
unfolding first_blocks
first-all bs k e = ap blocks_of (take_all (512 * k) bs (omega (arith, e)))

module _ (bs : List ℕ) (i : ℕ) (within : 512 * i + 512 ≤ length bs) where
  abbrev block : List ℕ
  block = take 512 (drop (512 * i) bs)

  pub first_next : first_blocks bs (i + 1) ≡ first_blocks bs i ++ (block ∷ [])
  unfolding first_blocks
  first_next =
      let n : 512 * (i + 1) ≡ 512 * i + 512 = omega arith in
      ap (λ (k : ℕ). blocks_of (take k bs)) n
      ∙ ap blocks_of (take-add (512 * i) 512 bs)
      ∙ blocks_last i (take (512 * i) bs) block (length-take-le (512 * i) bs (omega arith))
      (length-take-le 512 (drop (512 * i) bs) (omega (arith, length-drop (512 * i) bs, within)))

  -- and what it is answered
  module _ (m : List ℕ) where
    abbrev entries : Model
    entries = (run admitting_block (model_in m) (first_blocks bs i)).0

    run-next : run admitting_block (model_in m) (first_blocks bs (i + 1)) ≡ ((admitting_block entries block).0, first_answers m bs i ++ ((admitting_block entries block).1 ∷ []))
    unfolding first_answers
    run-next =
        ap (run admitting_block (model_in m)) first_next
        ∙ run-append admitting_block (model_in m) (first_blocks bs i) (block ∷ [])

    pub entries_next : (run admitting_block (model_in m) (first_blocks bs (i + 1))).0 ≡ (admitting_block entries block).0
    entries_next = ap (λ (r : Model × List Answer). r.0) run-next

    pub answers_next : first_answers m bs (i + 1) ≡ first_answers m bs i ++ ((admitting_block entries block).1 ∷ [])
    unfolding first_answers
    answers_next = ap (λ (r : Model × List Answer). r.1) run-next

-- what is left after i blocks, cut into the next one and the others
pub next-block : (bs : List ℕ) (i : ℕ) (b rest : List ℕ) → drop (512 * i) bs ≡ b ++ rest → length b ≡ 512
    → (b ≡ take 512 (drop (512 * i) bs)) × (rest ≡ drop (512 * (i + 1)) bs) × (512 * i + 512 ≤ length bs)
next-block bs i b rest cut whole =
    let n : 512 * i + length b ≡ 512 * (i + 1) = omega (arith, whole) in (
      sym (ap₂ take (sym whole) cut ∙ take-append_seam b rest),
      sym (drop-append_seam b rest) ∙ ap (drop (length b)) (sym cut) ∙ drop-drop (length b) (512 * i) bs ∙ ap (λ k. drop k bs) n,
      omega (arith, ap length cut, length-drop (512 * i) bs, length-append b rest, whole),
    )

-- ---- how many there are

pub whole-count : (bs : List ℕ) → length bs % 512 ≡ 0 → length bs ≡ 512 * (length bs / 512)
whole-count bs e = omega arith

pub numbers-needed : (bs : List ℕ) → length bs % 512 ≡ 0 → 2 * length (blocks_of bs) ≡ 2 * (length bs / 512)
numbers-needed bs e = ap (λ (k : ℕ). 2 * k) (blocks-count (length bs / 512) bs (whole-count bs e))
