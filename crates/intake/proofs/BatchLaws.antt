-- Whole blocks that are placed as those of a batch are, and the numbers that answer them: what they leave of the memory, and the lines put.
use mathlib.Core.Path.{◌≡◌, refl, sym, ap, ap₂, ◌∙◌}
use mathlib.Core.Bool.{true}
use mathlib.Core.List.{List, [], ◌∷◌, ◌++◌, map}
use mathlib.Core.Option.{Option, none, some}
use Prim.Native.Nat.{ℕ, ◌+◌, ◌*◌, ◌/◌, ◌%◌}
use native.Mathlib.Omega.{arith}
use lib.ListN.{length}
use lib.Seq.{take_all}
use Rattle.buffer.proofs.BufferLaws.{puts-taken}
use Rattle.block.specs.Cut.{blocks_of}
use Rattle.model.specs.declared.Tally.{Tally}
use Rattle.model.specs.Model.{Model}
use Rattle.model.specs.Calls.{Answer, said, pairs_of, run}
use Rattle.model.specs.Batch.{pair_of}
use Rattle.model.specs.ModelStep.{admitting_block}
use Rattle.model.proofs.Refused.{Numbers, admitting-numbers}
use Rattle.model.proofs.Batch.{pairs-back}
use Rattle.formed.specs.Registry.{model_in, image, well_formed}
use Rattle.formed.proofs.Formed.{formed-memory}
use Rattle.batches.specs.declared.Progress.{Progress}
use Rattle.batches.specs.Progress.{BatchAt}
use Rattle.batches.proofs.Blocks.{whole-count}
use Rattle.batches.proofs.BatchLaws.{all_placed, list_done, placed-formed}
use Rattle.text.specs.Lines.{refused_line, refused_by, pair_line, pair_lines}
use Rattle.text.proofs.LineLaws.{pair-taken, pair-refused}
use Rattle.sheets.specs.Blocks.{admitted_lines, admits_all}

-- ---- the lines of blocks that were answered

said-line : (n : ℕ) (a : Answer) → Numbers (said a).refused → refused_by n a ≡ pair_line n (pair_of a)
said-line n a h = pick _ (said a).refused h
  where
    pick : (slot : ℕ) (o : Option (ℕ × ℕ)) → Numbers o → (elim o [ none ↦ [] | some f ↦ refused_line n f ]) ≡ pair_line n (elim o [ none ↦ (0, slot) | some f ↦ f ])
    pick slot none h = pair-taken n 0 slot refl
    pick slot (some f) h = pair-refused n f.0 f.1 (λ z. omega (arith, h.0, z))

lines-admitted : (l : List (List ℕ)) (w : Model) (n : ℕ) → pair_lines n (map pair_of (run admitting_block w l).1) ≡ admitted_lines w n l
unfolding admitted_lines pair_lines admitting_block
lines-admitted [] w n = refl
lines-admitted (b ∷ l) w n =
    let r = admitting_block w b in
    ap₂ (λ (x y : List ℕ). x ++ y) (sym (said-line (n + 1) r.1 (admitting-numbers w w.settings b))) (lines-admitted l r.0 (n + 1))

-- ---- what is left

module _ (m bs d : List ℕ) (t : Tally) (formed : well_formed m ≡ true) (whole : length bs % 512 ≡ 0) {m' e : List ℕ} {p : Progress} (g : BatchAt m bs d t (length bs / 512) m' e p) where
  pub blocks-left : length e ≡ 2 * (length bs / 512) → (n : ℕ) → (m', pair_lines n (pairs_of e)) ≡ admits_all m n (blocks_of bs)
  unfolding admits_all
  blocks-left size n =
      let w = whole-count bs whole in
      let answers = (run admitting_block (model_in m) (blocks_of bs)).1 in
      let all = sym (take_all (2 * (length bs / 512)) e (omega (arith, size))) ∙ puts-taken (list_done m bs d t w formed g) in
      ap₂ (λ (x y : List ℕ). (x, y))
      (sym (formed-memory m' (placed-formed m bs d t w formed g)).canonical ∙ ap image (all_placed m bs d t w formed g))
      (ap (λ (l : List ℕ). pair_lines n (pairs_of l)) all ∙ ap (pair_lines n) (pairs-back (map pair_of answers)) ∙ lines-admitted (blocks_of bs) (model_in m) n)
