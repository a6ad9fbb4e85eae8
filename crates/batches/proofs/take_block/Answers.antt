-- The parts of a block's answer, each as it was put.
use native.Mathlib.Omega.{arith}
use mathlib.Core.Path.{◌≡◌, ap, ◌∙◌}
use Prim.Native.Nat.{ℕ, ◌+◌, ◌*◌}
use lib.Dec.{eqb}
use lib.ListN.{set, length-set}
use Rattle.model.specs.Batch.{pair_of, tallied_one}
use Rattle.answers.specs.Answers.{admitted_answer}
use Rattle.batches.proofs.take_block.Goals as goal

pub bounds-answers-i-2 : goal.bounds-answers-i-2
bounds-answers-i-2 c =
    let n = length-set c.args.answers.now (2 * c.args.i) c.numbers-first.result.0 in
    omega (arith, c.requires.2, n)

pub returns : goal.returns
returns c =
    let placed = c.place_block-answer in
    let pair : c.numbers-first.result ≡ pair_of (admitted_answer placed.result) = c.numbers-first.ensures in
    record {
      answer = placed.result;
      placed = placed.ensures.result_after;
      came = c.came_with.ensures;
      tally = c.counted.ensures ∙ ap (λ (p : ℕ × ℕ). tallied_one c.args.progress.tally (eqb p.0 0)) pair;
      list = ap (λ (p : ℕ × ℕ). set (set c.args.answers.now (2 * c.args.i) p.0) (2 * c.args.i + 1) p.1) pair;
    }
