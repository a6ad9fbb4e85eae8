-- The front, then the byte, which is not put from 510 on.
use Rattle.std.proofs.Common.{ℕ, List, refl, set, sym, ap, ◌∙◌, arith}
use lib.Seq.{set_out}
use Rattle.samples.proofs.SampleLaws.{copied, front-sets}
use Rattle.samples.proofs.put_body.Goals as goal

pub returns-then-shape-lt510 : goal.returns-then-shape-lt510
returns-then-shape-lt510 c =
    let s = c.args.shape in
    ap (λ (l : List ℕ). set l s.at s.byte) (front-sets s _ _ _ (copied c.args.body.now 0 4 _ _ c.copy_from_slice.ensures.after refl (omega arith)) c.put_rising_labels.ensures)

pub returns-else-shape-lt510 : goal.returns-else-shape-lt510
returns-else-shape-lt510 c =
    let s = c.args.shape in
    sym (set_out _ s.at s.byte (omega arith)) ∙ ap (λ (l : List ℕ). set l s.at s.byte) (front-sets s _ _ _ (copied c.args.body.now 0 4 _ _ c.copy_from_slice.ensures.after refl (omega arith)) c.put_rising_labels.ensures)
