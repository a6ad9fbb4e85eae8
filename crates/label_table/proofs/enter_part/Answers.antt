-- Each label entered is the next of the part's.
use Rattle.std.proofs.Common.{◌≡◌, ◌∙◌, ap, ℕ, ◌+◌, ◌-◌, List, get_or, arith}
use Rattle.store.specs.Layout.{word_at}
use Rattle.entries.proofs.PartLabels.{label-before, label-behind, nth-label}
use Rattle.label_table.specs.LabelTable.{entered, in_turn, word_entered}
use Rattle.label_table.proofs.TableLaws.{part-turns, turn-next, turn-done}
use Rattle.label_table.proofs.enter_part.Goals as goal

module _ (m : List ℕ) (p : ℕ) (labels : List ℕ) where
  -- the labels from word i on entered
  abbrev rest : ℕ → List ℕ
  rest i = in_turn (word_entered m) i (p + word_at m p - i) labels

pub loop-label-init : goal.loop-label-init
loop-label-init c =
    let p = c.args.part in
    let e : p + 1 + 0 ≡ p + 1 = omega arith in
    ap (rest c.args.memory.now p c.args.labels.now) e ∙ part-turns _ _ _

pub loop-label-preserved : goal.loop-label-preserved
loop-label-preserved c =
    let m = c.args.memory.now in
    let p = c.args.part in
    let k = c.loop-label.label-index in
    let words = c.labels_of-label-items.ensures.words in
    let h = rw words at c.loop-label-test.true in
    let next : p + 1 + (k + 1) ≡ p + 1 + k + 1 = omega arith in
    ap (rest m p c.enter.new.labels) next
    ∙ turn-next _ _ _ c.loop-label.invariant (label-before m p c.requires k h)
    (c.enter.ensures ∙ ap (entered c.loop-label.labels) (ap (λ ws. get_or ws k 0) words ∙ nth-label m p c.requires k h))

pub returns : goal.returns
returns c =
    turn-done _ _ _ c.loop-label.invariant
    (label-behind _ _ c.requires c.loop-label.label-index (rw c.labels_of-label-items.ensures.words at c.loop-label-test.false))
