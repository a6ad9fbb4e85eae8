-- Each label narrows what is left, if it was found; if one was not, the trial of what is left is the answer too.
use Rattle.std.proofs.Common.{◌≡◌, ◌∙◌, ap, subst, ℕ, ◌+◌, ◌<◌, Bool, List, get_or, arith, rules}
use Rattle.bitrow.specs.Set.{meet, under}
use Rattle.bitrow.proofs.Rows.{row-bounded}
use Rattle.store.specs.Layout.{word_at}
use Rattle.formed.proofs.Reading.{formed-whole}
use Rattle.entries.proofs.FormedEntries.{formed-slots}
use Rattle.entries.proofs.PartLabels.{label-before, label-behind, nth-label}
use Rattle.label_table.specs.LabelRows.{carriers}
use Rattle.label_table.proofs.RowLaws.{Narrowing, narrow-none, narrow-found, narrow-missed, narrow-all, label-row}
use Rattle.label_rows.proofs.matching.Goals as goal
use Rattle.label_rows.proofs.matching.Goals.{then-table-h, else-table-h}

module _ (m : List ℕ) (p : ℕ) (s left : ℕ → Bool) (all : Bool) {i j : ℕ} (e : i ≡ j) where
  -- the same from word j on
  from_there : Narrowing m p (p + word_at m p) s left all i → Narrowing m p (p + word_at m p) s left all j
  from_there = subst (Narrowing m p (p + word_at m p) s left all) e

pub loop-word-init : goal.loop-word-init
loop-word-init c =
    let p = c.args.part in
    let e : p + 1 ≡ p + 1 + 0 = omega arith in
    from_there c.args.memory.now p _ _ _ e (narrow-none _ _ _ (row-bounded _ (search rules)))

pub loop-word-preserved : goal.loop-word-preserved
loop-word-preserved c =
    let m = c.args.memory.now in
    let p = c.args.part in
    let k = c.loop-word.word-index in
    let w = c.requires.1.within in
    let words = c.labels_of-word-items.ensures.words in
    let h = rw words at c.loop-word-test.true in
    let here : p + 1 + k < p + word_at m p = label-before m p w k h in
    let label = ap (λ ws. get_or ws k 0) words ∙ nth-label m p w k h in
    let next : p + 1 + k + 1 ≡ p + 1 + (k + 1) = omega arith in
    elim c.if-table-h.branch [
      | then-table-h w ↦
          rw (w.left-is, w.all-is)
          (from_there m p _ _ _ next
          (narrow-found _ _ c.loop-word.invariant here
          (label-row c.requires.2 c.place-h.ensures.0 w.if-table-h.true ∙ ap (λ (x : ℕ). meet (carriers m x) (under 256)) label) w.both-next.ensures))
      | else-table-h w ↦ rw (w.left-is, w.all-is) (from_there m p _ _ _ next (narrow-missed _ _ c.loop-word.invariant here))
    ]

pub returns-then-all : goal.returns-then-all
returns-then-all c =
    narrow-all _ _ c.loop-word.invariant c.if-all.true
    (label-behind _ _ c.requires.1.within c.loop-word.word-index (rw c.labels_of-word-items.ensures.words at c.loop-word-test.false))

pub trial-requires : goal.trial-requires
trial-requires c = let p = c.requires in (p.1, formed-slots _ p.0)

pub returns : goal.returns
returns c = c.trial.ensures ∙ c.loop-word.invariant.narrowed
