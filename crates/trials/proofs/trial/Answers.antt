-- Four words of 64 containers make the row.
use Rattle.std.proofs.Common.{◌≡◌, ◌∙◌, ap, ℕ, ◌+◌, ◌*◌, ◌<◌, List, map, length, get_or, arith, rules}
use Rattle.bitrow.specs.Bit.{bit}
use Rattle.bitrow.specs.Set.{meet, under}
use Rattle.bitrow.proofs.Rows.{row-bounded}
use Rattle.model.specs.Rules.{matches}
use Rattle.store.specs.Layout.{container_words}
use Rattle.formed.specs.Words.{label_in, part_in}
use Rattle.entries.specs.Entries.{PartOfLabels, label_words, matching_from}
use Rattle.entries.proofs.PartLabels.{label-before, nth-label}
use Rattle.entries.proofs.Trials.{slots-from, trial-row}
use Rattle.trials.specs.Words.{NoneZero, carrying_from}
use Rattle.trials.proofs.trial.Goals as goal

module _ (m : List ℕ) (part : ℕ) (words : List ℕ) where
  -- the part's words
  none-zero : PartOfLabels m part → words ≡ label_words m part → NoneZero words
  none-zero p e = record {
    label = λ k h.
        let k-in : k < length (label_words m part) = omega (arith, ap length e) in
        omega (arith, ap (λ v. get_or v k 0) e, nth-label m part p.within k k-in, p.label (part + 1 + k) (omega arith) (label-before m part p.within k k-in));
  }

  -- who carries their labels is who the part matches
  tried : (at w n : ℕ) → map label_in words ≡ part_in m part → bit w ≡ meet (meet (bit n) (carrying_from m words at)) (under 64)
      → bit w ≡ meet (meet (bit n) (matching_from m part at)) (under 64)
  unfolding carrying_from matching_from
  tried at w n e h = h ∙ ap (λ ls. meet (meet (bit n) (λ i. matches ls (part_in m (at + container_words * i)))) (under 64)) e

pub trial_word-requires : goal.trial_word-requires
trial_word-requires c = let p = c.requires in (none-zero _ _ _ p.0 c.labels_of-labels.ensures.words, slots-from _ c.told-memory p.1 0 (omega arith))

pub trial_word-requires-2 : goal.trial_word-requires-2
trial_word-requires-2 c = let p = c.requires in (none-zero _ _ _ p.0 c.labels_of-labels.ensures.words, slots-from _ c.told-memory p.1 64 (omega arith))

pub trial_word-requires-3 : goal.trial_word-requires-3
trial_word-requires-3 c = let p = c.requires in (none-zero _ _ _ p.0 c.labels_of-labels.ensures.words, slots-from _ c.told-memory p.1 128 (omega arith))

pub trial_word-requires-4 : goal.trial_word-requires-4
trial_word-requires-4 c = let p = c.requires in (none-zero _ _ _ p.0 c.labels_of-labels.ensures.words, slots-from _ c.told-memory p.1 192 (omega arith))

pub returns : goal.returns
returns c =
    let m = c.args.memory.now in
    let part = c.args.part in
    let words = c.labels_of-labels.result.now in
    let e = c.labels_of-labels.ensures.labels in
    trial-row _ _ _ (row-bounded _ (search rules)) _ _ _ _ (tried m part words _ _ _ e c.trial_word.ensures) (tried m part words _ _ _ e c.trial_word-2.ensures)
    (tried m part words _ _ _ e c.trial_word-3.ensures) (tried m part words _ _ _ e c.trial_word-4.ensures)
