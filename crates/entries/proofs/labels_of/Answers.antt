-- The words behind the header, as many as it says.
use Rattle.std.proofs.Common.{◌≡◌, ◌∙◌, ap, ℕ, ◌+◌, map, slice_range}
use Rattle.formed.specs.Words.{label_in}
use Rattle.entries.specs.Entries.{label_words}
use Rattle.entries.proofs.PartLabels.{part_words}
use Rattle.entries.proofs.labels_of.Goals as goal

pub returns : goal.returns
returns c =
    let m = c.args.memory.now in
    let p = c.args.part in
    let e : slice_range m (p + 1) (p + 1 + c.saturating_sub-count.result) ≡ label_words m p = ap (λ (n : ℕ). slice_range m (p + 1) (p + 1 + n)) c.saturating_sub-count.ensures in
    record { words = e; labels = ap (map label_in) e ∙ part_words m p c.requires }
