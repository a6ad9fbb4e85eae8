-- One of the part's words is that word.
use Rattle.std.proofs.Common.{◌∙◌, sym, ap}
use Rattle.model.specs.Rules.{carries as carries_label}
use Rattle.formed.specs.Words.{label_in}
use Rattle.entries.proofs.PartLabels.{carries-any}
use Rattle.entry_labels.proofs.carries.Goals as goal

pub returns : goal.returns
returns c =
    c.contains.ensures.value ∙ sym (carries-any c.labels_of.result.now c.args.word)
    ∙ ap (λ ls. carries_label ls (label_in c.args.word)) c.labels_of.ensures.labels
