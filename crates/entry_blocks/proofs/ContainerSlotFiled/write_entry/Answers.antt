-- Two numbers and the labels, one behind the other, are the container's front.
use Rattle.std.proofs.Common.{◌≡◌, ◌∙◌, ap, ◌+◌, ◌*◌, ◌-◌, length, map, take, arith}
use Rattle.std.proofs.lemmas.List.{length-map}
use Rattle.block.specs.Entry.{container}
use Rattle.block.specs.Written.{sealed, block_of}
use Rattle.store.specs.Layout.{container_start, word_at}
use Rattle.formed.specs.Words.{label_in}
use Rattle.formed.proofs.Reading.{formed-head}
use Rattle.sealing.proofs.SealingLaws.{begun}
use Rattle.entries.proofs.Trials.{container-within}
use Rattle.entries.proofs.FormedEntries.{formed-slots}
use Rattle.entry_blocks.proofs.BlockLaws.{labels-summed, container-block}
use Rattle.entry_blocks.proofs.FormedParts.{container-fits, container-count}
use Rattle.entry_blocks.proofs.ContainerSlotFiled.write_entry.Goals as goal

pub labels_of-labels-requires : goal.labels_of-labels-requires
labels_of-labels-requires c = let ok = c.requires.0 in container-within _ ok.whole (formed-slots _ ok) _ c.requires.1

pub put_two-kind-requires : goal.put_two-kind-requires
put_two-kind-requires c = (begun c.requires.3, omega arith, omega arith, omega (arith, formed-head _ c.requires.0 _ c.requires.1))

pub put_labels-sum-requires : goal.put_labels-sum-requires
put_labels-sum-requires c = (container-fits _ c.requires.0 _ c.requires.1 c.labels_of-labels.ensures.words, c.put_two-unused.ensures.summed)

pub seal-requires : goal.seal-requires
seal-requires c = labels-summed c.labels_of-labels.result.now c.put_labels-sum.ensures

pub returns : goal.returns
returns c =
    let m = c.args.memory.now in
    let words = c.labels_of-labels.result.now in
    let n = word_at m (container_start c.args.self.0) - 1 in
    let count : length words ≡ n = container-count m c.requires.0 _ c.requires.1 c.labels_of-labels.ensures.words in
    container-block (map label_in words) n (length-map words label_in ∙ count)
    c.put_two-kind.ensures c.put_two-unused.ensures c.put_labels-sum.ensures (c.seal.ensures ∙ ap (λ k. sealed (take (4 + 4 * k) c.put_labels-sum.new.block)) count)
    ∙ ap (λ x. block_of (container x)) c.labels_of-labels.ensures.labels
