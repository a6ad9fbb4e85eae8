-- Two numbers and the labels of both parts, one behind the other, are the policy's front.
use Rattle.std.proofs.Common.{◌≡◌, ◌∙◌, sym, ap, ap₂, subst, ℕ, List, ◌+◌, ◌*◌, ◌-◌, ◌≤◌, length, map, take, arith}
use Rattle.std.proofs.lemmas.List.{length-map}
use Rattle.block.specs.Entry.{Label}
use Rattle.block.specs.Written.{label_bytes, sealed}
use Rattle.store.specs.Layout.{word_at, policy_start, select_offset, allow_offset}
use Rattle.formed.specs.Words.{label_in, policy_at}
use Rattle.sealing.specs.Sealing.{Lengthens}
use Rattle.sealing.proofs.SealingLaws.{begun}
use Rattle.entry_blocks.proofs.BlockLaws.{labels-summed, policy-block}
use Rattle.entry_blocks.proofs.FormedParts.{select-within-it, allow-within-it, select-fits, allow-fits, select-count, allow-count, standing-direction, standing-heads}
use Rattle.entry_blocks.proofs.PolicySlotFiled.write_entry.Goals as goal

pub labels_of-select-requires : goal.labels_of-select-requires
labels_of-select-requires c = select-within-it _ c.requires.0 _ c.requires.1

pub labels_of-allow-requires : goal.labels_of-allow-requires
labels_of-allow-requires c = allow-within-it _ c.requires.0 _ c.requires.1

pub overflow_sub-selects : goal.overflow_sub-selects
overflow_sub-selects c = (standing-heads _ c.requires.0 _ c.requires.1 c.requires.2).select.0

pub overflow_sub-allows : goal.overflow_sub-allows
overflow_sub-allows c = (standing-heads _ c.requires.0 _ c.requires.1 c.requires.2).allow.0

pub put_two-direction-requires : goal.put_two-direction-requires
put_two-direction-requires c = (begun c.requires.3, omega arith, omega arith, omega (arith, standing-heads _ c.requires.0 _ c.requires.1 c.requires.2))

pub put_two-counts-requires : goal.put_two-counts-requires
put_two-counts-requires c =
    let heads = standing-heads _ c.requires.0 _ c.requires.1 c.requires.2 in
    (c.put_two-direction.ensures.summed, omega arith, omega (arith, heads), omega (arith, heads))

pub put_labels-selected-requires : goal.put_labels-selected-requires
put_labels-selected-requires c = (select-fits _ c.requires.0 _ c.requires.1 c.labels_of-select.ensures.words, c.put_two-counts.ensures.summed)

pub put_labels-allowed-requires : goal.put_labels-allowed-requires
put_labels-allowed-requires c =
    let count = select-count _ c.requires.0 _ c.requires.1 c.labels_of-select.ensures.words in
    let few : 4 + 4 * length c.labels_of-select.result.now ≤ 20 = omega (arith, count, standing-heads _ c.requires.0 _ c.requires.1 c.requires.2) in
    (allow-fits _ c.requires.0 _ c.requires.1 _ few c.labels_of-allow.ensures.words, labels-summed c.labels_of-select.result.now c.put_labels-selected.ensures)

pub seal-requires : goal.seal-requires
seal-requires c = labels-summed c.labels_of-allow.result.now c.put_labels-allowed.ensures

pub returns : goal.returns
unfolding policy_at
returns c =
    let m = c.args.memory.now in
    let q = c.args.self.0 in
    let ok = c.requires.0 in
    let h = c.requires.1 in
    let select = c.labels_of-select in
    let allow = c.labels_of-allow in
    let s = word_at m (policy_start q + select_offset) - 1 in
    let a = word_at m (policy_start q + allow_offset) - 1 in
    let selects : length select.result.now ≡ s = select-count m ok q h select.ensures.words in
    let allows : length allow.result.now ≡ a = allow-count m ok q h allow.ensures.words in
    policy-block (policy_at m q) _ s a (standing-direction m ok q h c.requires.2)
    (ap length (sym select.ensures.labels) ∙ length-map select.result.now label_in ∙ selects)
    (ap length (sym allow.ensures.labels) ∙ length-map allow.result.now label_in ∙ allows)
    c.put_two-direction.ensures c.put_two-counts.ensures
    (subst (λ (ls : List Label). Lengthens c.put_two-counts.new.block 4 (label_bytes ls) c.put_labels-selected.new.block c.put_labels-selected.result) select.ensures.labels c.put_labels-selected.ensures)
    (subst (λ (ls : List Label). Lengthens c.put_labels-selected.new.block (4 + 4 * s) (label_bytes ls) c.put_labels-allowed.new.block c.put_labels-allowed.result) allow.ensures.labels
    (subst (λ (k : ℕ). Lengthens c.put_labels-selected.new.block (4 + 4 * k) (label_bytes (map label_in allow.result.now)) c.put_labels-allowed.new.block c.put_labels-allowed.result) selects c.put_labels-allowed.ensures))
    (c.seal.ensures ∙ ap₂ (λ (i j : ℕ). sealed (take (4 + 4 * i + 4 * j) c.put_labels-allowed.new.block)) selects allows)
