-- The sets by the entries, the row and the column by the rules, and `holding` give the bits that are stored.
use borrow.Author.Rules.{rules}
use Rattle.sets.proofs.Candidates.{none-known, empty-rows}
use Rattle.container_changes.proofs.ContainerLaws.{bits-by-rules, refresh-done}
use Rattle.container_changes.proofs.refresh.Goals as goal

pub fill_sets-requires : goal.fill_sets-requires
fill_sets-requires c = record { entries_formed = (c.requires.0, c.standing-standing.ensures); known_sets = none-known (empty-rows 128) (empty-rows 128) }

pub store_bits-requires : goal.store_bits-requires
store_bits-requires c = c.requires.1

pub returns : goal.returns
returns c =
    let p = c.requires in
    refresh-done _ p.0 c.fits-memory _ p.1 (λ k. search rules)
    (bits-by-rules _ _ c.cross_of-cross.ensures.0 c.cross_of-cross.ensures.1 c.fill_sets.ensures c.holding-selecting.ensures c.holding-allowing.ensures)
    c.store_bits.ensures
