-- The table and its rows, then one fill for each of the two parts.
use Rattle.sets.proofs.Candidates.{selects-within, allows-within, selected-known, allowed-known, selected-rows, allowed-rows, empty-rows}
use Rattle.all_sets.proofs.fill_by_labels.Goals as goal

pub mark_all-requires : goal.mark_all-requires
mark_all-requires c = (c.requires.entries_formed.0, empty-rows 1024)

pub fill-requires : goal.fill-requires
fill-requires c =
    let p = c.requires in
    record {
      entries_formed = (p.entries_formed.0, selects-within _ p.entries_formed.0, c.mark_all.ensures.marked);
      empty_but = selected-known _ p.entries_formed.1 p.known_sets.selected;
    }

pub fill-requires-2 : goal.fill-requires-2
fill-requires-2 c =
    let p = c.requires in
    record {
      entries_formed = (p.entries_formed.0, allows-within _ p.entries_formed.0, c.mark_all.ensures.marked);
      empty_but = allowed-known _ p.entries_formed.1 p.known_sets.allowed;
    }

pub returns : goal.returns
returns c =
    let e = c.requires.entries_formed.1 in
    record { selected = selected-rows _ e c.fill.ensures; allowed = allowed-rows _ e c.fill-2.ensures }
