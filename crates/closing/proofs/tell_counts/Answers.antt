-- Rebuilt, the memory is well formed.
use Rattle.formed.proofs.Formed.{formed-entries}
use Rattle.sheets.proofs.Kept.{rebuilt-formed}
use Rattle.closing.proofs.tell_counts.Goals as goal

pub rebuild-requires : goal.rebuild-requires
rebuild-requires c = formed-entries _ c.requires.0

pub counts_in-counts-requires : goal.counts_in-counts-requires
counts_in-counts-requires c = rw c.rebuild.ensures (rebuilt-formed _ c.requires.0)
