-- Every slot lies within the memory.
use Rattle.entries.proofs.Trials.{container-within}
use Rattle.entries.proofs.FormedEntries.{formed-slots}
use Rattle.container_findings.proofs.look_up.Goals as goal

pub word_under-requires : goal.word_under-requires
word_under-requires c = let p = c.requires in container-within _ p.whole (formed-slots _ p) _ c.loop-c-test.true
