-- Each turn is lent some input, or that it has ended, and so the state has less ahead. The steps so far lead from the start to here.
use Rattle.std.proofs.Common.{◌≡◌, ◌<◌, length}
use Rattle.sheets.specs.Step.{start_state, started_in, ahead, Ready}
use Rattle.streams.specs.Bytes.{Within, to_come}
use Rattle.lister.specs.Steps.{place, WentTo}
use Rattle.lister.proofs.begin.Given as goal

abbrev pub invariant-loop-bytes : goal.invariant-loop-bytes
invariant-loop-bytes g l = record {
  kept : length l.bytes ≡ 16384;
  room : length l.lines ≡ 4096;
  started : started_in l.progress.state < 512;
  ready : Ready l.progress.state l.memory;
  within : Within l.progress.input 16384;
  went : WentTo (place l.initial.memory l.initial.block start_state (g.R.Read.remaining l.initial.reader)) (place l.memory l.block l.progress.state (to_come l.bytes l.progress.input (g.R.Read.remaining l.reader))) (g.W.Write.contents l.initial.writer) (g.W.Write.contents l.writer);
}

abbrev pub decreases-loop-bytes : goal.decreases-loop-bytes
decreases-loop-bytes g l = ahead l.progress.state
