-- Each turn is lent some input, or that it has ended, and so the state has less ahead. The steps so far lead from where it began to here.
use Rattle.std.proofs.Common.{◌≡◌, ◌<◌, length}
use Rattle.sheets.specs.Step.{started_in, ahead, Ready}
use Rattle.streams.specs.Bytes.{Within, unread, to_come}
use Rattle.lister.specs.Steps.{place, WentTo}
use Rattle.lister.proofs.finish.Given as goal

abbrev pub invariant-loop-none : goal.invariant-loop-none
invariant-loop-none g l = record {
  kept : length l.none ≡ 1;
  room : length l.text ≡ 71680;
  started : started_in l.progress.state < 512;
  ready : Ready l.progress.state l.memory;
  within : Within l.progress.input (length l.none);
  went : WentTo (place l.initial.memory l.initial.block l.initial.progress.state (unread l.initial.progress.input (g.R.Read.remaining l.initial.reader))) (place l.memory l.block l.progress.state (to_come l.none l.progress.input (g.R.Read.remaining l.reader))) (g.W.Write.contents l.initial.writer) (g.W.Write.contents l.writer);
}

abbrev pub decreases-loop-none : goal.decreases-loop-none
decreases-loop-none g l = ahead l.progress.state
