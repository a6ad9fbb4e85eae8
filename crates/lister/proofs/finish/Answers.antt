use Rattle.std.proofs.Common.{refl, sym, ◌∙◌, rules}
use Rattle.streams.proofs.Bytes.{on_err}
use Rattle.lister.proofs.Standing.{went_on, ended_there, stopped_on, into_buffer, ended_used, ended_within}
use Rattle.lister.proofs.finish.Goals as goal

pub loop-none-init : goal.loop-none-init
loop-none-init g c = record {
  kept = refl;
  room = refl;
  started = c.requires.started;
  ready = c.requires.ready;
  within = ended_within c.args.begun.input _ c.requires.ended;
  went = into_buffer _ _ _ c.args.begun.input (g.R.Read.remaining c.args.reader.now) _ _ (ended_used c.args.begun.input c.requires.ended);
}

pub returns-in_err-progress-clause-stopped : goal.returns-in_err-progress-clause-stopped
returns-in_err-progress-clause-stopped g c = on_err _ (stopped_on c.loop-none.invariant.went c.in_err-progress.ensures.stopped)

pub loop-none-preserved : goal.loop-none-preserved
loop-none-preserved g c = record {
  kept = search rules;
  room = search rules;
  started = c.in_ok-progress.ensures.started;
  ready = c.in_ok-progress.ensures.ready;
  within = c.in_ok-progress.ensures.within;
  went = went_on c.loop-none.invariant.went c.in_ok-progress.ensures.went;
}

pub returns-clause-ended : goal.returns-clause-ended
returns-clause-ended g c = ended_there (sym c.finished.ensures ∙ c.loop-none-test.false) c.loop-none.invariant.went
