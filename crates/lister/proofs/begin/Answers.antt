use Rattle.std.proofs.Common.{◌≡◌, refl, sym, ◌∙◌, subst, length, arith, rules}
use Rattle.std.proofs.lemmas.Bool.{true≢false}
use Rattle.streams.specs.Bytes.{Within}
use Rattle.streams.proofs.Bytes.{on_err}
use Rattle.lister.proofs.Standing.{went_on, ended_there, stopped_on, at_start, within_start, out_of_buffer, ended_used}
use Rattle.lister.proofs.begin.Goals as goal

pub loop-bytes-init : goal.loop-bytes-init
loop-bytes-init g c = record {
  kept = refl;
  room = refl;
  started = rw c.start_state.ensures (omega arith);
  ready = rw c.start_state.ensures (λ z. absurd (z refl));
  within = within_start _ _ c.nothing_read.ensures;
  went = at_start _ _ _ _ _ _ _ _ c.nothing_read.ensures c.start_state.ensures;
}

pub returns-in_err-progress-clause-stopped : goal.returns-in_err-progress-clause-stopped
returns-in_err-progress-clause-stopped g c = on_err _ (stopped_on c.loop-bytes.invariant.went c.in_err-progress.ensures.stopped)

pub returns-then-ended-clause-whole : goal.returns-then-ended-clause-whole
returns-then-ended-clause-whole g c = λ over. ended_there over (went_on c.loop-bytes.invariant.went c.in_ok-progress.ensures.went)

pub returns-then-ended-clause-went : goal.returns-then-ended-clause-went
returns-then-ended-clause-went g c =
    let input = c.in_ok-progress.progress.input in
    let used = ended_used input (sym c.ended.ensures ∙ c.if-ended.true) in
    λ _. went_on (went_on c.loop-bytes.invariant.went c.in_ok-progress.ensures.went) (out_of_buffer _ _ _ input (g.R.Read.remaining c.turn.new.reader) _ c.turn.new.bytes used)

pub loop-bytes-preserved : goal.loop-bytes-preserved
loop-bytes-preserved g c =
    let kept : length c.turn.new.bytes ≡ 16384 = search rules in
    record {
      kept = kept;
      room = search rules;
      started = c.in_ok-progress.ensures.started;
      ready = c.in_ok-progress.ensures.ready;
      within = subst (Within c.in_ok-progress.progress.input) kept c.in_ok-progress.ensures.within;
      went = went_on c.loop-bytes.invariant.went c.in_ok-progress.ensures.went;
    }

pub returns-clause-whole : goal.returns-clause-whole
returns-clause-whole g c = λ over. ended_there over c.loop-bytes.invariant.went

pub returns-clause-went : goal.returns-clause-went
returns-clause-went g c = λ on. absurd (true≢false (sym (sym c.finished.ensures ∙ c.loop-bytes-test.false) ∙ on))
