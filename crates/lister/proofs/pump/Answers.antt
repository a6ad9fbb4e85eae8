use Rattle.std.proofs.Common.{sym, ◌∙◌}
use Rattle.std.proofs.lemmas.Result.{on_ok_weaker, on_err_weaker}
use Rattle.streams.proofs.Bytes.{on_err}
use Rattle.lister.proofs.Standing.{ended_on, stopped_on, whole, part}
use Rattle.lister.proofs.pump.Goals as goal

pub returns-in_err-begun-clause-part : goal.returns-in_err-begun-clause-part
returns-in_err-begun-clause-part g c = on_err _ (part _ _ c.told-memory c.told-block _ _ _ c.in_err-begun.ensures.stopped)

pub returns-then-finished-clause-whole : goal.returns-then-finished-clause-whole
returns-then-finished-clause-whole g c = whole _ _ c.told-memory c.told-block _ _ _ (c.in_ok-begun.ensures.whole (sym c.finished.ensures ∙ c.if-finished.true))

pub returns-clause-whole : goal.returns-clause-whole
returns-clause-whole g c =
    let went = c.in_ok-begun.ensures.went (sym c.finished.ensures ∙ c.if-finished.false) in
    on_ok_weaker _ (λ e. whole _ _ c.told-memory c.told-block (g.R.Read.remaining c.args.reader.now) (g.W.Write.contents c.args.writer.now) (g.W.Write.contents c.finish.new.writer) (ended_on went e)) c.finish.ensures.ended

pub returns-clause-part : goal.returns-clause-part
returns-clause-part g c =
    let went = c.in_ok-begun.ensures.went (sym c.finished.ensures ∙ c.if-finished.false) in
    on_err_weaker _ (λ e. part _ _ c.told-memory c.told-block (g.R.Read.remaining c.args.reader.now) (g.W.Write.contents c.args.writer.now) (g.W.Write.contents c.finish.new.writer) (stopped_on went e)) c.finish.ensures.stopped
