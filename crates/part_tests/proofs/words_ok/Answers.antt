-- A turn of the loop: the word fails, or the rest decides.
use Rattle.std.proofs.Common.{sym, ◌∙◌}
use Rattle.formed.proofs.Runs.{said-no, said-yes}
use Rattle.part_tests.proofs.Turns.{words-left, zero-skip, zero-hit, label-skip, label-hit, none-left}
use Rattle.part_tests.proofs.words_ok.Goals as goal

pub returns-then-w-ne0 : goal.returns-then-w-ne0
returns-then-w-ne0 c =
    let l = c.loop-i in
    sym (zero-hit _ _ l.last l.i _ c.loop-i-test.true c.if-end-i.true c.if-w-ne0.true)
    ∙ sym l.invariant ∙ words-left _ _ c.requires.0 c.requires.1

pub loop-i-preserved-then-end-i : goal.loop-i-preserved-then-end-i
loop-i-preserved-then-end-i c =
    let l = c.loop-i in
    l.invariant ∙ zero-skip _ _ l.last l.i _ c.loop-i-test.true c.if-end-i.true c.if-w-ne0.false

pub returns-then-not-follows : goal.returns-then-not-follows
returns-then-not-follows c =
    let l = c.loop-i in
    sym (label-hit _ _ l.last l.i _ c.loop-i-test.true c.if-end-i.false (said-no c.follows.ensures c.if-not-follows.true))
    ∙ sym l.invariant ∙ words-left _ _ c.requires.0 c.requires.1

pub loop-i-preserved : goal.loop-i-preserved
loop-i-preserved c =
    let l = c.loop-i in
    l.invariant ∙ label-skip _ _ l.last l.i _ c.loop-i-test.true c.if-end-i.false (said-yes c.follows.ensures c.if-not-follows.false)

pub returns : goal.returns
returns c =
    let l = c.loop-i in
    sym (none-left _ _ l.last l.i _ c.loop-i-test.false) ∙ sym l.invariant ∙ words-left _ _ c.requires.0 c.requires.1
