-- Several blocks are taken after the first alone, which opened.
use Rattle.std.proofs.Common.{sym, ◌∙◌}
use Rattle.sheets.proofs.PieceLaws.{whole-several}
use Rattle.report.proofs.take.Goals as goal

pub feed_blocks-put-requires-clause-formed : goal.feed_blocks-put-requires-clause-formed
feed_blocks-put-requires-clause-formed c =
    c.requires.ready (whole-several _ _ _ _ (λ z. c.if-blocks-eq0.false (c.whole_blocks-blocks.ensures.value ∙ z))).later
