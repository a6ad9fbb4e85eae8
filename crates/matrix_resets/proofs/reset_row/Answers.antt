-- The bits kept and the bits by the rules are the masked row.
use borrow.Author.Rules.{rules}
use mathlib.Core.Path.{ap, ap₂, ◌∙◌}
use Rattle.bitrow.specs.Bit.{bit_at}
use Rattle.bitrow.specs.Set.{join, less}
use Rattle.matrix_resets.proofs.RowResets.{row-reset}
use Rattle.matrix_resets.proofs.reset_row.Goals as goal

pub returns : goal.returns
returns c =
    let x = c.args in
    row-reset x.memory.now c.either-row.result x.a (bit_at x.columns) _ c.requires
    (c.either-row.ensures
    ∙ ap₂ join (c.except.ensures ∙ ap (λ l. less (bit_at l) (bit_at x.columns)) c.row_at-old.ensures)
    c.both.ensures)
    (λ k. search rules) c.set_row.ensures
