-- A row of a free slot joins those that have to be empty, another those that have to be part of what stands.
use mathlib.Core.Path.{sym, ap, ◌∙◌}
use mathlib.Core.Bool.{not}
use Rattle.bitrow.specs.Bit.{bit_at}
use Rattle.bitrow.specs.Set.{part, has_some}
use Rattle.formed.proofs.Rows.{row-free, row-owned}
use Rattle.word_tests.specs.Joined.{rows_ok}
use Rattle.word_tests.proofs.Rows.{free-more, owned-more}
use Rattle.word_tests.proofs.Joined.with.Goals as goal

pub returns-then-owner-eq0 : goal.returns-then-owner-eq0
unfolding rows_ok
returns-then-owner-eq0 c = λ s.
    let x = c.args.self in
    free-more (part (bit_at x.owned) s) (bit_at x.free) (bit_at c.row_at-row.result) _ c.either-free.ensures
    (ap (λ row. not (has_some (bit_at row))) c.row_at-row.ensures ∙ sym (row-free _ s _ _ c.if-owner-eq0.true))

pub returns : goal.returns
unfolding rows_ok
returns c = λ s.
    let x = c.args.self in
    owned-more (not (has_some (bit_at x.free))) (bit_at x.owned) (bit_at c.row_at-row.result) _ s c.either-owned.ensures
    (ap (λ row. part (bit_at row) s) c.row_at-row.ensures ∙ sym (row-owned _ s _ _ c.if-owner-eq0.false))
