-- What is in a row or is i.
use mathlib.Core.Path.{sym, ap, ◌∙◌}
use Rattle.bitrow.specs.Bit.{bit_at}
use Rattle.bitrow.specs.Set.{nothing, insert, join}
use Rattle.bitrow.proofs.Sets.{join-comm, nothing-join, insert-join}
use Rattle.row_sets.proofs.with.Goals as goal

pub returns : goal.returns
returns c =
    let s = bit_at c.args.row in
    let i = c.args.i in
    c.either.ensures ∙ ap (join s) c.only.ensures ∙ join-comm s (insert i nothing) ∙ sym (insert-join i nothing s) ∙ ap (insert i) (nothing-join s)
