-- Whether two stand is told by how many do.
use mathlib.Core.Path.{sym, ap, ◌∙◌, fun_ext}
use mathlib.Core.Bool.{◌&&◌}
use Rattle.std.proofs.Common.{arith}
use borrow.Author.Tests.{lt-ltb, le-ltb}
use Rattle.bitrow.specs.Bit.{bit_at}
use Rattle.bitrow.specs.Set.{nothing}
use Rattle.container_findings.specs.Rows.{if_two_stand}
use Rattle.container_findings.proofs.if_two_stand.Goals as goal

pub returns-then-count-lt2 : goal.returns-then-count-lt2
unfolding if_two_stand nothing
returns-then-count-lt2 c =
    c.none.ensures ∙ fun_ext (λ a. sym (ap (λ t. t && bit_at c.args.row a) (le-ltb 1 _ (omega (arith, c.count.ensures, c.if-count-lt2.true)))))

pub returns : goal.returns
unfolding if_two_stand
returns c = fun_ext (λ a. sym (ap (λ t. t && bit_at c.args.row a) (lt-ltb 1 _ (omega (arith, c.count.ensures, c.if-count-lt2.false)))))
