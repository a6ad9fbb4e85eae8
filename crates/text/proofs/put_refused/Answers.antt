-- The three parts of the line, one behind the other.
use mathlib.Core.Path.{refl}
use Rattle.text.specs.Lines.{refused_line}
use Rattle.text.proofs.LineLaws.{puts_behind}
use Rattle.text.proofs.put_refused.Goals as goal

pub returns-clause-puts : goal.returns-clause-puts
unfolding refused_line
returns-clause-puts c = puts_behind (puts_behind c.put_named-put.ensures.puts c.put_decimal-put.ensures.puts refl) c.put_decimal.ensures.puts refl
