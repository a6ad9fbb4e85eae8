-- A line is the meet of what both directions let, and a itself, where a stands, and empty where it does not.
use mathlib.Core.Path.{sym, ◌∙◌}
use Rattle.rules.proofs.Unions.{line-meet-these, line-free}
use Rattle.rules.proofs.row_by_rules.Goals as goal

pub returns-then-not-has : goal.returns-then-not-has
returns-then-not-has c = c.none.ensures ∙ line-free 128 _ _ _ _ _ _ (sym c.has.ensures ∙ c.if-not-has.true)

pub returns : goal.returns
returns c = line-meet-these 128 _ _ _ _ _ _ (sym c.has.ensures ∙ c.if-not-has.false) c.outward-there.ensures c.inward-others.ensures c.with.ensures
