-- Two cases of the rule: some policy selects a, or none does and all are let.
use mathlib.Core.Path.{refl, ◌∙◌}
use Rattle.rules.proofs.Unions.{lets-chosen, lets-free}
use Rattle.rules.proofs.outward.Goals as goal

pub returns-in-Some : goal.returns-in-Some
returns-in-Some c = c.both.ensures ∙ lets-chosen _ c.in-Some.ensures refl

pub returns-in-None : goal.returns-in-None
returns-in-None c = lets-free _ c.in-None.ensures refl
