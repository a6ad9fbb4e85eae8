-- What is told without the sets is told by the definitions: of different directions there is neither, and no conflict at or below a.
use mathlib.Core.Path.{sym, ap, ◌∙◌}
use Rattle.model.specs.Kinds.{kind_number}
use Rattle.policy_pairs.proofs.ComparisonLaws.{comparison-5, comparison-6, comparison-apart, comparison-below, not-shadow}
use Rattle.policy_pairs.proofs.compare.Goals as goal

pub returns-then-not-one_direction : goal.returns-then-not-one_direction
returns-then-not-one_direction c = sym (comparison-apart _ _ _ _ (sym c.one_direction.ensures ∙ c.if-not-one_direction.true))

pub returns-in-Shadow : goal.returns-in-Shadow
returns-in-Shadow c = c.shadow_at.ensures ∙ sym (comparison-5 _ _ _ _ (ap kind_number c.in-Shadow.is))

pub returns-in_default : goal.returns-in_default
returns-in_default c = sym (comparison-below _ _ _ _ (not-shadow _ c.in_default.not-Shadow) c.if-b-own.true)

pub returns-in_default-2 : goal.returns-in_default-2
returns-in_default-2 c = c.conflict_at.ensures ∙ sym (comparison-6 _ _ _ _ (not-shadow _ c.in_default.not-Shadow))
