-- Both select someone, and both allow, but no one in common.
use mathlib.Core.Path.{ap, ◌∙◌}
use mathlib.Core.Bool.{not}
use Rattle.bitrow.specs.Set.{has_some}
use Rattle.policy_pairs.proofs.CodeTests.{conflict-test}
use Rattle.policy_pairs.proofs.conflict_at.Goals as goal

pub one_direction-one_way-requires : goal.one_direction-one_way-requires
one_direction-one_way-requires c = let p = c.requires in (p.0.at, p.1)

pub stored_set-who-requires : goal.stored_set-who-requires
stored_set-who-requires c = let b = c.requires.1 in b.below

pub stored_set-whom-requires : goal.stored_set-whom-requires
stored_set-whom-requires c = let b = c.requires.1 in b.below

pub returns : goal.returns
returns c =
    conflict-test _ _ _ c.requires.0 _ _ c.stored_set-who.ensures c.stored_set-whom.ensures c.one_direction-one_way.ensures
    (c.is_empty-apart.ensures ∙ ap (λ s. not (has_some s)) c.both.ensures) c.is_empty-idle.ensures (c.is_empty-disjoint.ensures ∙ ap (λ s. not (has_some s)) c.both-2.ensures)
