-- The subset of connections, told by each of the two sets; most pairs differ in the first.
use mathlib.Core.Path.{sym, ◌∙◌}
use Rattle.policy_pairs.proofs.CodeTests.{shadow-test, shadow-apart}
use Rattle.policy_pairs.proofs.shadow_at.Goals as goal

pub one_direction-one_way-requires : goal.one_direction-one_way-requires
one_direction-one_way-requires c = let p = c.requires in (p.0.at, p.1)

pub stored_set-who-requires : goal.stored_set-who-requires
stored_set-who-requires c = let b = c.requires.1 in b.below

pub stored_set-whom-requires : goal.stored_set-whom-requires
stored_set-whom-requires c = let b = c.requires.1 in b.below

pub returns-then-not-part_of : goal.returns-then-not-part_of
returns-then-not-part_of c =
    shadow-apart _ _ _ c.requires.0 _ _ c.stored_set-who.ensures c.stored_set-whom.ensures c.one_direction-one_way.ensures
    c.part_of.ensures c.if-not-part_of.true

pub returns : goal.returns
returns c =
    shadow-test _ _ _ c.requires.0 _ _ c.stored_set-who.ensures c.stored_set-whom.ensures c.one_direction-one_way.ensures
    (sym c.if-not-part_of.false ∙ c.part_of.ensures) c.part_of-under.ensures c.part_of-2.ensures c.part_of-3.ensures
