-- The part's trial over the standing containers is the policy's set.
use mathlib.Core.Path.{◌∙◌}
use Rattle.policy_sets.proofs.SettledPolicy.{part-within, part_set-is}
use Rattle.policy_sets.proofs.matched.Goals as goal

pub part_row-requires : goal.part_row-requires
part_row-requires c = let p = c.requires in (p.0, p.1, rw c.offset.ensures (part-within _ p.0 c.args.part))

pub returns : goal.returns
returns c =
    let p = c.requires in
    (rw (p.2, c.offset.ensures) at c.part_row.ensures) ∙ part_set-is c.args.memory.now c.args.q p.1 c.args.part
