-- The slot's words, the sets of the policy, then the bits that it touches.
use mathlib.Core.Path.{sym, ◌∙◌}
use mathlib.Core.Option.{some}
use Rattle.block.proofs.Accepted.{accepted-valid}
use Rattle.policy_changes.proofs.PolicyChanged.{held-entries, held-standing, held_at, direction-stored, selected-selection, change-entries, change-standing, change-selection, change-stored, change-done, change-over}
use Rattle.policy_changes.proofs.put_policy.Goals as goal

pub settle-selected-requires : goal.settle-selected-requires
settle-selected-requires c =
    let p = c.requires in
    let v = accepted-valid _ _ _ p.2 in
    (held-entries _ p.0 _ p.1 (some _) v c.place_policy.ensures, p.1, c.standing-standing.ensures ∙ held-standing _ p.0 _ p.1 (some _) v c.place_policy.ensures)

pub reset_touched-requires : goal.reset_touched-requires
reset_touched-requires c =
    let p = c.requires in
    let v = accepted-valid _ _ _ p.2 in
    let changed = c.settle-selected.ensures.0 in record {
      entries_formed = (
        change-entries _ p.0 _ p.1 (some _) v c.place_policy.ensures changed,
        c.standing-standing.ensures ∙ change-standing _ p.0 _ p.1 (some _) v c.place_policy.ensures changed,
      );
      q_bound = (p.1, change-stored _ p.0 _ p.1 (some _) v c.place_policy.ensures changed);
    }

pub returns-then-is_empty : goal.returns-then-is_empty
returns-then-is_empty c =
    let p = c.requires in
    let v = accepted-valid _ _ _ p.2 in
    let h = held_at _ p.0 _ p.1 (some _) v c.place_policy.ensures in
    let changed = c.settle-selected.ensures.0 in
    change-over _ p.0 _ p.1 (some _) v c.place_policy.ensures changed _
    (c.settle-selected.ensures.1 ∙ selected-selection _ _ _ h ∙ change-selection _ p.0 _ p.1 (some _) v c.place_policy.ensures changed _) (sym c.is_empty.ensures ∙ c.if-is_empty.true)

pub returns : goal.returns
returns c =
    let p = c.requires in
    let v = accepted-valid _ _ _ p.2 in
    let changed = c.settle-selected.ensures.0 in
    let h = held_at _ p.0 _ p.1 (some _) v c.place_policy.ensures in
    change-done _ p.0 _ p.1 (some _) v c.place_policy.ensures changed _
    (c.reset_touched.ensures.is _ (c.from-direction.ensures ∙ direction-stored _ (held-entries _ p.0 _ p.1 (some _) v c.place_policy.ensures) _ p.1 _ h)
    (c.settle-selected.ensures.1 ∙ selected-selection _ _ _ h ∙ change-selection _ p.0 _ p.1 (some _) v c.place_policy.ensures changed _))
