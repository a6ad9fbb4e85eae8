-- The slot made free, its sets with it, then the bits that the policy touched.
use mathlib.Core.Path.{refl, sym, ◌∙◌}
use mathlib.Core.Option.{none}
use Rattle.model.specs.Model.{computed_bits}
use Rattle.entries.proofs.Trials.{policy-at}
use Rattle.policy_changes.proofs.PolicyChanged.{slot-freed, held-entries, held-standing, held-selection, direction-stored, selected-selection, change-entries, change-standing, change-selection, change-stored, change-done, change-over}
use Rattle.policy_changes.proofs.take_policy.Goals as goal

pub settle-requires : goal.settle-requires
settle-requires c =
    let p = c.requires in
    let held = slot-freed _ p.0 _ p.1 c.fits-memory c.clear_slot.ensures in
    (held-entries _ p.0 _ p.1 none refl held, p.1, c.standing-standing.ensures ∙ held-standing _ p.0 _ p.1 none refl held)

pub reset_touched-requires : goal.reset_touched-requires
reset_touched-requires c =
    let p = c.requires in
    let held = slot-freed _ p.0 _ p.1 c.fits-memory c.clear_slot.ensures in
    let changed = c.settle.ensures.0 in record {
      entries_formed = (
        change-entries _ p.0 _ p.1 none refl held changed,
        c.standing-standing.ensures ∙ change-standing _ p.0 _ p.1 none refl held changed,
      );
      q_bound = (p.1, change-stored _ p.0 _ p.1 none refl held changed);
    }

pub returns-then-is_empty : goal.returns-then-is_empty
unfolding computed_bits
returns-then-is_empty c =
    let p = c.requires in
    let held = slot-freed _ p.0 _ p.1 c.fits-memory c.clear_slot.ensures in
    let emptied = c.settle.ensures.0 in
    let still = c.matched-selected.ensures ∙ selected-selection _ _ _ (policy-at _ _ p.2) ∙ held-selection _ p.0 _ p.1 none refl held _ ∙ change-selection _ p.0 _ p.1 none refl held emptied _ in
    change-over _ p.0 _ p.1 none refl held emptied _ still (sym c.is_empty.ensures ∙ c.if-is_empty.true)

pub returns : goal.returns
unfolding computed_bits
returns c =
    let p = c.requires in
    let held = slot-freed _ p.0 _ p.1 c.fits-memory c.clear_slot.ensures in
    let changed = c.settle.ensures.0 in let still = c.matched-selected.ensures ∙ selected-selection _ _ _ (policy-at _ _ p.2) ∙ held-selection _ p.0 _ p.1 none refl held _ ∙ change-selection _ p.0 _ p.1 none refl held changed _ in
    change-done _ p.0 _ p.1 none refl held changed _
    (c.reset_touched.ensures.is _ (c.from-direction.ensures ∙ direction-stored _ p.0 _ p.1 _ (policy-at _ _ p.2)) still)
