-- A free slot is zeros, a taken one a direction and two parts.
use Rattle.std.proofs.Common.{◌∙◌, refl, sym, ◌+◌, arith}
use borrow.Author.Tests.{eq-eqb, ne_eqb, le-leb, lt-leb}
use Rattle.store.specs.Layout.{policy_start, policy_words, select_offset, allow_offset}
use Rattle.formed.specs.Tests.{policy_ok}
use Rattle.formed.proofs.Runs.{choose_yes, choose_no, and-fails, and-passes, said-no, said-yes}
use Rattle.part_tests.proofs.Slices.{zeros-slice, part-slice}
use Rattle.entry_tests.proofs.PolicySlotTested.ok.Goals as goal

pub returns-then-direction-eq0 : goal.returns-then-direction-eq0
unfolding policy_ok
returns-then-direction-eq0 c =
    let m = c.args.memory.now in
    let at = policy_start c.args.self.0 in
    c.zeros.ensures ∙ zeros-slice m at (at + policy_words) (omega arith)
    ∙ sym (choose_yes _ _ _ (eq-eqb _ _ c.if-direction-eq0.true) refl)

pub returns-then-direction-gt2 : goal.returns-then-direction-gt2
unfolding policy_ok
returns-then-direction-gt2 c = sym (choose_no _ _ _ (ne_eqb _ _ c.if-direction-eq0.false) (and-fails _ _ (lt-leb _ _ c.if-direction-gt2.true)))

pub returns-then-not-part_ok : goal.returns-then-not-part_ok
unfolding policy_ok
returns-then-not-part_ok c =
    let m = c.args.memory.now in
    let at = policy_start c.args.self.0 in
    let e = c.part_ok.ensures ∙ part-slice m (at + select_offset) (at + allow_offset) 4 (omega arith) (omega arith) in
    sym (choose_no _ _ _ (ne_eqb _ _ c.if-direction-eq0.false) (and-passes _ _ (le-leb _ _ c.if-direction-gt2.false) (and-fails _ _ (said-no e c.if-not-part_ok.true))))

pub returns : goal.returns
unfolding policy_ok
returns c =
    let m = c.args.memory.now in
    let at = policy_start c.args.self.0 in
    let e = c.part_ok.ensures ∙ part-slice m (at + select_offset) (at + allow_offset) 4 (omega arith) (omega arith) in
    c.part_ok-2.ensures ∙ part-slice m (at + allow_offset) (at + policy_words) 4 (omega arith) (omega arith)
    ∙ sym (choose_no _ _ _ (ne_eqb _ _ c.if-direction-eq0.false) (and-passes _ _ (le-leb _ _ c.if-direction-gt2.false) (and-passes _ _ (said-yes e c.if-not-part_ok.false) refl)))
