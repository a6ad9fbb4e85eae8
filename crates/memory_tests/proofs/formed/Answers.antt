-- The code's tests together are `well_formed` (`formed`, TestsFormed): one case for each that fails.
use mathlib.Core.Path.{sym, ap, ◌∙◌}
use Rattle.formed.specs.Tests.{containers_ok, policies_ok, matrix_ok, sets_ok, tests}
use Rattle.formed.proofs.Runs.{and-fails, and-passes, said-no, said-yes}
use Rattle.formed.proofs.TestsFormed.{decided}
use borrow.Author.Rules.{rules}
use Rattle.memory_tests.proofs.formed.Goals as goal

pub returns-then-not-settings_ok : goal.returns-then-not-settings_ok
unfolding tests containers_ok policies_ok
returns-then-not-settings_ok c = let long = c.told-memory in
    decided _ long (search rules)
    (and-fails _ _ (said-no c.settings_ok.ensures c.if-not-settings_ok.true))

pub returns-then-not-slots_ok : goal.returns-then-not-slots_ok
unfolding tests containers_ok policies_ok
returns-then-not-slots_ok c = let long = c.told-memory in
    decided _ long (search rules)
    (and-passes _ _ (said-yes c.settings_ok.ensures c.if-not-settings_ok.false)
    (and-fails _ _ (said-no c.slots_ok.ensures c.if-not-slots_ok.true)))

pub returns-then-not-slots_ok-2 : goal.returns-then-not-slots_ok-2
unfolding tests containers_ok policies_ok
returns-then-not-slots_ok-2 c = let long = c.told-memory in
    decided _ long (search rules)
    (and-passes _ _ (said-yes c.settings_ok.ensures c.if-not-settings_ok.false)
    (and-passes _ _ (said-yes c.slots_ok.ensures c.if-not-slots_ok.false)
    (and-fails _ _ (said-no c.slots_ok-2.ensures c.if-not-slots_ok-2.true))))

pub returns-then-not-matrix_ok : goal.returns-then-not-matrix_ok
unfolding tests containers_ok policies_ok
returns-then-not-matrix_ok c = let long = c.told-memory in
    decided _ long (search rules)
    (and-passes _ _ (said-yes c.settings_ok.ensures c.if-not-settings_ok.false)
    (and-passes _ _ (said-yes c.slots_ok.ensures c.if-not-slots_ok.false)
    (and-passes _ _ (said-yes c.slots_ok-2.ensures c.if-not-slots_ok-2.false)
    (and-fails _ _ (said-no (c.matrix_ok.ensures ∙ ap (matrix_ok _) c.standing-standing.ensures) c.if-not-matrix_ok.true)))))

pub returns : goal.returns
unfolding tests containers_ok policies_ok
returns c = let long = c.told-memory in
    decided _ long (search rules)
    (and-passes _ _ (said-yes c.settings_ok.ensures c.if-not-settings_ok.false)
    (and-passes _ _ (said-yes c.slots_ok.ensures c.if-not-slots_ok.false)
    (and-passes _ _ (said-yes c.slots_ok-2.ensures c.if-not-slots_ok-2.false)
    (and-passes _ _ (said-yes (c.matrix_ok.ensures ∙ ap (matrix_ok _) c.standing-standing.ensures) c.if-not-matrix_ok.false)
    (sym (c.sets_ok.ensures ∙ ap (sets_ok _) c.standing-standing.ensures))))))
