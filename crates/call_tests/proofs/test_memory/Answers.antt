-- Each way out has learned what the two checks ask: the length, then the well-formedness.
use mathlib.Core.Path.{sym}
use mathlib.Core.Bool.{true, false}
use Rattle.formed.proofs.Formed.{formed-entries}
use Rattle.formed.proofs.Runs.{said-no, said-yes}
use Rattle.call_tests.proofs.TestLaws.{test-size, test-formed}
use Rattle.call_tests.proofs.test_memory.Goals as goal

pub returns-then-memory-ne-WORDS-clause-result_value : goal.returns-then-memory-ne-WORDS-clause-result_value
returns-then-memory-ne-WORDS-clause-result_value c = sym (test-size _ c.if-memory-ne-WORDS.true)

pub returns-then-not-well_formed-clause-result_value : goal.returns-then-not-well_formed-clause-result_value
returns-then-not-well_formed-clause-result_value c = sym (test-formed _ false c.if-memory-ne-WORDS.false (said-no c.well_formed-2.ensures c.if-not-well_formed.true))

pub returns : goal.returns
returns c =
    let formed = said-yes c.well_formed-2.ensures c.if-not-well_formed.false in
    record { result_value = sym (test-formed _ true c.if-memory-ne-WORDS.false formed); formed = formed; entries = formed-entries _ formed }
