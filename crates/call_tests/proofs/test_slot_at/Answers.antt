-- Each way out has learned what the two checks ask.
use mathlib.Core.Path.{sym}
use mathlib.Core.Bool.{true, false}
use borrow.Author.Tests.{le-leb, lt-leb}
use Rattle.entries.proofs.FreeSlots.{zero-is-free, taken_at}
use Rattle.call_tests.proofs.TestLaws.{test-beyond, test-within}
use Rattle.call_tests.proofs.test_slot_at.Goals as goal

pub returns-then-slots-slot : goal.returns-then-slots-slot
returns-then-slots-slot c = sym (test-beyond _ _ _ (le-leb _ _ c.if-slots-slot.true))

pub returns-then-memory-start-eq0 : goal.returns-then-memory-start-eq0
returns-then-memory-start-eq0 c = sym (test-within _ _ _ true (lt-leb _ _ c.if-slots-slot.false) (zero-is-free _ _ _ _ c.if-memory-start-eq0.true))

pub returns : goal.returns
returns c = sym (test-within _ _ _ false (lt-leb _ _ c.if-slots-slot.false) (taken_at _ _ _ _ c.if-memory-start-eq0.false))
