-- What the test of the table at these numbers answers.
use Rattle.call_tests.proofs.TestLaws.{stands-if}
use Rattle.call_tests.proofs.test_slot.Goals as goal

pub returns : goal.returns
returns g c =
    let is = rw (c.START.ensures, c.WORDS.ensures, c.SLOTS.ensures, c.index.ensures) at c.test_slot_at.ensures in
    let p = stands-if (g.met.S.Slot.tabled _) _ _ is in
    record { result_value = is; in_table = p.0; stands = p.1 }
