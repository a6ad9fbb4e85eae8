use borrow.Author.Rules.{rules}
use borrow.Author.Tests.{tests}
use mathlib.Core.Path.{sym, ap, ◌∙◌}
use native.Mathlib.Nat.{sub-zero}
use Rattle.std.proofs.lemmas.Iterator.{YieldsList-from_range}
use Rattle.std.proofs.lemmas.Iterator.Search.{all_from_yields_List}
use Rattle.formed.proofs.Listed.{between-listed}
use Rattle.entry_tests.proofs.slots_ok.Goals as goal

pub returns : goal.returns
returns g c =
    all_from_yields_List (g.S.Tested.ok c.args.memory.now) _ _ c.all.result c.all.ensures.ran
    (YieldsList-from_range 0 g.S.Slot.SLOTS g.S.Slot.SLOTS (ap (λ n. record { start = 0; end = n }) c.SLOTS.ensures) (sub-zero g.S.Slot.SLOTS))
    (λ x b q k. let e = g.met.S.Slot.index_of_at x in search (rules, tests))
    ∙ sym (between-listed (g.S.Tested.ok c.args.memory.now) g.S.Slot.SLOTS)
