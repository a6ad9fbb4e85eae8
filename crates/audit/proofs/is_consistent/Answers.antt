use Rattle.sets.proofs.Candidates.{none-known}
use borrow.Author.Rules.{rules}
use borrow.Author.Tests.{tests}
use mathlib.Core.Path.{refl, sym, ap, ◌∙◌}
use Rattle.std.proofs.lemmas.Iterator.{YieldsList-from_range}
use Rattle.std.proofs.lemmas.Iterator.Search.{all_from_yields_List}
use Rattle.bitrow.specs.Bit.{bit_at}
use Rattle.store.specs.Layout.{row_count}
use Rattle.audit.proofs.AuditLaws.{ruled_row, row-told, consistent-rows}
use Rattle.audit.proofs.is_consistent.Goals as goal

pub gather-requires : goal.gather-requires
gather-requires c =
    let u = c.ungathered-gathered.ensures in record {
      entries_formed = (c.requires, ap bit_at u.standing ∙ c.standing-standing.ensures);
      known_sets = none-known u.selected u.allowed;
      empty = (u.out, u.back);
    }

pub returns : goal.returns
returns c =
    all_from_yields_List (ruled_row c.args.memory.now) _ _ c.all.result c.all.ensures.ran (YieldsList-from_range 0 row_count row_count refl refl)
    (λ x b q k. search (rules, tests, row-told c.args.memory.now c.gather.ensures c.standing-standing.ensures))
    ∙ sym (consistent-rows _ c.requires)
