-- All is gathered, what came touches is found, and the rows are set; where nothing came the memory is left.
use mathlib.Core.Path.{sym, ap, ◌∙◌}
use borrow.Author.Rules.{rules}
use borrow.Author.Tests.{not-true}
use Rattle.bitrow.specs.Bit.{bit_at}
use Rattle.bitrow.proofs.Rows.{row-bounded}
use Rattle.formed.specs.Registry.{registry_in, image}
use Rattle.formed.proofs.Formed.{formed-memory, formed-entries}
use Rattle.sets.proofs.Candidates.{none-known}
use Rattle.arrivals.proofs.Came.{anew-settled, came-none}
use Rattle.arrivals.proofs.settle_came.Goals as goal

pub returns-then-is_empty : goal.returns-then-is_empty
returns-then-is_empty c =
    came-none _ c.requires _ _ c.either.ensures (row-bounded _ (search rules)) (not-true _ (sym c.is_empty.ensures ∙ c.if-is_empty.true))

pub gather-requires : goal.gather-requires
gather-requires c =
    let u = c.ungathered-gathered.ensures in record {
      entries_formed = (formed-entries _ c.requires, ap bit_at u.standing ∙ c.standing-standing.ensures);
      known_sets = none-known u.selected u.allowed;
      empty = (u.out, u.back);
    }

pub touched_by-touched-requires : goal.touched_by-touched-requires
touched_by-touched-requires c = record {
  entries_formed = formed-entries _ c.requires;
  gathers = rw c.standing-standing.ensures at c.gather.ensures;
}

pub set_touched-requires : goal.set_touched-requires
set_touched-requires c = record {
  entries_formed = formed-entries _ c.requires;
  gathers = rw c.standing-standing.ensures at c.gather.ensures;
}

pub returns : goal.returns
unfolding registry_in
returns c =
    c.set_touched.ensures ∙ ap image (anew-settled _ c.touched_by-touched.ensures (formed-memory _ c.requires).acceptable.bits)
