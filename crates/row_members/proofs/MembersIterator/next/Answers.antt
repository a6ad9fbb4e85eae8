-- The search finds the lowest number from `from` on, and says if there is none.
use mathlib.Core.Path.{sym, ◌∙◌, refl}
use borrow.Author.Rules.{rules}
use Rattle.bitrow.specs.Set.{Lowest}
use Rattle.bitrow.specs.Bit.{bit_at}
use Rattle.bitrow.proofs.Searches.{lowest-at, lowest-nothing}
use Rattle.row_members.proofs.MembersIterator.next.Goals as goal

pub returns-in_err-number-clause-steps : goal.returns-in_err-number-clause-steps
returns-in_err-number-clause-steps c =
    rw (c.from_residual.ensures) (lowest-nothing _ _ (sym c.next_from.ensures ∙ c.in_err-number.was))

pub overflow_add-self : goal.overflow_add-self
overflow_add-self c =
    let l : Lowest (bit_at c.args.self.now.row) c.args.self.now.from 256 c.in_ok-number.number = lowest-at _ _ (sym c.next_from.ensures ∙ c.in_ok-number.was) in
    let b = l.below in
    search rules

pub returns-clause-steps : goal.returns-clause-steps
returns-clause-steps c = (lowest-at _ _ (sym c.next_from.ensures ∙ c.in_ok-number.was), refl, refl)

pub returns-clause-goes : goal.returns-clause-goes
returns-clause-goes c =
    let l : Lowest (bit_at c.args.self.now.row) c.args.self.now.from 256 c.in_ok-number.number = lowest-at _ _ (sym c.next_from.ensures ∙ c.in_ok-number.was) in
    let b = l.below in
    let a = l.from in
    search rules
