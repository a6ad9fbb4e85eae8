-- The search finds the lowest slot from the place on, and says if there is none.
use mathlib.Core.Path.{refl, sym, ◌∙◌}
use native.Mathlib.Omega.{arith}
use Rattle.bitrow.proofs.Searches.{lowest-at, lowest-nothing}
use Rattle.findings.proofs.Rows.row_of_kind.Goals as goal

pub returns-in_err-slot : goal.returns-in_err-slot
returns-in_err-slot c = rw c.from_residual-in_err-slot.ensures (λ a l. lowest-nothing _ _ (sym c.next_from.ensures ∙ c.in_err-slot.was) a)

pub returns-then-slot-self : goal.returns-then-slot-self
returns-then-slot-self c =
    (sym c.in_ok-kind.ensures, lowest-at _ _ (sym c.next_from.ensures ∙ c.in_ok-slot.was), λ e. refl, λ l. absurd (omega arith))

pub returns-else-slot-self : goal.returns-else-slot-self
returns-else-slot-self c =
    (sym c.in_ok-kind.ensures, lowest-at _ _ (sym c.next_from.ensures ∙ c.in_ok-slot.was), λ e. absurd (omega arith), λ l. refl)
