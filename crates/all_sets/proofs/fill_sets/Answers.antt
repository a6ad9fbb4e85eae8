-- Where no policy stands, rows that have nothing are the sets.
use mathlib.Core.Path.{sym, ap, ◌∙◌}
use mathlib.Core.Bool.{not}
use Rattle.bitrow.specs.Set.{has_some}
use Rattle.sets.proofs.Candidates.{sets-none}
use Rattle.all_sets.proofs.fill_sets.Goals as goal

pub returns-then-is_empty : goal.returns-then-is_empty
returns-then-is_empty c =
    sets-none _ (sym (c.is_empty.ensures ∙ ap (λ s. not (has_some s)) c.standing.ensures) ∙ c.if-is_empty.true) c.requires.known_sets
