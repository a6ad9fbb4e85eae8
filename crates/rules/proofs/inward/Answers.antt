-- The rule read from the other side: not chosen, or selected by a policy that allows a.
use mathlib.Core.Path.{ap, ◌∙◌}
use mathlib.Core.Bool.{Bool}
use Rattle.std.proofs.Common.{ℕ}
use Rattle.bitrow.specs.Bit.{bit_at}
use Rattle.bitrow.specs.Set.{meet}
use Rattle.rules.proofs.Unions.{lets-by-these, picked-or}
use Rattle.rules.proofs.inward.Goals as goal

pub returns : goal.returns
returns c =
    lets-by-these _ c.pick.ensures c.requires.chosen_value c.except.ensures
    (c.both.ensures ∙ ap (λ (s : ℕ → Bool). meet (bit_at c.args.among) s) (picked-or c.pick.result _ _ c.none.ensures c.unwrap_or-who.ensures)) c.either.ensures
