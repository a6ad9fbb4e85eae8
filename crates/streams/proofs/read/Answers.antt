-- A call that failed for now took no byte, and each reads from the same reader into the same bytes.
use Rattle.std.proofs.Common.{◌≡◌, rules, of_calls, ◌∙◌}
use Rattle.std.specs.Io.{ReadsAtMost}
use Rattle.std.specs.Io.KnownBytes.{ReadConsumes}
use Rattle.streams.proofs.Calls.{settled}
use Rattle.streams.proofs.read.Goals as goal

pub returns : goal.returns
returns g c =
    let done = settled
    (λ p r q. (q.0.ghost_name ≡ p.0.ghost_name) × (q.1.ghost_name ≡ p.1.ghost_name) × ReadsAtMost r q.1.now × ReadConsumes (g.R.Read.remaining p.0.now) (g.R.Read.remaining q.0.now) r q.1.now)
    (λ p q r x. search (rules, of_calls))
    (λ p q s e r x y. (y.0 ∙ x.0, y.1 ∙ x.1, search rules, search rules))
    c.again.ensures in
    record { bound = search (rules, done); bytes = search (rules, done) }
