-- A call that failed for now put no byte, and each writes to the same writer.
use Rattle.std.proofs.Common.{◌≡◌, rules, of_calls, ◌∙◌}
use Rattle.std.specs.Io.{WritesAtMost}
use Rattle.std.specs.Io.KnownBytes.{WriteAppends}
use Rattle.streams.proofs.Calls.{settled}
use Rattle.streams.proofs.write_some.Goals as goal

pub returns : goal.returns
returns g c =
    let done = settled
    (λ p r q. (q.0.ghost_name ≡ p.0.ghost_name) × (q.1.now ≡ p.1.now) × WritesAtMost r p.1.now × WriteAppends (g.W.Write.contents p.0.now) (g.W.Write.contents q.0.now) r p.1.now)
    (λ p q r x. search (rules, of_calls))
    (λ p q s e r x y. (y.0 ∙ x.0, y.1 ∙ x.1, search rules, search rules))
    c.again.ensures in
    record { bound = search (rules, done); bytes = search (rules, done) }
