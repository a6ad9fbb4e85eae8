-- Both rows are worked out before either is written.
use borrow.Author.Rules.{rules}
use Rattle.model.specs.Model.{computed_bits}
use Rattle.policy_sets.proofs.SettledPolicy.{settled-image}
use Rattle.policy_sets.proofs.settle.Goals as goal

pub returns : goal.returns
unfolding computed_bits
returns c =
    let p = c.requires in (
      settled-image _ p.0 _ p.1 c.fits-memory _ _ (λ k. search rules) (λ k. search rules) (rw (c.row.ensures, c.band.ensures) at c.set_row.ensures) (rw (c.row-2.ensures, c.band-2.ensures) at c.set_row-2.ensures) c.matched-selected.ensures c.matched-allowed.ensures,
      c.matched-selected.ensures,
    )
