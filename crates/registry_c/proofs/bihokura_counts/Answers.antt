-- By what `counts` promises: the three counts are small enough to stand side by side in one word.
use Rattle.std.proofs.Common.{sym, ap, ◌∙◌}
use Rattle.answers.specs.Answers.{counted_answer}
use Rattle.registry_c.proofs.CodeLaws.{counts-fit}
use Rattle.registry_c.proofs.bihokura_counts.Goals as goal

pub packed-requires : goal.packed-requires
packed-requires c =
    let fits = counts-fit _ _ _ _ (ap (λ o. (c.args.memory.now, counted_answer o)) (sym c.in-Ok.is) ∙ c.counts.ensures) in
    (fits.containers, fits.policies, fits.pairs)
