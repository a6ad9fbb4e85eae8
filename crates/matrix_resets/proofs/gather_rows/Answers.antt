-- Policy q's two sets are those stored, and so known.
use mathlib.Core.Path.{◌∙◌}
use Rattle.sets.proofs.Candidates.{one_known}
use Rattle.matrix_resets.proofs.gather_rows.Goals as goal

pub gather-requires : goal.gather-requires
gather-requires c =
    let p = c.requires.q_bound in
    let u = c.requires.ungathered in record {
      entries_formed = c.requires.entries_formed;
      known_sets = one_known u.selected u.allowed _ _ p.0 (c.stored_set.ensures ∙ p.1.selected) (c.stored_set-2.ensures ∙ p.1.allowed);
      empty = (u.out, u.back);
    }

pub returns : goal.returns
returns c = record { row = λ l k. l.is c.gather.ensures (λ h. k) }
