-- The position of a refusal fits its 16 bits.
use Rattle.registry_c.proofs.CodeLaws.{position-fits}
use Rattle.registry_c.proofs.bihokura_admit.Goals as goal

pub refused_at-requires : goal.refused_at-requires
refused_at-requires c = position-fits _ _ _ _ (rw c.in-Err.is at c.admit.ensures)
