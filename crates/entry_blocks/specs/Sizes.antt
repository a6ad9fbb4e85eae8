-- The block of each standing entry is a whole block.
use Rattle.std.proofs.Common.{◌≡◌, true, subst, ℕ, length}
use Rattle.std.proofs.Math.Option.{some}
use Rattle.block.specs.Entry.{Container, Policy, container, policy}
use Rattle.block.specs.Written.{block_of}
use Rattle.block.proofs.Written.{written-length}
use Rattle.model.specs.Table.{at}
use Rattle.model.specs.Model.{Model}
use Rattle.formed.specs.Registry.{valid_container, valid_policy, ValidEntries}

module _ (m : Model) (valid : ValidEntries m) where
  pub container-size : (c : ℕ) (x : Container) → at m.containers c ≡ some x → length (block_of (container x)) ≡ 512
  container-size c x e = written-length m.settings (container x) (subst (λ o. valid_container m.settings o ≡ true) e (valid.container c))

  pub policy-size : (q : ℕ) (p : Policy) → at m.policies q ≡ some p → length (block_of (policy p)) ≡ 512
  policy-size q p e = written-length m.settings (policy p) (subst (λ o. valid_policy m.settings o ≡ true) e (valid.policy q))
