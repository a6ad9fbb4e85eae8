-- The settings stored in a memory that was cleared.
use Prim.Native.Nat.{ℕ, zero, suc, ◌^◌, ◌<◌}
use native.Mathlib.Omega.{arith}
use Rattle.block.specs.Reading.{settings_of}
use Rattle.formed.specs.Words.{settings_word}
use Rattle.clearing.proofs.BitLaws.{started}
use Rattle.clearing.proofs.start.Goals as goal

pub returns : goal.returns
unfolding settings_of
returns c = started _ few _ c.told-memory c.clear.ensures c.set_settings.ensures
  where
    few : (k : ℕ) → settings_word (settings_of c.args.settings) k < 2 ^ 64
    few zero = omega arith
    few (suc zero) = omega arith
    few (suc (suc zero)) = omega arith
    few (suc (suc (suc k))) = omega arith
