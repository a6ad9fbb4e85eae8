-- What is read is valid, and a change leaves all other slots: so every call leaves valid entries, and their registry is acceptable.
use mathlib.Core.Path.{◌≡◌, refl}
use mathlib.Core.Bool.{Bool, true}
use mathlib.Core.Option.{none, some}
use Prim.Native.Nat.{ℕ, zero, suc}
use lib.ListN.{replicate}
use Rattle.block.specs.Entry.{Settings, container, policy}
use Rattle.block.specs.Written.{valid_settings}
use Rattle.block.proofs.Accepted.{settings-valid, accepted-valid}
use Rattle.model.specs.Table.{at}
use Rattle.model.specs.Model.{container_slots, policy_slots, Model, empty}
use Rattle.model.specs.Calls.{Call}
use Rattle.model.specs.ModelStep.{model_step}
use Rattle.model.specs.Registry.{computed}
use Rattle.model.proofs.Clear.{computed-clear}
use Rattle.model.proofs.Kept.{Kept, step_keeps}
use Rattle.model.proofs.Agreement.{Sized, sized-empty}
use Rattle.formed.specs.Registry.{free_or, ValidEntries, Acceptable}
use Rattle.formed.proofs.Placed.{valid-container-placed, valid-policy-placed}

pub acceptable-computed : (m : Model) → ValidEntries m → Acceptable (computed m)
unfolding computed
acceptable-computed m valid = record { entries = valid; bits = computed-clear m }

-- ---- every call leaves valid entries

free-passes : {A : Type 0} (f : A → Bool) (n i : ℕ) → free_or f (at (replicate n none) i) ≡ true
free-passes f zero i = refl
free-passes f (suc n) zero = refl
free-passes f (suc n) (suc i) = free-passes f n i

pub valid-empty : (s : Settings) → valid_settings s ≡ true → ValidEntries (empty s)
unfolding empty
valid-empty s e =
    let sized = sized-empty s in
    record { containers = sized.containers; policies = sized.policies; settings = e; container = free-passes _ container_slots; policy = free-passes _ policy_slots }

pub valid-kept : Kept ValidEntries
valid-kept = record {
  opened = λ b s e. valid-empty s (settings-valid b s e);
  container = λ m v b x e c. valid-container-placed m v c (some x) (accepted-valid m.settings b (container x) e);
  policy = λ m v b x e q. valid-policy-placed m v q (some x) (accepted-valid m.settings b (policy x) e);
  container_gone = λ m v c. valid-container-placed m v c none refl;
  policy_gone = λ m v q. valid-policy-placed m v q none refl;
}

pub valid-step : (m : Model) → ValidEntries m → (call : Call) → ValidEntries (model_step m call).0
valid-step m valid call = step_keeps valid-kept m valid call

pub valid-sized : (m : Model) → ValidEntries m → Sized m
valid-sized m valid = record { containers = valid.containers; policies = valid.policies }
