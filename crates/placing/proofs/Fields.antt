-- The fields of an accepted block.
use mathlib.Core.Path.{◌≡◌}
use mathlib.Core.Bool.{true}
use mathlib.Core.List.{List}
use mathlib.Core.Option.{some}
use Prim.Native.Nat.{ℕ, ◌+◌, ◌*◌, ◌^◌, ◌≤◌}
use native.Mathlib.Omega.{arith}
use lib.ListN.{length}
use Rattle.block.specs.Entry.{Settings, container, policy}
use Rattle.block.specs.Bytes.{byte_at}
use Rattle.block.specs.Reader.{labels_at, direction_of, container_said, policy_said, AcceptedAs}
use Rattle.block.specs.Written.{direction_number, valid_labels}
use Rattle.block.proofs.Accepted.{entry-accepted, accepted-valid, policy-direction}
use Rattle.block.proofs.Checks.{within-bounds}
use Rattle.block.proofs.LabelLists.{length-labels-at}
use Rattle.formed.specs.Words.{container_word, policy_word}
use Rattle.formed.proofs.Parts.{labels-few}
use Rattle.formed.proofs.Slots.{valid-container, valid-policy, container-small, policy-small}
use Rattle.formed.proofs.EntryTests.{direction-read}

count-few : (limit : ℕ) (b : List ℕ) (p n : ℕ) → valid_labels limit (labels_at b p n) ≡ true → n ≤ limit
count-few limit b p n v = omega (arith, labels-few limit (labels_at b p n) v, length-labels-at b p n)

pub record ContainerFields (b : List ℕ) : Type 0 where
  pub long : length b ≡ 512
  pub count : byte_at b 1 ≤ 8

pub container-fields : (s : Settings) (b : List ℕ) → AcceptedAs s b (container (container_said b)) → ContainerFields b
unfolding container_said
container-fields s b q = record {
  long = ((entry-accepted s b _).0 q).long;
  count = count-few 8 b 4 (byte_at b 1) (valid-container s _ (accepted-valid s b _ q));
}

-- and the words of its slot are small
pub container-fits : (s : Settings) (b : List ℕ) → AcceptedAs s b (container (container_said b)) → (k : ℕ) → container_word (some (container_said b)) k ≤ 2 ^ 23
container-fits s b q = container-small s (some (container_said b)) (accepted-valid s b _ q)

pub record PolicyFields (b : List ℕ) : Type 0 where
  pub long : length b ≡ 512
  pub direction : byte_at b 1 ≡ direction_number (direction_of (byte_at b 1))
  pub select : byte_at b 2 ≤ 4
  pub allow : byte_at b 3 ≤ 4

pub policy-fields : (s : Settings) (b : List ℕ) → AcceptedAs s b (policy (policy_said b)) → PolicyFields b
unfolding policy_said
policy-fields s b q =
    let d = within-bounds 1 2 (byte_at b 1) (policy-direction s b q) in
    let v = valid-policy s _ (accepted-valid s b _ q) in
    record {
      long = ((entry-accepted s b _).0 q).long;
      direction = direction-read (byte_at b 1) (λ z. let h = d.0 in omega arith) d.1;
      select = count-few 4 b 4 (byte_at b 2) v.select;
      allow = count-few 4 b (4 + 4 * byte_at b 2) (byte_at b 3) v.allow;
    }

pub policy-fits : (s : Settings) (b : List ℕ) → AcceptedAs s b (policy (policy_said b)) → (k : ℕ) → policy_word (some (policy_said b)) k ≤ 2 ^ 23
policy-fits s b q = policy-small s (some (policy_said b)) (accepted-valid s b _ q)
