-- The entries, and the bits that the rules give of them.
use Rattle.std.specs.Prelude.{Bool, ℕ, set, replicate}
use Rattle.std.proofs.Math.Option.{Option, none}
use Rattle.block.specs.Entry.{Container, Policy, Settings}
use Rattle.model.specs.Table.{Table, on, at}
use Rattle.model.specs.Rules.{selects, allows, reaches}

-- "up to 256 containers at places 0 to 255, and up to 128 policies at places 0 to 127"
abbrev pub container_slots : ℕ
container_slots = 256

abbrev pub policy_slots : ℕ
policy_slots = 128

-- The reference model ("the plain book"): "settings and two tables".
pub record Model : Type 0 where
  pub settings : Settings
  pub containers : Table Container
  pub policies : Table Policy

-- no entries, under these settings
unfoldable pub empty : Settings → Model
empty s = record { settings = s; containers = replicate container_slots none; policies = replicate policy_slots none }

-- this at container slot c, this at policy slot q
unfoldable pub with_container : Model → ℕ → Option Container → Model
with_container m c x = record { settings = m.settings; containers = set m.containers c x; policies = m.policies }

unfoldable pub with_policy : Model → ℕ → Option Policy → Model
with_policy m q p = record { settings = m.settings; containers = m.containers; policies = set m.policies q p }

-- "a matrix (row a, column b: a reaches b) and two sets for each policy: the containers it selects and those it allows"
pub record Bits : Type 0 where
  pub matrix : ℕ → ℕ → Bool
  pub selected : ℕ → ℕ → Bool
  pub allowed : ℕ → ℕ → Bool

-- "worked out by the written rules from the standing entries, a bit of an empty place being clear"
unfoldable pub matrix_bit : Model → ℕ → ℕ → Bool
matrix_bit m a b = on (λ x. on (λ y. reaches m.policies a b x y) (at m.containers b)) (at m.containers a)

unfoldable pub selected_bit : Model → ℕ → ℕ → Bool
selected_bit m q c = on (λ p. on (λ x. selects p x) (at m.containers c)) (at m.policies q)

unfoldable pub allowed_bit : Model → ℕ → ℕ → Bool
allowed_bit m q c = on (λ p. on (λ x. allows p x) (at m.containers c)) (at m.policies q)

unfoldable pub computed_bits : Model → Bits
computed_bits m = record { matrix = matrix_bit m; selected = selected_bit m; allowed = allowed_bit m }
