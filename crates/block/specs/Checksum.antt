-- What the checksum catches: two facts that document 01 wants proved.
use Rattle.std.specs.Prelude.{◌≡◌, List, ℕ, ◌<◌}
use Rattle.block.specs.Bytes.{byte_at, number_at, checksum}

-- the stored checksum is the computed one
abbrev pub Passes : List ℕ → Type 0
Passes b = number_at b 510 ≡ checksum b

abbrev pub AtMostOnePasses : List ℕ → List ℕ → Type 0
AtMostOnePasses x y = Passes x → Passes y → ⊥

abbrev pub AreBytes : List ℕ → Type 0
AreBytes b = (j : ℕ) → byte_at b j < 256

-- y differs from x at i and nowhere else
pub record DifferAt (i : ℕ) (x y : List ℕ) : Type 0 where
  pub at : byte_at x i ≡ byte_at y i → ⊥
  pub elsewhere : (k : ℕ) → (k ≡ i → ⊥) → byte_at x k ≡ byte_at y k

-- y is x with the unequal bytes at i and j exchanged
pub record Swapped (i j : ℕ) (x y : List ℕ) : Type 0 where
  pub unequal : byte_at x i ≡ byte_at x j → ⊥
  pub at_i : byte_at y i ≡ byte_at x j
  pub at_j : byte_at y j ≡ byte_at x i
  pub elsewhere : (k : ℕ) → (k ≡ i → ⊥) → (k ≡ j → ⊥) → byte_at x k ≡ byte_at y k

-- "of two blocks differing in exactly one byte at most one passes"
abbrev pub OneByte : Type 0
OneByte = (x y : List ℕ) → AreBytes x → AreBytes y → (i : ℕ) → i < 512 → DifferAt i x y → AtMostOnePasses x y

-- "and the same for two that differ by the exchange of two unequal bytes among the first 510"
abbrev pub TwoBytes : Type 0
TwoBytes = (x y : List ℕ) → AreBytes x → (i j : ℕ) → i < j → j < 510 → Swapped i j x y → AtMostOnePasses x y
