-- What a step of the report leaves: of the registry's memory, of the started block and of the buffer; and the state.
use Rattle.std.specs.Prelude.{◌≡◌, List, ℕ}
use Rattle.buffer.specs.Buffer.{Puts}
use Rattle.sheets.specs.declared.State.{State}
use Rattle.sheets.specs.declared.Stepped.{Stepped}

-- What is left after a step: the memory, the buffer of the started block, the text put, the state, and how many bytes of the piece
-- were used.
pub record Left : Type 0 where
  pub memory : List ℕ
  pub block : List ℕ
  pub text : List ℕ
  pub state : State
  pub used : ℕ

abbrev pub left : List ℕ → List ℕ → List ℕ → State → ℕ → Left
left m k t s n = record { memory = m; block = k; text = t; state = s; used = n }

-- What a call left is what is said: the memory m, the started block k, the buffer o as e, and the answer r.
pub record Does (x : Left) (m k o e : List ℕ) (r : Stepped) : Type 0 where
  pub memory : m ≡ x.memory
  pub block : k ≡ x.block
  pub text : Puts o 0 x.text e r.put
  pub state : r.state ≡ x.state
  pub used : r.used ≡ x.used
