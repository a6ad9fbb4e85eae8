-- What a part of a step puts, and the state after it.
use Rattle.std.specs.Prelude.{◌≡◌, List, ℕ}
use Rattle.buffer.specs.Buffer.{Puts}
use Rattle.sheets.specs.declared.State.{State}
use Rattle.sheets.specs.declared.Told.{Told}

-- The buffer o is left as e, with the text x .0 at its start, and the answer r says so.
pub record Tells (x : List ℕ × State) (o e : List ℕ) (r : Told) : Type 0 where
  pub text : Puts o 0 x.0 e r.put
  pub state : r.state ≡ x.1
