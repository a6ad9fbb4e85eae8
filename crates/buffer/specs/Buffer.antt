-- What is written into a lent buffer, and what is kept of it.
use Rattle.std.specs.Prelude.{◌≡◌, List, ◌++◌, ℕ, ◌+◌, ◌≤◌, length, take, drop}

-- the buffer d with t laid over its start; the rest is kept
unfoldable pub overwritten : List ℕ → List ℕ → List ℕ
overwritten d t = t ++ drop (length t) d

-- e is the buffer d with t put at `at`, up to before `stop`; all else is as it was
pub record Puts (d : List ℕ) (at : ℕ) (t e : List ℕ) (stop : ℕ) : Type 0 where
  pub stops : stop ≡ at + length t
  pub room : stop ≤ length d
  pub text : e ≡ take at d ++ t ++ drop stop d
