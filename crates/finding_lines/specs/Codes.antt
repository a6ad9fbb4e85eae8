-- Findings as numbers whose lines are short.
use Rattle.std.specs.Prelude.{ℕ, ◌/◌, ◌%◌, ◌<◌}

-- the number of a finding whose kind has one digit, and whose a and b are below 256: its line has at most ten bytes
pub record ShortCode (n : ℕ) : Type 0 where
  pub kind : n / 4294967296 < 10
  pub a : n / 65536 % 65536 < 256
  pub b : n % 65536 < 256
