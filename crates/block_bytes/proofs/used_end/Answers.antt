-- Where no end was found before it, 510 is one: no byte lies between.
use native.Mathlib.Omega.{arith}
use Rattle.block_bytes.proofs.Zeros.{no_byte}
use Rattle.block_bytes.proofs.used_end.Goals as goal

pub returns : goal.returns
returns c = record { low = omega arith; high = omega arith; rest = no_byte _ 510 }
