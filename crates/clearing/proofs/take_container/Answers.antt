-- By the rules the bits of a free slot are clear, so empty rows are stored.
use native.Mathlib.Omega.{arith}
use borrow.Author.Rules.{rules}
use Rattle.formed.proofs.Reading.{formed-whole}
use Rattle.clearing.proofs.BitLaws.{container-taken}
use Rattle.clearing.proofs.take_container.Goals as goal

pub clear_slot-requires : goal.clear_slot-requires
clear_slot-requires c = omega (arith, formed-whole _ c.requires.0)

pub store_bits-requires : goal.store_bits-requires
store_bits-requires c = c.requires.1

pub returns : goal.returns
returns c = container-taken _ c.requires.0 _ c.requires.1 c.fits-memory _ (λ k. search rules) c.none-clear.ensures c.clear_slot.ensures c.store_bits.ensures
