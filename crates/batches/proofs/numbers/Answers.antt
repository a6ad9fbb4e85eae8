-- A slot fits sixteen bits.
use mathlib.Core.Path.{ap, ◌∙◌}
use borrow.Author.Rules.{rules}
use Rattle.std.specs.Prelude.{Ok}
use Rattle.batch_blocks.specs.Blocks.{slot_of}
use Rattle.batches.proofs.numbers.Goals as goal

pub overflow_cast-result : goal.overflow_cast-result
overflow_cast-result c = let h = ap slot_of (c.in-Ok.is ∙ ap Ok c.in-Container.is) in search rules

pub overflow_cast-result-in-Policy : goal.overflow_cast-result-in-Policy
overflow_cast-result-in-Policy c = let h = ap slot_of (c.in-Ok.is ∙ ap Ok c.in-Policy.is) in search rules
