-- The body is made over zeros, and the checksum put after it.
use Rattle.std.proofs.Common.{rules}
use Rattle.samples.proofs.SampleLaws.{body-made, block_made}
use Rattle.samples.proofs.sealed.Goals as goal

pub returns : goal.returns
returns c = (block_made _ _ _ (body-made _ _ c.put_body.ensures) c.put_checksum.ensures, search rules)
