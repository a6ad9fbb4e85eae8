-- Two bytes put one behind the other.
use Rattle.sealing.proofs.SealingLaws.{bytes-put}
use Rattle.sealing.proofs.put_number.Goals as goal

pub returns : goal.returns
returns c = bytes-put c.two_bytes.result _ _ c.requires.0 c.requires.1 c.requires.2 c.two_bytes.ensures c.from.ensures c.from-2.ensures
