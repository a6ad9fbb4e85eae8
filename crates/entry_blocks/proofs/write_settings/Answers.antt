-- Three numbers, one behind the other, are the settings' front.
use Rattle.std.proofs.Common.{arith}
use Rattle.formed.specs.Words.{settings_in}
use Rattle.sealing.proofs.SealingLaws.{begun}
use Rattle.entry_blocks.proofs.BlockLaws.{settings-block}
use Rattle.entry_blocks.proofs.FormedParts.{settings-small}
use Rattle.entry_blocks.proofs.write_settings.Goals as goal

pub put_two-user-requires : goal.put_two-user-requires
put_two-user-requires c = (begun c.requires.1, omega arith, omega arith, omega (arith, settings-small _ c.requires.0))

pub put_two-system-requires : goal.put_two-system-requires
put_two-system-requires c = (c.put_two-user.ensures.summed, omega arith, omega (arith, settings-small _ c.requires.0), omega arith)

pub put_number-value-requires : goal.put_number-value-requires
put_number-value-requires c = (c.put_two-system.ensures.summed, omega arith, (settings-small _ c.requires.0).2)

pub returns : goal.returns
unfolding settings_in
returns c =
    settings-block (settings_in c.args.memory.now) c.put_two-user.ensures c.put_two-system.ensures c.put_number-value.ensures c.seal.ensures
