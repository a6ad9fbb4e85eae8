-- Three words, each that of the settings.
use mathlib.Core.Path.{refl}
use Rattle.block.specs.Reading.{settings_of}
use Rattle.store.specs.Contents.{tab}
use Rattle.store.specs.Memory.{slot_set}
use Rattle.clearing.proofs.set_settings.Goals as goal

pub returns : goal.returns
unfolding settings_of slot_set tab
returns c = refl
