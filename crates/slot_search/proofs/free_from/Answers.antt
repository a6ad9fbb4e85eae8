-- What the search of the first words finds is the table's lowest free slot.
use Rattle.std.proofs.Common.{ap}
use Rattle.std.specs.Prelude.{option_map}
use Rattle.entries.proofs.FreeSlots.{slot-searched}
use Rattle.slot_search.proofs.free_from.Goals as goal

pub returns-in_err-i : goal.returns-in_err-i
returns-in_err-i g c =
    let e = slot-searched (g.met.S.Slot.tabled c.args.memory.now) g.S.Slot.at c.args.from c.requires in
    let f = ap (option_map g.S.Slot.at) c.in_err-i.was in
    cc

pub returns : goal.returns
returns g c =
    let e = slot-searched (g.met.S.Slot.tabled c.args.memory.now) g.S.Slot.at c.args.from c.requires in
    let f = ap (option_map g.S.Slot.at) c.in_ok-i.was in
    cc
