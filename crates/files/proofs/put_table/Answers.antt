-- Each turn puts the block of one slot, or none where the slot is free.
use Rattle.std.proofs.Common.{◌∙◌, sym, ap, ap₂, ℕ, ◌+◌, ◌*◌, ◌<◌, arith}
use Rattle.store.specs.Layout.{word_at}
use Rattle.files.specs.Tables.{block_by}
use Rattle.files.proofs.TableLaws.{begins, skips, room, appends, ends}
use Rattle.files.proofs.FileLaws.{table-length, free-slot, taken-slot}
use Rattle.files.proofs.put_table.Goals as goal
use Rattle.files.proofs.put_table.Goals.{then-memory-START-ne0, else-memory-START-ne0}

pub loop-i-init : goal.loop-i-init
loop-i-init g c = begins c.requires.1

pub slice_bounds-write_entry-end : goal.slice_bounds-write_entry-end
slice_bounds-write_entry-end g c =
    let m = c.args.memory.now in
    let i = c.loop-i.i in
    let h : i < g.S.Slot.SLOTS = omega (arith, c.loop-i-test.true, c.SLOTS-i-end.ensures) in
    let place = ap₂ (λ (s w : ℕ). word_at m (s + w * i)) c.START.ensures c.WORDS.ensures in
    let r = room c.loop-i.invariant (taken-slot (g.met.S.Slot.tabled m) h (g.met.S.Filed.block_length m c.requires.0) (λ e. c.if-memory-START-ne0.true (place ∙ e))) in
    omega arith

pub loop-i-preserved : goal.loop-i-preserved
loop-i-preserved g c =
    let m = c.args.memory.now in
    let i = c.loop-i.i in
    let h : i < g.S.Slot.SLOTS = omega (arith, c.loop-i-test.true, c.SLOTS-i-end.ensures) in
    let place = ap₂ (λ (s w : ℕ). word_at m (s + w * i)) c.START.ensures c.WORDS.ensures in
    elim c.if-memory-START-ne0.branch [
      | then-memory-START-ne0 w ↦
          let taken = taken-slot (g.met.S.Slot.tabled m) h (g.met.S.Filed.block_length m c.requires.0) (λ e. w.if-memory-START-ne0.true (place ∙ e)) in
          let index = ap g.S.Slot.index w.at.ensures ∙ g.met.S.Slot.index_of_at i in
          rw (w.bytes-is, w.at-is) (appends c.loop-i.invariant taken (w.write_entry.ensures ∙ ap (λ k. block_by g.S.Slot.either (g.S.Slot.entry m k)) index))
      | else-memory-START-ne0 w ↦ rw (w.bytes-is, w.at-is) (skips c.loop-i.invariant (free-slot (g.met.S.Slot.tabled m) h (sym place ∙ w.if-memory-START-ne0.false)))
    ]

pub returns : goal.returns
returns g c = ends c.loop-i.invariant (omega (arith, table-length (g.met.S.Slot.tabled c.args.memory.now), c.loop-i-test.false, c.SLOTS-i-end.ensures))
