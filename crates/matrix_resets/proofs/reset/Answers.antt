use mathlib.Core.Path.{refl, sym, ap, ◌∙◌}
use native.Mathlib.Omega.{arith}
use Rattle.bitrow.specs.Bit.{bit_at}
use Rattle.formed.specs.Registry.{registry_in}
use Rattle.formed.proofs.Reading.{entries-hold}
use Rattle.matrix_resets.proofs.RowResets.{resets_none, resets-take, resets-skip, resets-all}
use Rattle.matrix_resets.proofs.reset.Goals as goal
use Rattle.matrix_resets.proofs.reset.Goals.{then-has, else-has}

pub gather_rows-requires : goal.gather_rows-requires
gather_rows-requires c =
    let p = c.requires in
    let u = c.ungathered-gathered.ensures in record {
      entries_formed = (p.entries_formed.0, ap bit_at u.standing ∙ p.entries_formed.1);
      q_bound = p.q_bound;
      ungathered = record { standing = refl; selected = u.selected; allowed = u.allowed; out = u.out; back = u.back };
    }

pub loop-a-init : goal.loop-a-init
loop-a-init c = resets_none _ _ _ (entries-hold _ c.requires.entries_formed.0) c.fits-memory

pub loop-a-preserved : goal.loop-a-preserved
unfolding registry_in
loop-a-preserved c =
    let g = c.loop-a.invariant in
    elim c.if-has.branch [
      | then-has w ↦
          let e = sym c.has.ensures ∙ w.if-has.true in
          rw w.memory-is (resets-take _ _ _ g c.loop-a-test.true e w.reset_row.ensures (c.gather_rows.ensures.row w.row_from-ruled.ensures e))
      | else-has w ↦ rw w.memory-is (resets-skip _ _ _ g c.loop-a-test.true (sym c.has.ensures ∙ w.if-has.false))
    ]

pub returns : goal.returns
returns c = resets-all _ _ _ c.loop-a.invariant (omega arith)
