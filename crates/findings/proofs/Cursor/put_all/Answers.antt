-- Each turn puts the findings of one row.
use borrow.Author.Rules.{rules}
use mathlib.Core.Path.{refl}
use mathlib.Core.List.{map}
use native.Mathlib.Omega.{arith}
use Rattle.formed.proofs.Formed.{formed-entries}
use Rattle.findings.specs.Steps.{cursor_place}
use Rattle.findings.proofs.Walk.{SmallPlace}
use Rattle.model.specs.Findings.{finding_code}
use Rattle.findings.proofs.NextFinding.{walked_all}
use Rattle.findings.proofs.ListedSoFar.{listed-none, listed-all, listed-come, listed-over}
use Rattle.findings.proofs.PutSoFar.{listed-room, listed-row}
use Rattle.findings.proofs.Cursor.put_all.Goals as goal

pub of-view-requires : goal.of-view-requires
of-view-requires c = formed-entries _ c.requires

pub slots-requires : goal.slots-requires
slots-requires c = (formed-entries _ c.requires, c.of-view.ensures)

pub loop-row-init : goal.loop-row-init
loop-row-init c =
    let sized : SmallPlace (cursor_place c.args.self) = record { small_kind = search rules; small_a = search rules; small_b = search rules } in
    rw (c.into_iter-row-iterator.ensures.into_iter_gives, c.from.ensures, c.from-2.ensures, c.from-3.ensures)
    (record { put = listed-none (map finding_code) _ refl sized; view = c.of-view.ensures; slots = c.slots.ensures })

pub loop-row-preserved : goal.loop-row-preserved
loop-row-preserved c =
    let g = c.loop-row.invariant in
    let step = c.in-Some.ensures.steps in
    let come = listed-come (map finding_code) _ g.slots g.put step.1.within step.0 in
    record {
      put =
          rw (step.1.kind, step.1.slot, step.1.from)
          (listed-row _ come step.1.within (omega (arith, listed-room _ come)) c.finding_row-found.ensures.row c.cut-wanted.ensures c.put_row-count.ensures);
      view = c.finding_row-found.ensures.view;
      slots = rw step.1.slots g.slots;
    }

pub returns : goal.returns
returns c =
    let g = c.loop-row.invariant in
    listed-all (map finding_code) _ g.put (listed-over (map finding_code) _ g.slots g.put c.in-None.ensures.steps)
