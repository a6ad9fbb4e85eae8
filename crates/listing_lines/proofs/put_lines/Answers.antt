-- The rows begin after the cursor.
use borrow.Author.Rules.{rules}
use mathlib.Core.Path.{refl, subst}
use native.Mathlib.Omega.{arith}
use Rattle.formed.proofs.Formed.{formed-entries}
use Rattle.buffer.specs.Buffer.{Puts}
use Rattle.model.specs.Findings.{walk}
use Rattle.findings.specs.Steps.{cursor_place}
use Rattle.findings.proofs.Walk.{SmallPlace}
use Rattle.findings.proofs.NextFinding.{next_in}
use Rattle.listing_lines.specs.GoesOn.{GoesOn}
use Rattle.listing_lines.proofs.LinesSoFar.{lines_of, before-cursor, lines_of-none, on-none}
use Rattle.listing_lines.proofs.put_lines.Goals as goal

pub returns-then-wanted-eq0-clause-lines : goal.returns-then-wanted-eq0-clause-lines
returns-then-wanted-eq0-clause-lines c = lines_of-none c.args.memory.now (cursor_place c.args.cursor) c.if-wanted-eq0.true c.args.out.now

pub returns-then-wanted-eq0-clause-goes_on : goal.returns-then-wanted-eq0-clause-goes_on
returns-then-wanted-eq0-clause-goes_on c = on-none c.args.memory.now (cursor_place c.args.cursor) c.if-wanted-eq0.true refl

pub of-view-requires : goal.of-view-requires
of-view-requires c = formed-entries _ c.requires.0

pub slots-requires : goal.slots-requires
slots-requires c = (formed-entries _ c.requires.0, c.of-view.ensures)

pub put_rows-requires : goal.put_rows-requires
put_rows-requires c =
    let sized : SmallPlace (cursor_place c.args.cursor) = record { small_kind = search rules; small_a = search rules; small_b = search rules } in (
      c.requires.0,
      c.of-view.ensures,
      record {
        slots = c.slots.ensures;
        kind = omega (arith, c.from.ensures, sized.small_kind);
        slot = omega (arith, c.from-2.ensures, sized.small_a);
        from = (omega arith, omega (arith, c.from-3.ensures, sized.small_b));
      },
      omega (arith, c.if-wanted-eq0.false),
      c.requires.1,
    )

pub returns-clause-lines : goal.returns-clause-lines
returns-clause-lines c =
    let e = before-cursor c.from.ensures c.from-2.ensures c.from-3.ensures in
    subst (λ p. Puts c.args.out.now 0 (lines_of (walk (next_in c.args.memory.now) c.args.wanted p)) c.put_rows.new.out c.put_rows.result.put) e c.put_rows.ensures.lines

pub returns-clause-goes_on : goal.returns-clause-goes_on
returns-clause-goes_on c =
    let e = before-cursor c.from.ensures c.from-2.ensures c.from-3.ensures in
    subst (λ p. GoesOn c.args.wanted p (walk (next_in c.args.memory.now) c.args.wanted p) c.put_rows.result.next) e c.put_rows.ensures.goes_on
