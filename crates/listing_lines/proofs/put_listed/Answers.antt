-- The list is full of the row's first findings.
use mathlib.Core.Path.{refl, sym, ap, ◌∙◌, subst}
use native.Mathlib.Omega.{arith}
use Prim.Native.Nat.{◌-◌}
use lib.ListN.{length, get_or}
use Rattle.std.specs.List.{All}
use Rattle.bitrow.specs.Bit.{bit_at}
use Rattle.model.specs.Kinds.{kind_number}
use Rattle.text.specs.Lines.{code_lines}
use Rattle.buffer.proofs.BufferLaws.{puts-as, puts-size}
use Rattle.findings.specs.Steps.{place_at}
use Rattle.finding_lines.specs.Codes.{ShortCode}
use Rattle.listing_lines.proofs.FirstLines.{first-put, first-short, short-small, kind-below}
use Rattle.listing_lines.proofs.put_listed.Goals as goal

pub put_findings-requires : goal.put_findings-requires
put_findings-requires c =
    let n = length c.args.list.now in
    let e = first-put (kind_number c.args.kind) c.args.a (bit_at c.args.row) n c.requires.2 refl c.put_row.ensures in
    (omega (arith, puts-size c.put_row.ensures), subst (All ShortCode) (sym e) (first-short (kind_number c.args.kind) c.args.a (kind-below c.args.kind) c.requires.0 (bit_at c.args.row) n))

pub cursor_at-requires : goal.cursor_at-requires
cursor_at-requires c =
    let n = length c.args.list.now in
    let e = first-put (kind_number c.args.kind) c.args.a (bit_at c.args.row) n c.requires.2 refl c.put_row.ensures in
    short-small c.put_row.new.list (length c.put_row.new.list - 1) (subst (All ShortCode) (sym e) (first-short (kind_number c.args.kind) c.args.a (kind-below c.args.kind) c.requires.0 (bit_at c.args.row) n))
    (omega (arith, puts-size c.put_row.ensures))

pub returns-clause-lines : goal.returns-clause-lines
returns-clause-lines c =
    let e = first-put (kind_number c.args.kind) c.args.a (bit_at c.args.row) (length c.args.list.now) c.requires.2 refl c.put_row.ensures in
    puts-as c.put_findings.ensures (ap code_lines e)

pub returns-clause-cursor_value : goal.returns-clause-cursor_value
returns-clause-cursor_value c =
    let e = first-put (kind_number c.args.kind) c.args.a (bit_at c.args.row) (length c.args.list.now) c.requires.2 refl c.put_row.ensures in
    c.cursor_at.ensures ∙ ap (λ n. place_at (get_or c.put_row.new.list (n - 1) 0)) (puts-size c.put_row.ensures) ∙ ap (λ l. place_at (get_or l (length c.args.list.now - 1) 0)) e
