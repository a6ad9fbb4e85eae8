-- The two numbers are put, and the front is taken from there.
use native.Mathlib.Omega.{arith}
use lib.ListN.{length-take, length-drop}
use Rattle.buffer.proofs.BufferLaws.{puts-size}
use Rattle.text.proofs.LineLaws.{puts_behind}
use Rattle.finding_lines.proofs.FrontLaws.{pair-digits, front-made}
use Rattle.finding_lines.proofs.front_of.Goals as goal

pub put_decimal-kind-requires : goal.put_decimal-kind-requires
put_decimal-kind-requires c = omega (arith, pair-digits c.args.pair c.requires.0 c.requires.1)

pub put_decimal-requires : goal.put_decimal-requires
put_decimal-requires c =
    let d = pair-digits c.args.pair c.requires.0 c.requires.1 in
    let s = puts-size c.put_decimal-kind.ensures.puts in
    simp (length-take, length-drop) (omega arith)

pub overflow_sub-length : goal.overflow_sub-length
overflow_sub-length c = omega (arith, pair-digits c.args.pair c.requires.0 c.requires.1)

pub copy_from_slice-requires-2 : goal.copy_from_slice-requires-2
copy_from_slice-requires-2 c =
    let d = pair-digits c.args.pair c.requires.0 c.requires.1 in
    let e = puts-size c.put_decimal-kind.ensures.puts in
    let s = puts-size (puts_behind c.put_decimal-kind.ensures.puts c.put_decimal.ensures.puts (omega arith)) in
    simp (length-take, length-drop) (omega arith)

pub returns-clause-holds : goal.returns-clause-holds
returns-clause-holds c =
    front-made c.args.pair c.requires.0 c.requires.1 c.put_decimal-kind.ensures.puts c.put_decimal.ensures.puts (omega (arith, puts-size c.put_decimal-kind.ensures.puts)) c.copy_from_slice.ensures.after
    c.copy_from_slice-2.ensures.after
