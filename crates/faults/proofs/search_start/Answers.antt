-- Where the bytes of the next piece, joined, are zero, the search finds nothing in it.
use mathlib.Core.Path.{◌≡◌, sym, ◌∙◌}
use mathlib.Core.List.{List}
use mathlib.Core.Bool.{true}
use Prim.Native.Nat.{ℕ, ◌+◌, ◌≤◌}
use native.Mathlib.Omega.{arith}
use borrow.Author.Tests.{eq-eqb}
use Rattle.std.specs.Prelude.{is_none}
use Rattle.block.specs.Reader.{zero_fault}
use Rattle.block.proofs.Faults.{clear_none, faults-behind}
use Rattle.faults.proofs.search_start.Goals as goal

passed : (b : List ℕ) (from mid to : ℕ) → from ≤ mid → mid ≤ to → is_none (zero_fault b from mid) ≡ true → zero_fault b mid to ≡ zero_fault b from to
unfolding zero_fault
passed b from mid to h l e = sym (faults-behind _ mid to l from h (clear_none _ e))

pub loop-span-preserved : goal.loop-span-preserved
loop-span-preserved c =
    let i = c.loop-span.from in
    let within : i + 32 ≤ c.args.span.to = omega (arith, c.loop-span-test.true, c.saturating_sub.ensures) in
    let clear : c.joined.result ≡ 0 = omega (arith, c.if-joined-ne0.false) in
    passed c.args.block.now i (i + 32) c.args.span.to (omega arith) within (sym c.joined.ensures ∙ eq-eqb _ _ clear) ∙ c.loop-span.invariant
