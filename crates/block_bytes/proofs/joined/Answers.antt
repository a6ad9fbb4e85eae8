-- A join is zero exactly if both its sides are.
use mathlib.Core.Path.{◌≡◌, refl, sym, ap, ◌∙◌}
use mathlib.Core.List.{List}
use mathlib.Core.Bool.{Bool, true, false, ◌&&◌, and-true, and_assoc}
use Prim.Native.Nat.{ℕ, ◌+◌, ◌<◌}
use native.Mathlib.Omega.{arith}
use borrow.Author.Tests.{eq-eqb, ne_eqb, eqb-true, eqb-false}
use lib.Dec.{eqb}
use lib.Bits.{bit_or, or_add_and, and_le_l, and_le_r}
use Rattle.std.specs.Prelude.{is_none}
use Rattle.block.specs.Bytes.{byte_at}
use Rattle.block.specs.Reader.{zero_fault}
use Rattle.block.proofs.Faults.{faults-next, faults-done, clear-unless, clear-or_else}
use Rattle.block_bytes.proofs.joined.Goals as goal

join-zero : (a b : ℕ) → eqb (bit_or a b) 0 ≡ (eqb a 0 && eqb b 0)
join-zero a b = go (eqb a 0) (eqb b 0) refl refl
  where
    go : (s t : Bool) → eqb a 0 ≡ s → eqb b 0 ≡ t → eqb (bit_or a b) 0 ≡ (s && t)
    go true true p q = eq-eqb (bit_or a b) 0 (omega (arith, eqb-true a 0 p, eqb-true b 0 q, or_add_and a b))
    go true false p q = ne_eqb (bit_or a b) 0 (λ e. eqb-false b 0 q (omega (arith, or_add_and a b, and_le_l a b)))
    go false t p q = ne_eqb (bit_or a b) 0 (λ e. eqb-false a 0 p (omega (arith, or_add_and a b, and_le_r a b)))

-- a turn of the loop
turn : (b : List ℕ) (bits i to : ℕ) → i < to → (eqb bits 0 && is_none (zero_fault b i to)) ≡ (eqb (bit_or bits (byte_at b i)) 0 && is_none (zero_fault b (i + 1) to))
unfolding zero_fault
turn b bits i to h = rw (faults-next _ i to h, clear-or_else, clear-unless, join-zero, and_assoc)

pub loop-i-preserved : goal.loop-i-preserved
loop-i-preserved c = let l = c.loop-i in l.invariant ∙ turn c.args.block.now l.bits l.i c.args.span.to c.loop-i-test.true

pub returns : goal.returns
unfolding zero_fault
returns c =
    let l = c.loop-i in
    sym (l.invariant ∙ ap (λ x. eqb l.bits 0 && is_none x) (faults-done _ l.i c.args.span.to c.loop-i-test.false) ∙ and-true _)
