-- A turn of the loop adds the byte at its index, times one more than that.
use mathlib.Core.Path.{◌≡◌, refl, ◌∙◌, ap, ap₂, sym}
use Prim.Native.Nat.{ℕ, ◌+◌, ◌*◌, ◌≤◌, ◌<◌}
use native.Mathlib.Nat.{mul-le-mul}
use native.Mathlib.Numerals.{add-one}
use native.Mathlib.Omega.{arith}
use lib.Seq.{length-take-le, get_or-take}
use Rattle.block.specs.Bytes.{byte_at, weighted}
use Rattle.block_bytes.proofs.weighted_sum.Goals as goal

pub loop-byte-init : goal.loop-byte-init
unfolding weighted
loop-byte-init c = (refl, omega arith, refl)

-- a byte at a place up to 510 adds 130050 at most
small : (x p : ℕ) → x < 256 → p ≤ 510 → x * p ≤ 130050
small x p h k = mul-le-mul {n₂ = 255} {m₂ = 510} (omega arith) k

pub loop-byte-preserved : goal.loop-byte-preserved
unfolding weighted
loop-byte-preserved c =
    let l = c.loop-byte in
    let i = l.byte-index in
    let b = c.args.block.now in
    let below : i < c.args.end = omega (arith, c.loop-byte-test.true, length-take-le c.args.end b (omega arith)) in
    let read : c.from.result ≡ byte_at b i = c.from.ensures ∙ get_or-take c.args.end b i 0 below in
    let next : c.from.result * (l.place + 1) ≡ byte_at b i * (i + 1) = ap₂ (λ (x p : ℕ). x * (p + 1)) read l.invariant.0 in
    let bound = small (byte_at b i) (i + 1) (c.fits-block i) (omega arith) in
    (omega arith, omega (arith, next, bound), ap₂ (λ (m n : ℕ). m + n) l.invariant.2 next ∙ sym (ap (weighted b) (add-one i)))
