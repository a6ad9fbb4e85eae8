-- Zeros: they add nothing to the weighted sum, and a search for other bytes may end where only zeros are left.
use mathlib.Core.Path.{◌≡◌, sym, ap, ◌∙◌}
use mathlib.Core.List.{List}
use Prim.Native.Nat.{ℕ, zero, suc, ◌+◌, ◌-◌, ◌*◌, ◌≤◌, ◌<◌, ◌%◌}
use native.Mathlib.Nat.{le_refl, add-zero, add-suc, zero-mul}
use native.Mathlib.Omega.{arith}
use Rattle.std.specs.Prelude.{None}
use Rattle.block.specs.Bytes.{byte_at, weighted, checksum}
use Rattle.block.specs.Reader.{zero_fault}
use Rattle.block.proofs.Faults.{faults-done, faults-before, between_none}
use Rattle.block.proofs.Checks.{equal-none}
use Rattle.block_bytes.specs.Used.{UsedEnd}

-- a range of no byte
pub no_byte : (b : List ℕ) (p : ℕ) → zero_fault b p p ≡ None
unfolding zero_fault
no_byte b p = faults-done _ p p (le_refl p)

zero-at : (b : List ℕ) (from to : ℕ) → zero_fault b from to ≡ None → (k : ℕ) → from ≤ k → k < to → byte_at b k ≡ 0
unfolding zero_fault
zero-at b from to e k h l = (equal-none _ _ _).0 (between_none _ from to e k h l)

zeros-weigh : (b : List ℕ) (d from : ℕ) → ((k : ℕ) → from ≤ k → k < from + d → byte_at b k ≡ 0) → weighted b (from + d) ≡ weighted b from
unfolding weighted
zeros-weigh b zero from h = ap (weighted b) (add-zero from)
zeros-weigh b (suc d) from h =
    let z : byte_at b (from + d) * (from + d + 1) ≡ 0 = ap (λ (x : ℕ). x * (from + d + 1)) (h (from + d) (omega arith) (omega arith)) ∙ zero-mul (from + d + 1) in
    let r = zeros-weigh b d from (λ k l m. h k l (omega arith)) in
    ap (weighted b) (add-suc from d) ∙ omega arith

weighed : (b : List ℕ) (from to : ℕ) → from ≤ to → zero_fault b from to ≡ None → weighted b to ≡ weighted b from
weighed b from to h e =
    let q : to ≡ from + (to - from) = omega arith in
    ap (weighted b) q ∙ zeros-weigh b (to - from) from (λ k l m. zero-at b from to e k l (omega arith))

pub used-checksum : (b : List ℕ) (e : ℕ) → UsedEnd b e → checksum b ≡ weighted b e % 65521
unfolding checksum
used-checksum b e u = ap (λ (s : ℕ). s % 65521) (weighed b e 510 u.high u.rest)

-- a search that may end at e
pub used-zeros : (b : List ℕ) (e from : ℕ) → UsedEnd b e → from ≤ e → zero_fault b from e ≡ zero_fault b from 510
unfolding zero_fault
used-zeros b e from u h = sym (faults-before _ e 510 u.high from h u.rest)
