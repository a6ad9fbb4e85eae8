-- Bytes put one behind the other, and the sum that they add to. A zero is a byte put like another, which adds nothing.
use mathlib.Core.Path.{◌≡◌, refl, sym, ap, ap₂, ◌∙◌, subst}
use mathlib.Core.List.{List, [], ◌∷◌, ◌++◌, append-nil, append_assoc}
use Prim.Native.Nat.{ℕ, zero, suc, ◌+◌, ◌-◌, ◌*◌, ◌/◌, ◌%◌, ◌≤◌, ◌<◌}
use native.Mathlib.Nat.{add-zero, add-suc, zero-add, zero-mul, mul-le-mul}
use native.Mathlib.Numerals.{add-one}
use native.Mathlib.Omega.{arith}
use lib.ListN.{length, set, take, replicate, get_or, length-append, length-set, get_or-append, drop_of_length-le}
use lib.Seq.{sets, sets-eq, length-take-le, take-suc-set, get_or-take, get_or-append-add, get_or-set_same, get_or-set_other}
use Rattle.block.specs.Bytes.{byte_at, weighted, checksum}
use Rattle.block.specs.Written.{number_bytes, sealed}
use Rattle.block.proofs.Weights.{same-weight}
use Rattle.sealing.specs.Sealing.{Summed, Lengthens}

-- ---- a block that is begun, and lengthened

pub begun : {d : List ℕ} → length d ≡ 512 → Summed d 0 0
unfolding weighted
begun h = record { long = h; within = omega arith; is = refl; small = omega arith }

pub lengthens-none : {d : List ℕ} {at sum : ℕ} → Summed d at sum → Lengthens d at [] d sum
lengthens-none {d} {at} {sum} s = record {
  front = ap (λ (n : ℕ). take n d) (add-zero at) ∙ sym (append-nil (take at d));
  summed = subst (λ (n : ℕ). Summed d n sum) (sym (add-zero at)) s;
}

-- other bytes behind them
pub lengthens-then : {d t e u f : List ℕ} {at r s : ℕ} → Lengthens d at t e r → Lengthens e (at + length t) u f s → Lengthens d at (t ++ u) f s
lengthens-then {d} {t} {e} {u} {f} {at} {r} {s} g h =
    let q : at + length t + length u ≡ at + length (t ++ u) = omega (arith, length-append t u) in
    record {
      front = ap (λ (n : ℕ). take n f) (sym q) ∙ h.front ∙ ap (λ (l : List ℕ). l ++ u) g.front ∙ append_assoc (take at d) t u;
      summed = subst (λ (n : ℕ). Summed f n s) q h.summed;
    }

-- a block that is made from its first byte on begins with what was put
pub sealed-front : {d t e : List ℕ} {r : ℕ} → Lengthens d 0 t e r → take (length t) e ≡ t
sealed-front {d} {t} {e} g = ap (λ (n : ℕ). take n e) (sym (zero-add (length t))) ∙ g.front

-- ---- a byte, and a number of two

weighted-set : (d : List ℕ) (at x : ℕ) → at < length d → weighted (set d at x) (at + 1) ≡ weighted d at + x * (at + 1)
unfolding weighted
weighted-set d at x h =
    ap (weighted (set d at x)) (add-one at)
    ∙ ap₂ (λ (m n : ℕ). m + n * (at + 1)) (same-weight (set d at x) d at (λ k l. get_or-set_other d at k x 0 (λ e. omega arith))) (get_or-set_same d at x 0 h)

-- what a byte adds to the sum at most
pub byte_small : (x p : ℕ) → x ≤ 255 → p ≤ 510 → x * p ≤ 130050
byte_small x p h k = mul-le-mul {n₂ = 255} {m₂ = 510} h k

byte_put : {d : List ℕ} {at sum : ℕ} (x : ℕ) → Summed d at sum → at < 510 → x ≤ 255 → Lengthens d at (x ∷ []) (set d at x) (sum + x * (at + 1))
byte_put {d} {at} {sum} x s h b =
    let l : at < length d = omega arith in
    let m = byte_small x (at + 1) b (omega arith) in
    record {
      front = ap (λ (n : ℕ). take n (set d at x)) (add-one at) ∙ take-suc-set d at x l;
      summed = record {
        long = length-set d at x ∙ s.long;
        within = omega arith;
        is = ap (λ (n : ℕ). n + x * (at + 1)) s.is ∙ sym (weighted-set d at x l);
        small = omega arith;
      };
    }

pub number_put : {d : List ℕ} {at sum n : ℕ} → Summed d at sum → at + 2 ≤ 510 → n ≤ 65535
    → Lengthens d at (number_bytes n) (set (set d at (n / 256)) (at + 1) (n % 256)) (sum + n / 256 * (at + 1) + n % 256 * (at + 1 + 1))
number_put {n} s h b =
    let high = byte_put (n / 256) s (omega arith) (omega arith) in
    lengthens-then high (byte_put (n % 256) high.summed (omega arith) (omega arith))

-- the same of the two bytes as they are held
pub bytes-put : {d : List ℕ} {at sum n : ℕ} (v : List ℕ) (x y : ℕ) → Summed d at sum → at + 2 ≤ 510 → n ≤ 65535 → v ≡ number_bytes n → x ≡ get_or v 0 0 → y ≡ get_or v 1 0
    → Lengthens d at (number_bytes n) (set (set d at (get_or v 0 0)) (at + 1) (get_or v 1 0)) (sum + x * (at + 1) + y * (at + 1 + 1))
bytes-put v x y s h b e p q = rw (p, q, e) (number_put s h b)

-- ---- zeros, then the checksum

zeros : (m k : ℕ) → byte_at (replicate m 0) k ≡ 0
zeros zero k = refl
zeros (suc m) zero = refl
zeros (suc m) (suc k) = zeros m k

-- zeros behind some bytes add nothing to their sum
zeros-weigh : (a : List ℕ) (m k : ℕ) → weighted (a ++ replicate m 0) (length a + k) ≡ weighted a (length a)
unfolding weighted
zeros-weigh a m zero =
    ap (weighted (a ++ replicate m 0)) (add-zero (length a))
    ∙ same-weight (a ++ replicate m 0) a (length a) (λ i h. get_or-append a (replicate m 0) 0 i h)
zeros-weigh a m (suc k) =
    let z : byte_at (a ++ replicate m 0) (length a + k) ≡ 0 = get_or-append-add a (replicate m 0) k 0 ∙ zeros m k in
    ap (weighted (a ++ replicate m 0)) (add-suc (length a) k)
    ∙ ap₂ (λ (s x : ℕ). s + x * (length a + k + 1)) (zeros-weigh a m k) z
    ∙ omega (arith, zero-mul (length a + k + 1))

filled-weight : {d : List ℕ} {at sum : ℕ} → Summed d at sum → weighted (take at d ++ replicate (510 - at) 0) 510 ≡ sum
filled-weight {d} {at} {sum} s =
    let l : length (take at d) ≡ at = length-take-le at d (omega arith) in
    let q : 510 ≡ length (take at d) + (510 - at) = omega arith in
    ap (weighted (take at d ++ replicate (510 - at) 0)) q
    ∙ zeros-weigh (take at d) (510 - at) (510 - at)
    ∙ ap (weighted (take at d)) l
    ∙ same-weight (take at d) d at (λ k h. get_or-take at d k 0 h)
    ∙ sym s.is

-- in the last two bytes the remainder of the sum of those before
pub filled-sealed : {d : List ℕ} {at sum : ℕ} (e : List ℕ) → Summed d at sum → length e ≡ 512 → take 510 e ≡ take at d ++ replicate (510 - at) 0 → sets e 510 (number_bytes (sum % 65521)) ≡ sealed (take at d)
unfolding sealed checksum
filled-sealed {d} {at} {sum} e s h z =
    let c = number_bytes (sum % 65521) in
    let l : length (take at d) ≡ at = length-take-le at d (omega arith) in
    sets-eq c e 510 (omega arith)
    ∙ ap (λ (r : List ℕ). take 510 e ++ c ++ r) (drop_of_length-le e {i = 512} (omega arith))
    ∙ append-nil (take 510 e ++ c)
    ∙ ap (λ (r : List ℕ). r ++ c) z
    ∙ ap (λ (n : ℕ). take at d ++ replicate (510 - at) 0 ++ number_bytes (n % 65521)) (sym (filled-weight s))
    ∙ ap (λ (k : ℕ). take at d ++ replicate (510 - k) 0 ++ number_bytes (weighted (take at d ++ replicate (510 - k) 0) 510 % 65521)) (sym l)
