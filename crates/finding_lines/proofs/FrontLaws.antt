-- What the line of a finding begins with, and the line from there on.
use mathlib.Core.Path.{◌≡◌, sym, ap, ap₂, ◌∙◌}
use mathlib.Core.List.{List, ◌++◌}
use Prim.Native.Nat.{ℕ, ◌+◌, ◌-◌, ◌/◌, ◌%◌, ◌≤◌, ◌<◌}
use native.Mathlib.Decide.{dec_lt}
use native.Mathlib.Omega.{arith}
use lib.ListN.{length, take, drop, length-append}
use lib.Seq.{take-take}
use Rattle.std.proofs.lemmas.Slice.{between_is}
use borrow.Rule.Slice.PartMut.{put_mid}
use Rattle.buffer.specs.Buffer.{Puts}
use Rattle.buffer.proofs.BufferLaws.{puts-taken}
use Rattle.digits.specs.Decimal.{decimal, ended}
use Rattle.digits.proofs.DecimalLaws.{one-long, two-long, three-long}
use Rattle.text.specs.Text.{space, newline, three_numbers}
use Rattle.text.specs.Lines.{code_line}
use Rattle.text.proofs.LineLaws.{puts_behind}
use Rattle.finding_lines.specs.Fronts.{front_text, HoldsFront}

-- a number below 256 has one digit to three
few-digits : (n : ℕ) → n < 256 → (0 < length (decimal n)) × (length (decimal n) ≤ 3)
few-digits n h = go (dec_lt n 10) (dec_lt n 100)
  where
    go : Dec (n < 10) → Dec (n < 100) → (0 < length (decimal n)) × (length (decimal n) ≤ 3)
    go (yes l) d = omega (arith, one-long n l)
    go (no l) (yes m) = omega (arith, two-long n (omega arith) m)
    go (no l) (no m) = omega (arith, three-long n (omega arith) (omega arith))

module _ (p : ℕ) (k : p / 65536 < 10) (a : p % 65536 < 256) where
  pub pair-digits : (length (decimal (p / 65536)) ≡ 1) × (0 < length (decimal (p % 65536))) × (length (decimal (p % 65536)) ≤ 3)
  pair-digits = let f = few-digits (p % 65536) a in (one-long (p / 65536) k, f.0, f.1)

  front-size : (4 ≤ length (front_text p)) × (length (front_text p) ≤ 6)
  unfolding front_text
  front-size = let d = pair-digits in simp length-append (omega arith)

  -- the front, put into a buffer part after part, and taken from there
  pub front-made : {d e f : List ℕ} {n m r : ℕ} → Puts d 0 (ended (decimal (p / 65536)) space) e n → Puts (take m (drop n e)) 0 (ended (decimal (p % 65536)) space) f r
      → m ≡ length e - n → {x y : List ℕ} → let t = put_mid n m e f in x ≡ take 4 t → y ≡ take (n + r - (n + r - 4)) (drop (n + r - 4) t)
      → HoldsFront (record { pair = p; length = n + r; first = x; last = y })
  unfolding front_text
  front-made {d} {e} {f} {n} {m} {r} g h q {x} {y} s l =
      let t = put_mid n m e f in
      let w : Puts d 0 (front_text p) t (n + r) = puts_behind g h q in
      let z = front-size in
      let i : n + r ≡ length (front_text p) = omega (arith, w.stops) in
      record {
        size = i;
        sizes = omega arith;
        first = s ∙ sym (take-take 4 (n + r) t (omega arith)) ∙ ap (take 4) (puts-taken w);
        last = l ∙ between_is t (n + r - 4) (n + r) ∙ ap (drop (n + r - 4)) (puts-taken w);
      }

-- a line is its front, and then b with an end of line
pub line-parts : (n p : ℕ) → p ≡ n / 65536 → front_text p ++ ended (decimal (n % 65536)) newline ≡ code_line n
unfolding front_text code_line three_numbers
line-parts n p e =
    let k : p / 65536 ≡ n / 4294967296 = omega arith in
    let a : p % 65536 ≡ n / 65536 % 65536 = omega arith in
    ap₂ (λ (i j : ℕ). ended (decimal i) space ++ ended (decimal j) space ++ ended (decimal (n % 65536)) newline) k a
