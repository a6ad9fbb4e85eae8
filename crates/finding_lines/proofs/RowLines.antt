-- The lines of the findings of a row, word after word.
use mathlib.Core.Path.{◌≡◌, refl, sym, ap, ap₂, ◌∙◌, subst}
use mathlib.Core.List.{List, [], ◌∷◌, ◌++◌, map, append_assoc}
use Prim.Native.Nat.{ℕ, ◌+◌, ◌-◌, ◌*◌, ◌/◌, ◌%◌, ◌^◌, ◌≤◌, ◌<◌}
use native.Mathlib.Omega.{arith}
use lib.Count.{count_trailing_zeros}
use lib.ListN.{length, get_or, take, drop, length-append, length-map}
use borrow.Rule.Slice.PartMut.{put_mid}
use Rattle.std.specs.Prelude.{Some}
use Rattle.bitrow.specs.Bit.{bit, bit_at}
use Rattle.bitrow.specs.Set.{remove, size, Lowest}
use Rattle.bitrow.proofs.Words.{trailing}
use Rattle.buffer.specs.Buffer.{Puts}
use Rattle.buffer.proofs.BufferLaws.{puts-as}
use Rattle.digits.specs.Decimal.{decimal, ended}
use Rattle.model.specs.Findings.{finding_code}
use Rattle.row_members.specs.declared.Bits.{Bits}
use Rattle.row_members.specs.Steps.{BitSteps}
use Rattle.row_listing.specs.Listing.{members, row_findings}
use Rattle.row_listing.proofs.Members.{bits_none, bits-next}
use Rattle.row_listing.proofs.Putting.{codes_from, codes-next, codes-all, codes-end}
use Rattle.row_listing.proofs.Sizes.{row-count}
use Rattle.text.specs.Text.{newline}
use Rattle.text.specs.Lines.{code_line, code_lines}
use Rattle.text.proofs.LineLaws.{ToPut, to_put-all, to_put-less, to_put-none}
use Rattle.finding_lines.specs.Fronts.{front_text}
use Rattle.finding_lines.proofs.FrontLaws.{line-parts}

-- the lines of some findings, and of others behind them
pub lines-then : (l k : List ℕ) → code_lines (l ++ k) ≡ code_lines l ++ code_lines k
unfolding code_lines
lines-then [] k = refl
lines-then (n ∷ l) k = ap (λ t. code_line n ++ t) (lines-then l k) ∙ sym (append_assoc (code_line n) (code_lines l) (code_lines k))

lines-first : (n : ℕ) (l : List ℕ) → code_lines (n ∷ l) ≡ code_line n ++ code_lines l
unfolding code_lines
lines-first n l = refl

pub lines-none : code_lines [] ≡ []
unfolding code_lines
lines-none = refl

-- ---- the bits of a word

-- the findings whose numbers are past a base by these bits
abbrev pub codes_of : ℕ → ℕ → List ℕ
codes_of base word = map (λ i. base + i) (members (bit word) 0 64)

-- the lines of those of the word `rest` are still to be put
pub record WordLines (d : List ℕ) (base word : ℕ) (e : List ℕ) (at rest : ℕ) : Type 0 where
  pub small : rest < 2 ^ 64
  pub room : at + 10 * length (members (bit rest) 0 64) ≤ 10 * length (members (bit word) 0 64)
  pub lines : ToPut d (code_lines (codes_of base word)) e at (code_lines (codes_of base rest))

module _ {d : List ℕ} {base word : ℕ} where
  pub word_lines-start : word < 2 ^ 64 → WordLines d base word d 0 word
  word_lines-start s = record { small = s; room = omega arith; lines = to_put-all d (code_lines (codes_of base word)) }

  module _ {e : List ℕ} {at rest : ℕ} (p : WordLines d base word e at rest) where
    -- the lowest
    module _ {i : ℕ} {next : Bits} (step : BitSteps (record { 0 = rest }) (Some i) next) where
      lowest : members (bit rest) 0 64 ≡ i ∷ members (bit next.0) 0 64
      lowest =
          bits-next rest next.0 p.small step.0 (step.2 ∙ ap (λ j. remove j (bit rest)) step.1)
          ∙ ap (λ j. j ∷ members (bit next.0) 0 64) (sym step.1)

      pub word_lines-low : i < 64
      word_lines-low = let l = (trailing 64 rest p.small step.0).below in omega (arith, step.1, l)

      pub word_lines-room : at + 10 ≤ 10 * length (members (bit word) 0 64)
      word_lines-room = let n = ap length lowest in omega (arith, n, p.room)

      pub word_lines-next : (pair b : ℕ) → base ≡ pair * 65536 + b → b ≤ 192 → {part : List ℕ} {k n : ℕ}
          → Puts (take k (drop at e)) 0 (front_text pair ++ ended (decimal (b + i)) newline) part n → k ≡ length e - at → n ≤ 10
          → WordLines d base word (put_mid at k e part) (at + n) next.0
      word_lines-next pair b q h {part} {k} {n} g s m =
          let l = word_lines-low in
          let size = ap length lowest in
          let front : pair ≡ (base + i) / 65536 = omega arith in
          let end : b + i ≡ (base + i) % 65536 = omega arith in
          let line = ap (λ x. front_text pair ++ ended (decimal x) newline) end ∙ line-parts (base + i) pair front in
          record {
            small = omega (arith, p.small, step.3);
            room = omega (arith, size, p.room);
            lines = to_put-less p.lines (ap (λ x. code_lines (map (λ j. base + j) x)) lowest ∙ lines-first (base + i) (codes_of base next.0)) (puts-as g line) s;
          }

    -- nothing is left
    pub word_lines-done : rest ≡ 0 → Puts d 0 (code_lines (codes_of base word)) e at
    word_lines-done z = to_put-none p.lines (ap (λ w. code_lines (codes_of base w)) z ∙ ap (λ x. code_lines (map (λ j. base + j) x)) bits_none ∙ lines-none)

-- ---- the findings of a row

-- the lines of those of the words from word j on are still to be put
pub record RowLines (d : List ℕ) (k a : ℕ) (r e : List ℕ) (at j : ℕ) : Type 0 where
  pub room : at + 10 * length (codes_from k a r j) ≤ 10 * size (bit_at r) 256
  pub lines : ToPut d (code_lines (map finding_code (row_findings k a (bit_at r)))) e at (code_lines (codes_from k a r j))

module _ {d : List ℕ} {k a : ℕ} {r : List ℕ} where
  pub row_lines-start : RowLines d k a r d 0 0
  row_lines-start =
      let n = ap length (codes-all k a r) in
      let m = length-map (row_findings k a (bit_at r)) finding_code in
      let s = row-count k a (bit_at r) in
      record {
        room = omega arith;
        lines = subst (ToPut d (code_lines (map finding_code (row_findings k a (bit_at r)))) d 0) (ap code_lines (codes-all k a r)) (to_put-all d (code_lines (map finding_code (row_findings k a (bit_at r)))));
      }

  module _ {e : List ℕ} {at j : ℕ} (p : RowLines d k a r e at j) where
    row_codes : (base : ℕ) → base ≡ k * 4294967296 + a * 65536 + j * 64 → j < 4 → codes_from k a r j ≡ codes_of base (get_or r j 0) ++ codes_from k a r (j + 1)
    row_codes base q h = codes-next k a r j h ∙ ap (λ b. codes_of b (get_or r j 0) ++ codes_from k a r (j + 1)) (sym q)

    row_word-size : (base : ℕ) → base ≡ k * 4294967296 + a * 65536 + j * 64 → j < 4 → length (codes_from k a r j) ≡ length (members (bit (get_or r j 0)) 0 64) + length (codes_from k a r (j + 1))
    row_word-size base q h =
        ap length (row_codes base q h) ∙ length-append (codes_of base (get_or r j 0)) (codes_from k a r (j + 1))
        ∙ ap (λ n. n + length (codes_from k a r (j + 1))) (length-map (members (bit (get_or r j 0)) 0 64) (λ i. base + i))

    pub row_lines-room : j < 4 → at + 10 * length (members (bit (get_or r j 0)) 0 64) ≤ 10 * size (bit_at r) 256
    row_lines-room h = omega (arith, p.room, row_word-size (k * 4294967296 + a * 65536 + j * 64) refl h)

    -- the lines of word j
    pub row_lines-next : j < 4 → {base : ℕ} → base ≡ k * 4294967296 + a * 65536 + j * 64 → {part : List ℕ} {m n : ℕ}
        → Puts (take m (drop at e)) 0 (code_lines (codes_of base (get_or r j 0))) part n → m ≡ length e - at → n ≤ 10 * length (members (bit (get_or r j 0)) 0 64)
        → RowLines d k a r (put_mid at m e part) (at + n) (j + 1)
    row_lines-next h {base} q g s b =
        let w = row_word-size base q h in
        record {
          room = omega (arith, p.room);
          lines = to_put-less p.lines (ap code_lines (row_codes base q h) ∙ lines-then (codes_of base (get_or r j 0)) (codes_from k a r (j + 1))) g s;
        }

    pub row_lines-done : 4 ≤ j → Puts d 0 (code_lines (map finding_code (row_findings k a (bit_at r)))) e at
    row_lines-done h = to_put-none p.lines (ap code_lines (codes-end k a r j h) ∙ lines-none)
