-- The lines of findings from their numbers are the findings' lines; those of answers, one after another.
use mathlib.Core.Path.{◌≡◌, refl, sym, ap, ap₂, ◌∙◌}
use mathlib.Core.Bool.{Bool, cond}
use mathlib.Core.List.{List, [], ◌∷◌, ◌++◌, map, append_assoc, append-nil}
use Prim.Native.Nat.{ℕ, zero, suc, ◌+◌, ◌-◌, ◌*◌, ◌/◌, ◌%◌, ◌≤◌, ◌<◌}
use native.Mathlib.Omega.{arith}
use native.Mathlib.Numerals.{add-one}
use lib.ListN.{length, get_or, take, drop, length-take, length-drop}
use lib.Seq.{take_all, drop-cons, drop-drop}
use Rattle.std.proofs.lemmas.List.{drop_all}
use borrow.Rule.Slice.PartMut.{put_mid}
use Rattle.buffer.specs.Buffer.{Puts}
use Rattle.buffer.proofs.BufferLaws.{puts_none, puts_then, puts-size, puts-as}
use Rattle.digits.proofs.DecimalLaws.{within_20}
use borrow.Author.Tests.{eq-eqb, ne_eqb}
use Rattle.model.specs.declared.Finding.{Finding}
use Rattle.model.specs.Findings.{finding_code}
use Rattle.text.specs.Text.{three_numbers}
use Rattle.model.specs.Calls.{pairs_of}
use Rattle.text.specs.Lines.{refused_line, pair_line, pair_lines, finding_line, finding_lines, code_line, code_lines}

-- findings whose a and b are numbers of 16 bits
abbrev pub Small : List Finding → Type 0
Small [] = Unit
Small (g ∷ l) = (g.a < 65536) × (g.b < 65536) × Small l

code-line : (g : Finding) → g.a < 65536 → g.b < 65536 → code_line (finding_code g) ≡ finding_line g
unfolding code_line finding_code finding_line
code-line g h l =
    let n = g.kind * 4294967296 + g.a * 65536 + g.b in
    let x : n / 4294967296 ≡ g.kind = omega arith in
    let y : n / 65536 % 65536 ≡ g.a = omega arith in
    let z : n % 65536 ≡ g.b = omega arith in
    ap₂ (λ (i j : ℕ). three_numbers i j (n % 65536)) x y ∙ ap (three_numbers g.kind g.a) z

pub code_lines-law : (l : List Finding) → Small l → code_lines (map finding_code l) ≡ finding_lines l
unfolding code_lines finding_lines
code_lines-law [] h = refl
code_lines-law (g ∷ l) h = ap₂ (λ (x y : List ℕ). x ++ y) (code-line g h.0 h.1) (code_lines-law l h.2)

-- the line of the next, and those behind it
pub code_lines-first : (l : List ℕ) (i : ℕ) → i < length l → code_lines (drop i l) ≡ code_line (get_or l i 0) ++ code_lines (drop (i + 1) l)
unfolding code_lines
code_lines-first l i h = ap code_lines (drop-cons l i 0 h ∙ ap (λ (k : ℕ). get_or l i 0 ∷ drop k l) (sym (add-one i)))

pub code_lines-none : (l : List ℕ) (i : ℕ) → length l ≤ i → code_lines (drop i l) ≡ []
unfolding code_lines
code_lines-none l i h = ap code_lines (drop_all i l h)

pub lines-append : (l k : List Finding) → finding_lines (l ++ k) ≡ finding_lines l ++ finding_lines k
unfolding finding_lines
lines-append [] k = refl
lines-append (g ∷ l) k = ap (λ (t : List ℕ). finding_line g ++ t) (lines-append l k) ∙ sym (append_assoc (finding_line g) (finding_lines l) (finding_lines k))

pub small-take : (n : ℕ) (l : List Finding) → Small l → Small (take n l)
small-take zero l h = tt
small-take (suc n) [] h = tt
small-take (suc n) (g ∷ l) h = (h.0, h.1, small-take n l h.2)

-- ---- a line, part after part

-- a text put at the start of what comes behind
puts_part : {e u f : List ℕ} {n k r : ℕ} → n ≤ length e → k ≡ length e - n → Puts (take k (drop n e)) 0 u f r → Puts e n u (put_mid n k e f) (n + r)
puts_part {e} {u} {f} {n} {k} {r} h q g =
    let p : take k (drop n e) ≡ drop n e = take_all k (drop n e) (omega (arith, length-drop n e)) in
    let none : drop k (drop n e) ≡ [] = drop_all k (drop n e) (omega (arith, length-drop n e)) in
    let rest : drop r (drop n e) ≡ drop (n + r) e = drop-drop r n e in
    record {
      stops = omega (arith, g.stops);
      room = omega (arith, g.room, length-take k (drop n e), length-drop n e);
      text =
          ap₂ (λ (x y : List ℕ). take n e ++ (x ++ y)) (g.text ∙ ap (λ (x : List ℕ). u ++ drop r x) p ∙ ap (λ (x : List ℕ). u ++ x) rest) none
          ∙ ap (λ (x : List ℕ). take n e ++ x) (append-nil (u ++ drop (n + r) e)) ∙ sym (append_assoc (take n e) u (drop (n + r) e));
    }

pub puts_behind : {d t e u f : List ℕ} {n k r : ℕ} → Puts d 0 t e n → Puts (take k (drop n e)) 0 u f r → k ≡ length e - n → Puts d 0 (t ++ u) (put_mid n k e f) (n + r)
puts_behind g h q = puts_then g (puts_part (omega (arith, g.room, puts-size g)) q h)

-- Of a text, `rest` is still to be put.
pub record ToPut (d all e : List ℕ) (n : ℕ) (rest : List ℕ) : Type 0 where
  pub done : List ℕ
  pub puts : Puts d 0 done e n
  pub whole : done ++ rest ≡ all

pub to_put-all : (d all : List ℕ) → ToPut d all d 0 all
to_put-all d all = record { done = []; puts = puts_none (omega arith); whole = refl }

pub to_put-less : {d all e u v f : List ℕ} {rest : List ℕ} {n k r : ℕ} → ToPut d all e n rest → rest ≡ u ++ v → Puts (take k (drop n e)) 0 u f r → k ≡ length e - n → ToPut d all (put_mid n k e f) (n + r) v
to_put-less {d} {all} {e} {u} {v} g q h w = record {
  done = g.done ++ u;
  puts = puts_behind g.puts h w;
  whole = append_assoc g.done u v ∙ ap (λ (x : List ℕ). g.done ++ x) (sym q) ∙ g.whole;
}

pub to_put-none : {d all e : List ℕ} {n : ℕ} {rest : List ℕ} → ToPut d all e n rest → rest ≡ [] → Puts d 0 all e n
to_put-none g q = puts-as g.puts (sym (append-nil g.done) ∙ ap (λ (x : List ℕ). g.done ++ x) (sym q) ∙ g.whole)

pub ruleset pieces = (within_20, puts_behind, puts_none, puts-as)

-- ---- the answers to blocks

pub pair-taken : (n r s : ℕ) → r ≡ 0 → [] ≡ pair_line n (r, s)
unfolding pair_line
pair-taken n r s e = ap (λ (t : Bool). cond t [] (refused_line n (r, s))) (sym (eq-eqb r 0 e))

pub pair-refused : (n r s : ℕ) → (r ≡ 0 → ⊥) → refused_line n (r, s) ≡ pair_line n (r, s)
unfolding pair_line
pair-refused n r s e = ap (λ (t : Bool). cond t [] (refused_line n (r, s))) (sym (ne_eqb r 0 e))

-- the line of the first answer, and those behind it
pub pair_lines-first : (n : ℕ) (x l : List ℕ) → length x ≡ 2 → pair_lines n (pairs_of (x ++ l)) ≡ pair_line (n + 1) (get_or x 0 0, get_or x 1 0) ++ pair_lines (n + 1) (pairs_of l)
unfolding pair_lines
pair_lines-first n [] l h = absurd (omega arith)
pair_lines-first n (r ∷ []) l h = absurd (omega arith)
pair_lines-first n (r ∷ s ∷ []) l h = refl
pair_lines-first n (r ∷ s ∷ t ∷ x) l h = absurd (omega arith)

pub pair_lines-none : (n : ℕ) (l : List ℕ) → length l < 2 → pair_lines n (pairs_of l) ≡ []
unfolding pair_lines
pair_lines-none n [] h = refl
pair_lines-none n (x ∷ []) h = refl
pair_lines-none n (x ∷ y ∷ l) h = absurd (omega arith)

pub ruleset answers = (pair-taken, pair-refused)
