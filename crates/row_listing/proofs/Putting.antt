-- A list put into a buffer piece after piece, as much of it as the buffer holds.
use mathlib.Core.Path.{◌≡◌, refl, sym, ap, ap₂, ◌∙◌, subst, fun_ext}
use mathlib.Core.List.{List, [], ◌∷◌, ◌++◌, map, append_assoc, append-nil, map-append, map-map}
use Prim.Native.Nat.{ℕ, zero, suc, ◌+◌, ◌-◌, ◌*◌, ◌^◌, ◌≤◌, ◌<◌, zero-le}
use native.Mathlib.Nat.{le_refl, sub-zero, suc-sub-suc, add_assoc}
use native.Mathlib.Omega.{arith}
use lib.Count.{count_trailing_zeros}
use lib.ListN.{length, take, drop, get_or, set, length-drop}
use lib.Seq.{take-nil, drop-drop}
use Rattle.bitrow.specs.Bit.{bit, bit_at}
use Rattle.bitrow.specs.Set.{remove}
use borrow.Rule.Slice.PartMut.{put_mid, post_of, Post-is}
use Rattle.std.specs.Prelude.{Some}
use Rattle.std.proofs.lemmas.List.{take_all, drop_all}
use Rattle.buffer.specs.Buffer.{Puts}
use Rattle.buffer.proofs.BufferLaws.{puts_none, puts-next, puts-size, puts-as, puts_then}
use Rattle.model.specs.Findings.{finding, finding_code}
use Rattle.row_members.specs.declared.Bits.{Bits}
use Rattle.row_members.specs.Steps.{BitSteps}
use Rattle.row_listing.specs.Listing.{members, row_findings}
use Rattle.row_listing.proofs.Members.{bits_none, bits-next, row_next}

take-then : {A : Type 0} (n : ℕ) (u v : List A) → take n (u ++ v) ≡ take n u ++ take (n - length (take n u)) v
take-then zero u v = refl
take-then (suc n) [] v = ap (λ k. take k v) (sym (sub-zero (suc n)))
take-then (suc n) (x ∷ u) v = ap (λ l. x ∷ l) (take-then n u v ∙ ap (λ k. take n u ++ take k v) (sym (suc-sub-suc n (length (take n u)))))

-- of w, put into d: e is d with what was put so far, up to before `at`, and `rest` is still to be put
pub record Putting (d w e : List ℕ) (at : ℕ) (rest : List ℕ) : Type 0 where
  pub text : List ℕ
  pub puts : Puts d 0 text e at
  pub left : take (length d) w ≡ text ++ take (length d - at) rest

putting-none : {d : List ℕ} (w : List ℕ) → Putting d w d 0 w
putting-none {d} w = record { text = []; puts = puts_none zero-le; left = sym (ap (λ n. take n w) (sub-zero (length d))) }

module _ {d w e : List ℕ} {at : ℕ} where
  -- the next piece, as much of it as there is room for
  putting-then : (u rest : List ℕ) → Putting d w e at (u ++ rest) → {f : List ℕ} {stop : ℕ} → Puts e at (take (length e - at) u) f stop → Putting d w f stop rest
  putting-then u rest g {f} {stop} p =
      let size = puts-size g.puts in
      let t = take (length d - at) u in
      let q : Puts e at t f stop = puts-as p (ap (λ n. take (n - at) u) size) in
      let n : length d - at - length t ≡ length d - stop = omega (arith, q.stops) in
      record {
        text = g.text ++ t;
        puts = puts_then g.puts q;
        left = g.left ∙ ap (λ l. g.text ++ l) (take-then (length d - at) u rest ∙ ap (λ k. t ++ take k rest) n) ∙ sym (append_assoc g.text t (take (length d - stop) rest));
      }

  -- one more
  putting-next : (x : ℕ) (rest : List ℕ) → Putting d w e at (x ∷ rest) → at < length e → Putting d w (set e at x) (at + 1) rest
  putting-next x rest g h =
      let one : length e - at ≡ suc (length e - at - 1) = omega arith in
      putting-then (x ∷ []) rest g (puts-as (puts-next (puts_none (omega arith)) x h) (sym (ap (λ n. take n (x ∷ [])) one ∙ ap (λ l. x ∷ l) (take-nil (length e - at - 1)))))

  -- nothing is left, or the buffer is full
  putting-all : {rest : List ℕ} → Putting d w e at rest → rest ≡ [] → Puts d 0 (take (length d) w) e at
  putting-all g q = puts-as g.puts (sym (g.left ∙ ap (λ l. g.text ++ take (length d - at) l) q ∙ ap (λ l. g.text ++ l) (take-nil (length d - at)) ∙ append-nil g.text))

  putting-full : {rest : List ℕ} → Putting d w e at rest → length e ≤ at → Puts d 0 (take (length d) w) e at
  putting-full {rest} g h =
      let z : length d - at ≡ 0 = omega (arith, puts-size g.puts) in
      puts-as g.puts (sym (g.left ∙ ap (λ n. g.text ++ take n rest) z ∙ append-nil g.text))

-- what is lent of a buffer from `at` on
pub rest-lent : (d : List ℕ) (at : ℕ) → take (length d - at) (drop at d) ≡ drop at d
rest-lent d at = take_all (length d - at) (drop at d) (omega (arith, length-drop at d))

-- what was put into that
pub puts-rest : {d t part : List ℕ} {n : ℕ} (at : ℕ) → at ≤ length d → Puts (drop at d) 0 t part n → Puts d at t (put_mid at (length d - at) d part) (at + n)
puts-rest {d} {t} {part} {n} at h g =
    let size = length-drop at d in
    record {
      stops = omega (arith, g.stops);
      room = omega (arith, g.room, size);
      text =
          ap (λ (l : List ℕ). take at d ++ (l ++ post_of at (length d - at) d)) (g.text ∙ ap (λ (l : List ℕ). t ++ l) (drop-drop n at d))
          ∙ ap (λ (l : List ℕ). take at d ++ ((t ++ drop (at + n) d) ++ l)) (Post-is at (length d) d h ∙ drop_all (length d) d (le_refl (length d)))
          ∙ ap (λ (l : List ℕ). take at d ++ l) (append-nil (t ++ drop (at + n) d))
          ∙ sym (append_assoc (take at d) t (drop (at + n) d));
    }

-- ---- the bits of a word, as numbers past a base

-- those of the word `rest` are still to be put
pub record PuttingWord (d : List ℕ) (base word : ℕ) (e : List ℕ) (at rest : ℕ) : Type 0 where
  pub small : rest < 2 ^ 64
  pub putting : Putting d (map (λ i. base + i) (members (bit word) 0 64)) e at (map (λ i. base + i) (members (bit rest) 0 64))

module _ {d : List ℕ} {base word : ℕ} where
  pub word-start : word < 2 ^ 64 → PuttingWord d base word d 0 word
  word-start s = record { small = s; putting = putting-none _ }

  module _ {e : List ℕ} {at rest : ℕ} (p : PuttingWord d base word e at rest) where
    pub word-length : length e ≡ length d
    word-length = puts-size p.putting.puts

    -- the lowest
    pub word-put : {i : ℕ} {next : Bits} → BitSteps (record { 0 = rest }) (Some i) next → at < length e → PuttingWord d base word (set e at (base + i)) (at + 1) next.0
    word-put {i} {next} step l = record {
      small = omega (arith, p.small, step.3);
      putting = putting-next (base + i) _ (subst (Putting d _ e at) (ap (map (λ j. base + j)) (lowest ∙ ap (λ j. j ∷ members (bit next.0) 0 64) (sym step.1))) p.putting) l;
    }
      where
        lowest : members (bit rest) 0 64 ≡ count_trailing_zeros 64 rest ∷ members (bit next.0) 0 64
        lowest = bits-next rest next.0 p.small step.0 (step.2 ∙ ap (λ j. remove j (bit rest)) step.1)

    -- the buffer is full
    pub word-full : length e ≤ at → Puts d 0 (take (length d) (map (λ i. base + i) (members (bit word) 0 64))) e at
    word-full h = putting-full p.putting h

    -- nothing is left
    pub word-done : rest ≡ 0 → Puts d 0 (take (length d) (map (λ i. base + i) (members (bit word) 0 64))) e at
    word-done z = putting-all p.putting (ap (λ w. map (λ i. base + i) (members (bit w) 0 64)) z ∙ ap (map (λ i. base + i)) bits_none)

-- ---- the findings of a row

-- those of the words of r from word j on
unfoldable pub codes_from : ℕ → ℕ → List ℕ → ℕ → List ℕ
codes_from k a r j = map (λ b. finding_code (finding k a b)) (members (bit_at r) (j * 64) (256 - j * 64))

pub codes-next : (k a : ℕ) (r : List ℕ) (j : ℕ) → j < 4
    → codes_from k a r j ≡ map (λ i. k * 4294967296 + a * 65536 + j * 64 + i) (members (bit (get_or r j 0)) 0 64) ++ codes_from k a r (j + 1)
unfolding codes_from finding_code
codes-next k a r j h =
    let n : 256 - j * 64 ≡ 64 + (256 - (j + 1) * 64) = omega arith in
    let low = members (bit (get_or r j 0)) 0 64 in
    let high = members (bit_at r) ((j + 1) * 64) (256 - (j + 1) * 64) in
    let base = k * 4294967296 + a * 65536 in
    ap (map (λ b. base + b)) (ap (members (bit_at r) (j * 64)) n ∙ row_next r j (256 - (j + 1) * 64))
    ∙ map-append (λ b. base + b) (map (λ i. j * 64 + i) low) high
    ∙ ap (λ l. l ++ map (λ b. base + b) high) (map-map (λ b. base + b) (λ i. j * 64 + i) low ∙ ap (λ f. map f low) (fun_ext (λ i. sym (add_assoc base (j * 64) i))))

-- those of all words
pub codes-all : (k a : ℕ) (r : List ℕ) → map finding_code (row_findings k a (bit_at r)) ≡ codes_from k a r 0
unfolding codes_from row_findings
codes-all k a r = map-map finding_code (finding k a) (members (bit_at r) 0 256)

-- those of no word
pub codes-end : (k a : ℕ) (r : List ℕ) (j : ℕ) → 4 ≤ j → codes_from k a r j ≡ []
unfolding codes_from members
codes-end k a r j h = let z : 256 - j * 64 ≡ 0 = omega arith in ap (λ n. map (λ b. finding_code (finding k a b)) (members (bit_at r) (j * 64) n)) z

-- those of the words from word j on are still to be put
pub record PuttingRow (d : List ℕ) (k a : ℕ) (r e : List ℕ) (at j : ℕ) : Type 0 where
  pub most : j ≤ 4
  pub putting : Putting d (map finding_code (row_findings k a (bit_at r))) e at (codes_from k a r j)

module _ {d : List ℕ} {k a : ℕ} {r : List ℕ} where
  pub row-start : PuttingRow d k a r d 0 0
  row-start = record { most = omega arith; putting = subst (Putting d _ d 0) (codes-all k a r) (putting-none _) }

  module _ {e : List ℕ} {at j : ℕ} (p : PuttingRow d k a r e at j) where
    pub row-size : length e ≡ length d
    row-size = puts-size p.putting.puts

    pub row_room : at ≤ length e
    row_room = omega (arith, row-size, p.putting.puts.room)

    -- the findings of word j, put into the rest of the buffer
    pub row_put : j < 4 → {base : ℕ} → base ≡ k * 4294967296 + a * 65536 + j * 64 → {part : List ℕ} {n : ℕ}
        → Puts (take (length e - at) (drop at e)) 0 (take (length (take (length e - at) (drop at e))) (map (λ i. base + i) (members (bit (get_or r j 0)) 0 64))) part n
        → PuttingRow d k a r (put_mid at (length e - at) e part) (at + n) (j + 1)
    row_put h {base} q g = record {
      most = omega arith;
      putting = putting-then _ _ (subst (Putting d _ e at) (codes-next k a r j h) p.putting)
          (puts-as (puts-rest at row_room (rw (rest-lent e at) at g)) (ap₂ (λ l (b : ℕ). take l (map (λ i. b + i) (members (bit (get_or r j 0)) 0 64))) (length-drop at e) q));
    }

    pub row_done : 4 ≤ j → Puts d 0 (take (length d) (map finding_code (row_findings k a (bit_at r)))) e at
    row_done h = putting-all p.putting (codes-end k a r j h)
