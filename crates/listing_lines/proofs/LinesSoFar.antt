-- The lines of a listing, row after row.
use mathlib.Core.Path.{◌≡◌, refl, sym, ap, ◌∙◌, subst}
use mathlib.Core.Bool.{Bool}
use mathlib.Core.List.{List, ◌++◌, map, map-append}
use Prim.Native.Nat.{ℕ, suc, ◌+◌, ◌-◌, ◌≤◌, ◌<◌}
use native.Mathlib.Omega.{arith}
use lib.ListN.{length, take, drop, get_or, length-append}
use lib.Seq.{take_all}
use borrow.Rule.Slice.PartMut.{put_mid}
use Rattle.std.specs.Prelude.{Some, None}
use Rattle.bitrow.specs.Set.{under, at_least, meet, size}
use Rattle.buffer.specs.Buffer.{Puts}
use Rattle.buffer.proofs.BufferLaws.{puts_none, puts-size, puts-as, puts_then}
use Rattle.model.specs.declared.Finding.{Finding}
use Rattle.model.specs.Findings.{Place, walk, moved, finding_code}
use Rattle.row_listing.specs.Listing.{row_findings}
use Rattle.row_listing.proofs.Putting.{rest-lent, puts-rest}
use Rattle.row_listing.proofs.Sizes.{row-count}
use Rattle.container_findings.specs.Rows.{shown_at}
use Rattle.findings.specs.declared.Cursor.{Cursor}
use Rattle.findings.specs.declared.Rows.{Rows}
use Rattle.findings.specs.Steps.{cursor_place, place_at, place_from}
use Rattle.findings.proofs.Walk.{rank, SmallPlace}
use Rattle.findings.proofs.NextFinding.{next_in, walk-sized, moved-append}
use Rattle.findings.proofs.ListedSoFar.{ListedSoFar, listed-none, listed-part, listed-ends, listed-all}
use Rattle.findings.proofs.PutSoFar.{last_code, rank-place}
use Rattle.text.specs.Lines.{code_lines}
use Rattle.finding_lines.proofs.RowLines.{lines-then, lines-none}
use Rattle.listing_lines.specs.GoesOn.{GoesOn}
use Rattle.listing_lines.specs.RowsIn.{RowsIn, place_before}
use Rattle.listing_lines.proofs.FirstLines.{first-count}

abbrev pub lines_of : List Finding → List ℕ
lines_of l = code_lines (map finding_code l)

lines_of-then : (l r : List Finding) → lines_of (l ++ r) ≡ lines_of l ++ lines_of r
lines_of-then l r = ap code_lines (map-append finding_code l r) ∙ lines-then (map finding_code l) (map finding_code r)

-- of n findings after p: e is d with the lines of the first `count`, up to before `at`
abbrev pub LinesSoFar : List ℕ → Place → ℕ → List ℕ → List ℕ → ℕ → ℕ → ℕ → ℕ → ℕ → Type 0
LinesSoFar m p n d e k a from count at = ListedSoFar lines_of m p n d e k a from count at

-- the rows begin
pub before-small : {m : List ℕ} {s : Rows} → RowsIn m s → SmallPlace (place_before s)
before-small r = record { small_kind = r.kind; small_a = r.slot; small_b = omega (arith, r.from.1) }

pub lines_so_far-none : (m : List ℕ) {s : Rows} {n : ℕ} {d : List ℕ} → RowsIn m s → LinesSoFar m (place_before s) n d d s.kind s.slot s.from 0 0
lines_so_far-none m {s} {n} {d} r =
    let first : s.from - 1 + 1 ≡ s.from = omega (arith, r.from.0) in
    subst (λ f. LinesSoFar m (place_before s) n d d s.kind s.slot f 0 0) first (listed-none lines_of m lines-none (before-small r))

-- they begin after a cursor
pub before-cursor : {c : Cursor} {k a b : ℕ} → k ≡ c.kind → a ≡ c.a → b ≡ c.b → place_from k a (b + 1 - 1) ≡ cursor_place c
before-cursor {c} ek ea eb =
    let z : c.b + 1 - 1 ≡ c.b = omega arith in
    rw (ek, ea, eb, z) refl

module _ (m : List ℕ) {p : Place} {n : ℕ} {d : List ℕ} where
  module _ {e : List ℕ} {k a from count at : ℕ} (g : LinesSoFar m p n d e k a from count at) where
    pub lines_so_far-room : at ≤ length e
    lines_so_far-room = omega (arith, puts-size g.puts, g.puts.room)

    -- some of a row, as many as are still wanted
    part : a < 256 → count < n → {row cut : ℕ → Bool} → row ≡ shown_at m k a → cut ≡ meet row (meet (at_least from) (under 256))
        → {more : List Finding} → more ≡ take (n - count) (row_findings k a cut) → {c : ℕ} → length more ≡ c
        → {f : List ℕ} {i : ℕ} → Puts (take (length e - at) (drop at e)) 0 (lines_of more) f i → LinesSoFar m p n d (put_mid at (length e - at) e f) k (a + 1) 0 (count + c) (at + i)
    part h l er ec em z q = listed-part lines_of m g h l er ec lines_of-then em (puts-rest at lines_so_far-room (rw (rest-lent e at) at q)) z

    -- a row that is put whole
    pub lines_so_far-row : a < 256 → count < n → {row cut : ℕ → Bool} → row ≡ shown_at m k a → cut ≡ meet row (meet (at_least from) (under 256))
        → {c : ℕ} → c ≡ size cut 256 → c < n - count
        → {f : List ℕ} {i : ℕ} → Puts (take (length e - at) (drop at e)) 0 (lines_of (row_findings k a cut)) f i → LinesSoFar m p n d (put_mid at (length e - at) e f) k (a + 1) 0 (count + c) (at + i)
    lines_so_far-row h l {row} {cut} er ec {c} z w q =
        let s = row-count k a cut in
        part h l er ec (sym (take_all (n - count) (row_findings k a cut) (omega arith))) (omega arith) q

    -- the row that the listing ends in
    module _ (h : a < 256) (l : count < n) {row cut : ℕ → Bool} (er : row ≡ shown_at m k a) (ec : cut ≡ meet row (meet (at_least from) (under 256))) (w : n - count ≤ size cut 256)
        {f : List ℕ} {i : ℕ} (q : Puts (take (length e - at) (drop at e)) 0 (lines_of (take (n - count) (row_findings k a cut))) f i) where
      abbrev more : List Finding
      more = take (n - count) (row_findings k a cut)

      enough : length more ≡ n - count
      enough = first-count k a cut (n - count) w

      all : walk (next_in m) n p ≡ g.found ++ more
      all = listed-ends lines_of m g h l er ec enough

      pub lines_so_far-last : Puts d 0 (lines_of (walk (next_in m) n p)) (put_mid at (length e - at) e f) (at + i)
      lines_so_far-last = puts-as (puts_then g.puts (puts-rest at lines_so_far-room (rw (rest-lent e at) at q))) (sym (ap lines_of all ∙ lines_of-then g.found more))

      pub lines_so_far-on : SmallPlace p → {c : Cursor} → cursor_place c ≡ place_at (get_or (map finding_code more) (n - count - 1) 0) → GoesOn n p (walk (next_in m) n p) (Some c)
      lines_so_far-on s q =
          let one : length more ≡ suc (n - count - 1) = omega (arith, enough) in
          let last = last_code (moved p g.found) more (n - count - 1) one in
          let to : moved (moved p g.found) more ≡ moved p (walk (next_in m) n p) = sym (ap (moved p) all ∙ moved-append p g.found more) in
          let long : length (walk (next_in m) n p) ≡ n = ap length all ∙ length-append g.found more ∙ omega (arith, g.size, enough) in
          (long, q ∙ ap place_at (last ∙ ap (λ x. rank x.kind x.a x.b) to) ∙ rank-place (moved p (walk (next_in m) n p)) (walk-sized m n p s))

  -- no row is left
  pub lines_so_far-over : {e : List ℕ} {k a from count at : ℕ} (g : LinesSoFar m p n d e k a from count at) → count < n → walk (next_in m) n p ≡ g.found
      → Puts d 0 (lines_of (walk (next_in m) n p)) e at × GoesOn n p (walk (next_in m) n p) None
  lines_so_far-over g l w = let size = ap length w in (listed-all lines_of m g w, omega (arith, g.size))

-- none are wanted
pub lines_of-none : (m : List ℕ) (p : Place) {n : ℕ} → n ≡ 0 → (d : List ℕ) → Puts d 0 (lines_of (walk (next_in m) n p)) d 0
lines_of-none m p z d = puts-as (puts_none (omega arith)) (sym (ap (λ j. lines_of (walk (next_in m) j p)) z ∙ lines-none))

pub on-none : (m : List ℕ) (p : Place) {n : ℕ} → n ≡ 0 → {c : Cursor} → cursor_place c ≡ p → GoesOn n p (walk (next_in m) n p) (Some c)
on-none m p {n} z {c} q = subst (λ j. GoesOn j p (walk (next_in m) j p) (Some c)) (sym z) (refl, q)
