-- A listing of so many findings after a place, row after row, whatever is put of them.
use mathlib.Core.Path.{◌≡◌, refl, sym, ap, ◌∙◌, subst}
use mathlib.Core.Bool.{Bool, true, true≢false}
use mathlib.Core.List.{List, [], ◌++◌}
use mathlib.Core.Logic.{◌⊎◌, inl, inr}
use Prim.Native.Nat.{ℕ, ◌+◌, ◌-◌, ◌≤◌, ◌<◌}
use native.Mathlib.Decide.{dec_lt}
use native.Mathlib.Omega.{arith}
use lib.ListN.{length, take, length-append}
use Rattle.bitrow.specs.Set.{under, at_least, meet}
use Rattle.buffer.specs.Buffer.{Puts}
use Rattle.buffer.proofs.BufferLaws.{puts_none, puts-as, puts_then}
use Rattle.model.specs.declared.Finding.{Finding}
use Rattle.model.specs.Findings.{Place, walk, moved}
use Rattle.model.specs.Kinds.{kind_number}
use Rattle.row_listing.specs.Listing.{row_findings}
use Rattle.finding_rows.specs.Slots.{SlotsOf}
use Rattle.findings.specs.declared.Row.{Row}
use Rattle.findings.specs.declared.Rows.{Rows}
use Rattle.findings.specs.RowSteps.{row_number, NoneTo, HereIs, LaterIs}
use Rattle.container_findings.specs.Rows.{shown_at}
use Rattle.findings.proofs.Inside.{shown-inside}
use Rattle.findings.proofs.Walk.{SmallPlace}
use Rattle.findings.proofs.NextFinding.{next_in, reached-start, WalkOver, walked_none, walked_then, walked_row, walked-later, walked_all}

-- of n findings after p, of which d gets what `put` makes of them: e is d with that of the first `count`, up to before `at`
pub record ListedSoFar (put : List Finding → List ℕ) (m : List ℕ) (p : Place) (n : ℕ) (d e : List ℕ) (k a from count at : ℕ) : Type 0 where
  pub found : List Finding
  pub size : length found ≡ count
  pub puts : Puts d 0 (put found) e at
  pub walked : WalkOver m p n found k a from

module _ (put : List Finding → List ℕ) (m : List ℕ) {p : Place} {n : ℕ} {d : List ℕ} where
  pub listed-none : put [] ≡ [] → SmallPlace p → ListedSoFar put m p n d d p.kind p.a (p.b + 1) 0 0
  listed-none z s = record { found = []; size = refl; puts = puts-as (puts_none (omega arith)) (sym z); walked = walked_none m s (λ h. reached-start m p s) }

  module _ {e : List ℕ} {k a from count at : ℕ} (g : ListedSoFar put m p n d e k a from count at) where
    -- the findings of a row, as many as are still wanted
    module _ (h : a < 256) (l : count < n) {row cut : ℕ → Bool} (er : row ≡ shown_at m k a) (ec : cut ≡ meet row (meet (at_least from) (under 256))) where
      over-row : WalkOver m p n (g.found ++ take (n - count) (row_findings k a cut)) k (a + 1) 0
      over-row =
          let free : n - length g.found ≡ n - count = omega (arith, g.size) in
          subst (λ i. WalkOver m p n (g.found ++ take i (row_findings k a cut)) k (a + 1) 0) free
          (walked_then m g.walked (walked_row m k a h er ec g.walked.sized (n - length g.found) (g.walked.reached (omega (arith, g.size)))))

      pub listed-part : ((l r : List Finding) → put (l ++ r) ≡ put l ++ put r) → {more : List Finding} → more ≡ take (n - count) (row_findings k a cut)
          → {f : List ℕ} {stop : ℕ} → Puts e at (put more) f stop → {c : ℕ} → length more ≡ c → ListedSoFar put m p n d f k (a + 1) 0 (count + c) stop
      listed-part then {more} em q z = record {
        found = g.found ++ more;
        size = omega (arith, length-append g.found more, g.size);
        puts = puts-as (puts_then g.puts q) (sym (then g.found more));
        walked = subst (λ r. WalkOver m p n (g.found ++ r) k (a + 1) 0) (sym em) over-row;
      }

      -- the listing ends in the row
      pub listed-ends : length (take (n - count) (row_findings k a cut)) ≡ n - count → walk (next_in m) n p ≡ g.found ++ take (n - count) (row_findings k a cut)
      listed-ends z = walked_all m over-row (λ b. omega (arith, length-append g.found (take (n - count) (row_findings k a cut)), g.size))

    listed-later : (j b : ℕ) → k ≤ j → (j ≡ k → a < b) → b ≤ 65536
        → ((x y z : ℕ) → shown_at m x y z ≡ true → row_number k a ≤ row_number x y → row_number x y < row_number j b → ⊥) → ListedSoFar put m p n d e j b 0 count at
    listed-later j b f h u none = record { found = g.found; size = g.size; puts = g.puts; walked = walked-later m g.walked j b f h u none }

    -- as many as were wanted are found, or no kind is left
    pub listed-all : walk (next_in m) n p ≡ g.found → Puts d 0 (put (walk (next_in m) n p)) e at
    listed-all w = puts-as g.puts (ap put (sym w))

  -- ---- by the rows, one after another

  module _ {e : List ℕ} {s : Rows} {count at : ℕ} (h : SlotsOf m s.slots.now) (g : ListedSoFar put m p n d e s.kind s.slot s.from count at) where
    -- no finding is at a slot that is passed over
    none-there : (j b : ℕ) → NoneTo s j b → (x y z : ℕ) → shown_at m x y z ≡ true → row_number s.kind s.slot ≤ row_number x y → row_number x y < row_number j b → ⊥
    none-there j b none x y z t l u =
        let i = shown-inside m x y z t in
        true≢false (sym (h.each x y z t) ∙ none.clear x y i.low i.in_a l u)

    -- the walk has come to the next row
    pub listed-come : {r : Row} → r.slot < 256 → HereIs s r ⊎ LaterIs s r → ListedSoFar put m p n d e (kind_number r.kind) r.slot r.from count at
    listed-come w (inl i) = rw (i.kind, i.slot, i.from) g
    listed-come {r} w (inr i) = rw i.from (listed-later g (kind_number r.kind) r.slot i.far i.past (omega arith) (none-there (kind_number r.kind) r.slot i.none))

    -- no row is left
    pub listed-over : NoneTo s 8 0 → walk (next_in m) n p ≡ g.found
    unfolding listed-later
    listed-over none = go (dec_lt s.kind 8)
      where
        go : Dec (s.kind < 8) → walk (next_in m) n p ≡ g.found
        go (yes l) = walked_all m (listed-later g 8 0 (omega arith) (λ q. absurd (omega arith)) (omega arith) (none-there 8 0 none)).walked (λ k. absurd (omega arith))
        go (no l) = walked_all m g.walked (λ k. absurd (l k))
