-- A listing of the findings after a place, as many as a buffer holds, each put as one number.
use mathlib.Core.Path.{◌≡◌, refl, sym, ap, ◌∙◌}
use mathlib.Core.Bool.{Bool, true, true≢false}
use mathlib.Core.List.{List, [], ◌∷◌, ◌++◌, map, map-append}
use Prim.Native.Nat.{ℕ, zero, suc, ◌+◌, ◌-◌, ◌/◌, ◌%◌, ◌≤◌, ◌<◌}
use native.Mathlib.Decide.{dec_lt}
use native.Mathlib.Omega.{arith}
use lib.ListN.{length, take, drop, get_or, length-map, length-drop, get_or-append}
use mathlib.Core.Logic.{◌⊎◌, inl, inr}
use borrow.Rule.Slice.PartMut.{put_mid}
use Rattle.bitrow.specs.Set.{under, at_least, meet}
use Rattle.buffer.specs.Buffer.{Puts}
use Rattle.buffer.proofs.BufferLaws.{puts_none, puts-size, puts-as, puts_then}
use Rattle.model.specs.declared.Finding.{Finding}
use Rattle.model.specs.Findings.{Place, place_of, walk, moved, finding_code}
use Rattle.model.specs.Kinds.{kind_number}
use Rattle.row_listing.specs.Listing.{row_findings}
use Rattle.row_listing.proofs.Putting.{rest-lent, puts-rest}
use Rattle.finding_rows.specs.Slots.{SlotsOf}
use Rattle.findings.specs.declared.Row.{Row}
use Rattle.findings.specs.declared.Rows.{Rows}
use Rattle.findings.specs.RowSteps.{row_number, NoneTo, HereIs, LaterIs}
use Rattle.findings.specs.Steps.{place_at}
use Rattle.container_findings.specs.Rows.{shown_at}
use Rattle.findings.proofs.Inside.{shown-inside}
use Rattle.findings.proofs.Walk.{rank, SmallPlace}
use Rattle.findings.proofs.ListedSoFar.{ListedSoFar, listed-part}
use Rattle.findings.proofs.NextFinding.{next_in, walk-sized, ComeIn, reached-start, WalkOver, walked_none, walked_then, walked_row, walked-later, walked_all}

-- ---- the number of a place

-- of three numbers that a cursor can hold
module _ (p : Place) (s : SmallPlace p) where
  pub rank-small : rank p.kind p.a p.b < 281474976710656
  unfolding finding_code
  rank-small = omega (arith, s.small_kind, s.small_a, s.small_b)

  pub rank-place : place_at (rank p.kind p.a p.b) ≡ p
  unfolding finding_code
  rank-place =
      let n = rank p.kind p.a p.b in
      let x = s.small_a in
      let y = s.small_b in
      let k : n / 4294967296 ≡ p.kind = omega arith in
      let a : n / 65536 % 65536 ≡ p.a = omega arith in
      let b : n % 65536 ≡ p.b = omega arith in
      λ i. record { kind = k i; a = a i; b = b i }

-- the last of some findings is at the place they lead to
pub last_code : (p : Place) (l : List Finding) (n : ℕ) → length l ≡ suc n → get_or (map finding_code l) n 0 ≡ rank (moved p l).kind (moved p l).a (moved p l).b
last_code p [] n e = absurd (omega arith)
last_code p (g ∷ []) zero e = refl
last_code p (g ∷ []) (suc n) e = absurd (omega arith)
last_code p (g ∷ h ∷ l) zero e = absurd (omega arith)
last_code p (g ∷ h ∷ l) (suc n) e = last_code (place_of g) (h ∷ l) n (omega arith)

pub take-map : {A B : Type 0} (f : A → B) (n : ℕ) (l : List A) → take n (map f l) ≡ map f (take n l)
take-map f zero l = refl
take-map f (suc n) [] = refl
take-map f (suc n) (x ∷ l) = ap (λ t. f x ∷ t) (take-map f n l)

-- ---- the listing of their numbers

-- of the findings after p, as many as d holds, put into d: e is d with those put so far, up to before `at`
abbrev pub PutSoFar : List ℕ → Place → List ℕ → List ℕ → ℕ → ℕ → ℕ → ℕ → Type 0
PutSoFar m p d e k a from at = ListedSoFar (map finding_code) m p (length d) d e k a from at at

module _ (m : List ℕ) {p : Place} {d e : List ℕ} {k a from at : ℕ} (g : PutSoFar m p d e k a from at) where
  size-kept : length e ≡ length d
  size-kept = puts-size g.puts

  pub listed-room : at ≤ length e
  listed-room = omega (arith, size-kept, g.puts.room)

  -- the findings of a row, as many as there is room for in the rest of the buffer
  pub listed-row : a < 256 → at < length e → {row cut : ℕ → Bool} → row ≡ shown_at m k a → cut ≡ meet row (meet (at_least from) (under 256))
      → {part : List ℕ} {n : ℕ} → Puts (take (length e - at) (drop at e)) 0 (take (length (take (length e - at) (drop at e))) (map finding_code (row_findings k a cut))) part n
      → PutSoFar m p d (put_mid at (length e - at) e part) k (a + 1) 0 (at + n)
  listed-row h l {cut = cut} er ec q =
      let row = row_findings k a cut in
      let room : length (drop at e) ≡ length d - at = omega (arith, length-drop at e, size-kept) in
      let more = take (length d - at) row in
      let put : Puts e at (map finding_code more) _ _ = puts-as (puts-rest at listed-room (rw (rest-lent e at) at q)) (ap (λ j. take j (map finding_code row)) room ∙ take-map finding_code (length d - at) row) in
      listed-part (map finding_code) m g h (omega (arith, size-kept)) er ec (map-append finding_code) refl put (omega (arith, put.stops, length-map more finding_code))

-- ---- what was put, all of it

module _ (m : List ℕ) (n : ℕ) (p : Place) (s : SmallPlace p) {d e : List ℕ} {at : ℕ} (q : Puts d 0 (map finding_code (walk (next_in m) n p)) e at) where
  abbrev all : List Finding
  all = walk (next_in m) n p

  size : length all ≡ at
  size = omega (arith, q.stops, length-map all finding_code)

  -- the last finding put
  put-last : 0 < at → get_or e (at - 1) 0 ≡ rank (moved p all).kind (moved p all).a (moved p all).b
  put-last h =
      ap (λ t. get_or t (at - 1) 0) q.text
      ∙ get_or-append (map finding_code all) (drop at d) 0 (at - 1) (omega (arith, size, length-map all finding_code))
      ∙ last_code p all (at - 1) (omega (arith, size))

  pub put_small : 0 < at → get_or e (at - 1) 0 < 281474976710656
  put_small h = omega (arith, put-last h, rank-small (moved p all) (walk-sized m n p s))

  pub put-moved : 0 < at → {c : Place} → c ≡ place_at (get_or e (at - 1) 0) → c ≡ moved p all
  put-moved h r = r ∙ ap place_at (put-last h) ∙ rank-place (moved p all) (walk-sized m n p s)

  -- none was found
  pub put-still : at ≡ 0 → p ≡ moved p all
  put-still z = sym (still all (size ∙ z))
    where
      still : (l : List Finding) → length l ≡ 0 → moved p l ≡ p
      still [] e = refl
      still (x ∷ l) e = absurd (omega arith)
