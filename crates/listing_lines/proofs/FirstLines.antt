-- The first findings of a row: their numbers, put into a list, have short lines.
use mathlib.Core.Path.{◌≡◌, ap, ◌∙◌, subst}
use mathlib.Core.Bool.{Bool, true, false, cond}
use mathlib.Core.List.{List, [], ◌∷◌, ◌++◌, map, append-nil}
use Prim.Native.Nat.{ℕ, zero, suc, ◌+◌, ◌≤◌, ◌<◌}
use native.Mathlib.Omega.{arith}
use lib.ListN.{length, take, get_or, length-map}
use lib.Seq.{length-take-le}
use Rattle.std.proofs.lemmas.List.{drop_all}
use Rattle.std.specs.List.{All}
use Rattle.std.proofs.lemmas.List.Elements.{All-nil, All-cons, All-head, All-tail, All-get_or}
use Rattle.bitrow.specs.Set.{size}
use Rattle.buffer.specs.Buffer.{Puts}
use Rattle.model.specs.declared.Kind.{Kind}
use Rattle.model.specs.declared.Kind.TheVariants.{AllReachable, AllIsolated, UserCross, SystemIsolation, Shadow, Conflict, Irrelevance}
use Rattle.model.specs.Kinds.{kind_number}
use Rattle.model.specs.Findings.{finding, finding_code}
use Rattle.row_listing.specs.Listing.{members, row_findings}
use Rattle.row_listing.proofs.Sizes.{row-count}
use Rattle.findings.proofs.PutSoFar.{take-map}
use Rattle.finding_lines.specs.Codes.{ShortCode}

All-take : {A : Type 0} (P : A → Type 0) (n : ℕ) (l : List A) → All P l → All P (take n l)
All-take P zero l h = All-nil P
All-take P (suc n) [] h = All-nil P
All-take P (suc n) (x ∷ l) h = All-cons P x (take n l) (All-head P x l h) (All-take P n l (All-tail P x l h))

module _ (k a : ℕ) (h : k < 8) (l : a < 256) where
  code-short : (b : ℕ) → b < 256 → ShortCode (finding_code (finding k a b))
  unfolding finding_code
  code-short b m = record { kind = omega arith; a = omega arith; b = omega arith }

  members-short : (s : ℕ → Bool) (n i : ℕ) → i + n ≤ 256 → All ShortCode (map finding_code (map (finding k a) (members s i n)))
  unfolding members
  members-short s zero i m = All-nil ShortCode
  members-short s (suc n) i m = pick (s i) (members-short s n (suc i) (omega arith))
    where
      pick : (t : Bool) → All ShortCode (map finding_code (map (finding k a) (members s (suc i) n))) → All ShortCode (map finding_code (map (finding k a) (cond t (i ∷ members s (suc i) n) (members s (suc i) n))))
      pick true r = All-cons ShortCode (finding_code (finding k a i)) (map finding_code (map (finding k a) (members s (suc i) n))) (code-short i (omega arith)) r
      pick false r = r

  pub first-short : (s : ℕ → Bool) (n : ℕ) → All ShortCode (map finding_code (take n (row_findings k a s)))
  unfolding row_findings
  first-short s n = subst (All ShortCode) (take-map finding_code n (map (finding k a) (members s 0 256))) (All-take ShortCode n _ (members-short s 256 0 (omega arith)))

-- the first n of a row
module _ (k a : ℕ) (s : ℕ → Bool) (n : ℕ) (h : n ≤ size s 256) where
  abbrev codes : List ℕ
  codes = map finding_code (take n (row_findings k a s))

  pub first-count : length (take n (row_findings k a s)) ≡ n
  first-count = length-take-le n (row_findings k a s) (omega (arith, row-count k a s))

  pub first-codes : length codes ≡ n
  first-codes = length-map (take n (row_findings k a s)) finding_code ∙ first-count

  -- put into a list that they fill
  pub first-put : {d e : List ℕ} {i : ℕ} → n ≡ length d → Puts d 0 (take n (map finding_code (row_findings k a s))) e i → e ≡ codes
  first-put {d} {e} {i} l g =
      let same = take-map finding_code n (row_findings k a s) in
      let full : length d ≤ i = omega (arith, g.stops, ap length same, first-codes) in
      g.text ∙ ap (λ x. take n (map finding_code (row_findings k a s)) ++ x) (drop_all i d full) ∙ append-nil (take n (map finding_code (row_findings k a s))) ∙ same

-- the number of the last of them can be a cursor's
pub short-small : (l : List ℕ) (i : ℕ) → All ShortCode l → i < length l → get_or l i 0 < 281474976710656
short-small l i h m = let c = All-get_or ShortCode l i 0 m h in omega (arith, c.kind)

pub kind-below : (k : Kind) → kind_number k < 8
kind-below AllReachable = omega arith
kind-below AllIsolated = omega arith
kind-below UserCross = omega arith
kind-below SystemIsolation = omega arith
kind-below Shadow = omega arith
kind-below Conflict = omega arith
kind-below Irrelevance = omega arith
