-- The numbers of a set as a rising list.
use mathlib.Core.Path.{◌≡◌, refl, sym, ap, ap₂, ◌∙◌}
use mathlib.Core.Bool.{Bool, true, false, ◌&&◌, cond, and-true, and-false}
use mathlib.Core.List.{List, [], ◌∷◌, ◌++◌, map}
use Prim.Native.Nat.{ℕ, zero, suc, ◌+◌, ◌-◌, ◌*◌, ◌^◌, ◌≤◌, ◌<◌}
use native.Mathlib.Nat.{zero-add, add-zero}
use native.Mathlib.Decide.{dec_lt, ℕ_discrete}
use native.Mathlib.Omega.{arith}
use lib.Count.{count_trailing_zeros}
use lib.ListN.{get_or}
use Rattle.bitrow.specs.Bit.{bit, bit_at}
use Rattle.bitrow.specs.Set.{under, at_least, meet, remove, Lowest}
use Rattle.bitrow.proofs.Sets.{under-in, at-least-in, at-least-out, meet-at, remove-there, remove-other}
use Rattle.bitrow.proofs.Words.{bit-zero, trailing}
use Rattle.bitrow.proofs.Rows.{word-bit}
use Rattle.row_listing.specs.Listing.{members}

-- ---- any set

-- sets that agree on the n numbers from i on
members-cong : (s t : ℕ → Bool) (n i : ℕ) → ((j : ℕ) → i ≤ j → j < i + n → s j ≡ t j) → members s i n ≡ members t i n
unfolding members
members-cong s t zero i f = refl
members-cong s t (suc n) i f = rw (f i (omega arith) (omega arith), members-cong s t n (suc i) (λ j h l. f j (omega arith) (omega arith)))

members-none : (s : ℕ → Bool) (n i : ℕ) → ((j : ℕ) → i ≤ j → j < i + n → s j ≡ false) → members s i n ≡ []
unfolding members
members-none s zero i f = refl
members-none s (suc n) i f = rw (f i (omega arith) (omega arith)) (members-none s n (suc i) (λ j h l. f j (omega arith) (omega arith)))

-- in two stretches
members-add : (s : ℕ → Bool) (m n i : ℕ) → members s i (m + n) ≡ members s i m ++ members s (i + m) n
unfolding members
members-add s zero n i = rw (zero-add, add-zero)
members-add s (suc m) n i =
    let shift : suc i + m ≡ i + suc m = omega arith in
    let size : suc m + n ≡ suc (m + n) = omega arith in
    ap (members s i) size ∙ more (s i) _ _ _ (members-add s m n (suc i) ∙ ap (λ (k : ℕ). members s (suc i) m ++ members s k n) shift)
  where
    more : (t : Bool) (a b c : List ℕ) → a ≡ b ++ c → cond t (i ∷ a) a ≡ cond t (i ∷ b) b ++ c
    more true a b c e = ap (λ (l : List ℕ). i ∷ l) e
    more false a b c e = e

-- from d + i on, as numbers past d
members-shift : (s : ℕ → Bool) (d n i : ℕ) → members s (d + i) n ≡ map (λ j. d + j) (members (λ j. s (d + j)) i n)
unfolding members
members-shift s d zero i = refl
members-shift s d (suc n) i =
    let shift : suc (d + i) ≡ d + suc i = omega arith in
    more (s (d + i)) _ _ (ap (λ (k : ℕ). members s k n) shift ∙ members-shift s d n (suc i))
  where
    more : (t : Bool) (a b : List ℕ) → a ≡ map (λ j. d + j) b → cond t ((d + i) ∷ a) a ≡ map (λ j. d + j) (cond t (i ∷ b) b)
    more true a b e = ap (λ (l : List ℕ). (d + i) ∷ l) e
    more false a b e = e

-- the lowest, and then the others
members-lowest : (s : ℕ → Bool) (n i j : ℕ) → Lowest s i (i + n) j → members s i n ≡ j ∷ members (remove j s) i n
unfolding members
members-lowest s zero i j l = absurd (omega (arith, l.from, l.below))
members-lowest s (suc n) i j l = go (ℕ_discrete j i) (members-lowest s n (suc i) j)
  where
    go : Dec (j ≡ i) → (Lowest s (suc i) (suc i + n) j → members s (suc i) n ≡ j ∷ members (remove j s) (suc i) n) → members s i (suc n) ≡ j ∷ members (remove j s) i (suc n)
    go (yes e) ih =
        rw (← e, l.there, remove-there j s, members-cong s (remove j s) n (suc j) (λ k h b. sym (remove-other j s k (λ q. omega arith))))
    go (no m) ih =
        let first : s i ≡ false = l.before i (omega arith) (omega (arith, l.from)) in
        rw (first, remove-other j s i (λ q. m (sym q)) ∙ first)
        (ih (record { from = omega (arith, l.from); below = omega (arith, l.below); there = l.there; before = λ k h b. l.before k (omega arith) b }))

-- those from f on
module _ (s : ℕ → Bool) (f n : ℕ) where
  abbrev from : ℕ → Bool
  from = meet s (meet (at_least f) (under n))

  out : (j : ℕ) → j < f → from j ≡ false
  out j h = meet-at s (meet (at_least f) (under n)) j ∙ ap (λ t. s j && t) (meet-at (at_least f) (under n) j ∙ ap (λ t. t && under n j) (at-least-out f j h)) ∙ and-false (s j)

  in_both : (j : ℕ) → f ≤ j → j < n → from j ≡ s j
  in_both j h l =
      meet-at s (meet (at_least f) (under n)) j
      ∙ ap (λ t. s j && t) (meet-at (at_least f) (under n) j ∙ ap₂ ◌&&◌ (at-least-in f j h) (under-in n j l)) ∙ and-true (s j)

  pub members-cut : members (meet s (meet (at_least f) (under n))) 0 n ≡ members s f (n - f)
  unfolding members
  members-cut = go (dec_lt n f)
    where
      go : Dec (n < f) → members from 0 n ≡ members s f (n - f)
      go (yes h) = let z : n - f ≡ 0 = omega arith in members-none from n 0 (λ j a b. out j (omega arith)) ∙ sym (ap (members s f) z)
      go (no h) =
          let e : n ≡ f + (n - f) = omega arith in
          ap (members from 0) e ∙ members-add from f (n - f) 0
          ∙ ap₂ ◌++◌ (members-none from f 0 (λ j a b. out j (omega arith))) (ap (λ k. members from k (n - f)) (zero-add f) ∙ members-cong from s (n - f) f (λ j a b. in_both j a (omega arith)))

-- ---- the bits of a word

pub bits_none : members (bit 0) 0 64 ≡ []
bits_none = members-none (bit 0) 64 0 (λ j h l. bit-zero j)

-- the lowest bit, and then those of the word without it
pub bits-next : (w r : ℕ) → w < 2 ^ 64 → 0 < w → bit r ≡ remove (count_trailing_zeros 64 w) (bit w) → members (bit w) 0 64 ≡ count_trailing_zeros 64 w ∷ members (bit r) 0 64
bits-next w r h p e =
    members-lowest (bit w) 64 0 (count_trailing_zeros 64 w) (trailing 64 w h p) ∙ ap (λ t. count_trailing_zeros 64 w ∷ members t 0 64) (sym e)

-- ---- the bits of a row

-- those of word k of a row, and then those of the words after it
pub row_next : (r : List ℕ) (k n : ℕ) → members (bit_at r) (k * 64) (64 + n) ≡ map (λ i. k * 64 + i) (members (bit (get_or r k 0)) 0 64) ++ members (bit_at r) ((k + 1) * 64) n
row_next r k n =
    let e : k * 64 + 64 ≡ (k + 1) * 64 = omega arith in
    members-add (bit_at r) 64 n (k * 64)
    ∙ ap₂ ◌++◌
    (ap (λ i. members (bit_at r) i 64) (sym (add-zero (k * 64))) ∙ members-shift (bit_at r) (k * 64) 64 0
    ∙ ap (map (λ i. k * 64 + i)) (members-cong (λ i. bit_at r (k * 64 + i)) (bit (get_or r k 0)) 64 0 (λ i h l. word-bit r k i (omega arith))))
    (ap (λ i. members (bit_at r) i n) e)
