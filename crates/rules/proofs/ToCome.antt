-- The policies to come by their two words: with the lowest of either taken out, and as they begin.
use mathlib.Core.Path.{◌≡◌, sym, ap, ap₂, ◌∙◌, subst, fun_ext}
use mathlib.Core.Bool.{true, false, not, ◌&&◌, and-true, and-false}
use mathlib.Core.List.{List, [], ◌∷◌}
use Prim.Native.Nat.{ℕ, ◌+◌, ◌-◌, ◌*◌, ◌/◌, ◌%◌, ◌^◌, ◌≤◌, ◌<◌}
use native.Mathlib.Decide.{dec_lt, ℕ_discrete}
use native.Mathlib.Omega.{arith}
use lib.ListN.{get_or}
use lib.Dec.{eqb}
use Rattle.std.proofs.lemmas.List.{get_or_past}
use Rattle.std.specs.Int.Count.{count_trailing_zeros}
use Rattle.bitrow.specs.Bit.{bit, bit_at}
use Rattle.bitrow.specs.Set.{nothing, meet, under, remove}
use Rattle.bitrow.proofs.Words.{bit-zero, trailing}
use Rattle.bitrow.proofs.Sets.{point, nothing-at, meet-at, under-in, under-out, remove-there, remove-other}

-- ---- the bits of the words of a row

in-word : (r : List ℕ) (n k : ℕ) {j : ℕ} → j ≡ 64 * n + k → k < 64 → bit_at r j ≡ bit (get_or r n 0) k
unfolding bit_at
in-word r n k {j} e h =
    let d : j / 64 ≡ n = omega arith in
    let m : j % 64 ≡ k = omega arith in
    ap₂ (λ i l. bit (get_or r i 0) l) d m

-- a number is in the low word, in the high one, or past both
by-word : (P : ℕ → Type 0) → ((j : ℕ) → j < 64 → P j) → ((k : ℕ) → k < 64 → P (64 + k)) → ((j : ℕ) → 128 ≤ j → P j) → (j : ℕ) → P j
by-word P low high past j = go (dec_lt j 64) (dec_lt j 128)
  where
    go : Dec (j < 64) → Dec (j < 128) → P j
    go (yes h) d = low j h
    go (no h) (yes i) = let e : 64 + (j - 64) ≡ j = omega arith in subst P e (high (j - 64) (omega arith))
    go (no h) (no i) = past j (omega arith)

module _ (x y : ℕ) where
  low-at : (j : ℕ) → j < 64 → bit_at (x ∷ y ∷ []) j ≡ bit x j
  low-at j h = in-word (x ∷ y ∷ []) 0 j (omega arith) h

  high-at : (k : ℕ) → k < 64 → bit_at (x ∷ y ∷ []) (64 + k) ≡ bit y k
  high-at k h = in-word (x ∷ y ∷ []) 1 k (omega arith) h

  past-at : (j : ℕ) → 128 ≤ j → bit_at (x ∷ y ∷ []) j ≡ false
  unfolding bit_at
  past-at j h = ap (λ w. bit w (j % 64)) (get_or_past (x ∷ y ∷ []) (j / 64) 0 (omega arith)) ∙ bit-zero (j % 64)

-- ---- as they begin, and where none is left

pub begun : (r : List ℕ) → bit_at (get_or r 0 0 ∷ get_or r 1 0 ∷ []) ≡ meet (bit_at r) (under 128)
begun r = fun_ext (by-word (λ j. bit_at (get_or r 0 0 ∷ get_or r 1 0 ∷ []) j ≡ meet (bit_at r) (under 128) j)
    (λ j h. low-at _ _ j h ∙ sym (within j (omega arith) ∙ in-word r 0 j (omega arith) h))
    (λ k h. high-at _ _ k h ∙ sym (within (64 + k) (omega arith) ∙ in-word r 1 k (omega arith) h))
    (λ j h. past-at _ _ j h ∙ sym (meet-at (bit_at r) (under 128) j ∙ ap (λ t. bit_at r j && t) (under-out 128 j h) ∙ and-false (bit_at r j))))
  where
    within : (j : ℕ) → j < 128 → meet (bit_at r) (under 128) j ≡ bit_at r j
    within j h = meet-at (bit_at r) (under 128) j ∙ ap (λ t. bit_at r j && t) (under-in 128 j h) ∙ and-true (bit_at r j)

pub ended : {x y : ℕ} → x ≤ 0 → y ≤ 0 → bit_at (x ∷ y ∷ []) ≡ nothing
ended {x} {y} h i = fun_ext (by-word (λ j. bit_at (x ∷ y ∷ []) j ≡ nothing j)
    (λ j l. low-at x y j l ∙ clear x h j ∙ sym (nothing-at j))
    (λ k l. high-at x y k l ∙ clear y i k ∙ sym (nothing-at (64 + k)))
    (λ j l. past-at x y j l ∙ sym (nothing-at j)))
  where
    clear : (w : ℕ) → w ≤ 0 → (k : ℕ) → bit w k ≡ false
    clear w h k = let e : w ≡ 0 = omega arith in ap (λ w. bit w k) e ∙ bit-zero k

-- ---- a turn

module _ (x y next : ℕ) where
  pub low-turn : 0 < x → x < 2 ^ 64 → bit next ≡ remove (count_trailing_zeros 64 x) (bit x)
      → (count_trailing_zeros 64 x < 128) × (bit_at (x ∷ y ∷ []) (count_trailing_zeros 64 x) ≡ true)
      × (bit_at (next ∷ y ∷ []) ≡ remove (count_trailing_zeros 64 x) (bit_at (x ∷ y ∷ [])))
  unfolding remove
  low-turn p h d =
      let c = count_trailing_zeros 64 x in
      let l = trailing 64 x h p in (
        omega (arith, l.below),
        low-at x y c l.below ∙ l.there,
        fun_ext (by-word (λ j. bit_at (next ∷ y ∷ []) j ≡ remove c (bit_at (x ∷ y ∷ [])) j)
            (λ j i. low-at next y j i ∙ point d j ∙ ap (λ t. not (eqb j c) && t) (sym (low-at x y j i)))
            (λ k i. high-at next y k i ∙ sym (remove-other c (bit_at (x ∷ y ∷ [])) (64 + k) (λ q. let b = l.below in absurd (omega arith)) ∙ high-at x y k i))
            (λ j i. past-at next y j i ∙ sym (ap (λ t. not (eqb j c) && t) (past-at x y j i) ∙ and-false (not (eqb j c))))),
      )

  pub high-turn : 0 < y → y < 2 ^ 64 → bit next ≡ remove (count_trailing_zeros 64 y) (bit y)
      → (64 + count_trailing_zeros 64 y < 128) × (bit_at (x ∷ y ∷ []) (64 + count_trailing_zeros 64 y) ≡ true)
      × (bit_at (x ∷ next ∷ []) ≡ remove (64 + count_trailing_zeros 64 y) (bit_at (x ∷ y ∷ [])))
  unfolding remove
  high-turn p h d =
      let c = count_trailing_zeros 64 y in
      let l = trailing 64 y h p in (
        omega (arith, l.below),
        high-at x y c l.below ∙ l.there,
        fun_ext (by-word (λ j. bit_at (x ∷ next ∷ []) j ≡ remove (64 + c) (bit_at (x ∷ y ∷ [])) j)
            (λ j i. low-at x next j i ∙ sym (remove-other (64 + c) (bit_at (x ∷ y ∷ [])) j (λ q. absurd (omega arith)) ∙ low-at x y j i))
            (λ k i. high-at x next k i ∙ point d k ∙ moved c k i (ℕ_discrete k c))
            (λ j i. past-at x next j i ∙ sym (ap (λ t. not (eqb j (64 + c)) && t) (past-at x y j i) ∙ and-false (not (eqb j (64 + c)))))),
      )
    where
      moved : (c k : ℕ) → k < 64 → Dec (k ≡ c) → remove c (bit y) k ≡ remove (64 + c) (bit_at (x ∷ y ∷ [])) (64 + k)
      moved c k i (yes q) = ap (remove c (bit y)) q ∙ remove-there c (bit y) ∙ sym (ap (λ a. remove (64 + c) (bit_at (x ∷ y ∷ [])) (64 + a)) q ∙ remove-there (64 + c) (bit_at (x ∷ y ∷ [])))
      moved c k i (no n) = remove-other c (bit y) k n ∙ sym (remove-other (64 + c) (bit_at (x ∷ y ∷ [])) (64 + k) (λ q. n (omega arith)) ∙ high-at x y k i)
