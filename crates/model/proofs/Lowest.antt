-- The search finds the lowest free slot: by induction over the table, a slot further on being the same slot of the rest.
use mathlib.Core.Path.{◌≡◌, refl, sym, ap}
use mathlib.Core.Bool.{true, false, true≢false}
use mathlib.Core.List.{[], ◌∷◌}
use mathlib.Core.Option.{Option, none, some}
use Prim.Native.Nat.{ℕ, zero, suc, ◌<◌}
use native.Mathlib.Nat.{not-suc-le-zero, le_of_suc-le-suc}
use native.Mathlib.Omega.{arith}
use lib.ListN.{length}
use Rattle.model.specs.Table.{Table, free, next, lowest_free}
use Rattle.model.specs.Lowest.{IsLowest, FindsLowest}

module _ {A : Type 0} where
  found : (t : Table A) (i : ℕ) → lowest_free t ≡ some i → IsLowest t i
  found [] i e = let z : ◌≡◌ {A = ℕ} 0 1 = cc in absurd (omega arith)
  found (none ∷ t) zero e = record { itself = refl; below = λ j h. absurd (not-suc-le-zero h) }
  found (none ∷ t) (suc i) e = let z : ◌≡◌ {A = ℕ} 0 (suc i) = cc in absurd (omega arith)
  found (some x ∷ t) i e = later (lowest_free t) (found t) i e
    where
      below : (j : ℕ) → IsLowest t j → (k : ℕ) → k < suc j → free (some x ∷ t) k ≡ false
      below j l zero h = refl
      below j l (suc k) h = l.below k (le_of_suc-le-suc h)

      later : (o : Option ℕ) → ((j : ℕ) → o ≡ some j → IsLowest t j) → (i : ℕ) → next o ≡ some i → IsLowest (some x ∷ t) i
      later none f i e = let z : ◌≡◌ {A = ℕ} 0 1 = cc in absurd (omega arith)
      later (some j) f zero e = let z : ◌≡◌ {A = ℕ} 0 (suc j) = cc in absurd (omega arith)
      later (some j) f (suc i) e =
          let s : suc j ≡ suc i = cc in
          let r : j ≡ i = omega arith in
          let l = f i (ap some r) in
          record { itself = l.itself; below = below i l }

  finds : (t : Table A) (i : ℕ) → IsLowest t i → lowest_free t ≡ some i
  finds [] i l = absurd (true≢false (sym l.itself))
  finds (none ∷ t) zero l = refl
  finds (none ∷ t) (suc i) l = absurd (true≢false (l.below 0 (omega arith)))
  finds (some x ∷ t) zero l = absurd (true≢false (sym l.itself))
  finds (some x ∷ t) (suc i) l = ap next (finds t i (record { itself = l.itself; below = λ j h. l.below (suc j) (omega arith) }))

  none_free : (t : Table A) → lowest_free t ≡ none → (i : ℕ) → free t i ≡ false
  none_free [] e i = refl
  none_free (none ∷ t) e i = let z : ◌≡◌ {A = ℕ} 0 1 = cc in absurd (omega arith)
  none_free (some x ∷ t) e zero = refl
  none_free (some x ∷ t) e (suc i) = none_free t (back (lowest_free t) e) i
    where
      back : (o : Option ℕ) → next o ≡ none → o ≡ none
      back none e = refl
      back (some j) e = let z : ◌≡◌ {A = ℕ} 0 1 = cc in absurd (omega arith)

  free-none : (t : Table A) → ((i : ℕ) → free t i ≡ false) → lowest_free t ≡ none
  free-none [] h = refl
  free-none (none ∷ t) h = absurd (true≢false (h 0))
  free-none (some x ∷ t) h = ap next (free-none t (λ i. h (suc i)))

-- what the search finds lies within the table
module _ {A : Type 0} where
  free-below : (t : Table A) (i : ℕ) → free t i ≡ true → i < length t
  free-below [] i e = absurd (true≢false (sym e))
  free-below (x ∷ t) zero e = omega arith
  free-below (x ∷ t) (suc i) e = let h = free-below t i e in omega arith

  pub lowest-below : (t : Table A) (i : ℕ) → lowest_free t ≡ some i → i < length t
  lowest-below t i e = free-below t i (found t i e).itself

pub finds-lowest : FindsLowest
unfolding FindsLowest
finds-lowest A t = (λ i. (found t i, finds t i), (none_free t, free-none t))
