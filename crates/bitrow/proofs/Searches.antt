-- What a search for the lowest number of a set finds.
use mathlib.Core.Path.{◌≡◌, refl, sym, ap, ◌∙◌, subst}
use mathlib.Core.Bool.{Bool, true, false, cond, true≢false}
use Prim.Native.Nat.{ℕ, zero, suc, ◌+◌, ◌-◌, ◌≤◌, ◌<◌}
use native.Mathlib.Decide.{dec_lt}
use native.Mathlib.Omega.{arith}
use Rattle.std.specs.Prelude.{Option, Some, None}
use Rattle.bitrow.specs.Set.{first_of, lowest_from, Lowest, Finds}

module _ (s : ℕ → Bool) where
  -- nothing from i up to m: what is found from m on is found from i on
  finds-skip : (i m n : ℕ) → i ≤ m → ((k : ℕ) → i ≤ k → k < m → s k ≡ false) → (r : Option ℕ) → Finds s m n r → Finds s i n r
  finds-skip i m n h none (Some j) l = record { from = omega (arith, l.from); below = l.below; there = l.there; before = λ k a b. go k a b (dec_lt k m) }
    where
      go : (k : ℕ) → i ≤ k → k < j → Dec (k < m) → s k ≡ false
      go k a b (yes p) = none k a p
      go k a b (no o) = l.before k (omega arith) b
  finds-skip i m n h none None f = λ k a b. go k a b (dec_lt k m)
    where
      go : (k : ℕ) → i ≤ k → k < n → Dec (k < m) → s k ≡ false
      go k a b (yes p) = none k a p
      go k a b (no o) = f k (omega arith) b

  -- there is one answer
  finds-one : (i n : ℕ) (q r : Option ℕ) → Finds s i n q → Finds s i n r → q ≡ r
  finds-one i n (Some j) (Some k) x y = ap Some (go (dec_lt j k) (dec_lt k j))
    where
      go : Dec (j < k) → Dec (k < j) → j ≡ k
      go (yes h) d = absurd (true≢false (sym x.there ∙ y.before j x.from h))
      go (no a) (yes h) = absurd (true≢false (sym y.there ∙ x.before k y.from h))
      go (no a) (no b) = omega arith
  finds-one i n (Some j) None x f = absurd (true≢false (sym x.there ∙ f j x.from x.below))
  finds-one i n None (Some k) f y = absurd (true≢false (sym y.there ∙ f k y.from y.below))
  finds-one i n None None f g = refl

  first_finds : (n i m : ℕ) → n ≡ m - i → Finds s i m (first_of s i n)
  unfolding first_of
  first_finds zero i m e = λ k a b. absurd (omega arith)
  first_finds (suc n) i m e = go (first_of s (i + 1) n) (first_finds n (i + 1) m (omega arith)) (s i) refl
    where
      go : (r : Option ℕ) → Finds s (i + 1) m r → (b : Bool) → s i ≡ b → Finds s i m (cond b (Some i) r)
      go r f true t = record { from = omega arith; below = omega arith; there = t; before = λ k a b. absurd (omega arith) }
      go r f false t = finds-skip i (i + 1) m (omega arith) (λ k a b. let e : k ≡ i = omega arith in ap s e ∙ t) r f

  lowest-finds : (i : ℕ) → Finds s i 256 (lowest_from s i)
  unfolding lowest_from
  lowest-finds i = first_finds (256 - i) i 256 refl

  -- ---- in each arm of a match on the answer

  pub lowest-at : (i : ℕ) {j : ℕ} → lowest_from s i ≡ Some j → Lowest s i 256 j
  lowest-at i e = subst (Finds s i 256) e (lowest-finds i)

  pub lowest-nothing : (i : ℕ) → lowest_from s i ≡ None → (k : ℕ) → i ≤ k → k < 256 → s k ≡ false
  lowest-nothing i e = subst (Finds s i 256) e (lowest-finds i)

  -- ---- the answer, from what is in the set

  pub at-lowest : (i j : ℕ) → Lowest s i 256 j → lowest_from s i ≡ Some j
  at-lowest i j l = finds-one i 256 (lowest_from s i) (Some j) (lowest-finds i) l

  pub nothing-lowest : (i : ℕ) → ((k : ℕ) → i ≤ k → k < 256 → s k ≡ false) → lowest_from s i ≡ None
  nothing-lowest i f = finds-one i 256 (lowest_from s i) None (lowest-finds i) f

  -- nothing from i up to m: the search may start at m
  pub lowest-skip : (i m : ℕ) → i ≤ m → ((k : ℕ) → i ≤ k → k < m → s k ≡ false) → lowest_from s i ≡ lowest_from s m
  lowest-skip i m h none = finds-one i 256 (lowest_from s i) (lowest_from s m) (lowest-finds i) (finds-skip i m 256 h none (lowest_from s m) (lowest-finds m))
