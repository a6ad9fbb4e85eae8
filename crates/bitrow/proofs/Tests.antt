-- What the tests of sets say.
use mathlib.Core.Path.{◌≡◌, refl, sym, ap, ◌∙◌}
use mathlib.Core.Bool.{Bool, true, false, not, ◌&&◌, ◌||◌, or-true, or-false, and-eq-true_iff, true≢false, false≢true}
use Prim.Native.Nat.{ℕ, zero, suc, ◌+◌, ◌<◌}
use native.Mathlib.Numerals.{add-one}
use native.Mathlib.Decide.{ℕ_discrete}
use native.Mathlib.Omega.{arith}
use Rattle.bitrow.specs.Set.{less, some, has_some, part, equal}
use Rattle.bitrow.proofs.Sets.{less-at}

-- two tests with the same outcome
pub same_test : (a b : Bool) → (a ≡ true → b ≡ true) → (b ≡ true → a ≡ true) → a ≡ b
same_test true b f g = sym (f refl)
same_test false true f g = g refl
same_test false false f g = refl

-- ---- some number below n

pub some-zero : (s : ℕ → Bool) → some s 0 ≡ false
unfolding some
some-zero s = refl

pub some_next : (s : ℕ → Bool) (n : ℕ) → some s (n + 1) ≡ (some s n || s n)
unfolding some
some_next s n = rw add-one

pub some-skip : (s : ℕ → Bool) (n : ℕ) → s n ≡ false → some s (n + 1) ≡ some s n
some-skip s n e = some_next s n ∙ rw e (or-false (some s n))

pub some-take : (s : ℕ → Bool) (n : ℕ) → s n ≡ true → some s (n + 1) ≡ true
some-take s n e = some_next s n ∙ rw e (or-true (some s n))

some_in : (s : ℕ → Bool) (n j : ℕ) → j < n → s j ≡ true → some s n ≡ true
unfolding some
some_in s zero j h e = absurd (omega arith)
some_in s (suc n) j h e = go (some_in s n j) (ℕ_discrete j n)
  where
    go : (j < n → s j ≡ true → some s n ≡ true) → Dec (j ≡ n) → (some s n || s n) ≡ true
    go ih (yes p) = ap (λ (b : Bool). some s n || b) (ap s (sym p) ∙ e) ∙ or-true (some s n)
    go ih (no m) = ap (λ (b : Bool). b || s n) (ih (omega arith) e)

some-clear : (s : ℕ → Bool) (n : ℕ) → ((j : ℕ) → j < n → s j ≡ false) → some s n ≡ false
unfolding some
some-clear s zero f = refl
some-clear s (suc n) f = ap (λ (b : Bool). b || s n) (some-clear s n (λ j h. f j (omega arith))) ∙ f n (omega arith)

some-absent : (s : ℕ → Bool) (n : ℕ) → some s n ≡ false → (j : ℕ) → j < n → s j ≡ false
some-absent s n e j h = go (s j) refl
  where
    go : (b : Bool) → s j ≡ b → b ≡ false
    go true t = absurd (true≢false (sym (some_in s n j h t) ∙ e))
    go false t = refl

some-found : (s : ℕ → Bool) (n : ℕ) → some s n ≡ true → (j : ℕ) × (j < n) × (s j ≡ true)
unfolding some
some-found s zero e = absurd (false≢true e)
some-found s (suc n) e = go (some-found s n) (s n) refl e
  where
    go : (some s n ≡ true → (j : ℕ) × (j < n) × (s j ≡ true)) → (b : Bool) → s n ≡ b → (some s n || b) ≡ true → (j : ℕ) × (j < suc n) × (s j ≡ true)
    go ih true t e = (n, omega arith, t)
    go ih false t e = let k = ih (sym (or-false (some s n)) ∙ e) in (k.0, omega (arith, k.1), k.2)

-- sets that agree below n
pub some-cong : (s t : ℕ → Bool) (n : ℕ) → ((j : ℕ) → j < n → s j ≡ t j) → some s n ≡ some t n
some-cong s t n f =
    same_test (some s n) (some t n)
    (λ e. let k = some-found s n e in some_in t n k.0 k.1 (sym (f k.0 k.1) ∙ k.2))
    (λ e. let k = some-found t n e in some_in s n k.0 k.1 (f k.0 k.1 ∙ k.2))

-- ---- some number below 256

pub has_some-in : (s : ℕ → Bool) (j : ℕ) → j < 256 → s j ≡ true → has_some s ≡ true
unfolding has_some
has_some-in s = some_in s 256

pub has_some-found : (s : ℕ → Bool) → has_some s ≡ true → (j : ℕ) × (j < 256) × (s j ≡ true)
unfolding has_some
has_some-found s = some-found s 256

pub has_some-clear : (s : ℕ → Bool) → ((j : ℕ) → j < 256 → s j ≡ false) → has_some s ≡ false
unfolding has_some
has_some-clear s = some-clear s 256

pub has_some-absent : (s : ℕ → Bool) → has_some s ≡ false → (j : ℕ) → j < 256 → s j ≡ false
unfolding has_some
has_some-absent s = some-absent s 256

-- ---- a part below 256

-- in s and not in t, or not so
outside : (a b : Bool) → a ≡ true → b ≡ false → (a && not b) ≡ true
outside true false e f = refl
outside true true e f = sym f
outside false b e f = absurd (false≢true e)

inside : (a b : Bool) → (a ≡ true → b ≡ true) → (a && not b) ≡ false
inside true b f = ap not (f refl)
inside false b f = refl

pub part-all : (s t : ℕ → Bool) → ((j : ℕ) → j < 256 → s j ≡ true → t j ≡ true) → part s t ≡ true
unfolding part
part-all s t f = ap not (has_some-clear (less s t) (λ j h. less-at s t j ∙ inside (s j) (t j) (f j h)))

pub part-not : (s t : ℕ → Bool) (j : ℕ) → j < 256 → s j ≡ true → t j ≡ false → part s t ≡ false
unfolding part
part-not s t j h e f = ap not (has_some-in (less s t) j h (less-at s t j ∙ outside (s j) (t j) e f))

pub part_in-law : (s t : ℕ → Bool) → part s t ≡ true → (j : ℕ) → j < 256 → s j ≡ true → t j ≡ true
part_in-law s t p j h e = go (t j) refl
  where
    go : (b : Bool) → t j ≡ b → b ≡ true
    go true f = refl
    go false f = absurd (true≢false (sym p ∙ part-not s t j h e f))

-- ---- the same below 256

pub equal-all : (s t : ℕ → Bool) → ((j : ℕ) → j < 256 → s j ≡ t j) → equal s t ≡ true
unfolding equal
equal-all s t f = ap (λ (b : Bool). b && part t s) (part-all s t (λ j h e. sym (f j h) ∙ e)) ∙ part-all t s (λ j h e. f j h ∙ e)

pub equal-in : (s t : ℕ → Bool) → equal s t ≡ true → (j : ℕ) → j < 256 → s j ≡ t j
unfolding equal
equal-in s t e j h = let p = (and-eq-true_iff (part s t) (part t s)).0 e in same_test (s j) (t j) (part_in-law s t p.0 j h) (part_in-law t s p.1 j h)

pub equal-self : (s : ℕ → Bool) → equal s s ≡ true
equal-self s = equal-all s s (λ j h. refl)
