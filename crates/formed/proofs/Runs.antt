-- Laws of joined tests: a conjunction, a choice, a test of each place in a run; and of the labels in a run.
use mathlib.Core.Path.{◌≡◌, refl, sym, ap, ◌∙◌}
use mathlib.Core.Bool.{Bool, true, false}
use mathlib.Core.List.{List}
use Prim.Native.Nat.{ℕ, zero, suc, ◌+◌, ◌-◌, ◌/◌, ◌≤◌, ◌<◌}
use native.Mathlib.Nat.{not-suc-le-zero, le_of_suc-le-suc, add-zero}
use native.Mathlib.Omega.{arith}
use borrow.Author.Tests.{le-ltb, lt-ltb}
use lib.Dec.{ltb}
use Rattle.store.specs.Layout.{word_at}
use Rattle.formed.specs.Tests.{◌and◌, choose, every, between, label_ok, labels_ok}

-- ---- a conjunction

pub and_left : (a b : Bool) → (a and b) ≡ true → a ≡ true
unfolding ◌and◌
and_left true b e = refl
and_left false b e = e

pub and_right : (a b : Bool) → (a and b) ≡ true → b ≡ true
unfolding ◌and◌
and_right true b e = e
and_right false b e = let z : ◌≡◌ {A = ℕ} 0 1 = cc in absurd (omega arith)

-- the first test fails; it passes, and the second decides
pub and-fails : (a b : Bool) → a ≡ false → (a and b) ≡ false
unfolding ◌and◌
and-fails a b e = rw e

pub and-passes : (a b : Bool) {r : Bool} → a ≡ true → b ≡ r → (a and b) ≡ r
unfolding ◌and◌
and-passes a b e q = rw (e, q)

-- ---- a choice

pub choose_yes : (t a b : Bool) {r : Bool} → t ≡ true → a ≡ r → choose t a b ≡ r
unfolding choose
choose_yes t a b e q = rw (e, q)

pub choose_no : (t a b : Bool) {r : Bool} → t ≡ false → b ≡ r → choose t a b ≡ r
unfolding choose
choose_no t a b e q = rw (e, q)

-- ---- what the code's tests tell

pub zero-ltb : {x : ℕ} → x ≡ 0 → ltb 0 x ≡ false
zero-ltb {x} e = le-ltb 0 x (omega arith)

pub pos-ltb : {x : ℕ} → (x ≡ 0 → ⊥) → ltb 0 x ≡ true
pos-ltb {x} n = lt-ltb 0 x (omega arith)

-- `if !f(..)`, by what f ensures
pub said-no : {t x : Bool} → t ≡ x → t ≡ false → x ≡ false
said-no e h = sym e ∙ h

pub said-yes : {t x : Bool} → t ≡ x → t ≡ true → x ≡ true
said-yes e h = sym e ∙ h

-- ---- a run

module _ (f : ℕ → Bool) (i to : ℕ) where
  between_next : i < to → between f i to ≡ (f i and between f (i + 1) to)
  unfolding between
  between_next h = ap (every f i) e
    where
      e : to - i ≡ suc (to - (i + 1))
      e = omega arith

  pub between_done : to ≤ i → between f i to ≡ true
  unfolding between
  between_done h = ap (every f i) e
    where
      e : to - i ≡ 0
      e = omega arith

  -- a turn of the loop at which f holds
  pub between-skip : i < to → f i ≡ true → between f i to ≡ between f (i + 1) to
  between-skip h e = between_next h ∙ and-passes _ _ e refl

  -- a turn at which it does not
  pub between-hit : i < to → f i ≡ false → between f i to ≡ false
  between-hit h e = between_next h ∙ and-fails _ _ e

module _ (f : ℕ → Bool) where
  every-at : (n i : ℕ) → every f i n ≡ true → (k : ℕ) → k < n → f (i + k) ≡ true
  every-at zero i e k h = absurd (not-suc-le-zero h)
  every-at (suc n) i e zero h = ap f (add-zero i) ∙ and_left _ _ e
  every-at (suc n) i e (suc k) h =
      let q : i + suc k ≡ i + 1 + k = omega arith in
      ap f q ∙ every-at n (i + 1) (and_right _ _ e) k (le_of_suc-le-suc h)

  every-all : (n i : ℕ) → ((k : ℕ) → k < n → f (i + k) ≡ true) → every f i n ≡ true
  every-all zero i h = refl
  every-all (suc n) i h =
      let e : f i ≡ true = ap f (sym (add-zero i)) ∙ h 0 (omega arith) in
      and-passes _ _ e (every-all n (i + 1) (λ k l. let q : i + 1 + k ≡ i + suc k = omega arith in ap f q ∙ h (suc k) (omega arith)))

  -- a run that passes: each place of it does
  pub between-at : (from to : ℕ) → between f from to ≡ true → (k : ℕ) → from ≤ k → k < to → f k ≡ true
  unfolding between
  between-at from to e k h l =
      let q : k ≡ from + (k - from) = omega arith in
      ap f q ∙ every-at (to - from) from e (k - from) (omega arith)

  -- and the other way
  pub between-all : (from to : ℕ) → ((k : ℕ) → from ≤ k → k < to → f k ≡ true) → between f from to ≡ true
  unfolding between
  between-all from to h = every-all (to - from) from (λ k l. h (from + k) (omega arith) (omega arith))

-- ---- the labels in a run

module _ (m : List ℕ) (last i to : ℕ) where
  labels_next : i < to
      → labels_ok m last i (to - i) ≡ (label_ok last (word_at m i) and labels_ok m (word_at m i / 65536) (i + 1) (to - (i + 1)))
  labels_next h = ap (labels_ok m last i) e
    where
      e : to - i ≡ suc (to - (i + 1))
      e = omega arith

  pub labels-done : to ≤ i → labels_ok m last i (to - i) ≡ true
  labels-done h = ap (labels_ok m last i) e
    where
      e : to - i ≡ 0
      e = omega arith

  pub labels-skip : i < to → label_ok last (word_at m i) ≡ true
      → labels_ok m last i (to - i) ≡ labels_ok m (word_at m i / 65536) (i + 1) (to - (i + 1))
  labels-skip h e = labels_next h ∙ and-passes _ _ e refl

  pub labels-hit : i < to → label_ok last (word_at m i) ≡ false → labels_ok m last i (to - i) ≡ false
  labels-hit h e = labels_next h ∙ and-fails _ _ e
