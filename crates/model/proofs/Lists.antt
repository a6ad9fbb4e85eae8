-- Laws of tests, lists and standing slots that the files beside this one share.
use mathlib.Core.Path.{◌≡◌, refl, sym, ap, ◌∙◌}
use mathlib.Core.Bool.{Bool, true, false, ◌&&◌, ◌||◌, cond, or-true, or_assoc, and-eq-true_iff}
use mathlib.Core.List.{List, [], ◌∷◌, ◌++◌, map}
use mathlib.Core.Option.{none, some}
use Prim.Native.Nat.{ℕ, zero, suc, ◌+◌, ◌≤◌, ◌<◌}
use native.Mathlib.Nat.{le_refl, zero-add, not-suc-le-zero, le_of_suc-le-suc}
use native.Mathlib.Decide.{ℕ_discrete}
use native.Mathlib.Omega.{arith}
use lib.Dec.{eqb, eqb-zero-suc, eqb-suc-zero, eqb-suc-suc}
use lib.ListN.{length, get_or}
use borrow.Author.Tests.{eq-eqb, ne_eqb}
use Rattle.model.specs.Table.{Table, any, stands, standing, standing_from, up_from}

-- both parts of a conjunction
pub both : (a b : Bool) → (a && b) ≡ true → (a ≡ true) × (b ≡ true)
both a b = (and-eq-true_iff a b).0

pub either : {P : Type 0} (a b : Bool) → (a ≡ true → P) → (b ≡ true → P) → (a || b) ≡ true → P
either true b f g h = f refl
either false b f g h = g h

pub neither : (a b : Bool) → (a || b) ≡ false → (a ≡ false) × (b ≡ false)
neither true b h = (h, cc)
neither false b h = (refl, h)

pub denied : (a : Bool) → (a ≡ true → a ≡ false) → a ≡ false
denied true h = h refl
denied false h = refl

pub eqb-sym : (a b : ℕ) → eqb a b ≡ eqb b a
eqb-sym a b = go (ℕ_discrete a b)
  where
    go : Dec (a ≡ b) → eqb a b ≡ eqb b a
    go (yes e) = eq-eqb a b e ∙ sym (eq-eqb b a (sym e))
    go (no n) = ne_eqb a b n ∙ sym (ne_eqb b a (λ e. n (sym e)))

pub or_right : (a b : Bool) → b ≡ true → (a || b) ≡ true
or_right a b h = rw h (or-true a)

module _ {A : Type 0} where
  abbrev pub All : (A → Type 0) → List A → Type 0
  All P [] = Unit {0}
  All P (x ∷ l) = P x × All P l

  -- each element stands in the relation to all that follow
  abbrev pub Sorted : (A → A → Type 0) → List A → Type 0
  Sorted R [] = Unit {0}
  Sorted R (x ∷ l) = All (R x) l × Sorted R l

  pub all_of : (P : A → Type 0) → ((x : A) → P x) → (l : List A) → All P l
  all_of P h [] = tt
  all_of P h (x ∷ l) = (h x, all_of P h l)

  pub all_map : (P Q : A → Type 0) → ((x : A) → P x → Q x) → (l : List A) → All P l → All Q l
  all_map P Q h [] t = tt
  all_map P Q h (x ∷ l) t = (h x t.0, all_map P Q h l t.1)

  pub all_append : (P : A → Type 0) (l m : List A) → All P l → All P m → All P (l ++ m)
  all_append P [] m s t = t
  all_append P (x ∷ l) m s t = (s.0, all_append P l m s.1 t)

  all_at : (P : A → Type 0) (l : List A) → All P l → (i : ℕ) (d : A) → i < length l → P (get_or l i d)
  all_at P [] t i d h = absurd (not-suc-le-zero h)
  all_at P (x ∷ l) t zero d h = t.0
  all_at P (x ∷ l) t (suc i) d h = all_at P l t.1 i d (le_of_suc-le-suc h)

  pub sorted-append : (R : A → A → Type 0) (l m : List A) → Sorted R l → Sorted R m → All (λ x. All (R x) m) l → Sorted R (l ++ m)
  sorted-append R [] m s t h = t
  sorted-append R (x ∷ l) m s t h = (all_append (R x) l m s.0 h.0, sorted-append R l m s.1 t h.1)

  pub any_append : (f : A → Bool) (l m : List A) → any f (l ++ m) ≡ (any f l || any f m)
  any_append f [] m = refl
  any_append f (x ∷ l) m = rw (any_append f l m, or_assoc)

  any_none : (f : A → Bool) (l : List A) → All (λ x. f x ≡ false) l → any f l ≡ false
  any_none f [] t = refl
  any_none f (x ∷ l) t = rw t.0 (any_none f l t.1)

  -- x is in the list if the test t passes
  pub any-cond : (f : A → Bool) (t : Bool) (x : A) (l : List A) → any f (cond t (x ∷ l) l) ≡ ((t && f x) || any f l)
  any-cond f true x l = refl
  any-cond f false x l = refl

  pub all-cond : (P : A → Type 0) (t : Bool) (x : A) (l : List A) → P x → All P l → All P (cond t (x ∷ l) l)
  all-cond P true x l h r = (h, r)
  all-cond P false x l h r = r

  pub sorted_cond : (R : A → A → Type 0) (t : Bool) (x : A) (l : List A) → All (R x) l → Sorted R l → Sorted R (cond t (x ∷ l) l)
  sorted_cond R true x l h r = (h, r)
  sorted_cond R false x l h r = r

pub all-mapped : {A B : Type 0} (P : B → Type 0) (f : A → B) (l : List A) → All (λ x. P (f x)) l → All P (map f l)
all-mapped P f [] h = tt
all-mapped P f (x ∷ l) h = (h.0, all-mapped P f l h.1)

-- ---- the standing slots

abbrev pub elem : ℕ → List ℕ → Bool
elem x l = any (eqb x) l

abbrev pub Up : List ℕ → Type 0
Up l = Sorted (λ x y. x < y) l

module _ {A : Type 0} where
  from-above : (i j : ℕ) (t : Table A) → i ≤ j → All (λ x. i ≤ x) (standing_from j t)
  from-above i j [] h = tt
  from-above i j (none ∷ t) h = from-above i (suc j) t (omega arith)
  from-above i j (some x ∷ t) h = (h, from-above i (suc j) t (omega arith))

  from_up : (i : ℕ) (t : Table A) → Up (standing_from i t)
  from_up i [] = tt
  from_up i (none ∷ t) = from_up (suc i) t
  from_up i (some x ∷ t) = (from-above (suc i) (suc i) t (le_refl (suc i)), from_up (suc i) t)

  from-elem : (i j : ℕ) (t : Table A) → elem (i + j) (standing_from i t) ≡ stands t j
  from-elem i j [] = refl
  from-elem i zero (none ∷ t) =
      any_none (eqb (i + 0)) (standing_from (suc i) t)
      (all_map (λ x. suc i ≤ x) (λ x. eqb (i + 0) x ≡ false) (λ x h. ne_eqb (i + 0) x (omega arith)) (standing_from (suc i) t) (from-above (suc i) (suc i) t (le_refl (suc i))))
  from-elem i (suc j) (none ∷ t) = ap (λ k. elem k (standing_from (suc i) t)) (omega arith) ∙ from-elem (suc i) j t
  from-elem i zero (some x ∷ t) = rw (eq-eqb (i + 0) i (omega arith))
  from-elem i (suc j) (some x ∷ t) =
      rw (ne_eqb (i + suc j) i (omega arith)) (ap (λ k. elem k (standing_from (suc i) t)) (omega arith) ∙ from-elem (suc i) j t)

  pub standing-few : (i : ℕ) (t : Table A) → length (standing_from i t) ≤ length t
  standing-few i [] = omega arith
  standing-few i (none ∷ t) = let h = standing-few (suc i) t in omega arith
  standing-few i (some x ∷ t) = let h = standing-few (suc i) t in omega arith

  pub standing-up : (t : Table A) → Up (standing t)
  standing-up t = from_up 0 t

  pub elem-standing : (x : ℕ) (t : Table A) → elem x (standing t) ≡ stands t x
  elem-standing x t = rw zero-add at (from-elem 0 x t)

-- two places of a rising list have one number only if they are one
pub up-same : (l : List ℕ) → Up l → (i j : ℕ) → i < length l → j < length l → eqb i j ≡ eqb (get_or l i 0) (get_or l j 0)
up-same [] s i j h k = absurd (not-suc-le-zero h)
up-same (x ∷ l) s zero zero h k = sym (eq-eqb x x refl)
up-same (x ∷ l) s zero (suc j) h k = let b = all_at (λ y. x < y) l s.0 j 0 (le_of_suc-le-suc k) in eqb-zero-suc j ∙ sym (ne_eqb x (get_or l j 0) (omega arith))
up-same (x ∷ l) s (suc i) zero h k = let b = all_at (λ y. x < y) l s.0 i 0 (le_of_suc-le-suc h) in eqb-suc-zero i ∙ sym (ne_eqb (get_or l i 0) x (omega arith))
up-same (x ∷ l) s (suc i) (suc j) h k = eqb-suc-suc i j ∙ up-same l s.1 i j (le_of_suc-le-suc h) (le_of_suc-le-suc k)

pub length_up : (i n : ℕ) → length (up_from i n) ≡ n
length_up i zero = refl
length_up i (suc n) = ap suc (length_up (suc i) n)
