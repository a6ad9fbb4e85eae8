-- Laws of the first fault: how a loop that counts up meets it, what no fault tells of each position, when there is none, how it is found in
-- two parts, and that what is found is the first.
use mathlib.Core.Path.{◌≡◌, refl, sym, ap, subst, ◌∙◌}
use mathlib.Core.Logic.{◌⊎◌, inl, inr, ⊎_elim}
use mathlib.Core.Bool.{Bool, true, false, ◌&&◌}
use mathlib.Core.List.{List, [], ◌∷◌}
use Prim.Native.Nat.{ℕ, zero, suc, ◌+◌, ◌-◌, ◌≤◌, ◌<◌}
use native.Mathlib.Nat.{not-suc-le-zero, le_of_suc-le-suc, add-zero, le_refl, le_trans, eq-or-lt_of_le}
use native.Mathlib.Omega.{arith}
use borrow.Author.Tests.{both_ways}
use Rattle.std.specs.Prelude.{Option, None, Some, is_none}
use Rattle.std.specs.Option.{option_or}
use Rattle.block.specs.Fault.{unless, first_from, first_between, first_in, Field, field, field_fault}
use Rattle.block.specs.Positions.{First, Among}

module _ (f : ℕ → Option ℕ) (i to : ℕ) where
  pub faults-next : i < to → first_between f i to ≡ option_or (f i) (first_between f (i + 1) to)
  faults-next h =
      let e : to - i ≡ suc (to - (i + 1)) = omega arith in
      ap (first_from f i) e

  pub faults-done : to ≤ i → first_between f i to ≡ None
  faults-done h =
      let e : to - i ≡ 0 = omega arith in
      ap (first_from f i) e

  -- a turn of the loop that found no fault at i
  pub faults-skip : i < to → f i ≡ None → first_between f i to ≡ first_between f (i + 1) to
  faults-skip h e = faults-next h ∙ ap (λ (x : Option ℕ). option_or x (first_between f (i + 1) to)) e

  -- a turn that found one
  pub faults-hit : (p : ℕ) → i < to → f i ≡ Some p → first_between f i to ≡ Some p
  faults-hit p h e = faults-next h ∙ ap (λ (x : Option ℕ). option_or x (first_between f (i + 1) to)) e

-- ---- no fault, as a test: then each law below is one equation

pub clear_none : (f : Option ℕ) → is_none f ≡ true → f ≡ None
clear_none None e = refl
clear_none (Some p) e = cc

pub clear-unless : (t : Bool) (p : ℕ) → is_none (unless t p) ≡ t
clear-unless true p = refl
clear-unless false p = refl

pub clear-or_else : (a b : Option ℕ) → is_none (option_or a b) ≡ (is_none a && is_none b)
clear-or_else None b = refl
clear-or_else (Some p) b = refl

pub clear-field : (p : ℕ) (t : Bool) (fs : List Field) → is_none (field_fault (field p t ∷ fs)) ≡ (t && is_none (field_fault fs))
clear-field p t fs = rw (clear-or_else, clear-unless)

-- ---- no fault between two positions

module _ (f : ℕ → Option ℕ) where
  split : (n i : ℕ) → first_from f i (suc n) ≡ None → (f i ≡ None) × (first_from f (i + 1) n ≡ None)
  split n i e = go (f i) refl
    where
      go : (x : Option ℕ) → f i ≡ x → (f i ≡ None) × (first_from f (i + 1) n ≡ None)
      go None q = (q, cc)
      go (Some p) q = (cc, cc)

  first-none : (n i : ℕ) → first_from f i n ≡ None → (k : ℕ) → k < n → f (i + k) ≡ None
  first-none zero i e k h = absurd (not-suc-le-zero h)
  first-none (suc n) i e zero h = ap f (add-zero i) ∙ (split n i e).0
  first-none (suc n) i e (suc k) h =
      let q : i + suc k ≡ i + 1 + k = omega arith in
      ap f q ∙ first-none n (i + 1) (split n i e).1 k (le_of_suc-le-suc h)

  first-all : (n i : ℕ) → ((k : ℕ) → i ≤ k → k < i + n → f k ≡ None) → first_from f i n ≡ None
  first-all zero i h = refl
  first-all (suc n) i h = rw (h i (omega arith) (omega arith)) (first-all n (i + 1) (λ k l m. h k (omega arith) (omega arith)))

  pub between_none : (from to : ℕ) → first_between f from to ≡ None → (k : ℕ) → from ≤ k → k < to → f k ≡ None
  between_none from to e k h l =
      let q : k ≡ from + (k - from) = omega arith in
      ap f q ∙ first-none (to - from) from e (k - from) (omega arith)

  pub faults-all : (from to : ℕ) → ((k : ℕ) → from ≤ k → k < to → f k ≡ None) → first_between f from to ≡ None
  faults-all from to h = first-all (to - from) from (λ k l m. h k l (omega arith))

-- ---- a search in two parts

or_else_assoc : (a b c : Option ℕ) → option_or (option_or a b) c ≡ option_or a (option_or b c)
or_else_assoc None b c = refl
or_else_assoc (Some p) b c = refl

or-none : (a : Option ℕ) → option_or a None ≡ a
or-none None = refl
or-none (Some p) = refl

module _ (f : ℕ → Option ℕ) (mid to : ℕ) (h : mid ≤ to) where
  parts : (d from : ℕ) → from + d ≡ mid → first_between f from to ≡ option_or (first_between f from mid) (first_between f mid to)
  parts zero from q =
      let e : from ≡ mid = omega arith in
      ap (λ (k : ℕ). first_between f k to) e ∙ sym (ap (λ (x : Option ℕ). option_or x (first_between f mid to)) (faults-done f from mid (omega arith)))
  parts (suc d) from q =
      faults-next f from to (omega arith) ∙ ap (option_or (f from)) (parts d (from + 1) (omega arith)) ∙ sym (or_else_assoc (f from) _ _)
      ∙ sym (ap (λ (x : Option ℕ). option_or x (first_between f mid to)) (faults-next f from mid (omega arith)))

  pub faults-parts : (from : ℕ) → from ≤ mid → first_between f from to ≡ option_or (first_between f from mid) (first_between f mid to)
  faults-parts from l = parts (mid - from) from (omega arith)

  -- the first part finds nothing
  pub faults-behind : (from : ℕ) → from ≤ mid → first_between f from mid ≡ None → first_between f from to ≡ first_between f mid to
  faults-behind from l e = faults-parts from l ∙ ap (λ (x : Option ℕ). option_or x (first_between f mid to)) e

  -- the second part finds nothing
  pub faults-before : (from : ℕ) → from ≤ mid → first_between f mid to ≡ None → first_between f from to ≡ first_between f from mid
  faults-before from l e = faults-parts from l ∙ ap (option_or (first_between f from mid)) e ∙ or-none _

-- ---- the first of a search

module _ (F G : ℕ → Type 0) where
  -- both hold of the same positions
  first-alike : ((p : ℕ) → F p → G p) → ((p : ℕ) → G p → F p) → (o : Option ℕ) → First F o → First G o
  unfolding First
  first-alike to back None h = λ p g. h p (back p g)
  first-alike to back (Some p) h = record { at = to p h.at; before = λ q g. h.before q (back q g) }

  -- of two searches, where no position of the second lies before one of the first
  first-or : ((p q : ℕ) → F p → G q → p ≤ q) → (a b : Option ℕ) → First F a → First G b → First (λ p. F p ⊎ G p) (option_or a b)
  unfolding First
  first-or order None None h k = λ p s. ⊎_elim (h p) (k p) s
  first-or order None (Some q) h k = record { at = inr k.at; before = λ p s. ⊎_elim (λ f. absurd (h p f)) (k.before p) s }
  first-or order (Some p) b h k = record { at = inl h.at; before = λ q s. ⊎_elim (h.before q) (order p q h.at) s }

-- of what another search equals
pub first-as : (F : ℕ → Type 0) (q o : Option ℕ) → First F q → o ≡ q → First F o
first-as F q o h e = subst (First F) (sym e) h

-- of a test at p, which fails exactly where P holds of p
pub first-test : (t : Bool) (p : ℕ) (P : ℕ → Type 0) → (t ≡ false → P p) → (P p → t ≡ false) → First (λ q. (q ≡ p) × P q) (unless t p)
unfolding First
first-test true p P to back = λ q h. both_ways true (back (subst P h.0 h.1)) refl
first-test false p P to back = record { at = (refl, to refl); before = λ q h. omega (arith, h.0) }

-- ---- of a search over numbers, where F k holds of the positions at fault for k

pub record Between (F : ℕ → ℕ → Type 0) (from to p : ℕ) : Type 0 where
  pub number : ℕ
  pub low : from ≤ number
  pub high : number < to
  pub holds : F number p

module _ (F : ℕ → ℕ → Type 0) (f : ℕ → Option ℕ) (each : (k : ℕ) → First (F k) (f k)) (rising : (j k p q : ℕ) → j < k → F j p → F k q → p ≤ q) where
  first-from : (to n i : ℕ) → to - i ≡ n → First (Between F i to) (first_from f i n)
  unfolding First
  first-from to zero i e = λ p w. let l = w.low in let h = w.high in omega arith
  first-from to (suc n) i e =
      first-alike (λ p. F i p ⊎ Between F (i + 1) to p) (Between F i to) (λ p s. ⊎_elim (here p) (later p) s) split (option_or (f i) (first_from f (i + 1) n))
      (first-or (F i) (Between F (i + 1) to) (λ p q h w. rising i w.number p q (omega (arith, w.low)) h w.holds) (f i) (first_from f (i + 1) n) (each i) (first-from to n (i + 1) (omega arith)))
    where
      here : (p : ℕ) → F i p → Between F i to p
      here p h = record { number = i; low = le_refl i; high = omega arith; holds = h }

      later : (p : ℕ) → Between F (i + 1) to p → Between F i to p
      later p w = record { number = w.number; low = omega (arith, w.low); high = w.high; holds = w.holds }

      split : (p : ℕ) → Between F i to p → F i p ⊎ Between F (i + 1) to p
      split p w =
          ⊎_elim (λ (q : i ≡ w.number). inl (subst (λ (k : ℕ). F k p) (sym q) w.holds))
          (λ (h : i < w.number). inr (record { number = w.number; low = omega arith; high = w.high; holds = w.holds }))
          (eq-or-lt_of_le w.low)

  -- G says the same of a position as that F k holds of it for a number between
  pub first-numbers : (from to : ℕ) (G : ℕ → Type 0) → ((p : ℕ) → Between F from to p → G p) → ((p : ℕ) → G p → Between F from to p) → (o : Option ℕ) → o ≡ first_between f from to → First G o
  first-numbers from to G there back o = first-as G (first_between f from to) o (first-alike (Between F from to) G there back (first_between f from to) (first-from to (to - from) from refl))

-- ---- of a search over a list

module _ {A : Type 0} (from to : A → ℕ) where
  -- the items lie one behind the other, at or behind n and before m
  abbrev pub Apart : ℕ → List A → ℕ → Type 0
  Apart n [] m = n ≤ m
  Apart n (x ∷ xs) m = (n ≤ from x) × (n ≤ to x) × Apart (to x) xs m

  apart-order : (n : ℕ) (xs : List A) (m : ℕ) → Apart n xs m → n ≤ m
  apart-order n [] m a = a
  apart-order n (x ∷ xs) m a = le_trans a.1 (apart-order (to x) xs m a.2)

  -- f finds the first position at fault of an item, where F holds of those of that item, and they lie in it
  pub record Finds (F : A → ℕ → Type 0) (f : A → Option ℕ) : Type 0 where
    pub first : (x : A) → First (F x) (f x)
    pub inside : (x : A) (p : ℕ) → F x p → (from x ≤ p) × (p < to x)

module _ {A : Type 0} {from to : A → ℕ} {F : A → ℕ → Type 0} {f : A → Option ℕ} (finds : Finds from to F f) where
  pub among-inside : (n : ℕ) (xs : List A) (m : ℕ) → Apart from to n xs m → (p : ℕ) → Among (λ x. F x p) xs → (n ≤ p) × (p < m)
  among-inside n [] m a p h = absurd h
  among-inside n (x ∷ xs) m a p (inl h) =
      let i = finds.inside x p h in
      (le_trans a.0 i.0, omega (arith, i.1, apart-order from to (to x) xs m a.2))
  among-inside n (x ∷ xs) m a p (inr h) = let i = among-inside (to x) xs m a.2 p h in (le_trans a.1 i.0, i.1)

  pub first-among : (n : ℕ) (xs : List A) (m : ℕ) → Apart from to n xs m → First (λ p. Among (λ x. F x p) xs) (first_in f xs)
  unfolding First
  first-among n [] m a = λ p h. h
  first-among n (x ∷ xs) m a =
      first-or (F x) (λ p. Among (λ y. F y p) xs) (λ p q h k. omega (arith, (finds.inside x p h).1, (among-inside (to x) xs m a.2 q k).0)) (f x) (first_in f xs) (finds.first x) (first-among (to x) xs m a.2)
