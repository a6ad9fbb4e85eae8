-- Tests over the standing slots of a table as tests of sets.
use mathlib.Core.Path.{◌≡◌, refl, sym, ap, ap₂, ◌∙◌}
use mathlib.Core.Bool.{Bool, true, false, not, ◌&&◌, ◌||◌, false≢true}
use mathlib.Core.List.{List, [], ◌∷◌}
use Prim.Native.Nat.{ℕ, ◌<◌}
use lib.Dec.{eqb}
use borrow.Author.Tests.{eqb-true, eq-eqb}
use Rattle.bitrow.specs.Set.{part}
use Rattle.bitrow.proofs.Tests.{same_test, part-all, part_in-law}
use Rattle.model.specs.Table.{Table, any, all, stands, standing}
use Rattle.model.proofs.Lists.{both, or_right, elem, elem-standing}

-- ---- lists

pub all_in : (f : ℕ → Bool) (l : List ℕ) → ((c : ℕ) → elem c l ≡ true → f c ≡ true) → all f l ≡ true
all_in f [] h = refl
all_in f (x ∷ l) h =
    ap₂ ◌&&◌ (h x (ap (λ t. t || elem x l) (eq-eqb x x refl))) (all_in f l (λ c e. h c (or_right (eqb c x) (elem c l) e)))

pub all-out : (f : ℕ → Bool) (l : List ℕ) (c : ℕ) → all f l ≡ true → elem c l ≡ true → f c ≡ true
all-out f [] c h e = absurd (false≢true e)
all-out f (x ∷ l) c h e = pick (eqb c x) refl (all-out f l c) e
  where
    pick : (t : Bool) → eqb c x ≡ t → (all f l ≡ true → elem c l ≡ true → f c ≡ true) → (t || elem c l) ≡ true → f c ≡ true
    pick true q ih k = ap f (eqb-true c x q) ∙ (both (f x) (all f l) h).0
    pick false q ih k = ih (both (f x) (all f l) h).1 k

pub not-any : (f : ℕ → Bool) (l : List ℕ) → not (any f l) ≡ all (λ c. not (f c)) l
not-any f [] = refl
not-any f (x ∷ l) = pick (f x) (not-any f l)
  where
    pick : (t : Bool) → not (any f l) ≡ all (λ c. not (f c)) l → not (t || any f l) ≡ (not t && all (λ c. not (f c)) l)
    pick true e = refl
    pick false e = e

-- ---- the standing slots of a table of at most 256

module _ {A : Type 0} (t : Table A) (o : (c : ℕ) → stands t c ≡ true → c < 256) where
  pub stood : (c : ℕ) → elem c (standing t) ≡ true → stands t c ≡ true
  stood c e = sym (elem-standing c t) ∙ e

  pub all-part : (f : ℕ → Bool) → all f (standing t) ≡ part (stands t) f
  all-part f =
      same_test (all f (standing t)) (part (stands t) f)
      (λ h. part-all (stands t) f (λ j l e. all-out f (standing t) j h (elem-standing j t ∙ e)))
      (λ h. all_in f (standing t) (λ c e. part_in-law (stands t) f h c (o c (stood c e)) (stood c e)))
