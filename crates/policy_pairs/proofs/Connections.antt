-- A policy's connections, those it selects with those it allows, as tests of its two sets.
use mathlib.Core.Path.{◌≡◌, refl, sym, ap, ap₂, ◌∙◌, fun_ext}
use mathlib.Core.Bool.{Bool, true, false, not, ◌&&◌, ◌||◌, and-or_distrib_right, false≢true}
use mathlib.Core.List.{List, [], ◌∷◌}
use Prim.Native.Nat.{ℕ, ◌<◌}
use lib.Dec.{eqb}
use borrow.Author.Tests.{eqb-true, eq-eqb}
use Rattle.bitrow.specs.Set.{meet, has_some, part}
use Rattle.bitrow.proofs.Tests.{same_test, has_some-in, has_some-found, part-all, part_in-law}
use Rattle.model.specs.Table.{Table, any, all, stands, standing}
use Rattle.model.proofs.Lists.{both, or_right, elem, elem-standing}
use Rattle.container_findings.proofs.Standing.{all_in, all-out, stood}

-- ---- lists

any-in : (f : ℕ → Bool) (l : List ℕ) (c : ℕ) → elem c l ≡ true → f c ≡ true → any f l ≡ true
any-in f [] c h e = absurd (false≢true h)
any-in f (x ∷ l) c h e = pick (eqb c x) refl (any-in f l c) h
  where
    pick : (t : Bool) → eqb c x ≡ t → (elem c l ≡ true → f c ≡ true → any f l ≡ true) → (t || elem c l) ≡ true → (f x || any f l) ≡ true
    pick true q ih k = ap (λ t. t || any f l) (ap f (sym (eqb-true c x q)) ∙ e)
    pick false q ih k = or_right (f x) (any f l) (ih k e)

any_out : (f : ℕ → Bool) (l : List ℕ) → any f l ≡ true → (c : ℕ) × (elem c l ≡ true) × (f c ≡ true)
any_out f [] h = absurd (false≢true h)
any_out f (x ∷ l) h = pick (f x) refl (any_out f l) h
  where
    pick : (t : Bool) → f x ≡ t → (any f l ≡ true → (c : ℕ) × (elem c l ≡ true) × (f c ≡ true)) → (t || any f l) ≡ true → (c : ℕ) × (elem c (x ∷ l) ≡ true) × (f c ≡ true)
    pick true q ih k = (x, ap (λ t. t || elem x l) (eq-eqb x x refl), q)
    pick false q ih k = let w = ih k in (w.0, or_right (eqb w.0 x) (elem w.0 l) w.1, w.2)

any_left : (a : Bool) (f : ℕ → Bool) (l : List ℕ) → any (λ d. a && f d) l ≡ (a && any f l)
any_left true f l = refl
any_left false f [] = refl
any_left false f (x ∷ l) = any_left false f l

any-right : (f : ℕ → Bool) (b : Bool) (l : List ℕ) → any (λ c. f c && b) l ≡ (any f l && b)
any-right f b [] = refl
any-right f b (x ∷ l) = ap (λ t. (f x && b) || t) (any-right f b l) ∙ sym (and-or_distrib_right (f x) (any f l) b)

-- ---- the standing slots of a table of at most 256

module _ {A : Type 0} (t : Table A) (o : (c : ℕ) → stands t c ≡ true → c < 256) where
  -- a set of standing slots
  module _ (f : ℕ → Bool) (w : (c : ℕ) → f c ≡ true → stands t c ≡ true) where
    pub any_some : any f (standing t) ≡ has_some f
    any_some =
        same_test (any f (standing t)) (has_some f)
        (λ h. let x = any_out f (standing t) h in has_some-in f x.0 (o x.0 (stood t o x.0 x.1)) x.2)
        (λ h. let x = has_some-found f h in any-in f (standing t) x.0 (elem-standing x.0 t ∙ w x.0 x.2) x.2)

  -- some container is in both sets
  pub any-both : (f g : ℕ → Bool) → ((c : ℕ) → f c ≡ true → stands t c ≡ true) → any (λ c. f c && g c) (standing t) ≡ has_some (meet f g)
  unfolding meet
  any-both f g w = any_some (λ c. f c && g c) (λ c e. w c (both (f c) (g c) e).0)

  -- ---- connections: those of s with those of w

  module _ (s w : ℕ → Bool) (is : (c : ℕ) → s c ≡ true → stands t c ≡ true) (iw : (c : ℕ) → w c ≡ true → stands t c ≡ true) where
    -- there is one exactly if neither set is empty
    pub connected-sets : any (λ c. any (λ d. s c && w d) (standing t)) (standing t) ≡ (has_some s && has_some w)
    connected-sets =
        ap (λ f. any f (standing t)) (fun_ext (λ c. any_left (s c) w (standing t)))
        ∙ any-right s (any w (standing t)) (standing t)
        ∙ ap₂ ◌&&◌ (any_some s is) (any_some w iw)

    module _ (x y : ℕ → Bool) where
      abbrev lies : ℕ → ℕ → Bool
      lies c d = not (s c && w d) || (x c && y d)

      all_lie : Bool
      all_lie = all (λ c. all (λ d. lies c d) (standing t)) (standing t)

      use-lies : (a b u : Bool) → (not (a && b) || u) ≡ true → a ≡ true → b ≡ true → u ≡ true
      use-lies true true u h p q = h
      use-lies true false u h p q = absurd (false≢true q)
      use-lies false b u h p q = absurd (false≢true p)

      to-lies : (a b c d : Bool) → (a ≡ true → c ≡ true) → (b ≡ true → d ≡ true) → (not (a && b) || (c && d)) ≡ true
      to-lies true true c d f g = ap₂ ◌&&◌ (f refl) (g refl)
      to-lies true false c d f g = refl
      to-lies false b c d f g = refl

      each-lies : all_lie ≡ true → (c d : ℕ) → s c ≡ true → w d ≡ true → (x c ≡ true) × (y d ≡ true)
      unfolding all_lie
      each-lies h c d e f =
          both (x c) (y d)
          (use-lies (s c) (w d) (x c && y d)
          (all-out (lies c) (standing t) d (all-out (λ c. all (λ d. lies c d) (standing t)) (standing t) c h (elem-standing c t ∙ is c e)) (elem-standing d t ∙ iw d f)) e f)

      -- where neither set is empty, all connections lie among those of x with y exactly if s is a part of x and w of y
      pub among-sets : has_some s ≡ true → has_some w ≡ true → all (λ c. all (λ d. not (s c && w d) || (x c && y d)) (standing t)) (standing t) ≡ (part s x && part w y)
      unfolding all_lie
      among-sets hs hw =
          let p = has_some-found s hs in
          let q = has_some-found w hw in
          same_test all_lie (part s x && part w y)
          (λ h. ap₂ ◌&&◌ (part-all s x (λ c l e. (each-lies h c q.0 e q.2).0)) (part-all w y (λ d l e. (each-lies h p.0 d p.2 e).1)))
          (λ h.
          let k = both (part s x) (part w y) h in
          all_in (λ c. all (λ d. lies c d) (standing t)) (standing t) (λ c ec. all_in (lies c) (standing t) (λ d ed.
          to-lies (s c) (w d) (x c) (y d) (part_in-law s x k.0 c (o c (stood t o c ec))) (part_in-law w y k.1 d (o d (stood t o d ed))))))

-- a set that has something is a part only of a set that has something
pub some-part : (s x : ℕ → Bool) → has_some s ≡ true → part s x ≡ true → has_some x ≡ true
some-part s x h p = let k = has_some-found s h in has_some-in x k.0 k.1 (part_in-law s x p k.0 k.1 k.2)
