-- Laws of joined rows: a row more is one test more.
use mathlib.Core.Path.{◌≡◌, refl, sym, ap, ap₂, ◌∙◌, fun_ext}
use mathlib.Core.Bool.{Bool, true, false, not, ◌&&◌, ◌||◌, and_assoc, and_comm, and-or_distrib_right, true≢false}
use Prim.Native.Nat.{ℕ}
use borrow.Author.Tests.{not-true}
use Rattle.bitrow.specs.Set.{nothing, join, less, has_some, part}
use Rattle.bitrow.proofs.Sets.{join-at, nothing-at}
use Rattle.bitrow.proofs.Tests.{same_test, has_some-clear, has_some-absent, part-all}

left-none : (a b : Bool) → (a || b) ≡ false → a ≡ false
left-none false b e = refl
left-none true b e = e

right-none : (a b : Bool) → (a || b) ≡ false → b ≡ false
right-none false b e = e
right-none true b e = absurd cc

both-true : (a b : Bool) → (a && b) ≡ true → (a ≡ true) × (b ≡ true)
both-true true b e = (refl, e)
both-true false b e = absurd cc

empty-join : (s t : ℕ → Bool) → not (has_some (join s t)) ≡ (not (has_some s) && not (has_some t))
empty-join s t =
    same_test (not (has_some (join s t))) (not (has_some s) && not (has_some t))
    (λ e. let n = not-true (has_some (join s t)) e in
    ap₂ ◌&&◌ (ap not (has_some-clear s (λ j h. left-none (s j) (t j) (sym (join-at s t j) ∙ has_some-absent (join s t) n j h))))
    (ap not (has_some-clear t (λ j h. right-none (s j) (t j) (sym (join-at s t j) ∙ has_some-absent (join s t) n j h)))))
    (λ e. let n = both-true (not (has_some s)) (not (has_some t)) e in
    ap not (has_some-clear (join s t) (λ j h. join-at s t j ∙ ap₂ ◌||◌ (has_some-absent s (not-true (has_some s) n.0) j h) (has_some-absent t (not-true (has_some t) n.1) j h))))

part-join : (s t u : ℕ → Bool) → part (join s t) u ≡ (part s u && part t u)
unfolding part less join
part-join s t u = ap (λ v. not (has_some v)) each ∙ empty-join (less s u) (less t u)
  where
    each : less (join s t) u ≡ join (less s u) (less t u)
    each = fun_ext (λ j. and-or_distrib_right (s j) (t j) (not (u j)))

-- ---- one row more

-- of a free slot
pub free-more : (p : Bool) (s t u : ℕ → Bool) {x : Bool} → u ≡ join s t → not (has_some t) ≡ x → (p && not (has_some u)) ≡ ((p && not (has_some s)) && x)
free-more p s t u e q =
    ap (λ v. p && not (has_some v)) e ∙ ap (λ b. p && b) (empty-join s t ∙ ap (λ b. not (has_some s) && b) q) ∙ sym (and_assoc p (not (has_some s)) _)

-- of one that stands
pub owned-more : (z : Bool) (s t u v : ℕ → Bool) {x : Bool} → u ≡ join s t → part t v ≡ x → (part u v && z) ≡ ((part s v && z) && x)
owned-more z s t u v {x} e q =
    ap (λ w. part w v && z) e ∙ ap (λ b. b && z) (part-join s t v ∙ ap (λ b. part s v && b) q)
    ∙ and_assoc (part s v) x z ∙ ap (λ b. part s v && b) (and_comm x z) ∙ sym (and_assoc (part s v) z x)

-- no row
pub no-row : (s : ℕ → Bool) → (part nothing s && not (has_some nothing)) ≡ true
no-row s = ap₂ ◌&&◌ (part-all nothing s (λ j h e. absurd (true≢false (sym e ∙ nothing-at j)))) (ap not (has_some-clear nothing (λ j h. nothing-at j)))
