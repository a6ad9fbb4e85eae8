-- What document 02, Note 3, says of a container and itself follows from the definitions.
use mathlib.Core.Path.{◌≡◌, refl, sym, ap, ap₂, ◌∙◌, fun_ext}
use mathlib.Core.Logic.{◌↔◌}
use mathlib.Core.Bool.{Bool, true, false, not, ◌&&◌, ◌||◌, cond, false≢true}
use mathlib.Core.List.{List, [], ◌∷◌}
use mathlib.Core.Option.{Option, none, some}
use Prim.Native.Nat.{ℕ, ◌≤◌, ◌<◌}
use native.Mathlib.Omega.{arith}
use lib.Dec.{eqb, ltb}
use lib.ListN.{length}
use borrow.Author.Tests.{eqb-true, eqb-false, eq-eqb, ne_eqb, lt-ltb, le-ltb}
use Rattle.block.specs.Entry.{Container}
use Rattle.model.specs.Table.{any, on, at, stands}
use Rattle.model.specs.Rules.{both_permit, reaches}
use Rattle.model.specs.Model.{container_slots, Model, Bits, matrix_bit, computed_bits}
use Rattle.model.specs.Findings.{containers_of, all_isolated}
use Rattle.model.specs.Calls.{ask, ask_reaches, says, refusal}
use Rattle.model.specs.ModelStep.{model_step, model_answer, asking}
use Rattle.model.specs.Itself.{ReachesItself, IsolatedByOthers}
use Rattle.model.proofs.Lists.{either, or_right, elem, elem-standing}

-- a test that holds of none of a list
none-of : (f : ℕ → Bool) (l : List ℕ) → (not (any f l) ≡ true) ↔ ((c : ℕ) → elem c l ≡ true → f c ≡ false)
none-of f l = (to l, back l)
  where
    to : (l : List ℕ) → not (any f l) ≡ true → (c : ℕ) → elem c l ≡ true → f c ≡ false
    to [] e c h = absurd (false≢true h)
    to (x ∷ l) e c h = by (f x) refl e (λ q. to l q c)
      where
        by : (u : Bool) → f x ≡ u → not (u || any f l) ≡ true → (not (any f l) ≡ true → elem c l ≡ true → f c ≡ false) → f c ≡ false
        by true p e rest = absurd (false≢true e)
        by false p e rest = either (eqb c x) (elem c l) (λ k. ap f (eqb-true c x k) ∙ p) (rest e) h

    back : (l : List ℕ) → ((c : ℕ) → elem c l ≡ true → f c ≡ false) → not (any f l) ≡ true
    back [] h = refl
    back (x ∷ l) h = ap (λ t. not (t || any f l)) (h x (ap (λ t. t || elem x l) (eq-eqb x x refl))) ∙ back l (λ c k. h c (or_right (eqb c x) (elem c l) k))

module _ (m : Model) where
  itself : (a : ℕ) → matrix_bit m a a ≡ stands m.containers a
  unfolding matrix_bit reaches
  itself a = go (at m.containers a)
    where
      go : (o : Option Container) → on (λ x. on (λ y. eqb a a || both_permit m.policies x y) o) o ≡ on (λ x. true) o
      go none = refl
      go (some x) = ap (λ t. t || both_permit m.policies x x) (eq-eqb a a refl)

  of_others : (a b : ℕ) → (a ≡ b → ⊥) → matrix_bit m a b ≡ on (λ x. on (λ y. both_permit m.policies x y) (at m.containers b)) (at m.containers a)
  unfolding matrix_bit reaches
  of_others a b n = ap (λ t. on (λ x. on (λ y. t || both_permit m.policies x y) (at m.containers b)) (at m.containers a)) (ne_eqb a b n)

  asked-itself : (a : ℕ) → a < container_slots → stands m.containers a ≡ true → model_step m (ask (ask_reaches a a)) ≡ (m, says true)
  unfolding model_step model_answer asking computed_bits
  asked-itself a h e =
      ap₂ (λ t r. (m, cond (t && t) r (refusal 10 0))) (lt-ltb a container_slots h)
      (go (at m.containers a) e ∙ ap says (itself a ∙ e))
    where
      go : (o : Option Container) → on (λ x. true) o ≡ true → asking m a a o o ≡ says (matrix_bit m a a)
      go none q = absurd (false≢true q)
      go (some x) q = refl

  pub reaches-itself : ReachesItself m
  reaches-itself = record { bit = itself; others = of_others; asked = asked-itself }

  pub isolated-by-others : IsolatedByOthers m
  unfolding all_isolated
  isolated-by-others = record {
    others = λ s t a h. ap (λ (f : ℕ → Bool). ltb 1 (length (containers_of m)) && not (any f (containers_of m))) (fun_ext (λ c. same s t a c (h c) (eqb c a) refl));
    alone = λ h s a. ap (λ t. t && not (any (λ c. not (eqb c a) && s.matrix c a) (containers_of m))) (le-ltb 1 (length (containers_of m)) h);
    exactly = λ h s a. let two = ap (λ t. t && not (any (reached s a) (containers_of m))) (lt-ltb 1 (length (containers_of m)) (omega arith)) in (
      λ e c k n. ap (λ t. not t && s.matrix c a) (sym (ne_eqb c a n)) ∙ (none-of (reached s a) (containers_of m)).0 (sym two ∙ e) c (elem-standing c m.containers ∙ k),
      λ f. two ∙ (none-of (reached s a) (containers_of m)).1 (λ c k. apart s a c (f c (sym (elem-standing c m.containers) ∙ k)) (eqb c a) refl),
    );
  }
    where
      reached : Bits → ℕ → ℕ → Bool
      reached s a c = not (eqb c a) && s.matrix c a

      apart : (s : Bits) (a c : ℕ) → ((c ≡ a → ⊥) → s.matrix c a ≡ false) → (b : Bool) → eqb c a ≡ b → reached s a c ≡ false
      apart s a c h true e = ap (λ t. not t && s.matrix c a) e
      apart s a c h false e = ap (λ t. not t && s.matrix c a) e ∙ h (eqb-false c a e)

      same : (s t : Bits) (a c : ℕ) → ((c ≡ a → ⊥) → s.matrix c a ≡ t.matrix c a) → (b : Bool) → eqb c a ≡ b
          → (not (eqb c a) && s.matrix c a) ≡ (not (eqb c a) && t.matrix c a)
      same s t a c h true e = rw e refl
      same s t a c h false e = ap (λ x. not (eqb c a) && x) (h (eqb-false c a e))
