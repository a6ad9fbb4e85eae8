-- The tests of two policies as the code makes them are those of the model's definitions.
use mathlib.Core.Path.{◌≡◌, refl, sym, ap, ap₂, ◌∙◌}
use mathlib.Core.Bool.{Bool, true, false, not, ◌&&◌, ◌||◌, true≢false, and-false}
use mathlib.Core.List.{List}
use Prim.Native.Nat.{ℕ}
use lib.Dec.{eqb, ltb}
use Rattle.bitrow.specs.Bit.{bit_at}
use Rattle.bitrow.specs.Set.{meet, has_some, part}
use Rattle.model.specs.Findings.{shadow, conflict}
use Rattle.model.specs.Findings as model
use Rattle.formed.specs.Registry.{model_in, bits_in}
use Rattle.policy_pairs.specs.declared.Compared.{Compared}
use Rattle.policy_pairs.specs.Comparisons.{ComparedIn}
use Rattle.policy_pairs.proofs.SetTests.{shadow-is, conflict-is}

-- ---- whether a set is empty, as the code asks it of two

module _ (s w : Bool) {p q : Bool} (ep : p ≡ not s) (eq : q ≡ not w) where
  pub one-empty : (p || q) ≡ true → (s && w) ≡ false
  one-empty e = pick s w (sym (ap₂ ◌||◌ ep eq) ∙ e)
    where
      pick : (x y : Bool) → (not x || not y) ≡ true → (x && y) ≡ false
      pick true true e = sym e
      pick true false e = refl
      pick false y e = refl

  pub none-empty : (p || q) ≡ false → (s ≡ true) × (w ≡ true)
  none-empty e = pick s w (sym (ap₂ ◌||◌ ep eq) ∙ e)
    where
      pick : (x y : Bool) → (not x || not y) ≡ false → (x ≡ true) × (y ≡ true)
      pick true true e = (refl, refl)
      pick true false e = (refl, sym e)
      pick false y e = (sym e, absurd (true≢false e))

-- ---- the tests of two policies, as the code makes them

not-not : (t : Bool) → not (not t) ≡ t
not-not true = refl
not-not false = refl

module _ (m : List ℕ) (p : Compared) (b : ℕ) (c : ComparedIn m p) (x y : List ℕ) (ex : bit_at x ≡ (bits_in m).selected b) (ey : bit_at y ≡ (bits_in m).allowed b)
    {same : Bool} (one_way : same ≡ model.one_direction (model_in m) p.slot b) where
  own-selected : has_some ((bits_in m).selected p.slot) ≡ true
  own-selected = sym (ap has_some c.selected) ∙ c.selects_some

  own-allowed : has_some ((bits_in m).allowed p.slot) ≡ true
  own-allowed = sym (ap has_some c.allowed) ∙ c.allows_some

  pub shadow-test : {t u v w : Bool} → t ≡ part (bit_at p.who) (bit_at x) → u ≡ part (bit_at p.whom) (bit_at y) → v ≡ part (bit_at x) (bit_at p.who) → w ≡ part (bit_at y) (bit_at p.whom)
      → (not (eqb p.slot b) && (same && ((t && u) && (not (v && w) || ltb b p.slot)))) ≡ shadow (model_in m) (bits_in m) p.slot b
  shadow-test ep eq er es =
      ap₂ (λ i t. not (eqb p.slot b) && (i && t)) one_way
      (ap₂ (λ u v. u && (not v || ltb b p.slot))
      (ap₂ ◌&&◌ (ep ∙ ap₂ part c.selected ex) (eq ∙ ap₂ part c.allowed ey))
      (ap₂ ◌&&◌ (er ∙ ap₂ part ex c.selected) (es ∙ ap₂ part ey c.allowed)))
      ∙ sym (shadow-is m c.formed p.slot b own-selected own-allowed)

  -- it selects someone whom b does not
  pub shadow-apart : {t : Bool} → t ≡ part (bit_at p.who) (bit_at x) → t ≡ false → false ≡ shadow (model_in m) (bits_in m) p.slot b
  shadow-apart ep e = sym (rw (and-false same) (and-false (not (eqb p.slot b)))) ∙ shadow-test {t = false} (sym e ∙ ep) refl refl refl

  pub conflict-test : {t u v : Bool} → t ≡ not (has_some (meet (bit_at p.who) (bit_at x))) → u ≡ not (has_some (bit_at y)) → v ≡ not (has_some (meet (bit_at p.whom) (bit_at y)))
      → (ltb p.slot b && (same && (not t && (not u && v)))) ≡ conflict (model_in m) (bits_in m) p.slot b
  conflict-test ep eq er =
      ap₂ (λ i t. ltb p.slot b && (i && t)) one_way
      (ap₂ ◌&&◌ (ap not (ep ∙ ap₂ (λ s t. not (has_some (meet s t))) c.selected ex) ∙ not-not (has_some (meet ((bits_in m).selected p.slot) ((bits_in m).selected b))))
      (ap₂ ◌&&◌ (ap not (eq ∙ ap (λ s. not (has_some s)) ey) ∙ not-not (has_some ((bits_in m).allowed b))) (er ∙ ap₂ (λ s t. not (has_some (meet s t))) c.allowed ey)
      ∙ sym (ap (λ t. t && (has_some ((bits_in m).allowed b) && not (has_some (meet ((bits_in m).allowed p.slot) ((bits_in m).allowed b))))) own-allowed)))
      ∙ sym (conflict-is m c.formed p.slot b)
