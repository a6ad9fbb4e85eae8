-- Kinds 5 and 6 as tests of sets: a's connections, if it has any, lie among b's exactly if its sets are parts of b's.
use mathlib.Core.Path.{◌≡◌, refl, ap, ap₂, ◌∙◌}
use mathlib.Core.Bool.{Bool, true, false, not, ◌&&◌, ◌||◌}
use mathlib.Core.List.{List}
use Prim.Native.Nat.{ℕ}
use lib.Dec.{eqb, ltb}
use Rattle.bitrow.specs.Set.{meet, has_some, part}
use Rattle.model.specs.Table.{any, standing}
use Rattle.model.specs.Findings.{shadow, conflict}
use Rattle.model.specs.Findings as model
use Rattle.model.proofs.Lists.{both}
use Rattle.formed.specs.Registry.{model_in, bits_in, well_formed}
use Rattle.entries.proofs.Trials.{container-below}
use Rattle.policy_pairs.proofs.Connections.{any_some, any-both, connected-sets, among-sets, some-part}
use Rattle.policy_pairs.proofs.PolicyReading.{selected-stands, allowed-stands}

module _ (m : List ℕ) (ok : well_formed m ≡ true) where
  pub some-selected : (a : ℕ) → any ((bits_in m).selected a) (standing (model_in m).containers) ≡ has_some ((bits_in m).selected a)
  some-selected a = any_some (model_in m).containers (container-below m) ((bits_in m).selected a) (selected-stands m ok a)

  pub some-allowed : (a : ℕ) → any ((bits_in m).allowed a) (standing (model_in m).containers) ≡ has_some ((bits_in m).allowed a)
  some-allowed a = any_some (model_in m).containers (container-below m) ((bits_in m).allowed a) (allowed-stands m ok a)

  -- "a's connections are at least one"
  pub connected-is : (a : ℕ) → model.connected (model_in m) (bits_in m) a ≡ (has_some ((bits_in m).selected a) && has_some ((bits_in m).allowed a))
  unfolding model.connected model.connects
  connected-is a =
      connected-sets (model_in m).containers (container-below m) ((bits_in m).selected a) ((bits_in m).allowed a) (selected-stands m ok a) (allowed-stands m ok a)

  -- "and all lie among b's"
  among-is : (a b : ℕ) → has_some ((bits_in m).selected a) ≡ true → has_some ((bits_in m).allowed a) ≡ true
      → model.among (model_in m) (bits_in m) a b ≡ (part ((bits_in m).selected a) ((bits_in m).selected b) && part ((bits_in m).allowed a) ((bits_in m).allowed b))
  unfolding model.among model.connects
  among-is a b =
      among-sets (model_in m).containers (container-below m) ((bits_in m).selected a) ((bits_in m).allowed a) (selected-stands m ok a) (allowed-stands m ok a) ((bits_in m).selected b) ((bits_in m).allowed b)

  -- neither set of a is empty: the subset of products is the subset of each
  pub shadow-is : (a b : ℕ) → has_some ((bits_in m).selected a) ≡ true → has_some ((bits_in m).allowed a) ≡ true
      → shadow (model_in m) (bits_in m) a b
      ≡ (not (eqb a b) && (model.one_direction (model_in m) a b
      && ((part ((bits_in m).selected a) ((bits_in m).selected b) && part ((bits_in m).allowed a) ((bits_in m).allowed b))
      && (not (part ((bits_in m).selected b) ((bits_in m).selected a) && part ((bits_in m).allowed b) ((bits_in m).allowed a)) || ltb b a))))
  unfolding shadow
  shadow-is a b hs hw =
      ap (λ t. not (eqb a b) && (model.one_direction (model_in m) a b && t))
      (inner (model.connected (model_in m) (bits_in m) a) (model.among (model_in m) (bits_in m) a b) (model.among (model_in m) (bits_in m) b a)
      (part ((bits_in m).selected a) ((bits_in m).selected b) && part ((bits_in m).allowed a) ((bits_in m).allowed b))
      (part ((bits_in m).selected b) ((bits_in m).selected a) && part ((bits_in m).allowed b) ((bits_in m).allowed a)) (ltb b a)
      (connected-is a ∙ ap₂ ◌&&◌ hs hw) (among-is a b hs hw)
      (λ e.
      let k = both (part ((bits_in m).selected a) ((bits_in m).selected b)) (part ((bits_in m).allowed a) ((bits_in m).allowed b)) e in
      among-is b a (some-part ((bits_in m).selected a) ((bits_in m).selected b) hs k.0) (some-part ((bits_in m).allowed a) ((bits_in m).allowed b) hw k.1)))
    where
      last : (p x y l : Bool) → (p ≡ true → x ≡ y) → (p && (not x || l)) ≡ (p && (not y || l))
      last true x y l f = ap (λ t. not t || l) (f refl)
      last false x y l f = refl

      inner : (c x y p q l : Bool) → c ≡ true → x ≡ p → (p ≡ true → y ≡ q) → (c && (x && (not y || l))) ≡ (p && (not q || l))
      inner c x y p q l e f g = ap₂ (λ s t. s && (t && (not y || l))) e f ∙ last p y q l g

  pub conflict-is : (a b : ℕ) → conflict (model_in m) (bits_in m) a b
      ≡ (ltb a b && (model.one_direction (model_in m) a b && (has_some (meet ((bits_in m).selected a) ((bits_in m).selected b))
      && (has_some ((bits_in m).allowed a) && (has_some ((bits_in m).allowed b) && not (has_some (meet ((bits_in m).allowed a) ((bits_in m).allowed b))))))))
  unfolding conflict
  conflict-is a b =
      ap (λ t. ltb a b && (model.one_direction (model_in m) a b && t))
      (ap₂ ◌&&◌ (any-both (model_in m).containers (container-below m) ((bits_in m).selected a) ((bits_in m).selected b) (selected-stands m ok a))
      (ap₂ ◌&&◌ (some-allowed a) (ap₂ ◌&&◌ (some-allowed b)
      (ap not (any-both (model_in m).containers (container-below m) ((bits_in m).allowed a) ((bits_in m).allowed b) (allowed-stands m ok a))))))
