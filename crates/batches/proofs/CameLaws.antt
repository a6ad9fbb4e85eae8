-- What came, by the answers: one answer more adds its slot.
use mathlib.Core.Path.{◌≡◌, refl, sym, ap, fun_ext, ◌∙◌}
use mathlib.Core.Bool.{Bool, true, false, ◌||◌}
use mathlib.Core.List.{List, [], ◌∷◌, ◌++◌}
use mathlib.Core.Option.{Option, none, some}
use Prim.Native.Nat.{ℕ}
use lib.Dec.{eqb}
use Rattle.bitrow.specs.Set.{nothing, insert}
use Rattle.bitrow.proofs.Sets.{point}
use Rattle.model.specs.Table.{any, on}
use Rattle.model.specs.Calls.{Answer}
use Rattle.model.proofs.Lists.{any_append}
use Rattle.batch_blocks.specs.Blocks.{with_slot}

module _ (part : Answer → Option ℕ) where
  abbrev came : List Answer → ℕ → Bool
  came given c = any (λ x. on (eqb c) (part x)) given

  pub none_came : nothing ≡ came []
  unfolding nothing
  none_came = refl

  pub came-with : (given : List Answer) (a : Answer) {s : ℕ → Bool} → s ≡ came given → with_slot (part a) s ≡ came (given ++ (a ∷ []))
  unfolding insert
  came-with given a {s} e = fun_ext λ c. pick c (part a) ∙ sym (any_append (λ x. on (eqb c) (part x)) given (a ∷ []))
    where
      none_more : (u : Bool) → u ≡ (u || (false || false))
      none_more true = refl
      none_more false = refl

      one_more-law : (u v : Bool) → (u || v) ≡ (v || (u || false))
      one_more-law true true = refl
      one_more-law true false = refl
      one_more-law false true = refl
      one_more-law false false = refl

      pick : (c : ℕ) (o : Option ℕ) → with_slot o s c ≡ (came given c || (on (eqb c) o || false))
      pick c none = point e c ∙ none_more (came given c)
      pick c (some d) = ap (λ (t : Bool). eqb c d || t) (point e c) ∙ one_more-law (eqb c d) (came given c)
