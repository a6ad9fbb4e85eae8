-- Where the next search begins: up to the slot that the last one found none is free, as slots only fill.
use mathlib.Core.Path.{◌≡◌, refl, sym, ap, subst, ◌∙◌}
use mathlib.Core.Bool.{false}
use mathlib.Core.List.{List, [], ◌∷◌}
use mathlib.Core.Option.{Option, none, some}
use Prim.Native.Nat.{ℕ, zero, suc, ◌+◌, ◌≤◌, ◌<◌}
use native.Mathlib.Decide.{dec_lt}
use native.Mathlib.Omega.{arith}
use lib.ListN.{length, set}
use Rattle.std.specs.Prelude.{Result, Ok, Err}
use Rattle.block.specs.declared.Refusal.{Refusal}
use Rattle.block.specs.Entry.{Container, Policy, Entry, container, policy}
use Rattle.block.specs.Refusal.{Read, refused, accepted}
use Rattle.block.specs.Reader.{read_entry}
use Rattle.model.specs.Table.{Table, free, lowest_free}
use Rattle.model.specs.Lowest.{FindsLowest}
use Rattle.model.specs.Model.{Model, with_container, with_policy}
use Rattle.model.specs.Calls.{Answer, said}
use Rattle.model.specs.ModelStep.{placing, placing_policy, admitting}
use Rattle.model.proofs.Lowest.{lowest-below, finds-lowest}
use Rattle.model.proofs.Refused.{Numbers, admitting-numbers}
use Rattle.formed.specs.Registry.{model_in, EntriesFormed}
use Rattle.entries.specs.Entries.{NoneFree}
use Rattle.entries.proofs.FreeSlots.{none-free-yet}
use Rattle.steps.proofs.Outcomes.{sized-in}
use Rattle.answers.specs.declared.Admitted.{Admitted}
use Rattle.answers.specs.declared.Admitted.TheVariants as admitted
use Rattle.answers.specs.Answers.{admitted_answer}
use Rattle.batch_blocks.specs.declared.Came.{Came}
use Rattle.batch_blocks.specs.Blocks.{block_placed, slot_of, position_of, NoneCame, from_past, CameWith, FreeFrom}
use Rattle.batch_blocks.proofs.Left.{left-model}

-- ---- a table whose slots fill

module _ {A : Type 0} (x : A) where
  -- an entry that comes frees no slot
  stays-taken : (t : Table A) (i j : ℕ) → free t j ≡ false → free (set t i (some x)) j ≡ false
  stays-taken [] i j e = refl
  stays-taken (y ∷ t) zero zero e = refl
  stays-taken (y ∷ t) zero (suc j) e = e
  stays-taken (y ∷ t) (suc i) zero e = e
  stays-taken (y ∷ t) (suc i) (suc j) e = stays-taken t i j e

  taken-now : (t : Table A) (i : ℕ) → free (set t i (some x)) i ≡ false
  taken-now [] i = refl
  taken-now (y ∷ t) zero = refl
  taken-now (y ∷ t) (suc i) = taken-now t i

  -- an entry that comes to the lowest free slot
  none-free-past : (t : Table A) (i : ℕ) → lowest_free t ≡ some i → NoneFree (set t i (some x)) (i + 1)
  unfolding FindsLowest
  none-free-past t i e = record { below = λ j h. go j (dec_lt j i) h }
    where
      go : (j : ℕ) → Dec (j < i) → j < i + 1 → free (set t i (some x)) j ≡ false
      go j (yes l) h = stays-taken t i j ((((finds-lowest A t).0 i).0 e).below j l)
      go j (no l) h = let q : j ≡ i = omega arith in ap (free (set t i (some x))) q ∙ taken-now t i

-- ---- what an admission makes of a table, by the slot that its answer may say

record Fills {A : Type 0} (t : Table A) (o : Option ℕ) (t' : Table A) : Type 0 where
  below : (i : ℕ) → o ≡ some i → i < length t
  free : (j : ℕ) → NoneFree t j → NoneFree t' (from_past o j)

module _ {A : Type 0} (t : Table A) where
  stays : Fills t none t
  stays = record { below = λ i e. cc; free = λ j h. h }

  comes : (x : A) (i : ℕ) → lowest_free t ≡ some i → Fills t (some i) (set t i (some x))
  comes x i h = record { below = λ j e. let q : i ≡ j = cc in rw (← q) (lowest-below t i h); free = λ j f. none-free-past x t i h }

module _ (p : Model) where
  abbrev Filled : Model × Answer → Type 0
  Filled s = Fills p.containers (said s.1).container s.0.containers × Fills p.policies (said s.1).policy s.0.policies

  placing-fills : (x : Container) (o : Option ℕ) → lowest_free p.containers ≡ o → Filled (placing p x o)
  unfolding placing with_container
  placing-fills x none h = (stays p.containers, stays p.policies)
  placing-fills x (some c) h = (comes p.containers x c h, stays p.policies)

  placing-policy-fills : (x : Policy) (o : Option ℕ) → lowest_free p.policies ≡ o → Filled (placing_policy p x o)
  unfolding placing_policy with_policy
  placing-policy-fills x none h = (stays p.containers, stays p.policies)
  placing-policy-fills x (some q) h = (stays p.containers, comes p.policies x q h)

  fills : (o : Read Entry) → Filled (admitting p o)
  unfolding admitting
  fills (refused f) = (stays p.containers, stays p.policies)
  fills (accepted (container x)) = placing-fills x (lowest_free p.containers) refl
  fills (accepted (policy x)) = placing-policy-fills x (lowest_free p.policies) refl

-- ---- the slot, and the cursors

slot-below : (r : Result Admitted Refusal) → ((i : ℕ) → (said (admitted_answer r)).container ≡ some i → i < 256) → ((i : ℕ) → (said (admitted_answer r)).policy ≡ some i → i < 128) → slot_of r < 256
slot-below (Err k) f g = omega arith
slot-below (Ok (admitted.Container c)) f g = f c.0 refl
slot-below (Ok (admitted.Policy q)) f g = omega (arith, g q.0 refl)

position-below : (r : Result Admitted Refusal) → Numbers (said (admitted_answer r)).refused → position_of r ≤ 510
position-below (Err f) h = h.1
position-below (Ok a) h = omega arith

-- before the first block
pub free-from-none : (p : Model) {came : Came} → NoneCame came → FreeFrom p came
free-from-none p g = record { containers = rw g.container_from (none-free-yet p.containers); policies = rw g.policy_from (none-free-yet p.policies) }

module _ (m b : List ℕ) {m' : List ℕ} (r : Result Admitted Refusal) (placed : (m', admitted_answer r) ≡ block_placed m b) where
  abbrev now : Model
  now = (admitting (model_in m) (read_entry (model_in m).settings b)).0

  filled : Filled (model_in m) (now, admitted_answer r)
  unfolding block_placed
  filled =
      let e = ap (λ (s : List ℕ × Answer). s.1) placed in
      subst (λ (a : Answer). Filled (model_in m) (now, a)) (sym e) (fills (model_in m) (read_entry (model_in m).settings b))

  pub placed_below : (slot_of r < 256) × (position_of r ≤ 510)
  unfolding block_placed
  placed_below =
      let s = sized-in m in
      let said_so = subst (λ (a : Answer). Numbers (said a).refused) (sym (ap (λ (x : List ℕ × Answer). x.1) placed)) (admitting-numbers (model_in m) (model_in m).settings b) in
      (slot-below r (λ i e. omega (arith, filled.0.below i e, s.containers)) (λ i e. omega (arith, filled.1.below i e, s.policies)), position-below r said_so)

  pub placed-free-from : EntriesFormed m → {came came' : Came} → CameWith came r came' → FreeFrom (model_in m) came → FreeFrom (model_in m') came'
  placed-free-from ok {came} {came'} w h =
      rw (left-model m b ok placed) (record { containers = rw w.containers.from (filled.0.free came.containers.from h.containers); policies = rw w.policies.from (filled.1.free came.policies.from h.policies) })
