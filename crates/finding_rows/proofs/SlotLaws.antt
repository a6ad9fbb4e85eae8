-- The slots at which there can be a finding, kind by kind.
use mathlib.Core.Path.{◌≡◌, refl, sym, ◌∙◌, subst}
use mathlib.Core.Logic.{inl, inr}
use mathlib.Core.Bool.{true, true≢false}
use mathlib.Core.List.{List, [], ◌∷◌}
use Prim.Native.Nat.{ℕ, zero, suc}
use native.Mathlib.Omega.{arith}
use lib.ListN.{length, set}
use Rattle.bitrow.specs.Bit.{bit_at}
use Rattle.bitrow.specs.Set.{nothing}
use Rattle.bitrow.proofs.Sets.{point, nothing-at}
use Rattle.container_findings.specs.Rows.{shown_at}
use Rattle.container_findings.proofs.KindRows.{no_kind}
use Rattle.finding_rows.specs.Slots.{slots_of, SlotsOf}

-- in an empty row there is no finding
no-finding : (m : List ℕ) (k a b : ℕ) → nothing ≡ shown_at m k a → shown_at m k a b ≡ true → ⊥
no-finding m k a b f e = true≢false (sym e ∙ sym (point f b) ∙ nothing-at b)

-- what a finding of kind k is at is in the row r
abbrev pub Holds : List ℕ → ℕ → List ℕ → Type 0
Holds m k r = (a b : ℕ) → shown_at m k a b ≡ true → bit_at r a ≡ true

-- of each kind a row
module _ (m : List ℕ) {r0 r1 r2 r3 r4 r5 r6 r7 : List ℕ} (h1 : Holds m 1 r1) (h2 : Holds m 2 r2) (h3 : Holds m 3 r3) (h4 : Holds m 4 r4)
    (h5 : Holds m 5 r5) (h6 : Holds m 6 r6) (h7 : Holds m 7 r7) where
  pub slots-each : SlotsOf m (r0 ∷ r1 ∷ r2 ∷ r3 ∷ r4 ∷ r5 ∷ r6 ∷ r7 ∷ [])
  slots-each = record { each = go }
    where
      go : (k a b : ℕ) → shown_at m k a b ≡ true → slots_of (r0 ∷ r1 ∷ r2 ∷ r3 ∷ r4 ∷ r5 ∷ r6 ∷ r7 ∷ []) k a ≡ true
      go zero a b h = absurd (no-finding m 0 a b (no_kind m 0 a (inl refl)) h)
      go (suc zero) a b h = h1 a b h
      go (suc (suc zero)) a b h = h2 a b h
      go (suc (suc (suc zero))) a b h = h3 a b h
      go (suc (suc (suc (suc zero)))) a b h = h4 a b h
      go (suc (suc (suc (suc (suc zero))))) a b h = h5 a b h
      go (suc (suc (suc (suc (suc (suc zero)))))) a b h = h6 a b h
      go (suc (suc (suc (suc (suc (suc (suc zero))))))) a b h = h7 a b h
      go (suc (suc (suc (suc (suc (suc (suc (suc k)))))))) a b h = absurd (no-finding m _ a b (no_kind m _ a (inr (omega arith))) h)

-- eight rows written into a list of eight
abbrev written : List (List ℕ) → List ℕ → List ℕ → List ℕ → List ℕ → List ℕ → List ℕ → List ℕ → List ℕ → List (List ℕ)
written s r0 r1 r2 r3 r4 r5 r6 r7 = set (set (set (set (set (set (set (set s 0 r0) 1 r1) 2 r2) 3 r3) 4 r4) 5 r5) 6 r6) 7 r7

all-written : (s : List (List ℕ)) → length s ≡ 8 → (r0 r1 r2 r3 r4 r5 r6 r7 : List ℕ)
    → written s r0 r1 r2 r3 r4 r5 r6 r7 ≡ r0 ∷ r1 ∷ r2 ∷ r3 ∷ r4 ∷ r5 ∷ r6 ∷ r7 ∷ []
all-written [] e r0 r1 r2 r3 r4 r5 r6 r7 = absurd (omega (arith, e))
all-written (_ ∷ []) e r0 r1 r2 r3 r4 r5 r6 r7 = absurd (omega (arith, e))
all-written (_ ∷ _ ∷ []) e r0 r1 r2 r3 r4 r5 r6 r7 = absurd (omega (arith, e))
all-written (_ ∷ _ ∷ _ ∷ []) e r0 r1 r2 r3 r4 r5 r6 r7 = absurd (omega (arith, e))
all-written (_ ∷ _ ∷ _ ∷ _ ∷ []) e r0 r1 r2 r3 r4 r5 r6 r7 = absurd (omega (arith, e))
all-written (_ ∷ _ ∷ _ ∷ _ ∷ _ ∷ []) e r0 r1 r2 r3 r4 r5 r6 r7 = absurd (omega (arith, e))
all-written (_ ∷ _ ∷ _ ∷ _ ∷ _ ∷ _ ∷ []) e r0 r1 r2 r3 r4 r5 r6 r7 = absurd (omega (arith, e))
all-written (_ ∷ _ ∷ _ ∷ _ ∷ _ ∷ _ ∷ _ ∷ []) e r0 r1 r2 r3 r4 r5 r6 r7 = absurd (omega (arith, e))
all-written (_ ∷ _ ∷ _ ∷ _ ∷ _ ∷ _ ∷ _ ∷ _ ∷ []) e r0 r1 r2 r3 r4 r5 r6 r7 = refl
all-written (_ ∷ _ ∷ _ ∷ _ ∷ _ ∷ _ ∷ _ ∷ _ ∷ _ ∷ _) e r0 r1 r2 r3 r4 r5 r6 r7 = absurd (omega (arith, e))

pub slots-written : (m : List ℕ) (s : List (List ℕ)) → length s ≡ 8 → (r0 r1 r2 r3 r4 r5 r6 r7 : List ℕ)
    → Holds m 1 r1 → Holds m 2 r2 → Holds m 3 r3 → Holds m 4 r4 → Holds m 5 r5 → Holds m 6 r6 → Holds m 7 r7
    → SlotsOf m (written s r0 r1 r2 r3 r4 r5 r6 r7)
slots-written m s e r0 r1 r2 r3 r4 r5 r6 r7 h1 h2 h3 h4 h5 h6 h7 =
    subst (SlotsOf m) (sym (all-written s e r0 r1 r2 r3 r4 r5 r6 r7)) (slots-each m h1 h2 h3 h4 h5 h6 h7)
