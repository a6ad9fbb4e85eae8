-- The numbers of a row, one after another: those that a test holds of are gathered.
use mathlib.Core.Path.{◌≡◌, sym, ap, ◌∙◌, subst}
use mathlib.Core.Bool.{Bool, true, false}
use mathlib.Core.List.{List}
use Prim.Native.Nat.{ℕ, ◌≤◌, ◌<◌}
use native.Mathlib.Omega.{arith}
use Rattle.std.specs.Prelude.{Some}
use Rattle.bitrow.specs.Bit.{bit_at}
use Rattle.bitrow.specs.Set.{nothing, meet, under, insert, Bounded, Lowest}
use Rattle.bitrow.proofs.Sets.{meet-nothing, under-zero}
use Rattle.entries.proofs.Trials.{gather-take, gather-skip, gather-done}
use Rattle.row_members.specs.declared.Members.{Members}
use Rattle.row_members.specs.Steps.{MemberSteps}

-- ---- gathered: of the set, those before the next number that f holds of

pub record Gathered (set : List ℕ) (f : ℕ → Bool) (it : Members) (chosen : List ℕ) : Type 0 where
  pub row : it.row ≡ set
  pub most : it.from ≤ 256
  pub so_far : bit_at chosen ≡ meet (meet (bit_at set) f) (under it.from)

module _ {set : List ℕ} {f : ℕ → Bool} where
  pub gathered_none : {it : Members} {chosen : List ℕ} → it ≡ record { row = set; from = 0 } → bit_at chosen ≡ nothing → Gathered set f it chosen
  gathered_none e n = record {
    row = ap (λ (s : Members). s.row) e;
    most = (let z : _ ≡ 0 = ap (λ (s : Members). s.from) e in omega (arith, z));
    so_far = n ∙ sym (ap (λ (s : Members). meet (meet (bit_at set) f) (under s.from)) e ∙ ap (meet (meet (bit_at set) f)) under-zero ∙ meet-nothing (meet (bit_at set) f));
  }

  module _ {it : Members} {chosen : List ℕ} (g : Gathered set f it chosen) where
    module _ {c : ℕ} {next : Members} (step : MemberSteps it (Some c) next) where
      lowest : Lowest (bit_at set) it.from 256 c
      lowest = subst (λ r. Lowest (bit_at r) it.from 256 c) g.row step.0

      pub gathered-take : f c ≡ true → {r : List ℕ} → bit_at r ≡ insert c (bit_at chosen) → Gathered set f next r
      gathered-take e q = record {
        row = step.1 ∙ g.row;
        most = omega (arith, lowest.below, step.2);
        so_far = q ∙ ap (insert c) g.so_far ∙ gather-take (bit_at set) f it.from 256 c lowest e ∙ sym (ap (λ n. meet (meet (bit_at set) f) (under n)) step.2);
      }

      pub gathered-skip : f c ≡ false → Gathered set f next chosen
      gathered-skip e = record {
        row = step.1 ∙ g.row;
        most = omega (arith, lowest.below, step.2);
        so_far = g.so_far ∙ gather-skip (bit_at set) f it.from 256 c lowest e ∙ sym (ap (λ n. meet (meet (bit_at set) f) (under n)) step.2);
      }

      pub gathered-of : bit_at set c ≡ true
      gathered-of = lowest.there

    pub gathered-all : Bounded 256 (bit_at set) → ((k : ℕ) → it.from ≤ k → k < 256 → bit_at it.row k ≡ false) → bit_at chosen ≡ meet (bit_at set) f
    gathered-all b out = g.so_far ∙ gather-done (bit_at set) f it.from 256 b g.most (subst (λ r. (k : ℕ) → it.from ≤ k → k < 256 → bit_at r k ≡ false) g.row out)
