-- What the counts can be, which the call for C puts side by side in one number; and how much was put, as a number.
use mathlib.Core.Path.{◌≡◌, refl, sym, ap, ◌∙◌}
use mathlib.Core.Bool.{Bool, true, false}
use mathlib.Core.List.{List}
use Prim.Native.Nat.{ℕ, ◌≤◌}
use native.Mathlib.Omega.{arith}
use lib.Dec.{eqb}
use lib.ListN.{length}
use borrow.Author.Tests.{eqb-true, eqb-false}
use Rattle.block.specs.declared.Refusal.{Refusal}
use Rattle.block.specs.Refusal.{reason_number}
use Rattle.model.specs.Findings.{containers_of, policies_of, pairs}
use Rattle.model.specs.Calls.{Call, ask, counts, Answer, refusal, refusal_of, counted, written}
use Rattle.steps.specs.MemoryStep.{memory_step}
use Rattle.formed.specs.Registry.{model_in, bits_in, well_formed}
use Rattle.store.specs.Layout.{memory_words}
use Rattle.steps.proofs.Positions.{refused-within}
use Rattle.steps.proofs.Outcomes.{step-size, step-formed, counts-answers}
use Rattle.codes.specs.Codes.{code_of}
use Rattle.codes.proofs.Few.{containers-few, policies-few, pairs-fit}

-- how much was put is the number of an answer that says what was
pub put-coded : (m : List ℕ) (call : Call) (a b : Answer) (n : ℕ) → ◌≡◌ {A = List ℕ × Answer} (m, a) (memory_step m call)
    → n ≡ length (written (memory_step m call).1) → a ≡ b → code_of b ≡ length (written b) → n ≡ code_of a
put-coded m call a b n h k s q =
    k ∙ ap (λ x. length (written x.1)) (sym h) ∙ ap (λ x. length (written x)) s ∙ sym q ∙ ap code_of (sym s)

-- the position of a refusal that a call answers
pub position-fits : (m m' : List ℕ) (call : Call) (f : Refusal) → ◌≡◌ {A = List ℕ × Answer} (m', refusal_of f) (memory_step m call) → f.position ≤ 510
position-fits m m' call f e = refused-within m call (reason_number f.reason) f.position (sym (ap (λ s. s.1) e))

-- what counts answers fits
pub record CountsFit (c q n : ℕ) : Type 0 where
  pub containers : c ≤ 256
  pub policies : q ≤ 128
  pub pairs : n ≤ 65536

pub counts-fit : (m : List ℕ) (c q n : ℕ) → ◌≡◌ {A = List ℕ × Answer} (m, counted c q n) (memory_step m (ask counts)) → CountsFit c q n
counts-fit m c q n e = pick (eqb (length m) memory_words) refl (well_formed m) refl
  where
    never : {A : Type 0} (k : ℕ) → counted c q n ≡ refusal k 0 → A
    never k h = let z : ◌≡◌ {A = ℕ} 0 1 = cc in absurd (omega arith)

    pick : (t : Bool) → eqb (length m) memory_words ≡ t → (u : Bool) → well_formed m ≡ u → CountsFit c q n
    pick false l u w = never 1 (ap (λ s. s.1) (e ∙ step-size m (ask counts) (eqb-false (length m) memory_words l)))
    pick true l false w = never 2 (ap (λ s. s.1) (e ∙ step-formed m (ask counts) (eqb-true (length m) memory_words l) w refl))
    pick true l true w =
        let h : counted c q n ≡ counted (length (containers_of (model_in m))) (length (policies_of (model_in m))) (pairs (bits_in m)) = ap (λ s. s.1) (e ∙ counts-answers m w) in
        let x : c ≡ length (containers_of (model_in m)) = cc in
        let y : q ≡ length (policies_of (model_in m)) = cc in
        let z : n ≡ pairs (bits_in m) = cc in
        record {
          containers = omega (arith, containers-few m);
          policies = omega (arith, policies-few m);
          pairs = omega (arith, pairs-fit m);
        }
