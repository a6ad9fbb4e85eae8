-- What is put for each answer to a block is what is said.
use mathlib.Core.Path.{◌≡◌, refl, sym, ap, ◌∙◌, subst}
use mathlib.Core.Bool.{Bool, cond}
use mathlib.Core.List.{List, []}
use Prim.Native.Nat.{ℕ, ◌+◌}
use borrow.Author.Tests.{eq-eqb, ne_eqb}
use Rattle.buffer.specs.Buffer.{Puts}
use Rattle.model.specs.Calls.{Answer, open_with}
use Rattle.steps.specs.MemoryStep.{memory_step}
use Rattle.batch_blocks.specs.Blocks.{block_placed}
use Rattle.text.specs.Lines.{refused_by}
use Rattle.sheets.specs.declared.State.TheVariants.{Taking, Counting}
use Rattle.sheets.specs.declared.Told.{Told}
use Rattle.sheets.specs.Told.{Tells}
use Rattle.sheets.specs.Blocks.{Taken, Takes, state_after_open, opens, admits, taken, end_of}

-- from the register's own answer, known as a
module _ {x : List ℕ × Answer} {m : List ℕ} {b a : Answer} (h : ◌≡◌ {A = List ℕ × Answer} (m, b) x) (k : b ≡ a) where
  known-answer : (m, a) ≡ x
  known-answer = ap (λ z. (m, z)) (sym k) ∙ h

  module _ {o e : List ℕ} {r : Told} where
    pub opens-is : Puts o 0 (refused_by 1 a) e r.put → r.state ≡ state_after_open a → Takes (opens x) m o e r
    opens-is p s = subst (λ z. Takes (opens z) m o e r) known-answer (record { memory = refl; text = p; state = s })

    pub admits-is : (n : ℕ) → Puts o 0 (refused_by (n + 1) a) e r.put → r.state ≡ Taking (n + 1) 0 → Takes (admits n x) m o e r
    admits-is n p s = subst (λ z. Takes (admits n z) m o e r) known-answer (record { memory = refl; text = p; state = s })

module _ (m b : List ℕ) (n : ℕ) where
  abbrev pub one_of : Bool → Taken
  one_of t = cond t (opens (memory_step m (open_with b))) (admits n (block_placed m b))

  module _ {e o f : List ℕ} {r : Told} where
    pub taken-first : n ≡ 0 → Takes (opens (memory_step m (open_with b))) e o f r → Takes (taken m b n) e o f r
    unfolding taken
    taken-first z t = subst (λ u. Takes (one_of u) e o f r) (sym (eq-eqb n 0 z)) t

    pub taken_next : (n ≡ 0 → ⊥) → Takes (admits n (block_placed m b)) e o f r → Takes (taken m b n) e o f r
    unfolding taken
    taken_next z t = subst (λ u. Takes (one_of u) e o f r) (sym (ne_eqb n 0 z)) t

-- ---- the end of the input

module _ (n : ℕ) {o e : List ℕ} {r : Told} where
  pub end-first : n ≡ 0 → Tells (end_of 0) o e r → Tells (end_of n) o e r
  end-first z t = subst (λ k. Tells (end_of k) o e r) (sym z) t

  pub end_later : (n ≡ 0 → ⊥) → Tells ([], Counting) o e r → Tells (end_of n) o e r
  end_later z t = subst (λ u. Tells (cond u (end_of 0) ([], Counting)) o e r) (sym (ne_eqb n 0 z)) t
