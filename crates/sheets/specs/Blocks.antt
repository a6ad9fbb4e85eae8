-- What a block does, and what several do: to the registry's memory, to the text and to the state.
use Rattle.std.specs.Prelude.{◌≡◌, cond, List, [], ◌∷◌, ◌++◌, ℕ, ◌+◌, eqb}
use Rattle.std.proofs.Math.Option.{none, some}
use Rattle.buffer.specs.Buffer.{Puts}
use Rattle.model.specs.Model.{Model}
use Rattle.model.specs.Calls.{Answer, open_with, said}
use Rattle.model.specs.ModelStep.{admitting_block}
use Rattle.model.specs.OnePass.{entries_placed}
use Rattle.formed.specs.Registry.{model_in, registry_in, image}
use Rattle.steps.specs.MemoryStep.{memory_step}
use Rattle.batch_blocks.specs.Blocks.{block_placed}
use Rattle.text.specs.Lines.{refused_line, refused_by}
use Rattle.sheets.specs.declared.State.{State}
use Rattle.sheets.specs.declared.State.TheVariants.{Taking, Counting, Finished}
use Rattle.sheets.specs.declared.Told.{Told}

-- What is left after a block.
pub record Taken : Type 0 where
  pub memory : List ℕ
  pub text : List ℕ
  pub state : State

abbrev takes : List ℕ → List ℕ → State → Taken
takes m t s = record { memory = m; text = t; state = s }

-- "If open is refused .. that line is all": the state after the answer to open
abbrev pub state_after_open : Answer → State
state_after_open a = elim (said a).refused [ none ↦ Taking 1 0 | some r ↦ Finished ]

abbrev pub opens : List ℕ × Answer → Taken
opens r = takes r.0 (refused_by 1 r.1) (state_after_open r.1)

-- Of a block that is admitted the entry alone comes to stand: the stored bits are set when the input has ended, all at once (Step).
abbrev pub admits : ℕ → List ℕ × Answer → Taken
admits n r = takes r.0 (refused_by (n + 1) r.1) (Taking (n + 1) 0)

-- "The first opens, the others are admitted": the block b after n others
unfoldable pub taken : List ℕ → List ℕ → ℕ → Taken
taken m b n = cond (eqb n 0) (opens (memory_step m (open_with b))) (admits n (block_placed m b))

-- the lines of those refused of the blocks after n others, admitted one after another by the reference model
unfoldable pub admitted_lines : Model → ℕ → List (List ℕ) → List ℕ
admitted_lines w n [] = []
admitted_lines w n (b ∷ l) = let r = admitting_block w b in refused_by (n + 1) r.1 ++ admitted_lines r.0 (n + 1) l

-- the same blocks on a memory: what is left of it, with their entries and every stored bit as it was; and those lines
unfoldable pub admits_all : List ℕ → ℕ → List (List ℕ) → List ℕ × List ℕ
admits_all m n l = (image (entries_placed (registry_in m) l), admitted_lines (model_in m) n l)

-- the end of the input, at the end of a block
abbrev pub end_of : ℕ → List ℕ × State
end_of n = cond (eqb n 0) (refused_line 1 (3, 0), Finished) ([], Counting)

-- What a call that took a block left is what is said.
pub record Takes (x : Taken) (m o e : List ℕ) (r : Told) : Type 0 where
  pub memory : m ≡ x.memory
  pub text : Puts o 0 x.text e r.put
  pub state : r.state ≡ x.state
