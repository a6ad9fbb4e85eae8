-- Document 02, Note 5: what the position in an answer is.
use Rattle.std.specs.Prelude.{◌≡◌, Bool, true, false, List, [], ◌∷◌, ℕ}
use Rattle.block.specs.declared.Reason.{Reason}
use Rattle.block.specs.Cut.{blocks_of}
use Rattle.block.specs.Positions.{SettingsFaultAt, EntryFaultAt, PositionOf}
use Rattle.block.specs.Refusal.{reason_number}
use Rattle.model.specs.declared.Tally.{Tally}
use Rattle.model.specs.Calls.{Call, open_with, change, admit, admit_batch, refusal, batch_put}
use Rattle.steps.specs.MemoryStep.{memory_step}

-- number n and position p, of a block whose faults stand where F says
pub record RefusedAt (F : Reason → ℕ → Type 0) (n p : ℕ) : Type 0 where
  pub reason : Reason
  pub numbered : reason_number reason ≡ n
  pub position : PositionOf F reason p

-- of the blocks of a batch and the two numbers of each: where the first is not 0, the block was refused with it, at the second
abbrev pub EachRefusedAt : List (List ℕ) → List (ℕ × ℕ) → Type 0
EachRefusedAt [] [] = Unit {0}
EachRefusedAt (b ∷ bs) (x ∷ ps) = ((x.0 ≡ 0 → ⊥) → RefusedAt (EntryFaultAt b) x.0 x.1) × EachRefusedAt bs ps
EachRefusedAt bs ps = ⊥

-- the calls that are answered by a position in the block that they were lent
abbrev pub of_a_block : Call → Bool
of_a_block (open_with b) = true
of_a_block (change (admit b)) = true
of_a_block call = false

-- Of any memory.
pub record Positions (m : List ℕ) : Type 0 where
  -- "A refused block or delivery comes with the position at fault." "open, admit and delivery pass it on"
  pub opening : (b : List ℕ) (n p : ℕ) → (memory_step m (open_with b)).1 ≡ refusal n p → RefusedAt (SettingsFaultAt b) n p
  pub admission : (b : List ℕ) (n p : ℕ) → (memory_step m (change (admit b))).1 ≡ refusal n p → RefusedAt (EntryFaultAt b) n p
  -- "delivery in an answer's second number"
  pub batch : (bs : List ℕ) (k : ℕ) (t u : Tally) (ps : List (ℕ × ℕ)) → (memory_step m (change (admit_batch bs k t))).1 ≡ batch_put ps u → EachRefusedAt (blocks_of bs) ps
  -- a batch that is turned down as a whole, and every other call, answers its number alone
  pub alone : (call : Call) (n p : ℕ) → of_a_block call ≡ false → (memory_step m call).1 ≡ refusal n p → p ≡ 0
