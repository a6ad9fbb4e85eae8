-- How far a batch has come.
use Rattle.std.specs.Prelude.{◌≡◌, List, map, ℕ, ◌+◌, ◌*◌, ◌^◌, ◌<◌, take, set, Result, ⊤}
use Rattle.bitrow.specs.Bit.{bit_at}
use Rattle.buffer.specs.Buffer.{Puts}
use Rattle.block.specs.declared.Reason.{Reason}
use Rattle.block.specs.declared.Refusal.{Refusal}
use Rattle.block.specs.Refusal.{first_refusal}
use Rattle.block.specs.Cut.{blocks_of}
use Rattle.model.specs.declared.Tally.{Tally}
use Rattle.model.specs.Calls.{Answer, numbers_of, run}
use Rattle.model.specs.Batch.{pair_of, is_taken, tallied_one, tallied}
use Rattle.model.specs.ModelStep.{admitting_block}
use Rattle.model.specs.OnePass.{containers_came, policies_came, entries_placed}
use Rattle.model.specs.Refusals.{batch_checks}
use Rattle.store.specs.Layout.{word_at}
use Rattle.formed.specs.Registry.{model_in, registry_in, EntriesFormed}
use Rattle.call_tests.specs.Tests.{reason_of}
use Rattle.answers.specs.declared.Admitted.{Admitted}
use Rattle.answers.specs.Answers.{admitted_answer}
use Rattle.batch_blocks.specs.Blocks.{block_placed, NoneCame, CameWith, FreeFrom}
use Rattle.batches.specs.declared.Progress.{Progress}

-- 14 and 13
abbrev pub batch_test : List ℕ → ℕ → Result ⊤ Reason
batch_test bs n = reason_of (first_refusal (batch_checks bs n))

-- nothing came yet
pub record Begun (t : Tally) (p : Progress) : Type 0 where
  pub none : NoneCame p.came
  pub tally : p.tally ≡ t

-- the first i blocks, and the answers to them from the entries of m
unfoldable pub first_blocks : List ℕ → ℕ → List (List ℕ)
first_blocks bs i = blocks_of (take (512 * i) bs)

unfoldable pub first_answers : List ℕ → List ℕ → ℕ → List Answer
first_answers m bs i = (run admitting_block (model_in m) (first_blocks bs i)).1

-- a block b was answered so: it leaves of m and p the memory m' and the progress p', and its numbers stand in the list d, now e
pub record TookBlock (m b d : List ℕ) (i : ℕ) (p : Progress) (m' e : List ℕ) (p' : Progress) : Type 0 where
  pub answer : Result Admitted Refusal
  pub placed : (m', admitted_answer answer) ≡ block_placed m b
  pub came : CameWith p.came answer p'.came
  pub tally : p'.tally ≡ tallied_one p.tally (is_taken (pair_of (admitted_answer answer)))
  pub list : e ≡ set (set d (2 * i) (pair_of (admitted_answer answer)).0) (2 * i + 1) (pair_of (admitted_answer answer)).1

-- after the first i blocks of bs, from the memory m, the list d and the tally t: the memory m', the list e and the progress p
pub record BatchAt (m bs d : List ℕ) (t : Tally) (i : ℕ) (m' e : List ℕ) (p : Progress) : Type 0 where
  pub formed : EntriesFormed m'
  pub fits : (k : ℕ) → word_at m' k < 2 ^ 64
  pub placed : registry_in m' ≡ entries_placed (registry_in m) (first_blocks bs i)
  pub free : FreeFrom (model_in m') p.came
  pub containers : bit_at p.came.containers.slots ≡ containers_came (first_answers m bs i)
  pub policies : bit_at p.came.policies.slots ≡ policies_came (first_answers m bs i)
  pub tally : p.tally ≡ tallied t (map pair_of (first_answers m bs i))
  pub list : Puts d 0 (numbers_of (map pair_of (first_answers m bs i))) e (2 * i)
