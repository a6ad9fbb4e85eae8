-- Every way of cutting the input into pieces, and every sequence of buffers: what is proved of the report.
use Rattle.std.specs.Prelude.{◌≡◌, Bool, true, cond, List, [], ◌∷◌, ◌++◌, ℕ, suc, ◌+◌, ◌%◌, ◌≤◌, ◌<◌, eqb, length, take, drop}
use Rattle.block.specs.Cut.{blocks_of}
use Rattle.model.specs.Model.{Model}
use Rattle.model.specs.Calls.{Call, open_with, change, admit}
use Rattle.model.specs.ModelStep.{model_step}
use Rattle.store.specs.Layout.{memory_words}
use Rattle.formed.specs.Registry.{model_in}
use Rattle.text.specs.Lines.{refused_by}
use Rattle.sheets.specs.declared.State.{State}
use Rattle.sheets.specs.declared.State.TheVariants.{Taking, Finished}
use Rattle.sheets.specs.Left.{Left}
use Rattle.sheets.specs.Sheet.{sheet}
use Rattle.sheets.specs.Step.{report_step, start_state, Fed}

-- A run from the memory m, the buffer k of the started block and the state s, over the input that is still to come, to the end; text
-- is what its steps put, joined. Each step is lent any piece p of the input; q comes after it, and the next step goes on with what was
-- not used. That the input has ended is said only where nothing comes after the piece. The buffer for the text is of any length from
-- 128 on.
pub data ReportRun : List ℕ → List ℕ → State → List ℕ → List ℕ → Type 0 where
  ends : (m k : List ℕ) (s : State) (input text : List ℕ) → s ≡ Finished → text ≡ [] → ReportRun m k s input text
  goes : (m k : List ℕ) (s : State) (input text p q : List ℕ) (ended : Bool) (room : ℕ) (rest : List ℕ) → input ≡ p ++ q → (ended ≡ true → q ≡ []) → 128 ≤ room
      → ReportRun (report_step m k p ended room s).memory (report_step m k p ended room s).block (report_step m k p ended room s).state (drop (report_step m k p ended room s).used p ++ q) rest
      → text ≡ (report_step m k p ended room s).text ++ rest → ReportRun m k s input text

-- What a step is lent of the input that is still to come: a piece p, with q after it, and a buffer of so many bytes for the text. The
-- piece has some bytes, or it is said that the input has ended.
pub record Lent (input : List ℕ) : Type 0 where
  pub p : List ℕ
  pub q : List ℕ
  pub split : input ≡ p ++ q
  pub ended : Bool
  pub last : ended ≡ true → q ≡ []
  pub fed : Fed p ended
  pub room : ℕ
  pub enough : 128 ≤ room

abbrev pub lent_step : (m k : List ℕ) → State → {input : List ℕ} → Lent input → Left
lent_step m k s l = report_step m k l.p l.ended l.room s

-- The run in which step j is lent `lend j`, to its end.
pub data Follows (lend : ℕ → (input : List ℕ) → Lent input) : ℕ → List ℕ → List ℕ → State → List ℕ → List ℕ → Type 0 where
  over : (j : ℕ) (m k : List ℕ) (s : State) (input text : List ℕ) → s ≡ Finished → text ≡ [] → Follows lend j m k s input text
  stepped : (j : ℕ) (m k : List ℕ) (s : State) (input text rest : List ℕ)
      → Follows lend (suc j) (lent_step m k s (lend j input)).memory (lent_step m k s (lend j input)).block (lent_step m k s (lend j input)).state
      (drop (lent_step m k s (lend j input)).used (lend j input).p ++ (lend j input).q) rest
      → text ≡ (lent_step m k s (lend j input)).text ++ rest → Follows lend j m k s input text

-- ---- the theorems

-- From the start, on any memory of the registry's size and any buffer for a started block, over every input of fewer than 2^64 bytes,
-- however it is cut and whatever buffers are lent for the text: what the steps of a run put, joined, is the sheet.
unfoldable pub TextIsSheet : Type 0
TextIsSheet = (m k input text : List ℕ) → length m ≡ memory_words → length k ≡ 512 → length input < 18446744073709551616 → ReportRun m k start_state input text → text ≡ sheet input

-- And every run comes to its end: whatever pieces and buffers the steps are lent.
unfoldable pub EveryRunIsSheet : Type 0
EveryRunIsSheet =
    (lend : ℕ → (input : List ℕ) → Lent input) (m k input : List ℕ) → length m ≡ memory_words → length k ≡ 512 → length input < 18446744073709551616
    → Follows lend 0 m k start_state input (sheet input)

-- the call by a block after n others
abbrev pub call_by : ℕ → List ℕ → Call
call_by n b = cond (eqb n 0) (open_with b) (change (admit b))

-- the blocks after n others, one after another, by the reference model: the lines of those refused
unfoldable pub lines_by : Model → ℕ → List (List ℕ) → List ℕ
lines_by w n [] = []
lines_by w n (b ∷ l) = let r = model_step w (call_by n b) in refused_by (n + 1) r.1 ++ lines_by r.0 (n + 1) l

-- Of a step after n blocks and f bytes of the next, which the buffer k has, that was lent the piece p and left x.
pub record AtOnce (m k p : List ℕ) (n f : ℕ) (x : Left) : Type 0 where
  -- it used the rest of that block at least
  pub rest : 512 ≤ f + x.used
  pub lent : x.used ≤ length p
  -- no byte of a block that it does not take whole
  pub whole : (f + x.used) % 512 ≡ 0
  -- and it has put the line of every block that it used
  pub text : x.text ≡ lines_by (model_in m) n (blocks_of (take f k ++ take x.used p))

-- "A refused block n (from 1) gives `REFUSED n r` at once": in every step that is lent the rest of a block, or more.
unfoldable pub BlockAtOnce : Type 0
BlockAtOnce =
    (m k p : List ℕ) (ended : Bool) (room n f : ℕ) → length m ≡ memory_words → length k ≡ 512 → f < 512 → (n ≡ 18446744073709551615 → ⊥) → 512 ≤ f + length p
    → AtOnce m k p n f (report_step m k p ended room (Taking n f))
