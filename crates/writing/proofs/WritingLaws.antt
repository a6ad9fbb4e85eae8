-- What was put into the buffer is the call's answer.
use mathlib.Core.Path.{◌≡◌, ap}
use mathlib.Core.Bool.{true}
use mathlib.Core.List.{List}
use Prim.Native.Nat.{ℕ, ◌≤◌}
use lib.ListN.{length}
use Rattle.buffer.specs.Buffer.{Puts}
use Rattle.buffer.proofs.BufferLaws.{puts-taken}
use Rattle.model.specs.Calls.{ask, write, file_put}
use Rattle.model.specs.File.{file_of}
use Rattle.formed.specs.Registry.{model_in, well_formed}
use Rattle.steps.proofs.Outcomes.{write-puts}
use Rattle.std.specs.Prelude.{Ok}
use Rattle.answers.specs.Answers.{file_answer}
use Rattle.answers.proofs.AnswerLaws.{Promised, promised-put}

pub file-written : (m : List ℕ) → well_formed m ≡ true → {d e : List ℕ} {n : ℕ} → length (file_of (model_in m)) ≤ length d
    → Puts d 0 (file_of (model_in m)) e n → Promised m (ask (write (length d))) d e (file_answer (Ok n) e) n
file-written m formed {d} h g = promised-put m (ask (write (length d))) _ _ (ap file_put (puts-taken g)) (write-puts m formed (length d) h) g
