-- What is lost of an answer that is handed over as a number: nothing.
use Rattle.std.specs.Prelude.{◌≡◌, ◌↔◌, List, ℕ}
use Rattle.model.specs.Findings.{Place}
use Rattle.model.specs.Calls.{Call, ask, next_finding, no_finding, written}
use Rattle.steps.specs.MemoryStep.{memory_step}
use Rattle.codes.specs.Codes.{code_of}

-- Of one call on any two memories: answers of one number, with the same put into the list lent, are one answer.
unfoldable pub AnswersApart : Type 0
AnswersApart =
    (call : Call) (m m' : List ℕ)
    → code_of (memory_step m call).1 ≡ code_of (memory_step m' call).1
    → written (memory_step m call).1 ≡ written (memory_step m' call).1
    → (memory_step m call).1 ≡ (memory_step m' call).1

-- Next finding is answered 0 exactly if there is none: no finding has that number, and no refusal.
unfoldable pub ZeroIsNone : Type 0
ZeroIsNone =
    (m : List ℕ) (c : Place)
    → (code_of (memory_step m (ask (next_finding c))).1 ≡ 0) ↔ ((memory_step m (ask (next_finding c))).1 ≡ no_finding)
