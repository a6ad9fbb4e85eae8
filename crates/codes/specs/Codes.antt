-- The number that each answer is over the C interface.
use Rattle.std.specs.Prelude.{Bool, true, false, List, ℕ, ◌+◌, ◌*◌, length}
use Rattle.model.specs.Findings.{finding_code}
use Rattle.model.specs.Calls.{Call, Answer, refusal, done, container_at, policy_at, says, found, no_finding, findings_put, counted, file_put, batch_put}
use Rattle.steps.specs.MemoryStep.{memory_step}

-- the refusal's number in the top byte, the position at fault in the low 16 bits
unfoldable pub refusal_code : ℕ → ℕ → ℕ
refusal_code n p = n * 72057594037927936 + p

-- containers + policies * 2^16 + PAIRS * 2^32
unfoldable pub counts_code : ℕ → ℕ → ℕ → ℕ
counts_code c q n = c + q * 65536 + n * 4294967296

abbrev pub truth_code : Bool → ℕ
truth_code true = 1
truth_code false = 0

abbrev pub code_of : Answer → ℕ
code_of (refusal n p) = refusal_code n p
code_of done = 0
code_of (container_at c) = c
code_of (policy_at q) = q
code_of (says t) = truth_code t
code_of (found g c) = finding_code g
code_of no_finding = 0
code_of (findings_put l c) = length l
code_of (counted c q n) = counts_code c q n
code_of (file_put w) = length w
code_of (batch_put ps t) = 0

-- what a call leaves of the memory, and the number it answers
unfoldable pub coded_step : List ℕ → Call → List ℕ × ℕ
coded_step m call = let s = memory_step m call in (s.0, code_of s.1)
