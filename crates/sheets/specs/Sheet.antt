-- The whole sheet, from the bytes of the input to the lines, straight from document 01, "The program and one printed sheet", and document
-- 02, Note 5. It speaks of the plain book alone: no memory, no stored bit, no piece of input and no buffer.
use Rattle.std.specs.Prelude.{List, [], ◌∷◌, ◌++◌, ℕ, ◌+◌, length}
use Rattle.block.specs.Entry.{Settings}
use Rattle.block.specs.Refusal.{Read, refused, accepted, reason_number}
use Rattle.block.specs.Reader.{read_settings}
use Rattle.block.specs.Cut.{blocks_of}
use Rattle.model.specs.Model.{Model, empty, computed_bits}
use Rattle.model.specs.Findings.{containers_of, policies_of, findings, pairs}
use Rattle.model.specs.Calls.{change, admit}
use Rattle.model.specs.ModelStep.{model_step}
use Rattle.text.specs.Lines.{refused_line, refused_by, counts_line, finding_lines}

-- "Then one line with the standing counts and PAIRS, then the findings."
unfoldable pub closing : Model → List ℕ
closing m =
    counts_line (length (containers_of m)) (length (policies_of m)) (pairs (computed_bits m)) ++ finding_lines (findings m (computed_bits m))

-- "the others are admitted": the first of these is block n
unfoldable pub lines_from : ℕ → Model → List (List ℕ) → List ℕ
lines_from n m [] = closing m
lines_from n m (b ∷ l) = let r = model_step m (change (admit b)) in refused_by n r.1 ++ lines_from (n + 1) r.0 l

-- "The first opens": "If open is refused .. that line is all."
unfoldable pub sheet_from : Read Settings → List (List ℕ) → List ℕ
sheet_from (refused f) l = refused_line 1 (reason_number f.reason, f.position)
sheet_from (accepted s) l = lines_from 2 (empty s) l

-- "or the input is empty (`REFUSED 1 3`)"; document 02, Note 5: "For .. 3 .. it is 0"
unfoldable pub sheet_of : List (List ℕ) → List ℕ
sheet_of [] = refused_line 1 (3, 0)
sheet_of (b ∷ l) = sheet_from (read_settings b) l

-- "reads blocks from standard input"
unfoldable pub sheet : List ℕ → List ℕ
sheet input = sheet_of (blocks_of input)
