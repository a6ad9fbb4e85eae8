-- What the test of a block's frame answers, how the code holds a layout, and what its test goes through.
use Rattle.std.specs.Prelude.{◌≡◌, ◌≢◌, List, [], ◌∷◌, ℕ, ◌+◌, ◌*◌, ◌≤◌, length, Result, Ok, Err}
use denote.Ref.{Bor}
use Rattle.layouts.specs.declared.Body.{Body}
use Rattle.faults.specs.declared.Run.{Run as CodeRun}
use Rattle.block_bytes.specs.declared.Span.{Span as CodeSpan}
use Rattle.block.specs.declared.Reason.TheVariants.{BlockLength, Limit, Range, Order, Unused}
use Rattle.block.specs.declared.Refusal.{Refusal}
use Rattle.block.specs.Fault.{field_fault}
use Rattle.block.specs.Refusal.{Check, check, first_refusal}
use Rattle.block.specs.Reader.{Run, Span, Layout, range_faults, order_faults, unused_fault, frame}
use Rattle.block_bytes.specs.Used.{UsedEnd}

-- 3, or the bytes themselves, 512 of them
abbrev pub IsWhole : List ℕ → Result (Bor (List ℕ)) Refusal → Type 0
IsWhole b (Ok w) = (w.now ≡ b) × (length b ≡ 512)
IsWhole b (Err r) = (r ≡ record { reason = BlockLength; position = 0 }) × (length b ≢ 512)

-- 3 or 4, or the bytes themselves, that meet neither, and where the used ones end
abbrev pub Frames : List ℕ → Result (Bor (List ℕ) × ℕ) Refusal → Type 0
Frames b (Ok f) = (f.0.now ≡ b) × (first_refusal (frame f.0.now) ≡ Ok tt) × UsedEnd f.0.now f.1
Frames b (Err r) = first_refusal (frame b) ≡ Err r

-- ---- the code holds a layout as two runs of labels and two ranges of unused bytes, of which any may be empty

abbrev pub run_of : CodeRun → Run
run_of r = record { start = r.start; count = r.count }

abbrev pub span_of : CodeSpan → Span
span_of s = record { from = s.from; to = s.to }

unfoldable pub runs_of : Body → List Run
runs_of y = run_of y.first ∷ run_of y.second ∷ []

unfoldable pub unused_of : Body → List Span
unused_of y = span_of y.head ∷ span_of y.rest ∷ []

-- the run lies within n bytes
abbrev pub RunWithin : ℕ → CodeRun → Type 0
RunWithin n r = r.start + 4 * r.count ≤ n

-- all of it lies within n bytes
pub record BodyWithin (n : ℕ) (y : Body) : Type 0 where
  pub first : RunWithin n y.first
  pub second : RunWithin n y.second
  pub head : y.head.to ≤ n
  pub rest : y.rest.to ≤ n

-- 7, 8 and 9
unfoldable pub body_checks : List ℕ → List Run → List Span → List Check
body_checks b rs us = check Range (range_faults b rs) ∷ check Order (order_faults b rs) ∷ check Unused (unused_fault b us) ∷ []

-- 6 to 9
unfoldable pub layout_checks : List ℕ → Layout → List Check
layout_checks b l = check Limit (field_fault l.limits) ∷ body_checks b l.runs l.unused
