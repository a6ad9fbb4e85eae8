-- Two answers that one number says are one; and of next finding 0 says none.
use mathlib.Core.Path.{sym, ap, ap₂, ◌∙◌}
use Rattle.model.specs.Calls.{ask, next_finding, written}
use Rattle.steps.specs.MemoryStep.{memory_step}
use Rattle.codes.specs.Codes.{code_of}
use Rattle.codes.specs.Apart.{AnswersApart, ZeroIsNone}
use Rattle.codes.proofs.Decoded.{found_of, refusal_or, low_bits, decoded, top-zero}
use Rattle.codes.proofs.Steps.{decoded-step}

pub answers-apart : AnswersApart
unfolding AnswersApart
answers-apart call m m' e w = sym (decoded-step m call) ∙ ap₂ (decoded call) w e ∙ decoded-step m' call

pub zero-is-none : ZeroIsNone
unfolding ZeroIsNone
zero-is-none m c =
    let call = ask (next_finding c) in
    let w = written (memory_step m call).1 in (
      λ e. sym (decoded-step m call) ∙ ap (decoded call w) e ∙ ap (λ k. refusal_or k (low_bits 0) (found_of 0)) (top-zero w),
      λ e. ap code_of e,
    )
