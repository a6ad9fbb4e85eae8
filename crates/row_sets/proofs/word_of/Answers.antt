-- By whether it is the word that i lies in.
use mathlib.Core.Path.{◌≡◌, sym, ap, ◌∙◌, fun_ext}
use mathlib.Core.Bool.{Bool, cond}
use Prim.Native.Nat.{◌/◌, ◌%◌}
use borrow.Author.Tests.{eq-eqb, ne_eqb}
use Rattle.bitrow.specs.Bit.{bit}
use Rattle.bitrow.specs.Set.{nothing, insert}
use Rattle.bitrow.proofs.Sets.{nothing-at}
use Rattle.bitrow.proofs.Words.{bit-zero}
use Rattle.row_sets.proofs.word_of.Goals as goal

no-bit : bit 0 ≡ nothing
no-bit = fun_ext (λ j. bit-zero j ∙ sym (nothing-at j))

pub returns-then-i-k : goal.returns-then-i-k
returns-then-i-k c =
    let m = c.args.i % 64 in
    c.word_with.ensures ∙ ap (insert m) no-bit ∙ ap (λ (t : Bool). cond t (insert m nothing) nothing) (sym (eq-eqb (c.args.i / 64) c.args.k c.if-i-k.true))

pub returns-else-i-k : goal.returns-else-i-k
returns-else-i-k c =
    no-bit ∙ ap (λ (t : Bool). cond t (insert (c.args.i % 64) nothing) nothing) (sym (ne_eqb (c.args.i / 64) c.args.k c.if-i-k.false))
