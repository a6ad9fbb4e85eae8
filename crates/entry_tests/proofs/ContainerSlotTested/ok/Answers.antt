-- A free slot is zeros, a taken one a part.
use Rattle.std.proofs.Common.{◌≡◌, ◌∙◌, refl, sym, ap, ℕ, ◌+◌, ◌≤◌, List, length, slice_range, arith}
use Rattle.std.proofs.Math.Nat.{add-zero}
use borrow.Author.Tests.{eq-eqb, ne_eqb}
use Rattle.store.specs.Layout.{word_at, container_start, container_words}
use Rattle.formed.specs.Tests.{container_ok}
use Rattle.formed.proofs.Runs.{choose_yes, choose_no}
use Rattle.part_tests.proofs.Slices.{slice-word, zeros-slice, part-slice}
use Rattle.entry_tests.proofs.ContainerSlotTested.ok.Goals as goal

head : (m : List ℕ) (at : ℕ) → at + container_words ≤ length m → word_at (slice_range m at (at + container_words)) 0 ≡ word_at m at
head m at h = slice-word m at (at + container_words) h 0 (omega arith) ∙ ap (word_at m) (add-zero at)

pub returns-then-slot-eq0 : goal.returns-then-slot-eq0
unfolding container_ok
returns-then-slot-eq0 c =
    let m = c.args.memory.now in
    let at = container_start c.args.self.0 in
    c.zeros.ensures ∙ zeros-slice m at (at + container_words) (omega arith)
    ∙ sym (choose_yes _ _ _ (eq-eqb _ _ (sym (head m at (omega arith)) ∙ c.if-slot-eq0.true)) refl)

pub returns : goal.returns
unfolding container_ok
returns c =
    let m = c.args.memory.now in
    let at = container_start c.args.self.0 in
    c.part_ok.ensures ∙ part-slice m at (at + container_words) 8 (omega arith) (omega arith)
    ∙ sym (choose_no _ _ _ (ne_eqb _ _ (λ e. c.if-slot-eq0.false (head m at (omega arith) ∙ e))) refl)
