-- One case for each test of `part_ok` that fails, and the last decides.
use Rattle.std.proofs.Common.{false, ◌≡◌, ◌∙◌, sym, ap, ap₂, ℕ, ◌+◌, ◌-◌, ◌≤◌, ◌<◌, List, length, arith}
use borrow.Author.Tests.{le-leb, lt-leb}
use Rattle.store.specs.Layout.{word_at}
use Rattle.formed.specs.Tests.{◌and◌, zeros, labels_between, part_ok}
use Rattle.formed.proofs.Runs.{and-fails, and-passes, zero-ltb, pos-ltb}
use Rattle.part_tests.proofs.part_ok.Goals as goal

module _ (m : List ℕ) (some : 0 < length m) where
  headless : word_at m 0 ≡ 0 → part_ok m 0 (length m - 1) ≡ false
  unfolding part_ok
  headless e = and-fails _ _ (zero-ltb e)

  module _ (n : word_at m 0 ≡ 0 → ⊥) where
    too-long : length m < word_at m 0 → part_ok m 0 (length m - 1) ≡ false
    unfolding part_ok
    too-long h = and-passes _ _ (pos-ltb n) (and-fails _ _ (lt-leb _ _ (omega arith)))

    by-words : word_at m 0 ≤ length m → part_ok m 0 (length m - 1) ≡ (labels_between m 1 (word_at m 0) and zeros m (word_at m 0) (length m))
    unfolding part_ok
    by-words h =
        let e : length m ≡ 0 + 1 + (length m - 1) = omega arith in
        let w : 0 + word_at m 0 ≡ word_at m 0 = omega arith in
        and-passes _ _ (pos-ltb n) (and-passes _ _ (le-leb _ _ (omega arith)) (ap₂ ◌and◌ (ap (labels_between m 1) w) (ap₂ (zeros m) w (sym e))))

pub returns-then-end-eq0 : goal.returns-then-end-eq0
returns-then-end-eq0 c = sym (headless c.args.part.now c.requires c.if-end-eq0.true)

pub returns-then-part-end : goal.returns-then-part-end
returns-then-part-end c = sym (too-long c.args.part.now c.requires c.if-end-eq0.false c.if-part-end.true)

pub returns : goal.returns
returns c = c.words_ok.ensures ∙ sym (by-words c.args.part.now c.requires c.if-end-eq0.false c.if-part-end.false)
