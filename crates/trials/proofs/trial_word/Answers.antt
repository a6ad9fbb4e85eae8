-- Each turn takes a bit of the rest away, and chooses it where the part matches.
use Rattle.std.proofs.Common.{◌≡◌, ◌∙◌, ℕ, ◌<◌, Bool, arith}
use lib.Count.{count_trailing_zeros}
use Rattle.bitrow.specs.Bit.{bit}
use Rattle.bitrow.specs.Set.{Lowest}
use Rattle.bitrow.proofs.Words.{trailing}
use Rattle.trials.specs.Words.{carrying_from}
use Rattle.entries.proofs.Trials.{Tried, tried-none, tried-take, tried-skip, tried-all}
use Rattle.trials.proofs.trial_word.Goals as goal

-- the bit taken is the lowest of the rest
lowest : {word chosen rest k : ℕ} {f : ℕ → Bool} → Tried word f chosen rest → 0 < rest → k ≡ count_trailing_zeros 64 rest → Lowest (bit rest) 0 64 k
lowest {rest = rest} t h e = rw e (trailing 64 rest t.small h)

pub loop-k-init : goal.loop-k-init
loop-k-init c = rw c.into_iter-k-iterator.ensures.into_iter_gives (tried-none _ _ c.ranges.word.fits)

pub overflow_mul-i : goal.overflow_mul-i
overflow_mul-i c = let s = c.in-Some.ensures.steps in let j = (lowest c.loop-k.invariant s.0 (c.from-i.ensures ∙ s.1)).below in omega arith

pub overflow_add-at : goal.overflow_add-at
overflow_add-at c = let s = c.in-Some.ensures.steps in let h = (c.requires.1.slot _ (lowest c.loop-k.invariant s.0 (c.from-i.ensures ∙ s.1)).below).within in omega arith

pub matches-requires : goal.matches-requires
matches-requires c = let s = c.in-Some.ensures.steps in (c.requires.0, c.requires.1.slot _ (lowest c.loop-k.invariant s.0 (c.from-i.ensures ∙ s.1)).below)

pub loop-k-preserved-then-matches : goal.loop-k-preserved-then-matches
unfolding carrying_from
loop-k-preserved-then-matches c =
    let s = c.in-Some.ensures.steps in
    tried-take c.loop-k.invariant (lowest c.loop-k.invariant s.0 (c.from-i.ensures ∙ s.1)) (rw c.from-i.ensures s.2, s.3) c.word_with-chosen.ensures c.matches.ensures c.if-matches.true

pub loop-k-preserved : goal.loop-k-preserved
unfolding carrying_from
loop-k-preserved c =
    let s = c.in-Some.ensures.steps in
    tried-skip c.loop-k.invariant (lowest c.loop-k.invariant s.0 (c.from-i.ensures ∙ s.1)) (rw c.from-i.ensures s.2, s.3) c.matches.ensures c.if-matches.false

pub returns : goal.returns
returns c = tried-all _ _ c.ranges.word.fits c.loop-k.invariant (omega (arith, c.in-None.ensures.steps))
