-- Each turn takes a bit of the rest away, and chooses it where the container is of the user.
use Rattle.std.proofs.Common.{◌≡◌, refl, sym, ◌∙◌, ℕ, ◌<◌, Bool, arith}
use lib.Count.{count_trailing_zeros}
use Rattle.bitrow.specs.Bit.{bit}
use Rattle.bitrow.specs.Set.{Lowest}
use Rattle.bitrow.proofs.Words.{trailing}
use Rattle.entries.proofs.Trials.{Tried, tried-none, tried-take, tried-skip, tried-all, container-within}
use Rattle.entries.proofs.FormedEntries.{formed-slots}
use Rattle.container_findings.proofs.UserLaws.{user_yes, user_no}
use Rattle.container_findings.proofs.same_user_word.Goals as goal

-- the bit taken is the lowest of the rest
lowest : {word chosen rest k : ℕ} {f : ℕ → Bool} → Tried word f chosen rest → 0 < rest → k ≡ count_trailing_zeros 64 rest → Lowest (bit rest) 0 64 k
lowest {rest = rest} t h e = rw e (trailing 64 rest t.small h)

pub loop-k-init : goal.loop-k-init
loop-k-init c = rw c.into_iter-k-iterator.ensures.into_iter_gives (tried-none _ _ c.ranges.set.fits)

pub word_under-requires : goal.word_under-requires
word_under-requires c =
    let s = c.in-Some.ensures.steps in
    let j = (lowest c.loop-k.invariant s.0 (c.from-i.ensures ∙ s.1)).below in
    let l = c.requires.1 in
    container-within _ c.requires.0.whole (formed-slots _ c.requires.0) _ (omega (arith, j, l))

pub loop-k-preserved-then-word_under-word : goal.loop-k-preserved-then-word_under-word
loop-k-preserved-then-word_under-word c =
    let s = c.in-Some.ensures.steps in
    tried-take c.loop-k.invariant (lowest c.loop-k.invariant s.0 (c.from-i.ensures ∙ s.1)) (rw c.from-i.ensures s.2, s.3) c.word_with-chosen.ensures
    (sym (user_yes _ _ _ _ c.word_under.ensures c.if-word_under-word.true)) refl

pub loop-k-preserved : goal.loop-k-preserved
loop-k-preserved c =
    let s = c.in-Some.ensures.steps in
    tried-skip c.loop-k.invariant (lowest c.loop-k.invariant s.0 (c.from-i.ensures ∙ s.1)) (rw c.from-i.ensures s.2, s.3)
    (sym (user_no _ _ _ _ c.word_under.ensures c.if-word_under-word.false)) refl

pub returns : goal.returns
returns c = tried-all _ _ c.ranges.set.fits c.loop-k.invariant (omega (arith, c.in-None.ensures.steps))
