-- Counts within their limits keep the labels within the block; the code's layout says what the definition's does.
use mathlib.Core.Path.{sym, ◌∙◌}
use native.Mathlib.Omega.{arith}
use Rattle.block.proofs.Limits.{policy-counts}
use Rattle.layouts.proofs.Layouts.{policy-layout}
use Rattle.entry_layouts.proofs.policy_test.Goals as goal

pub layout_test-requires : goal.layout_test-requires
layout_test-requires c =
    λ e.
    let l = policy-counts c.args.block.now (sym c.policy_limits.ensures.value ∙ e) in
    record { first = omega arith; second = omega arith; head = omega arith; rest = omega arith }

pub returns : goal.returns
returns c =
    c.layout_test.ensures ∙ policy-layout _ _ _ _ _ c.requires c.policy_limits.ensures.value c.from-select.ensures c.from-allow.ensures
