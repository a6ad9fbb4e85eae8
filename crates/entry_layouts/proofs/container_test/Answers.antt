-- A count within its limit keeps the labels within the block; the code's layout says what the definition's does.
use mathlib.Core.Path.{sym, ◌∙◌}
use native.Mathlib.Omega.{arith}
use Rattle.block.proofs.Limits.{container-count}
use Rattle.layouts.proofs.Layouts.{container-layout}
use Rattle.entry_layouts.proofs.container_test.Goals as goal

pub layout_test-requires : goal.layout_test-requires
layout_test-requires c =
    λ e.
    let n = container-count c.args.block.now (sym c.container_limits.ensures.value ∙ e) in
    record { first = omega arith; second = omega arith; head = omega arith; rest = omega arith }

pub returns : goal.returns
returns c =
    c.layout_test.ensures ∙ container-layout _ _ _ _ c.requires c.container_limits.ensures.value c.from-count.ensures
