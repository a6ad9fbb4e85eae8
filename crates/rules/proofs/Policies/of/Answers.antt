use Rattle.rules.specs.Policies.{to_come}
use Rattle.rules.proofs.ToCome.{begun}
use Rattle.rules.proofs.Policies.of.Goals as goal

pub returns : goal.returns
unfolding to_come
returns c = begun c.args.row
