-- The row by the sides of egress, the column by those of ingress.
use mathlib.Core.Path.{◌∙◌}
use Rattle.formed.specs.Registry.{model_in}
use Rattle.reach.proofs.Model.{row-law, column-law}
use Rattle.reach.proofs.SideLaws.{policies-length, sides-exchanged}
use Rattle.reach.proofs.cross_of.Goals as goal

pub row_by_rules-column-requires : goal.row_by_rules-column-requires
row_by_rules-column-requires c =
    record {
      a_bound = c.requires.c_bound.0;
      chosen_value = (sides-exchanged c.sides_of-across.ensures c.exchanged-down.ensures).chosen;
    }

pub returns : goal.returns
returns c =
    let m = model_in c.args.memory.now in
    let sets = c.requires.c_bound.1 in
    let across = c.sides_of-across.ensures in
    let down = sides-exchanged across c.exchanged-down.ensures in (
      c.row_by_rules-row.ensures ∙ row-law m (policies-length _) sets across.standing across.out across.back _,
      c.row_by_rules-column.ensures ∙ column-law m (policies-length _) sets down.standing down.out down.back _,
    )
