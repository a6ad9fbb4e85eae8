-- Each part is what the function that fills it says, over the policies of its direction.
use Rattle.reach.proofs.SideLaws.{policies-length}
use Rattle.matrix_rows.proofs.gather.Goals as goal

pub returns : goal.returns
returns c =
    let sides = c.sides_of-sides.ensures in
    record {
      slots = policies-length _;
      sets = c.fill_sets.ensures;
      standing = c.requires.entries_formed.1;
      bound = rw sides.out at c.union_of-bound.ensures;
      chosen = rw sides.back at sides.chosen;
      out = rw sides.out at c.join_all.ensures;
      back = rw sides.back at c.join_all-2.ensures;
    }
