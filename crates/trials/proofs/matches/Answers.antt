use borrow.Author.Rules.{rules}
use borrow.Author.Tests.{tests}
use Rattle.std.proofs.Common.{◌≡◌, ◌∙◌, refl, ap, ℕ, ◌&&◌, List, [], ◌∷◌, map}
use Rattle.std.specs.List.{list_all}
use Rattle.std.proofs.lemmas.Iterator.{YieldsList-from_slice}
use Rattle.std.proofs.lemmas.Iterator.Search.{all_from_yields_List}
use Rattle.block.specs.Entry.{Container}
use Rattle.model.specs.Rules.{matches as matches_part, carries as carries_label}
use Rattle.formed.specs.Words.{label_in, part_in}
use Rattle.trials.proofs.matches.Goals as goal

matches-listed : (x : Container) (ws : List ℕ) → list_all (λ w. carries_label x (label_in w)) ws ≡ matches_part (map label_in ws) x
unfolding matches_part
matches-listed x [] = refl
matches-listed x (w ∷ ws) = ap (λ t. carries_label x (label_in w) && t) (matches-listed x ws)

pub returns : goal.returns
returns c =
    all_from_yields_List (λ w. carries_label (part_in c.args.memory.now c.args.at) (label_in w)) _ _ c.all.result c.all.ensures.ran (YieldsList-from_slice c.args.labels.now cc)
    (λ x b q k. search (rules, tests))
    ∙ matches-listed (part_in c.args.memory.now c.args.at) c.args.labels.now
