-- The first of the part's words under the key.
use Rattle.std.proofs.Common.{◌≡◌, ◌∙◌, refl, sym, ap, ℕ, Some, None, rules, tests}
use Rattle.std.specs.Prelude.{Option, option_map, unwrap_or}
use Rattle.std.proofs.lemmas.Iterator.{YieldsList-from_slice}
use Rattle.std.proofs.lemmas.Iterator.Consumers.{YieldsList-from_copied}
use Rattle.std.proofs.lemmas.Iterator.Search.{find_from_yields_List}
use Rattle.entries.specs.Entries.{word_under}
use Rattle.entries.proofs.PartLabels.{keyed, under-find}
use Rattle.entry_labels.proofs.word_under.Goals as goal

as-is : (o : Option ℕ) → option_map (λ (w : ℕ). w) o ≡ o
as-is None = refl
as-is (Some w) = refl

pub returns : goal.returns
returns c =
    let words = c.labels_of.result.now in
    let found = find_from_yields_List (keyed c.args.key) _ _ c.find.result c.find.ensures.ran (YieldsList-from_copied (YieldsList-from_slice words cc)) (λ x b q k. search (rules, tests)) in
    c.unwrap_or.ensures ∙ ap (λ o. unwrap_or o 0) (sym (as-is c.find.result) ∙ found)
    ∙ sym (under-find c.args.key words) ∙ ap (word_under c.args.key) c.labels_of.ensures.labels
