-- The block is tested under the settings that the memory says.
use mathlib.Core.Path.{◌≡◌, refl, sym, ap, ◌∙◌}
use mathlib.Core.List.{List}
use Prim.Native.Nat.{ℕ}
use Rattle.block.specs.Entry.{Settings}
use Rattle.block.specs.Reader.{read_entry}
use Rattle.block.specs.Reading.{settings_of, read_sort}
use Rattle.store.specs.Layout.{word_at}
use Rattle.formed.specs.Words.{settings_in}
use Rattle.formed.specs.Registry.{model_in}
use Rattle.call_tests.proofs.TestLaws.{entries-as}
use Rattle.call_tests.proofs.test_block.Goals as goal

settings-here : (m : List ℕ) → settings_of (record { user_key = word_at m 0; system_key = word_at m 1; system_value = word_at m 2 }) ≡ (model_in m).settings
unfolding settings_of model_in settings_in
settings-here m = refl

pub returns-clause-result_value : goal.returns-clause-result_value
returns-clause-result_value c = c.test_entry.ensures ∙ ap (λ (s : Settings). read_sort (read_entry s c.args.block.now)) (settings-here c.args.memory.now)

pub returns-clause-accepted : goal.returns-clause-accepted
returns-clause-accepted c = entries-as _ _ _ (sym (returns-clause-result_value c))
