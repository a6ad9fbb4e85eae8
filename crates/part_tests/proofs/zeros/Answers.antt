-- Each word of the list is 0 exactly if the word at each place is.
use Rattle.std.proofs.Common.{◌≡◌, ◌∙◌, ℕ, Bool, eqb, List, length, refl, arith, rules, tests}
use Rattle.std.specs.List.{list_all}
use Rattle.std.proofs.lemmas.Iterator.{YieldsList-from_slice}
use Rattle.std.proofs.lemmas.Iterator.Search.{all_from_yields_List}
use Rattle.std.proofs.lemmas.List.Recursion.{and_at, and_from_places}
use Rattle.bitrow.proofs.Tests.{same_test}
use Rattle.store.specs.Layout.{word_at}
use Rattle.formed.specs.Tests.{zeros as all_zero}
use Rattle.formed.proofs.Runs.{between-at, between-all}
use Rattle.part_tests.proofs.zeros.Goals as goal

abbrev is_zero : ℕ → Bool
is_zero w = eqb w 0

all-zero : (m : List ℕ) → list_all is_zero m ≡ all_zero m 0 (length m)
all-zero m =
    same_test (list_all is_zero m) (all_zero m 0 (length m))
    (λ e. between-all (λ i. is_zero (word_at m i)) 0 (length m) (λ k _ l. and_at (list_all is_zero) is_zero refl (λ _ _. refl) m k 0 l e))
    (λ e. and_from_places (list_all is_zero) is_zero refl (λ _ _. refl) m 0 (λ i l. between-at (λ k. is_zero (word_at m k)) 0 (length m) e i (omega arith) l))

pub returns : goal.returns
returns c =
    all_from_yields_List is_zero _ _ _ c.all.ensures.ran (YieldsList-from_slice c.args.words.now cc) (λ x b q k. search (rules, tests))
    ∙ all-zero c.args.words.now
