-- Document 01's sentence of the refusals that each call meets, as the lists of their numbers.
use Rattle.std.specs.Prelude.{List, [], ◌∷◌, ℕ}
use Rattle.model.specs.Calls.{ask_reaches, ask_user, next_finding, list_findings, counts, audit, write}
use Rattle.model.specs.Calls.{Call, open_with, change, admit, admit_batch, remove_container, remove_policy, rebuild, ask}

-- "The first that applies, in this order."
abbrev pub numbers_met : Call → List ℕ
-- "Open meets 1, 3, 4, 5, 7, 9."
numbers_met (open_with b) = 1 ∷ 3 ∷ 4 ∷ 5 ∷ 7 ∷ 9 ∷ []
-- "Admit meets 1 to 9 and 12."
numbers_met (change (admit b)) = 1 ∷ 2 ∷ 3 ∷ 4 ∷ 5 ∷ 6 ∷ 7 ∷ 8 ∷ 9 ∷ 12 ∷ []
-- document 02, Note 2: "after 1 and 2, a length over 65,536 or not a multiple of 512 is 14; then an answer list too short is 13"
numbers_met (change (admit_batch bs n t)) = 1 ∷ 2 ∷ 14 ∷ 13 ∷ []
-- "Removing and asking meet 1, 2, 10, 11."
numbers_met (change (remove_container c)) = 1 ∷ 2 ∷ 10 ∷ 11 ∷ []
numbers_met (change (remove_policy q)) = 1 ∷ 2 ∷ 10 ∷ 11 ∷ []
numbers_met (ask (ask_reaches a b)) = 1 ∷ 2 ∷ 10 ∷ 11 ∷ []
numbers_met (ask (ask_user c v)) = 1 ∷ 2 ∷ 10 ∷ 11 ∷ []
-- "The rest meet 1 and 2."
numbers_met (change rebuild) = 1 ∷ 2 ∷ []
numbers_met (ask (next_finding c)) = 1 ∷ 2 ∷ []
numbers_met (ask (list_findings c n)) = 1 ∷ 2 ∷ []
numbers_met (ask counts) = 1 ∷ 2 ∷ []
numbers_met (ask audit) = 1 ∷ 2 ∷ []
-- document 02, Note 1: "after 1 and 2, a buffer with too few bytes is 13"
numbers_met (ask (write n)) = 1 ∷ 2 ∷ 13 ∷ []
