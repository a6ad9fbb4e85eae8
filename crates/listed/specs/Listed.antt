-- One list of calls of every kind, with the refusals 1 and 3 to 14 among them, and the answers that documents 01 and 02 give them.
use Rattle.std.specs.Prelude.{◌≡◌, refl, true, false, ℕ, zero, suc, ◌+◌, ◌*◌, eqb, length, replicate}
use Rattle.std.proofs.Common.{sym, ◌∙◌}
use mathlib.Core.List.{List, [], ◌∷◌, ◌++◌, map, flatten}
use Rattle.std.proofs.Math.Option.{none, some}
use Rattle.std.proofs.lemmas.List.{length-replicate}
use Rattle.std.proofs.lemmas.Bool.{eqb-false}
use Rattle.block.specs.declared.Direction.{Direction}
use Rattle.block.specs.declared.Direction.TheVariants.{Ingress as ingress, Egress as egress}
use Rattle.block.specs.Entry.{Label, Settings, Entry, container, policy}
use Rattle.block.specs.Written.{sealed, block_of, settings_block}
use Rattle.model.specs.Findings.{Place}
use Rattle.model.specs.Findings.{finding, start}
use Rattle.model.specs.declared.Tally.{Tally}
use Rattle.stars.specs.Stars.{label, policy_to}
use Rattle.model.specs.Calls.{ask_reaches, ask_user, next_finding, list_findings, counts, audit, write}
use Rattle.model.specs.Calls.{Call, open_with, change, admit, admit_batch, remove_container, remove_policy, rebuild, ask}
use Rattle.model.specs.Calls.{Answer, refusal, done, container_at, policy_at, says, found, no_finding, findings_put, counted, file_put, batch_put}
use Rattle.store.specs.Layout.{memory_words}
use Rattle.files.specs.Tables.{container_block, policy_block}
use Rattle.steps.specs.Refinement.{Lending, ours, other, Seen}

-- A call of the list and its answer: lent our memory, or as many words of zero as are not our size.
pub record Line : Type 0 where
  pub call : Lending
  pub seen : Seen

abbrev pub gives : Call → Answer → Line
gives call a = record { call = ours call; seen = record { answer = a; other = none } }

pub zeros-other : (n : ℕ) → eqb n memory_words ≡ false → length {A = ℕ} (replicate n 0) ≡ memory_words → ⊥
zeros-other n h e = eqb-false n memory_words h (sym (length-replicate {A = ℕ} n 0) ∙ e)

abbrev pub gives_other : (n : ℕ) → eqb n memory_words ≡ false → Call → Line
gives_other n h call = record {
  call = other (replicate n 0) (zeros-other n h) call;
  seen = record { answer = refusal 1 0; other = some (replicate n 0) };
}

-- ---- the blocks

abbrev pub container_of : List Label → Call
container_of ls = change (admit (block_of (container ls)))

abbrev pub policy_of : Direction → List Label → List Label → Call
policy_of d s a = change (admit (block_of (policy (policy_to d s a))))

abbrev pub no_labels : Entry
no_labels = policy (policy_to ingress [] [])

-- "Input: settings user key 1, system 2=9"
abbrev pub printed_settings : Settings
printed_settings = record { user_key = 1; system_key = 2; system_value = 9 }

abbrev pub other_settings : Settings
other_settings = record { user_key = 3; system_key = 0; system_value = 0 }

-- one byte short
unfoldable pub short_block : List ℕ
short_block = replicate 511 0

-- a checksum of 0, where 67 is right
unfoldable pub unchecked_block : List ℕ
unchecked_block = 67 ∷ replicate 511 0

-- no kind of entry
unfoldable pub kind_block : List ℕ
kind_block = sealed (83 ∷ 1 ∷ [])

-- nine labels
unfoldable pub nine_block : List ℕ
nine_block = sealed (67 ∷ 9 ∷ [])

-- value 0 and falling keys: 7, not 8
unfoldable pub value_block : List ℕ
value_block = sealed (67 ∷ 2 ∷ 0 ∷ 0 ∷ 0 ∷ 3 ∷ 0 ∷ 1 ∷ 0 ∷ 1 ∷ 0 ∷ 0 ∷ [])

-- one key twice
unfoldable pub order_block : List ℕ
order_block = sealed (80 ∷ 2 ∷ 0 ∷ 2 ∷ 0 ∷ 3 ∷ 0 ∷ 1 ∷ 0 ∷ 3 ∷ 0 ∷ 2 ∷ [])

-- byte 3 of a container
unfoldable pub unused_block : List ℕ
unused_block = sealed (67 ∷ 0 ∷ 0 ∷ 1 ∷ [])

-- settings of user key 65
unfoldable pub key_block : List ℕ
key_block = sealed (83 ∷ 65 ∷ [])

abbrev pub cursor : ℕ → ℕ → ℕ → Place
cursor k a b = record { kind = k; a = a; b = b }

abbrev pub meets : ℕ → ℕ → ℕ → Answer
meets k a b = found (finding k a b) (cursor k a b)

-- a finding as one number
abbrev pub code : ℕ → ℕ → ℕ → ℕ
code k a b = k * 4294967296 + a * 65536 + b

-- these numbers were put, and here it goes on
abbrev pub puts : List ℕ → ℕ → ℕ → ℕ → Answer
puts l k a b = findings_put l (cursor k a b)

-- these blocks were written
abbrev pub writes : List (List ℕ) → Answer
writes bs = file_put (flatten bs)

-- these blocks at once, with a list of so many numbers and a tally of so many taken and refused
abbrev pub tally_of : ℕ → ℕ → Tally
tally_of t r = record { taken = t; refused = r }

abbrev pub batch_of : List (List ℕ) → ℕ → Tally → Call
batch_of bs n t = change (admit_batch (flatten bs) n t)

-- a container, a block of a wrong checksum, and a policy that selects that container
unfoldable pub three_blocks : List (List ℕ)
three_blocks = container_block (label 3 2 ∷ []) ∷ unchecked_block ∷ policy_block (policy_to egress (label 3 2 ∷ []) []) ∷ []

-- ---- the list, after an open with the printed settings

-- n policies without labels, from slot i on
abbrev pub filling : ℕ → ℕ → List Line
filling i zero = []
filling i (suc n) = gives (change (admit (block_of no_labels))) (policy_at i) ∷ filling (suc i) n

unfoldable pub listed : List Line
listed =
    gives (ask counts) (counted 0 0 0)
    ∷ gives (ask (next_finding start)) no_finding
    ∷ gives (ask (list_findings start 3)) (puts [] 0 0 0)
    -- room for one byte too few, and for the settings block
    ∷ gives (ask (write 511)) (refusal 13 0)
    ∷ gives (ask (write 512)) (writes (settings_block printed_settings ∷ []))
    ∷ gives (change (remove_container 0)) (refusal 11 0)
    ∷ gives (container_of (label 1 11 ∷ label 3 1 ∷ [])) (container_at 0)
    ∷ gives_other 5762 refl (container_of (label 1 11 ∷ label 3 2 ∷ []))
    ∷ gives (container_of (label 1 11 ∷ label 3 2 ∷ [])) (container_at 1)
    ∷ gives (container_of (label 1 12 ∷ label 3 1 ∷ [])) (container_at 2)
    ∷ gives (container_of (label 1 99 ∷ label 2 9 ∷ [])) (container_at 3)
    ∷ gives (policy_of ingress (label 3 2 ∷ []) (label 3 1 ∷ [])) (policy_at 0)
    ∷ gives (policy_of ingress (label 1 11 ∷ label 3 2 ∷ []) (label 1 11 ∷ label 3 1 ∷ [])) (policy_at 1)
    ∷ gives (policy_of egress (label 3 2 ∷ []) (label 1 13 ∷ [])) (policy_at 2)
    -- the printed report: "CONTAINERS 4 POLICIES 3 PAIRS 12", its first finding, its shadow, its end
    ∷ gives (ask counts) (counted 4 3 12)
    ∷ gives (ask (next_finding start)) (meets 3 0 2)
    ∷ gives (ask (next_finding (cursor 4 3 1))) (meets 5 1 0)
    ∷ gives (ask (next_finding (cursor 7 2 1))) no_finding
    -- its first three findings, those after the seventh, into no room, after the last
    ∷ gives (ask (list_findings start 3)) (puts (code 3 0 2 ∷ code 3 0 3 ∷ code 3 2 0 ∷ []) 3 2 0)
    ∷ gives (ask (list_findings (cursor 3 3 2) 5)) (puts (code 4 3 1 ∷ code 5 1 0 ∷ code 7 2 1 ∷ []) 7 2 1)
    ∷ gives (ask (list_findings (cursor 3 2 0) 0)) (puts [] 3 2 0)
    ∷ gives (ask (list_findings (cursor 7 2 1) 1)) (puts [] 7 2 1)
    ∷ gives_other 5762 refl (ask (list_findings start 3))
    -- its blocks again
    ∷ gives (ask (write 4095)) (refusal 13 0)
    ∷ gives (ask (write 5000))
    (writes
    (settings_block printed_settings
    ∷ container_block (label 1 11 ∷ label 3 1 ∷ [])
    ∷ container_block (label 1 11 ∷ label 3 2 ∷ [])
    ∷ container_block (label 1 12 ∷ label 3 1 ∷ [])
    ∷ container_block (label 1 99 ∷ label 2 9 ∷ [])
    ∷ policy_block (policy_to ingress (label 3 2 ∷ []) (label 3 1 ∷ []))
    ∷ policy_block (policy_to ingress (label 1 11 ∷ label 3 2 ∷ []) (label 1 11 ∷ label 3 1 ∷ []))
    ∷ policy_block (policy_to egress (label 3 2 ∷ []) (label 1 13 ∷ []))
    ∷ []))
    ∷ gives_other 5762 refl (ask (write 5000))
    ∷ gives (ask (ask_reaches 1 0)) (says false)
    -- document 02, Note 3: itself it reaches
    ∷ gives (ask (ask_reaches 1 1)) (says true)
    ∷ gives (ask (ask_reaches 2 1)) (says true)
    -- 10 of either comes before 11
    ∷ gives (ask (ask_reaches 4 256)) (refusal 10 0)
    ∷ gives (ask (ask_reaches 3 4)) (refusal 11 0)
    ∷ gives (ask (ask_user 2 12)) (says true)
    ∷ gives (ask (ask_user 2 65548)) (says false)
    ∷ gives (ask (ask_user 255 12)) (refusal 11 0)
    ∷ gives (ask (ask_user 256 12)) (refusal 10 0)
    -- blocks that are refused, and where
    ∷ gives (change (admit short_block)) (refusal 3 0)
    ∷ gives (change (admit unchecked_block)) (refusal 4 510)
    ∷ gives (change (admit kind_block)) (refusal 5 0)
    ∷ gives (change (admit nine_block)) (refusal 6 1)
    ∷ gives (change (admit value_block)) (refusal 7 10)
    ∷ gives (change (admit order_block)) (refusal 8 8)
    ∷ gives (change (admit unused_block)) (refusal 9 3)
    ∷ gives (open_with key_block) (refusal 7 1)
    ∷ gives_other 5764 refl (open_with (settings_block other_settings))
    ∷ gives (ask audit) (says true)
    -- removals: pairs that a policy forbade return
    ∷ gives (change (remove_policy 2)) done
    ∷ gives (change (remove_policy 2)) (refusal 11 0)
    ∷ gives (change (remove_policy 128)) (refusal 10 0)
    ∷ gives (ask (ask_reaches 1 0)) (says true)
    ∷ gives (change (remove_container 0)) done
    ∷ gives (ask (ask_reaches 0 1)) (refusal 11 0)
    -- a freed slot is left out
    ∷ gives (ask (write 3072))
    (writes
    (settings_block printed_settings
    ∷ container_block (label 1 11 ∷ label 3 2 ∷ [])
    ∷ container_block (label 1 12 ∷ label 3 1 ∷ [])
    ∷ container_block (label 1 99 ∷ label 2 9 ∷ [])
    ∷ policy_block (policy_to ingress (label 3 2 ∷ []) (label 3 1 ∷ []))
    ∷ policy_block (policy_to ingress (label 1 11 ∷ label 3 2 ∷ []) (label 1 11 ∷ label 3 1 ∷ []))
    ∷ []))
    -- a freed slot is used again
    ∷ gives (container_of []) (container_at 0)
    ∷ gives (ask counts) (counted 4 2 14)
    ∷ gives (ask (next_finding (cursor 5 65535 65535))) (meets 7 1 1)
    ∷ gives (change rebuild) done
    ∷ gives (ask counts) (counted 4 2 14)
    -- batches: of no whole block, with too short a list, of none, of three blocks, one of them refused
    ∷ gives (batch_of (short_block ∷ []) 0 (tally_of 0 0)) (refusal 14 0)
    ∷ gives (batch_of three_blocks 5 (tally_of 0 0)) (refusal 13 0)
    ∷ gives (batch_of [] 0 (tally_of 3 4)) (batch_put [] (tally_of 3 4))
    ∷ gives_other 5762 refl (batch_of three_blocks 6 (tally_of 0 0))
    ∷ gives (batch_of three_blocks 7 (tally_of 18446744073709551614 8)) (batch_put ((0, 4) ∷ (4, 510) ∷ (0, 2) ∷ []) (tally_of 18446744073709551615 9))
    ∷ gives (ask counts) (counted 5 3 19)
    ∷ gives (ask audit) (says true)
    -- open again; then all policies that the table takes, and one more
    ∷ gives (open_with (settings_block other_settings)) done
    ∷ gives (ask counts) (counted 0 0 0)
    ∷ (filling 0 128
    ++ (gives (change (admit (block_of no_labels))) (refusal 12 0)
    ∷ gives (container_of []) (container_at 0)
    ∷ gives (change (remove_policy 5)) done
    ∷ gives (change (admit (block_of no_labels))) (policy_at 5)
    ∷ gives_other 0 refl (ask audit)
    ∷ gives (ask counts) (counted 1 128 1)
    ∷ gives (ask audit) (says true)
    ∷ []))

abbrev pub calls_of : List Line → List Lending
calls_of l = map (λ x. x.call) l

abbrev pub seen_of : List Line → List Seen
seen_of l = map (λ x. x.seen) l
