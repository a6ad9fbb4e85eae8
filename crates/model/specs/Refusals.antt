-- The refusals that each call meets, in their order; 1 and 2 come with memory.
use Rattle.std.specs.Prelude.{Bool, true, not, ◌||◌, List, [], ◌∷◌, ◌++◌, ℕ, ◌*◌, ◌%◌, ◌≡◌, eqb, leb, ltb, length}
use Rattle.std.specs.Prelude.{Option, Some, is_none}
use Rattle.block.specs.declared.Reason.{Reason}
use Rattle.block.specs.declared.Reason.TheVariants.{BeyondTable, FreeSlot, TableFull, BufferLength, BatchLength}
use Rattle.block.specs.Cut.{blocks_of}
use Rattle.block.specs.Entry.{Entry, container, policy}
use Rattle.block.specs.Fault.{unless}
use Rattle.block.specs.Refusal.{reason_number, Check, check}
use Rattle.block.specs.Reader.{settings_checks, entry_checks, entry_said}
use Rattle.model.specs.Table.{Table, all, free, full}
use Rattle.model.specs.Model.{container_slots, policy_slots, Model}
use Rattle.model.specs.Registry.{Registry}
use Rattle.model.specs.Calls.{ask_reaches, ask_user, next_finding, list_findings, counts, audit, write}
use Rattle.model.specs.Calls.{Call, open_with, change, admit, admit_batch, remove_container, remove_policy, rebuild, ask}
use Rattle.model.specs.File.{file_of}

-- a fault of no position in a block, where the condition holds
abbrev pub where0 : Bool → Option ℕ
where0 c = unless (not c) 0

-- 10. "A place is beyond its table."
abbrev pub beyond : ℕ → ℕ → Bool
beyond size i = leb size i

-- 10 and 11 of one slot; 11. "A place within its table stands empty."
abbrev pub slot_checks : {A : Type 0} → ℕ → Table A → ℕ → List Check
slot_checks size t i = check BeyondTable (where0 (beyond size i)) ∷ check FreeSlot (where0 (free t i)) ∷ []

-- "asking about a pair tests both places for 10 before either for 11"
abbrev pub pair_checks : {A : Type 0} → ℕ → Table A → ℕ → ℕ → List Check
pair_checks size t a b = check BeyondTable (where0 (beyond size a || beyond size b)) ∷ check FreeSlot (where0 (free t a || free t b)) ∷ []

-- 12. "The table that the entry goes to is full."
unfoldable pub no_room : Model → Entry → Bool
no_room m (container x) = full m.containers
no_room m (policy p) = full m.policies

-- 3 to 9, then 12
unfoldable pub admit_checks : Model → List ℕ → List Check
admit_checks m b = entry_checks m.settings b ++ (check TableFull (where0 (no_room m (entry_said b))) ∷ [])

-- 14 and 13 of document 02, Note 2: "a length over 65,536 or not a multiple of 512 is 14; then an answer list too short is 13"
abbrev pub batch_checks : List ℕ → ℕ → List Check
batch_checks bs n =
    check BatchLength (where0 (ltb 65536 (length bs) || not (eqb (length bs % 512) 0)))
    ∷ check BufferLength (where0 (ltb n (2 * length (blocks_of bs))))
    ∷ []

-- 13 of document 02, Note 1: "a buffer with too few bytes"
abbrev pub room_check : List ℕ → ℕ → Check
room_check file n = check BufferLength (where0 (ltb n (length file)))

-- "Open meets 1, 3, 4, 5, 7, 9. Admit meets 1 to 9 and 12. Removing and asking meet 1, 2, 10, 11. The rest meet 1 and 2." Writing
-- meets 1, 2, 13, a batch 1, 2, 14, 13.
unfoldable pub refusals : Registry → Call → List Check
refusals r (open_with b) = settings_checks b
refusals r (change (admit b)) = admit_checks r.model b
refusals r (change (admit_batch bs n t)) = batch_checks bs n
refusals r (change (remove_container c)) = slot_checks container_slots r.model.containers c
refusals r (change (remove_policy q)) = slot_checks policy_slots r.model.policies q
refusals r (change rebuild) = []
refusals r (ask (ask_reaches a b)) = pair_checks container_slots r.model.containers a b
refusals r (ask (ask_user c v)) = slot_checks container_slots r.model.containers c
refusals r (ask (next_finding c)) = []
refusals r (ask (list_findings c n)) = []
refusals r (ask counts) = []
refusals r (ask audit) = []
refusals r (ask (write n)) = room_check (file_of r.model) n ∷ []

-- "The first that applies, in this order": the check of number n finds fault at p, and no check before it in the list finds any.
pub record Refuses (cs : List Check) (n p : ℕ) : Type 0 where
  pub reason : Reason
  pub numbered : reason_number reason ≡ n
  pub before : List Check
  pub after : List Check
  pub met : cs ≡ before ++ (check reason (Some p) ∷ after)
  pub passed : all (λ c. is_none c.fault) before ≡ true
