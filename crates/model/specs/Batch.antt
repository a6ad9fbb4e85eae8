-- Document 02, Note 2: what a batch of blocks answers, once each of them was answered.
use Rattle.std.specs.Prelude.{Bool, true, false, List, [], ◌∷◌, map, ℕ, ◌+◌, min, eqb}
use Rattle.std.proofs.Math.Option.{none, some}
use Rattle.model.specs.declared.Tally.{Tally}
use Rattle.model.specs.Calls.{Answer, batch_put, said}

-- the slot of an entry that came
abbrev slot_said : Answer → ℕ
slot_said a = elim (said a).container [ none ↦ elim (said a).policy [ none ↦ 0 | some q ↦ q ] | some c ↦ c ]

-- "two 16-bit numbers for each: 0 and the place, or the refusal and 0"; Note 5: the position "in an answer's second number"
abbrev pub pair_of : Answer → ℕ × ℕ
pair_of a = elim (said a).refused [ none ↦ (0, slot_said a) | some f ↦ f ]

-- a block was taken whose first number is 0: no refusal has that number
abbrev pub is_taken : ℕ × ℕ → Bool
is_taken p = eqb p.0 0

-- "each staying at the largest 64-bit number once reached"
abbrev pub one_more : ℕ → ℕ
one_more n = min (n + 1) 18446744073709551615

-- one block more, taken or refused
unfoldable pub tallied_one : Tally → Bool → Tally
tallied_one t true = record { taken = one_more t.taken; refused = t.refused }
tallied_one t false = record { taken = t.taken; refused = one_more t.refused }

-- "brought up to date: blocks taken and blocks refused"
abbrev pub tallied : Tally → List (ℕ × ℕ) → Tally
tallied t [] = t
tallied t (p ∷ ps) = tallied (tallied_one t (is_taken p)) ps

-- the answer to a batch whose blocks were answered so
unfoldable pub batch_answer : Tally → List Answer → Answer
batch_answer t l = let ps = map pair_of l in batch_put ps (tallied t ps)

-- the state that the blocks lead to, and the answer to the batch
abbrev pub batch_outcome : {S : Type 0} → Tally → S × List Answer → S × Answer
batch_outcome t r = (r.0, batch_answer t r.1)
