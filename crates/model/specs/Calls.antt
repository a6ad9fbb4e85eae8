-- The calls, with their arguments, and what they answer.
use Rattle.std.specs.Prelude.{Bool, List, [], ◌∷◌, map, ℕ}
use Rattle.std.proofs.Math.Option.{Option, none, some}
use Rattle.block.specs.declared.Refusal.{Refusal}
use Rattle.block.specs.Refusal.{reason_number}
use Rattle.model.specs.declared.Finding.{Finding}
use Rattle.model.specs.declared.Tally.{Tally}
use Rattle.model.specs.Findings.{Place, place_of, moved, finding_code}

-- "The calls are: open (a settings block), admit (a container or policy block), remove a container, remove a policy, ask
-- whether a reaches b, ask whether a container carries a value under the user key, next finding, counts, rebuild, and audit." Later ones join.

-- "The calls that ask change nothing."
pub data Query : Type 0 where
  ask_reaches : ℕ → ℕ → Query
  ask_user : ℕ → ℕ → Query
  next_finding : Place → Query
  -- the next findings after a place, into a list lent for so many numbers
  list_findings : Place → ℕ → Query
  counts : Query
  audit : Query
  -- the registry put back into blocks, into a buffer lent of so many bytes
  write : ℕ → Query

-- those that change entries or bits of a registry that stands
pub data Change : Type 0 where
  admit : List ℕ → Change
  -- blocks one after another, with a list lent for so many numbers, and a tally
  admit_batch : List ℕ → ℕ → Tally → Change
  remove_container : ℕ → Change
  remove_policy : ℕ → Change
  rebuild : Change

pub data Call : Type 0 where
  open_with : List ℕ → Call
  change : Change → Call
  ask : Query → Call

pub data Answer : Type 0 where
  -- "The call then returns its number alone." Document 02, Note 5: of open, admit and a batch the position at fault comes with it. It is 0
  -- where a refusal is of no place in a block, and so of every other call.
  refusal : ℕ → ℕ → Answer
  done : Answer
  container_at : ℕ → Answer
  policy_at : ℕ → Answer
  says : Bool → Answer
  -- "The place in the list is handed back with each finding."
  found : Finding → Place → Answer
  no_finding : Answer
  -- the numbers put into the list that was lent, and the place to go on from
  findings_put : List ℕ → Place → Answer
  -- standing containers, standing policies, PAIRS
  counted : ℕ → ℕ → ℕ → Answer
  -- the bytes put into the buffer that was lent: how many they are, and what they hold
  file_put : List ℕ → Answer
  -- of a batch: the two numbers of each block, put into the list that was lent, and the tally brought up to date
  batch_put : List (ℕ × ℕ) → Tally → Answer

abbrev pub refusal_of : Refusal → Answer
refusal_of f = refusal (reason_number f.reason) f.position

abbrev pub found_answer : Option Finding → Answer
found_answer none = no_finding
found_answer (some g) = found g (place_of g)

-- the findings after a place, each as one number
abbrev pub findings_answer : Place → List Finding → Answer
findings_answer c l = findings_put (map finding_code l) (moved c l)

-- The parts of an answer that something above asks for, each where the answer has it.
pub record Said : Type 0 where
  pub refused : Option (ℕ × ℕ)
  pub finding : Option (Finding × Place)
  pub put : Option (List ℕ × Place)
  pub counts : Option (ℕ × ℕ × ℕ)
  pub file : Option (List ℕ)
  pub container : Option ℕ
  pub policy : Option ℕ
  pub batch : Option (List (ℕ × ℕ) × Tally)

abbrev saying : Option (ℕ × ℕ) → Option (Finding × Place) → Option (List ℕ × Place) → Option (ℕ × ℕ × ℕ) → Option (List ℕ) → Option ℕ → Option ℕ → Option (List (ℕ × ℕ) × Tally) → Said
saying r f p n w c q b = record { refused = r; finding = f; put = p; counts = n; file = w; container = c; policy = q; batch = b }

-- The one function by cases of an answer.
abbrev pub said : Answer → Said
said (refusal n p) = saying (some (n, p)) none none none none none none none
said done = saying none none none none none none none none
said (container_at c) = saying none none none none none (some c) none none
said (policy_at q) = saying none none none none none none (some q) none
said (says t) = saying none none none none none none none none
said (found g c) = saying none (some (g, c)) none none none none none none
said no_finding = saying none none none none none none none none
said (findings_put l c) = saying none none (some (l, c)) none none none none none
said (counted c q n) = saying none none none (some (c, q, n)) none none none none
said (file_put w) = saying none none none none (some w) none none none
said (batch_put ps t) = saying none none none none none none none (some (ps, t))

-- the numbers of pairs, one after another
abbrev pub numbers_of : List (ℕ × ℕ) → List ℕ
numbers_of [] = []
numbers_of (p ∷ ps) = p.0 ∷ p.1 ∷ numbers_of ps

-- numbers as pairs again; one that is left over is none
abbrev pub pairs_of : List ℕ → List (ℕ × ℕ)
pairs_of [] = []
pairs_of (x ∷ []) = []
pairs_of (x ∷ y ∷ l) = (x, y) ∷ pairs_of l

-- What a call writes into another buffer that it is lent.
abbrev pub written : Answer → List ℕ
written a =
    elim (said a).put [
      | none ↦ elim (said a).file [ none ↦ elim (said a).batch [ none ↦ [] | some b ↦ numbers_of b.0 ] | some w ↦ w ]
      | some p ↦ p.0
    ]

-- What it leaves of a tally that it is lent.
abbrev pub tally_left : Tally → Answer → Tally
tally_left t a = elim (said a).batch [ none ↦ t | some b ↦ b.1 ]

-- steps one after another from a state, by a list of calls or of blocks: the state at its end, and the answers
module _ {S K A : Type 0} where
  abbrev pub run : (S → K → S × A) → S → List K → S × List A
  run step s [] = (s, [])
  run step s (k ∷ ks) =
      let r = step s k in
      let t = run step r.0 ks in
      (t.0, r.1 ∷ t.1)
