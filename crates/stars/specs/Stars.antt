-- Document 01, "Instances to hold on to": the starred ones as one table, and what it claims; under the rules as document 02, Note 3, mends them.
use Rattle.std.specs.Prelude.{◌≡◌, Bool, true, false, not, ◌&&◌, List, [], ◌∷◌, ℕ, ◌-◌, eqb, replicate}
use Rattle.std.specs.Bool.{beq}
use Rattle.std.proofs.Math.Option.{none, some}
use Rattle.block.specs.declared.Direction.{Direction}
use Rattle.block.specs.declared.Direction.TheVariants.{Ingress as ingress, Egress as egress}
use Rattle.block.specs.Entry.{Label, Container, Policy, Settings, Entry}
use Rattle.block.specs.Bytes.{checksum}
use Rattle.block.specs.Refusal.{reason_number, Read, refused, accepted}
use Rattle.block.specs.Reader.{read_entry}
use Rattle.block.specs.Written.{sealed}
use Rattle.model.specs.declared.Finding.{Finding}
use Rattle.model.specs.Table.{Table, any, all, filter}
use Rattle.model.specs.Model.{container_slots, policy_slots, Model, matrix_bit, computed_bits}
use Rattle.model.specs.Findings.{finding, containers_of, findings, pairs}
use Rattle.model.specs.Registry.{Registry, change_policy}

-- ---- small models

abbrev pub label : ℕ → ℕ → Label
label k v = record { key = k; value = v }

abbrev pub policy_to : Direction → List Label → List Label → Policy
policy_to d s a = record { direction = d; select = s; allow = a }

module _ {A : Type 0} where
  -- these entries from slot 0 on, and free slots: n in all
  abbrev pub table_of : ℕ → List A → Table A
  table_of n [] = replicate n none
  table_of n (x ∷ xs) = some x ∷ table_of (n - 1) xs

abbrev pub model_of : Settings → List Container → List Policy → Model
model_of s cs ps = record { settings = s; containers = table_of container_slots cs; policies = table_of policy_slots ps }

-- ---- lists compared

abbrev pub same_numbers : List ℕ → List ℕ → Bool
same_numbers [] [] = true
same_numbers [] (y ∷ ys) = false
same_numbers (x ∷ xs) [] = false
same_numbers (x ∷ xs) (y ∷ ys) = eqb x y && same_numbers xs ys

abbrev pub numbers_of : Finding → List ℕ
numbers_of f = f.kind ∷ f.a ∷ f.b ∷ []

abbrev pub lists : List Finding → Finding → Bool
lists l g = any (λ f. same_numbers (numbers_of f) (numbers_of g)) l

abbrev pub same_findings : List Finding → List Finding → Bool
same_findings [] [] = true
same_findings [] (g ∷ gs) = false
same_findings (f ∷ fs) [] = false
same_findings (f ∷ fs) (g ∷ gs) = same_numbers (numbers_of f) (numbers_of g) && same_findings fs gs

-- rows a of the matrix, over these columns
abbrev pub same_rows : Model → List ℕ → List (List ℕ) → Bool
same_rows m [] [] = true
same_rows m [] (r ∷ rs) = false
same_rows m (a ∷ l) [] = false
same_rows m (a ∷ l) (r ∷ rs) = same_numbers (filter (matrix_bit m a) (containers_of m)) r && same_rows m l rs

abbrev pub refused_at : ℕ → ℕ → Read Entry → Bool
refused_at n p (refused f) = eqb (reason_number f.reason) n && eqb f.position p
refused_at n p (accepted e) = false

-- a registry whose stored bits are all t
abbrev pub filled : Model → Bool → Registry
filled m t = record { model = m; bits = record { matrix = λ a b. t; selected = λ q c. t; allowed = λ q c. t } }

-- ---- the instances

pub data Instance : Type 0 where
  -- the block that begins with these bytes has this checksum
  has_checksum : List ℕ → ℕ → Instance
  -- the block that begins with these bytes, under its right checksum, is refused with this number at this position
  is_refused : List ℕ → ℕ → ℕ → Instance
  -- the findings are these, all of them
  has_findings : Model → List Finding → Instance
  -- the standing containers' rows of the matrix are these, and PAIRS is this
  has_matrix : Model → List (List ℕ) → ℕ → Instance
  -- the first is among the findings, the second is not
  lists_first : Model → Finding → Finding → Instance
  -- the policy, admitted at slot 0, leaves the bits of this column in these rows, whatever they were
  leaves_column : Model → Policy → ℕ → List ℕ → Instance

-- the bits of column b in rows l are t
abbrev pub column_is : Registry → Bool → ℕ → List ℕ → Bool
column_is r t b l = all (λ a. beq (r.bits.matrix a b) t) l

-- What an instance claims.
unfoldable pub Claim : Instance → Type 0
Claim (has_checksum l n) = checksum (sealed l) ≡ n
Claim (is_refused l n p) = refused_at n p (read_entry (record { user_key = 1; system_key = 0; system_value = 0 }) (sealed l)) ≡ true
Claim (has_findings m l) = same_findings (findings m (computed_bits m)) l ≡ true
Claim (has_matrix m rows n) = (same_rows m (containers_of m) rows ≡ true) × (pairs (computed_bits m) ≡ n)
Claim (lists_first m f g) = (lists (findings m (computed_bits m)) f && not (lists (findings m (computed_bits m)) g)) ≡ true
Claim (leaves_column m p b l) = all (λ t. column_is (change_policy (filled m t) 0 p (some p)) t b l) (true ∷ false ∷ []) ≡ true

unfoldable pub AllHold : List Instance → Type 0
AllHold [] = Unit {0}
AllHold (i ∷ is) = Claim i × AllHold is

abbrev pub no_system : Settings
no_system = record { user_key = 1; system_key = 0; system_value = 0 }

-- Three containers with the values 1, 2, 3 under key 1.
abbrev pub three : List Container
three = (label 1 1 ∷ []) ∷ (label 1 2 ∷ []) ∷ (label 1 3 ∷ []) ∷ []

-- "settings user key 1, system 2=9; containers [1=11, 3=1], [1=11, 3=2], [1=12, 3=1], [1=99, 2=9]; policies ingress [3=2]
-- allows [3=1]; ingress [1=11, 3=2] allows [1=11, 3=1]; egress [3=2] allows [1=13]"
abbrev pub printed : Model
printed = model_of (record { user_key = 1; system_key = 2; system_value = 9 })
    ((label 1 11 ∷ label 3 1 ∷ []) ∷ (label 1 11 ∷ label 3 2 ∷ []) ∷ (label 1 12 ∷ label 3 1 ∷ []) ∷ (label 1 99 ∷ label 2 9 ∷ []) ∷ [])
    (policy_to ingress (label 3 2 ∷ []) (label 3 1 ∷ [])
    ∷ policy_to ingress (label 1 11 ∷ label 3 2 ∷ []) (label 1 11 ∷ label 3 1 ∷ [])
    ∷ policy_to egress (label 3 2 ∷ []) (label 1 13 ∷ [])
    ∷ [])

-- Policies that select every container and allow none, one of each direction.
abbrev pub closing : List Policy
closing = policy_to ingress [] (label 1 9 ∷ []) ∷ policy_to egress [] (label 1 9 ∷ []) ∷ []

unfoldable pub stars : List Instance
stars =
    -- "The settings block above has check 145; its first container block has 207."
    has_checksum (83 ∷ 1 ∷ 2 ∷ 0 ∷ 0 ∷ 9 ∷ []) 145
    ∷ has_checksum (67 ∷ 2 ∷ 0 ∷ 0 ∷ 0 ∷ 1 ∷ 0 ∷ 11 ∷ 0 ∷ 3 ∷ 0 ∷ 1 ∷ []) 207
    -- "An empty book: no findings. One container, no policy: it reaches itself, finding 1 0 0."
    ∷ has_findings (model_of no_system [] []) []
    ∷ has_matrix (model_of no_system ([] ∷ []) []) ((0 ∷ []) ∷ []) 1
    ∷ has_findings (model_of no_system ([] ∷ []) []) (finding 1 0 0 ∷ [])
    -- "The matrix and the shadow of the sheet above." Note 3: "The printed sheet's PAIRS becomes 12; its findings don't change."
    ∷ has_matrix printed ((0 ∷ 1 ∷ 2 ∷ 3 ∷ []) ∷ (1 ∷ []) ∷ (0 ∷ 1 ∷ 2 ∷ 3 ∷ []) ∷ (0 ∷ 2 ∷ 3 ∷ []) ∷ []) 12
    ∷ has_findings printed
    (finding 3 0 2 ∷ finding 3 0 3 ∷ finding 3 2 0 ∷ finding 3 2 1 ∷ finding 3 2 3 ∷ finding 3 3 0 ∷ finding 3 3 2
    ∷ finding 4 3 1 ∷ finding 5 1 0 ∷ finding 7 2 1 ∷ [])
    -- "Policy with no labels at all, egress: every container still reaches every container."
    ∷ has_matrix (model_of no_system three (policy_to egress [] [] ∷ [])) ((0 ∷ 1 ∷ 2 ∷ []) ∷ (0 ∷ 1 ∷ 2 ∷ []) ∷ (0 ∷ 1 ∷ 2 ∷ []) ∷ []) 9
    -- "Two equal ingress policies at 0 and 1 with connections: finding 5 1 0, not 5 0 1."
    ∷ lists_first (model_of no_system three (policy_to ingress (label 1 1 ∷ []) [] ∷ policy_to ingress (label 1 1 ∷ []) [] ∷ [])) (finding 5 1 0) (finding 5 0 1)
    -- "A container under an egress policy only: in its column, the bits in rows of containers that the policy doesn't select
    -- are untouched by it."
    ∷ leaves_column (model_of no_system three []) (policy_to egress (label 1 1 ∷ []) (label 1 2 ∷ [])) 0 (1 ∷ 2 ∷ [])
    ∷ has_matrix (model_of no_system three (policy_to egress (label 1 1 ∷ []) (label 1 2 ∷ []) ∷ [])) ((0 ∷ 1 ∷ []) ∷ (0 ∷ 1 ∷ 2 ∷ []) ∷ (0 ∷ 1 ∷ 2 ∷ []) ∷ []) 8
    -- "Policies allowing {0} and {2}, both selecting 1, both ingress: 6 0 1."
    ∷ lists_first (model_of no_system three (policy_to ingress (label 1 2 ∷ []) (label 1 1 ∷ []) ∷ policy_to ingress (label 1 2 ∷ []) (label 1 3 ∷ []) ∷ []))
    (finding 6 0 1) (finding 6 1 0)
    -- "Value 0 and falling keys in one block: 7, not 8."
    ∷ is_refused (67 ∷ 2 ∷ 0 ∷ 0 ∷ 0 ∷ 3 ∷ 0 ∷ 1 ∷ 0 ∷ 1 ∷ 0 ∷ 0 ∷ []) 7 10
    -- No star, but a misreading that document 01 names: a policy that allows nothing is not taken as shadowed.
    ∷ lists_first (model_of no_system three (policy_to ingress (label 1 1 ∷ []) (label 1 9 ∷ []) ∷ policy_to ingress [] [] ∷ [])) (finding 7 0 1) (finding 5 0 1)
    -- No star, but Note 3: "Kubernetes does not let a policy block a container from itself." One alone is not isolated, two are.
    ∷ has_matrix (model_of no_system ([] ∷ []) closing) ((0 ∷ []) ∷ []) 1
    ∷ has_findings (model_of no_system ([] ∷ []) closing) (finding 1 0 0 ∷ finding 7 0 1 ∷ finding 7 1 1 ∷ [])
    ∷ has_matrix (model_of no_system ([] ∷ [] ∷ []) closing) ((0 ∷ []) ∷ (1 ∷ []) ∷ []) 2
    ∷ has_findings (model_of no_system ([] ∷ [] ∷ []) closing) (finding 2 0 0 ∷ finding 2 1 0 ∷ finding 7 0 1 ∷ finding 7 1 1 ∷ [])
    ∷ []
