-- A book of containers and policies of any sort: its bits by the rules, its changes and what each touches.
use mathlib.Core.Path.{◌≡◌, ap}
use mathlib.Core.Bool.{Bool, false, ◌||◌}
use mathlib.Core.Option.{Option}
use Prim.Native.Nat.{ℕ}
use lib.Dec.{eqb}
use lib.ListN.{set}
use Rattle.block.specs.Entry.{Container}
use Rattle.model.specs.Table.{Table, on, at}
use Rattle.model.proofs.Changes.{Changes}

-- ---- the rules of a sort of policy

pub record Rules (P : Type 0) : Type 0 where
  pub selects : P → Container → Bool
  pub allows : P → Container → Bool
  -- under these policies the container u at slot a reaches the container v at slot b
  pub reaches : Table P → ℕ → ℕ → Container → Container → Bool
  -- the coming or going of the policy may alter whether u reaches v
  pub touches : P → Container → Container → Bool

module _ {P : Type 0} where
  -- what a policy's slot held or will hold: nothing, or p
  unfoldable pub IsOrFree : P → Option P → Type 0
  IsOrFree p x = (f : P → Bool) → f p ≡ false → on f x ≡ false

  -- The one law of a sort of policy: one that does not touch u and v may come or go without altering whether u reaches v.
  pub record LawfulRules (R : Rules P) : Type 0 where
    pub untouched : (ps : Table P) (q : ℕ) (p : P) (x : Option P) → IsOrFree p (at ps q) → IsOrFree p x
        → (a b : ℕ) (u v : Container) → R.touches p u v ≡ false → R.reaches (set ps q x) a b u v ≡ R.reaches ps a b u v

  -- document 02, Note 3, over any rules: whatever the policies, a container reaches itself
  unfoldable pub reflexive : Rules P → Rules P
  reflexive R = record { selects = R.selects; allows = R.allows; reaches = λ ps a b u v. eqb a b || R.reaches ps a b u v; touches = R.touches }

  pub reflexive-lawful : (R : Rules P) → LawfulRules R → LawfulRules (reflexive R)
  unfolding reflexive
  reflexive-lawful R law = record { untouched = λ ps q p x old new a b u v e. ap (λ t. eqb a b || t) (law.untouched ps q p x old new a b u v e) }

-- ---- the entries: any type with two tables, which says the rules

pub record Book (S P : Type 0) : Type 0 where
  pub containers : S → Table Container
  pub policies : S → Table P
  pub rules : S → Rules P
  pub put_container : S → ℕ → Option Container → S
  pub put_policy : S → ℕ → Option P → S

pub record BookLaws {S P : Type 0} (B : Book S P) : Type 0 where
  pub lawful : (s : S) → LawfulRules (B.rules s)
  pub container-containers : (s : S) (c : ℕ) (x : Option Container) → B.containers (B.put_container s c x) ≡ set (B.containers s) c x
  pub container-policies : (s : S) (c : ℕ) (x : Option Container) → B.policies (B.put_container s c x) ≡ B.policies s
  pub container-rules : (s : S) (c : ℕ) (x : Option Container) → B.rules (B.put_container s c x) ≡ B.rules s
  pub policy-containers : (s : S) (q : ℕ) (x : Option P) → B.containers (B.put_policy s q x) ≡ B.containers s
  pub policy-policies : (s : S) (q : ℕ) (x : Option P) → B.policies (B.put_policy s q x) ≡ set (B.policies s) q x
  pub policy-rules : (s : S) (q : ℕ) (x : Option P) → B.rules (B.put_policy s q x) ≡ B.rules s

-- ---- stored bits and changes

-- row and column of the matrix; policy and container of the two sets
pub data BitPlace : Type 0 where
  matrix selected allowed : ℕ → ℕ → BitPlace

pub data EntryChange (P : Type 0) : Type 0 where
  -- container slot c then holds this
  container_becomes : ℕ → Option Container → EntryChange P
  -- policy p comes to slot q, or goes from it: the slot then holds this
  policy_becomes : ℕ → P → Option P → EntryChange P

module _ {S P : Type 0} (B : Book S P) where
  unfoldable pub put_entry : S → EntryChange P → S
  put_entry s (container_becomes c x) = B.put_container s c x
  put_entry s (policy_becomes q p x) = B.put_policy s q x

  -- a test of the containers at two slots
  abbrev on_pair : S → (Container → Container → Bool) → ℕ → ℕ → Bool
  on_pair s f a b = on (λ u. on (λ v. f u v) (at (B.containers s) b)) (at (B.containers s) a)

  -- a test of the policy at a slot and the container at another
  abbrev on_policy : S → (P → Container → Bool) → ℕ → ℕ → Bool
  on_policy s f q c = on (λ p. on (λ u. f p u) (at (B.containers s) c)) (at (B.policies s) q)

  -- "worked out by the written rules from the standing entries, a bit of an empty place being clear"
  unfoldable pub bit_by_rules : S → BitPlace → Bool
  bit_by_rules s (matrix a b) = on_pair s ((B.rules s).reaches (B.policies s) a b) a b
  bit_by_rules s (selected q c) = on_policy s (B.rules s).selects q c
  bit_by_rules s (allowed q c) = on_policy s (B.rules s).allows q c

  -- "for a container at c, row c, column c and c's bit in each policy's sets; for a policy, its two sets and" the pairs of the matrix
  -- that its sort says, "between standing containers"
  unfoldable pub touched_by : S → EntryChange P → BitPlace → Bool
  touched_by s (container_becomes c x) (matrix a b) = eqb a c || eqb b c
  touched_by s (container_becomes c x) (selected q b) = eqb b c
  touched_by s (container_becomes c x) (allowed q b) = eqb b c
  touched_by s (policy_becomes q p x) (matrix a b) = on_pair s ((B.rules s).touches p) a b
  touched_by s (policy_becomes q p x) (selected i b) = eqb i q
  touched_by s (policy_becomes q p x) (allowed i b) = eqb i q

  unfoldable pub book_changes : Changes S (EntryChange P) BitPlace
  book_changes = record { apply = put_entry; rule = bit_by_rules; touches = touched_by }

  unfoldable pub Fitting : S → EntryChange P → Type 0
  Fitting s (container_becomes c x) = Unit {0}
  Fitting s (policy_becomes q p x) = IsOrFree p (at (B.policies s) q) × IsOrFree p x
