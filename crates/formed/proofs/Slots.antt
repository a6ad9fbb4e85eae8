-- Slots: what is read from a slot's words, and how large the words are.
use mathlib.Core.Path.{◌≡◌, refl, sym, ap, ap₂, ◌∙◌}
use mathlib.Core.Bool.{true}
use mathlib.Core.List.{List, []}
use mathlib.Core.Option.{Option, none, some}
use Prim.Native.Nat.{ℕ, zero, suc, ◌+◌, ◌*◌, ◌/◌, ◌%◌, ◌^◌, ◌<◌, ◌≤◌}
use native.Mathlib.Nat.{add-zero}
use native.Mathlib.Omega.{arith}
use lib.ListN.{length, get_or}
use borrow.Author.Tests.{eq-eqb, ne_eqb}
use Rattle.block.specs.declared.Direction.{Direction}
use Rattle.block.specs.declared.Direction.TheVariants.{Ingress as ingress, Egress as egress}
use Rattle.block.specs.Entry.{Container, Policy, Settings, container, policy}
use Rattle.block.specs.Reader.{direction_of}
use Rattle.block.specs.Written.{direction_number, valid_labels, valid_entry}
use Rattle.block.proofs.Written.{direction-back}
use Rattle.store.specs.Layout.{container_words, policy_words, part_size, part_offset, select_offset, allow_offset, container_start, policy_start, word_at}
use Rattle.formed.specs.Words.{part_word, parts_of, container_word, policy_word, part_in, container_in, policy_at, policy_in}
use Rattle.formed.specs.Registry.{valid_container, valid_policy}
use Rattle.model.proofs.Lists.{both}
use Rattle.formed.proofs.Parts.{part-back, part_small}

pub valid-container : (s : Settings) (ls : Container) → valid_entry s (container ls) ≡ true → valid_labels 8 ls ≡ true
unfolding valid_entry
valid-container s ls e = e

pub record PolicyParts (p : Policy) : Type 0 where
  pub select : valid_labels 4 p.select ≡ true
  pub allow : valid_labels 4 p.allow ≡ true

pub valid-policy : (s : Settings) (p : Policy) → valid_entry s (policy p) ≡ true → PolicyParts p
unfolding valid_entry
valid-policy s p e = let h = both (valid_labels 4 p.select) (valid_labels 4 p.allow) e in record { select = h.0; allow = h.1 }

pub direction-small : (d : Direction) → (1 ≤ direction_number d) × (direction_number d ≤ 2)
direction-small ingress = (omega arith, omega arith)
direction-small egress = (omega arith, omega arith)

-- ---- containers

-- the words from position p on are f's, n of them
abbrev pub Words : List ℕ → ℕ → ℕ → (ℕ → ℕ) → Type 0
Words m p n f = (k : ℕ) → k < n → word_at m (p + k) ≡ f k

pub first_word : (m : List ℕ) (p n : ℕ) (f : ℕ → ℕ) → Words m p (suc n) f → word_at m p ≡ f 0
first_word m p n f w = ap (λ k. word_at m k) (sym (add-zero p)) ∙ w 0 (omega arith)

module _ (s : Settings) (m : List ℕ) (c : ℕ) where
  -- a slot whose words are those of a container that is valid holds it
  pub container-back : (o : Option Container) → valid_container s o ≡ true → Words m (container_start c) container_words (container_word o) → container_in m c ≡ o
  unfolding container_in part_word
  container-back none v w = rw (eq-eqb (word_at m (container_start c)) 0 (first_word m (container_start c) 8 (container_word none) w))
  container-back (some ls) v w =
      let n : word_at m (container_start c) ≡ suc (length ls) = first_word m (container_start c) 8 (container_word (some ls)) w in
      rw (ne_eqb (word_at m (container_start c)) 0 (λ z. omega arith))
      (ap some (part-back 8 ls (valid-container s ls v) m (container_start c) (λ j h. w j (omega arith))))

pub container-small : (s : Settings) (o : Option Container) → valid_container s o ≡ true → (k : ℕ) → container_word o k ≤ 2 ^ 23
container-small s none v k = omega arith
container-small s (some ls) v k = part_small 8 ls (valid-container s ls v) (omega arith) k

-- ---- policies

-- word j of a policy's part i
pub policy-part-word : (p : Policy) (i j : ℕ) → j < part_size → policy_word (some p) (part_offset i + j) ≡ part_word (get_or (parts_of p) i []) j
policy-part-word p i j h =
    let e : part_offset i + j ≡ suc (part_size * i + j) = omega arith in
    let a : (part_size * i + j) / part_size ≡ i = omega arith in
    let b : (part_size * i + j) % part_size ≡ j = omega arith in
    ap (policy_word (some p)) e ∙ ap₂ (λ (x y : ℕ). part_word (get_or (parts_of p) x []) y) a b

module _ (m : List ℕ) (q : ℕ) (p : Policy) (w : Words m (policy_start q) policy_words (policy_word (some p))) where
  direction-word : word_at m (policy_start q) ≡ direction_number p.direction
  direction-word = first_word m (policy_start q) 10 (policy_word (some p)) w

  pub policy-part-words : (i : ℕ) → i < 2 → Words m (policy_start q + part_offset i) part_size (part_word (get_or (parts_of p) i []))
  policy-part-words i l j h =
      let e : policy_start q + part_offset i + j ≡ policy_start q + (part_offset i + j) = omega arith in
      ap (λ k. word_at m k) e ∙ w (part_offset i + j) (omega arith) ∙ policy-part-word p i j h

  policy-at-back : PolicyParts p → policy_at m q ≡ p
  unfolding policy_at
  policy-at-back f =
      let d : direction_of (word_at m (policy_start q)) ≡ p.direction = ap direction_of direction-word ∙ direction-back p.direction in
      let s : part_in m (policy_start q + select_offset) ≡ p.select = part-back 4 p.select f.select m (policy_start q + select_offset) (policy-part-words 0 (omega arith)) in
      let a : part_in m (policy_start q + allow_offset) ≡ p.allow = part-back 4 p.allow f.allow m (policy_start q + allow_offset) (policy-part-words 1 (omega arith)) in
      λ i. record { direction = d i; select = s i; allow = a i }

  policy-stands : word_at m (policy_start q) ≡ 0 → ⊥
  policy-stands z = let n = direction-word in let d = direction-small p.direction in omega arith

module _ (s : Settings) (m : List ℕ) (q : ℕ) where
  pub policy-back : (o : Option Policy) → valid_policy s o ≡ true → Words m (policy_start q) policy_words (policy_word o) → policy_in m q ≡ o
  unfolding policy_in
  policy-back none v w = rw (eq-eqb (word_at m (policy_start q)) 0 (first_word m (policy_start q) 10 (policy_word none) w))
  policy-back (some p) v w =
      rw (ne_eqb (word_at m (policy_start q)) 0 (policy-stands m q p w)) (ap some (policy-at-back m q p w (valid-policy s p v)))

-- each part of a valid policy, and no labels past the last, are valid
part-valid : (p : Policy) → PolicyParts p → (i : ℕ) → valid_labels 4 (get_or (parts_of p) i []) ≡ true
unfolding valid_labels
part-valid p f zero = f.select
part-valid p f (suc zero) = f.allow
part-valid p f (suc (suc i)) = refl

pub policy-small : (s : Settings) (o : Option Policy) → valid_policy s o ≡ true → (k : ℕ) → policy_word o k ≤ 2 ^ 23
policy-small s none v k = omega arith
policy-small s (some p) v zero = let d = direction-small p.direction in omega arith
policy-small s (some p) v (suc k) = part_small 4 (get_or (parts_of p) (k / part_size) []) (part-valid p (valid-policy s p v) (k / part_size)) (omega arith) (k % part_size)
