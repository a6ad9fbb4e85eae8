-- The written rules keep the theory's one law, and the registry's changes are the theory's: so each keeps a registry computed.
use mathlib.Core.Path.{◌≡◌, refl, sym, ap, ◌∙◌}
use mathlib.Core.Bool.{Bool, false, ◌&&◌, and_assoc}
use mathlib.Core.List.{List, [], ◌∷◌}
use mathlib.Core.Option.{Option, none, some}
use Prim.Native.Nat.{ℕ, zero, suc}
use lib.ListN.{get_or, set}
use Rattle.block.specs.declared.Direction.{Direction}
use Rattle.block.specs.declared.Direction.TheVariants.{Ingress as ingress, Egress as egress}
use Rattle.block.specs.Entry.{Container, Policy}
use Rattle.model.specs.Table.{Table, any, on, at}
use Rattle.model.specs.Rules.{selects, allows, same_direction, some_selects, some_allows, permits, both_permit, reaches}
use Rattle.model.specs.Model.{Model, with_container, with_policy, matrix_bit, selected_bit, allowed_bit, computed_bits}
use Rattle.model.specs.Registry.{Registry, computed, set_where, change_container, touches, touched, change_policy}
use Rattle.model.proofs.Lists.{neither}
use Rattle.model.proofs.Changes.{set_bits}
use Rattle.model.proofs.ChangesLaws.{computed-after}
use Rattle.model.proofs.Book.{Rules, IsOrFree, LawfulRules, reflexive, reflexive-lawful, Book, BookLaws, BitPlace, matrix, selected, allowed, EntryChange, container_becomes, policy_becomes}
use Rattle.model.proofs.Book.{put_entry, bit_by_rules, touched_by, book_changes, Fitting}
use Rattle.model.proofs.BookLawful.{book-lawful}

-- both directions decide, of a container and itself too: as document 01 has it
unfoldable pub both_directions : Rules Policy
both_directions = record { selects = selects; allows = allows; reaches = λ ps a b u v. both_permit ps u v; touches = touches }

unfoldable pub written_rules : Rules Policy
written_rules = reflexive both_directions

-- a change at one slot, where neither the old entry nor the new one passes the test
any-set : {A : Type 0} (f : A → Bool) (l : List A) (i : ℕ) (x d : A) → f x ≡ false → f (get_or l i d) ≡ false → any f (set l i x) ≡ any f l
any-set f [] i x d new old = refl
any-set f (y ∷ l) zero x d new old = rw (new, old)
any-set f (y ∷ l) (suc i) x d new old = rw (any-set f l i x d new old)

module _ (ps : Table Policy) (q : ℕ) (p : Policy) (x : Option Policy) (old : IsOrFree p (at ps q)) (new : IsOrFree p x) where
  permits-other : (d : Direction) (u v : Container) → (same_direction d p.direction && selects p u) ≡ false → permits d (set ps q x) u v ≡ permits d ps u v
  unfolding permits some_selects some_allows IsOrFree
  permits-other d u v e =
      let e' : (same_direction d p.direction && (selects p u && allows p v)) ≡ false = rw (← and_assoc (same_direction d p.direction) (selects p u) (allows p v), e) in
      rw (
        any-set (on (λ r. same_direction d r.direction && selects r u)) ps q x none (new _ e) (old _ e),
        any-set (on (λ r. same_direction d r.direction && (selects r u && allows r v))) ps q x none (new _ e') (old _ e'),
      )

  both-other : (u v : Container) → touches p u v ≡ false → both_permit (set ps q x) u v ≡ both_permit ps u v
  unfolding both_permit touches
  both-other u v e =
      let h = neither (same_direction egress p.direction && selects p u) (same_direction ingress p.direction && selects p v) e in
      rw (permits-other egress u v h.0, permits-other ingress v u h.1)

both-lawful : LawfulRules both_directions
unfolding both_directions
both-lawful = record { untouched = λ ps q p x old new a b u v. both-other ps q p x old new u v }

written-lawful : LawfulRules written_rules
unfolding written_rules
written-lawful = reflexive-lawful both_directions both-lawful

-- ---- the entries of the reference model are a book

unfoldable pub model_book : Book Model Policy
model_book = record {
  containers = λ m. m.containers;
  policies = λ m. m.policies;
  rules = λ m. written_rules;
  put_container = with_container;
  put_policy = with_policy;
}

pub model-laws : BookLaws model_book
unfolding model_book with_container with_policy
model-laws = record {
  lawful = λ m. written-lawful;
  container-containers = λ m c x. refl;
  container-policies = λ m c x. refl;
  container-rules = λ m c x. refl;
  policy-containers = λ m q x. refl;
  policy-policies = λ m q x. refl;
  policy-rules = λ m q x. refl;
}

-- ---- the registry's changes are the book's

-- the registry of these entries and these bits
unfoldable pub registry_with : Model → (BitPlace → Bool) → Registry
registry_with m bits = record {
  model = m;
  bits = record { matrix = λ a b. bits (matrix a b); selected = λ q c. bits (selected q c); allowed = λ q c. bits (allowed q c) };
}

-- the registry after one change
abbrev pub registry_after : Registry → EntryChange Policy → Registry
registry_after r (container_becomes c x) = change_container r c x
registry_after r (policy_becomes q p x) = change_policy r q p x

pub registry-change : (m : Model) (bits : BitPlace → Bool) (c : EntryChange Policy)
    → registry_after (registry_with m bits) c ≡ registry_with (put_entry model_book m c) (set_bits (book_changes model_book) m c bits)
unfolding registry_with change_container change_policy set_where touched computed_bits matrix_bit selected_bit allowed_bit reaches with_policy put_entry set_bits book_changes touched_by bit_by_rules model_book written_rules reflexive both_directions
registry-change m bits (container_becomes c x) = refl
registry-change m bits (policy_becomes q p x) = refl

pub computed-is : (m : Model) → computed m ≡ registry_with m (bit_by_rules model_book m)
unfolding registry_with computed computed_bits matrix_bit selected_bit allowed_bit reaches bit_by_rules model_book written_rules reflexive both_directions
computed-is m = refl

-- Every change that fits keeps a registry computed.
pub change-computed : (m : Model) (c : EntryChange Policy) → Fitting model_book m c → registry_after (computed m) c ≡ computed (put_entry model_book m c)
unfolding book_changes
change-computed m c f =
    ap (λ r. registry_after r c) (computed-is m)
    ∙ registry-change m (bit_by_rules model_book m) c
    ∙ ap (registry_with (put_entry model_book m c)) (computed-after (book_changes model_book) (Fitting model_book) (book-lawful model_book model-laws) m (c ∷ []) (f, tt))
    ∙ sym (computed-is (put_entry model_book m c))

-- a change at a container's slot, and a policy removed from its slot
pub container-changed : (m : Model) (c : ℕ) (x : Option Container) → change_container (computed m) c x ≡ computed (with_container m c x)
unfolding Fitting put_entry model_book
container-changed m c x = change-computed m (container_becomes c x) tt

pub policy-removed : (m : Model) (q : ℕ) (p : Policy) → at m.policies q ≡ some p
    → change_policy (computed m) q p none ≡ computed (with_policy m q none)
unfolding Fitting put_entry model_book IsOrFree
policy-removed m q p e = change-computed m (policy_becomes q p none) (λ f h. rw e h, λ f h. refl)
