-- No change leaves a bit of a free slot set.
use mathlib.Core.Path.{◌≡◌, refl, sym, subst, ◌∙◌}
use mathlib.Core.Bool.{Bool, true, false, ◌&&◌, cond}
use mathlib.Core.List.{List, [], ◌∷◌}
use mathlib.Core.Option.{Option, none, some}
use Prim.Native.Nat.{ℕ}
use Rattle.block.specs.Entry.{Container, Policy}
use Rattle.model.specs.Table.{on, at, stands}
use Rattle.model.specs.Model.{Model}
use Rattle.model.specs.Registry.{Registry, BitsStand, computed, change_container, change_policy}
use Rattle.model.proofs.Changes.{entries_after, set_bits, bits_after}
use Rattle.model.proofs.Book.{Book, BookLaws, BitPlace, matrix, selected, allowed, EntryChange, container_becomes, policy_becomes}
use Rattle.model.proofs.Book.{put_entry, bit_by_rules, touched_by, book_changes}
use Rattle.model.proofs.BookLawful.{off-pair, other-container, other-policy}
use Rattle.model.proofs.WrittenRules.{model_book, model-laws, registry_with, registry_after, registry-change, computed-is}

module _ {S P : Type 0} (B : Book S P) where
  -- the slots of a place stand
  unfoldable pub place_stands : S → BitPlace → Bool
  place_stands s (matrix a b) = stands (B.containers s) a && stands (B.containers s) b
  place_stands s (selected q c) = stands (B.policies s) q && stands (B.containers s) c
  place_stands s (allowed q c) = stands (B.policies s) q && stands (B.containers s) c

  -- "no kept bit set for an empty place"
  unfoldable pub OnlyStanding : S → (BitPlace → Bool) → Type 0
  OnlyStanding s bits = (i : BitPlace) → bits i ≡ true → place_stands s i ≡ true

both-stand : {X Y : Type 0} (f : X → Y → Bool) (u : Option X) (v : Option Y) → on (λ x. on (λ y. f x y) v) u ≡ true
    → (on (λ x. true) u && on (λ y. true) v) ≡ true
both-stand f none v e = e
both-stand f (some x) none e = e
both-stand f (some x) (some y) e = refl

module _ {S P : Type 0} (B : Book S P) where
  rules-clear : (s : S) → OnlyStanding B s (bit_by_rules B s)
  unfolding OnlyStanding bit_by_rules place_stands
  rules-clear s (matrix a b) e = both-stand _ (at (B.containers s) a) (at (B.containers s) b) e
  rules-clear s (selected q c) e = both-stand _ (at (B.policies s) q) (at (B.containers s) c) e
  rules-clear s (allowed q c) e = both-stand _ (at (B.policies s) q) (at (B.containers s) c) e

module _ {S P : Type 0} (B : Book S P) (laws : BookLaws B) where
  -- where a change does not touch, the slots stand as they stood
  stands-kept : (s : S) (c : EntryChange P) (i : BitPlace) → touched_by B s c i ≡ false → place_stands B (put_entry B s c) i ≡ place_stands B s i
  unfolding touched_by put_entry place_stands
  stands-kept s (container_becomes c x) (matrix a b) e =
      let h = off-pair B s c x a b e in
      rw (other-container B laws s c x a h.0, other-container B laws s c x b h.1)
  stands-kept s (container_becomes c x) (selected q b) e = rw (other-container B laws s c x b e, laws.container-policies s c x)
  stands-kept s (container_becomes c x) (allowed q b) e = rw (other-container B laws s c x b e, laws.container-policies s c x)
  stands-kept s (policy_becomes q p x) (matrix a b) e = rw (laws.policy-containers s q x)
  stands-kept s (policy_becomes q p x) (selected i b) e = rw (other-policy B laws s q x i e, laws.policy-containers s q x)
  stands-kept s (policy_becomes q p x) (allowed i b) e = rw (other-policy B laws s q x i e, laws.policy-containers s q x)

  change-clear : (s : S) (c : EntryChange P) (old : BitPlace → Bool) → OnlyStanding B s old
      → OnlyStanding B (put_entry B s c) (set_bits (book_changes B) s c old)
  unfolding OnlyStanding set_bits book_changes
  change-clear s c old h i = pick (touched_by B s c i) refl
    where
      pick : (t : Bool) → touched_by B s c i ≡ t → cond t (bit_by_rules B (put_entry B s c) i) (old i) ≡ true → place_stands B (put_entry B s c) i ≡ true
      pick true e g = rules-clear B (put_entry B s c) i g
      pick false e g = stands-kept s c i e ∙ h i g

  -- Changes one after another leave the bits of free slots clear.
  pub changes-clear : (s : S) (cs : List (EntryChange P)) (old : BitPlace → Bool) → OnlyStanding B s old
      → OnlyStanding B (entries_after (book_changes B) s cs) (bits_after (book_changes B) s cs old)
  unfolding book_changes
  changes-clear s [] old h = h
  changes-clear s (c ∷ cs) old h = changes-clear (put_entry B s c) cs (set_bits (book_changes B) s c old) (change-clear s c old h)

-- ---- the registry

-- the bits of a registry by their places
abbrev pub stored_at : Registry → BitPlace → Bool
stored_at r (matrix a b) = r.bits.matrix a b
stored_at r (selected q c) = r.bits.selected q c
stored_at r (allowed q c) = r.bits.allowed q c

registry-only : (r : Registry) → BitsStand r → OnlyStanding model_book r.model (stored_at r)
unfolding OnlyStanding place_stands model_book
registry-only r h (matrix a b) e = h.matrix a b e
registry-only r h (selected q c) e = h.selected q c e
registry-only r h (allowed q c) e = h.allowed q c e

only-registry : (m : Model) (bits : BitPlace → Bool) → OnlyStanding model_book m bits → BitsStand (registry_with m bits)
unfolding OnlyStanding place_stands model_book registry_with
only-registry m bits h = record { matrix = λ a b. h (matrix a b); selected = λ q c. h (selected q c); allowed = λ q c. h (allowed q c) }

registry-clear : (r : Registry) (c : EntryChange Policy) → BitsStand r → BitsStand (registry_after r c)
unfolding registry_with
registry-clear r c h =
    subst BitsStand (sym (registry-change r.model (stored_at r) c))
    (only-registry _ _ (change-clear model_book model-laws r.model c (stored_at r) (registry-only r h)))

-- What the rules give is of standing slots.
pub computed-clear : (m : Model) → BitsStand (computed m)
computed-clear m = subst BitsStand (sym (computed-is m)) (only-registry m (bit_by_rules model_book m) (rules-clear model_book m))

-- No change of a registry leaves a bit of a free slot set; p need not be the policy that comes or goes.
pub container-clear : (r : Registry) (c : ℕ) (x : Option Container) → BitsStand r → BitsStand (change_container r c x)
container-clear r c x = registry-clear r (container_becomes c x)

pub policy-clear : (r : Registry) (q : ℕ) (p : Policy) (x : Option Policy) → BitsStand r → BitsStand (change_policy r q p x)
policy-clear r q p x = registry-clear r (policy_becomes q p x)
