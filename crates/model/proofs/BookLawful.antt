-- A book's changes keep the laws of the theory.
use mathlib.Core.Path.{◌≡◌, refl, ap, ◌∙◌}
use mathlib.Core.Bool.{false}
use mathlib.Core.Option.{Option, none, some}
use Prim.Native.Nat.{ℕ}
use lib.Dec.{eqb}
use lib.ListN.{set}
use lib.Seq.{get_or-set_other}
use borrow.Author.Tests.{eqb-false}
use Rattle.block.specs.Entry.{Container}
use Rattle.model.specs.Table.{Table, on, at}
use Rattle.model.proofs.Lists.{neither}
use Rattle.model.proofs.Changes.{Lawful}
use Rattle.model.proofs.Book.{Book, BookLaws, BitPlace, matrix, selected, allowed, EntryChange, container_becomes, policy_becomes}
use Rattle.model.proofs.Book.{put_entry, bit_by_rules, touched_by, book_changes, Fitting}

module _ {S P : Type 0} (B : Book S P) where
  -- a container's change that does not touch a pair is at neither of its slots
  pub off-pair : (s : S) (c : ℕ) (x : Option Container) (a b : ℕ) → touched_by B s (container_becomes c x) (matrix a b) ≡ false
      → (eqb a c ≡ false) × (eqb b c ≡ false)
  unfolding touched_by
  off-pair s c x a b e = neither (eqb a c) (eqb b c) e

-- another slot holds what it held
pub other-slot : {A : Type 0} (t : Table A) (c i : ℕ) (x : Option A) → eqb i c ≡ false → at (set t c x) i ≡ at t i
other-slot t c i x e = get_or-set_other t c i x none (eqb-false i c e)

module _ {S P : Type 0} (B : Book S P) (laws : BookLaws B) where
  pub other-container : (s : S) (c : ℕ) (x : Option Container) (i : ℕ) → eqb i c ≡ false
      → at (B.containers (B.put_container s c x)) i ≡ at (B.containers s) i
  other-container s c x i e = ap (λ t. at t i) (laws.container-containers s c x) ∙ other-slot (B.containers s) c i x e

  pub other-policy : (s : S) (q : ℕ) (x : Option P) (i : ℕ) → eqb i q ≡ false
      → at (B.policies (B.put_policy s q x)) i ≡ at (B.policies s) i
  other-policy s q x i e = ap (λ t. at t i) (laws.policy-policies s q x) ∙ other-slot (B.policies s) q i x e

  -- a policy's change, at the containers of two slots
  reaches-untouched : (s : S) (q : ℕ) (p : P) (x : Option P) → Fitting B s (policy_becomes q p x) → (a b : ℕ) (y z : Option Container)
      → on (λ u. on (λ v. (B.rules s).touches p u v) z) y ≡ false
      → on (λ u. on (λ v. (B.rules s).reaches (set (B.policies s) q x) a b u v) z) y ≡ on (λ u. on (λ v. (B.rules s).reaches (B.policies s) a b u v) z) y
  unfolding Fitting
  reaches-untouched s q p x g a b none z e = refl
  reaches-untouched s q p x g a b (some u) none e = refl
  reaches-untouched s q p x g a b (some u) (some v) e = (laws.lawful s).untouched (B.policies s) q p x g.0 g.1 a b u v e

  book-untouched : (s : S) (c : EntryChange P) (i : BitPlace) → Fitting B s c → touched_by B s c i ≡ false
      → bit_by_rules B (put_entry B s c) i ≡ bit_by_rules B s i
  unfolding touched_by bit_by_rules put_entry
  book-untouched s (container_becomes c x) (matrix a b) g e =
      let h = off-pair B s c x a b e in
      rw (other-container s c x a h.0, other-container s c x b h.1, laws.container-policies s c x, laws.container-rules s c x)
  book-untouched s (container_becomes c x) (selected q b) g e = rw (other-container s c x b e, laws.container-policies s c x, laws.container-rules s c x)
  book-untouched s (container_becomes c x) (allowed q b) g e = rw (other-container s c x b e, laws.container-policies s c x, laws.container-rules s c x)
  book-untouched s (policy_becomes q p x) (matrix a b) g e =
      rw (laws.policy-containers s q x, laws.policy-policies s q x, laws.policy-rules s q x)
      (reaches-untouched s q p x g a b (at (B.containers s) a) (at (B.containers s) b) e)
  book-untouched s (policy_becomes q p x) (selected i b) g e = rw (other-policy s q x i e, laws.policy-containers s q x, laws.policy-rules s q x)
  book-untouched s (policy_becomes q p x) (allowed i b) g e = rw (other-policy s q x i e, laws.policy-containers s q x, laws.policy-rules s q x)

  book-own : (s : S) (c : EntryChange P) (i : BitPlace) → touched_by B (put_entry B s c) c i ≡ touched_by B s c i
  unfolding touched_by put_entry
  book-own s (container_becomes c x) (matrix a b) = refl
  book-own s (container_becomes c x) (selected q b) = refl
  book-own s (container_becomes c x) (allowed q b) = refl
  book-own s (policy_becomes q p x) (matrix a b) = rw (laws.policy-containers s q x, laws.policy-rules s q x)
  book-own s (policy_becomes q p x) (selected i b) = refl
  book-own s (policy_becomes q p x) (allowed i b) = refl

  book-kept : (s : S) (c d : EntryChange P) (i : BitPlace) → touched_by B s c i ≡ false → touched_by B (put_entry B s c) d i ≡ touched_by B s d i
  unfolding touched_by put_entry
  book-kept s c (container_becomes k y) (matrix a b) e = refl
  book-kept s c (container_becomes k y) (selected q b) e = refl
  book-kept s c (container_becomes k y) (allowed q b) e = refl
  book-kept s c (policy_becomes k r y) (selected q b) e = refl
  book-kept s c (policy_becomes k r y) (allowed q b) e = refl
  book-kept s (container_becomes c x) (policy_becomes k r y) (matrix a b) e =
      let h = off-pair B s c x a b e in
      rw (other-container s c x a h.0, other-container s c x b h.1, laws.container-rules s c x)
  book-kept s (policy_becomes q p x) (policy_becomes k r y) (matrix a b) e = rw (laws.policy-containers s q x, laws.policy-rules s q x)

  -- The theory holds of the book.
  pub book-lawful : Lawful (book_changes B) (Fitting B)
  unfolding book_changes
  book-lawful = record { untouched = book-untouched; own = book-own; kept = book-kept }
