-- The rows of kinds 3 and 4, at a container that stands, are the model's definitions.
use mathlib.Core.Path.{◌≡◌, refl, sym, ap, ap₂, ◌∙◌, fun_ext}
use mathlib.Core.Bool.{Bool, true, false, not, ◌&&◌, and-true, and-false}
use mathlib.Core.List.{List}
use Prim.Native.Nat.{ℕ}
use lib.Dec.{eqb}
use borrow.Author.Tests.{eq-eqb, ne_eqb}
use Rattle.bitrow.specs.Bit.{bit_at}
use Rattle.bitrow.specs.Set.{nothing, remove, meet, less, has_some}
use Rattle.bitrow.proofs.Sets.{point, nothing-at}
use Rattle.bitrow.proofs.Tests.{has_some-absent}
use Rattle.model.specs.Model.{container_slots}
use Rattle.model.specs.Findings.{user_cross, system_isolation}
use Rattle.model.specs.Findings as model
use Rattle.model.proofs.Lists.{eqb-sym}
use Rattle.store.specs.Layout.{row_at}
use Rattle.formed.specs.Registry.{model_in, bits_in, EntriesFormed}
use Rattle.entries.proofs.Trials.{container-below}
use Rattle.formed.proofs.StoredLaws.{row_within}
use Rattle.entries.specs.Entries.{user_word}
use Rattle.entries.proofs.FormedEntries.{formed-same-user}
use Rattle.container_findings.specs.Rows.{shown_at, containers_stand, with_user}
use Rattle.container_findings.specs.Views.{of_user}
use Rattle.container_findings.proofs.KindRows.{at-3, at-4}

user-is : (m : List ℕ) (word b : ℕ) → eqb (user_word m b) word ≡ with_user m word b
unfolding with_user
user-is m word b = refl

module _ (m : List ℕ) (a : ℕ) (h : containers_stand m a ≡ true) where
  -- a's row, read
  row_read : bit_at (row_at m a) ≡ (bits_in m).matrix a
  unfolding bits_in
  row_read = row_within m container_slots a a (container-below m a h)

  -- the others that a reaches
  abbrev pub others : ℕ → Bool
  others = remove a (meet (containers_stand m) (bit_at (row_at m a)))

  -- where a's sameness with each standing b is f, its strangers among the others
  cross-with : (f g : ℕ → Bool) → ((b : ℕ) → containers_stand m b ≡ true → model.same_user (model_in m) a b ≡ f b) → ((b : ℕ) → (others b && not (f b)) ≡ g b) → g ≡ shown_at m 3 a
  unfolding user_cross remove meet
  cross-with f g e d =
      fun_ext (λ b. sym (
      at-3 m a b
      ∙ ap₂ (λ p q. p && (containers_stand m b && (not q && ((bits_in m).matrix a b && not (model.same_user (model_in m) a b))))) h (eqb-sym a b)
      ∙ swap (containers_stand m b) (not (eqb b a)) ((bits_in m).matrix a b) (model.same_user (model_in m) a b) (f b) (e b)
      ∙ ap (λ t. (not (eqb b a) && (containers_stand m b && t)) && not (f b)) (ap (λ s. s b) (sym row_read))
      ∙ d b))
    where
      swap : (c n r s t : Bool) → (c ≡ true → s ≡ t) → (c && (n && (r && not s))) ≡ ((n && (c && r)) && not t)
      swap false true r s t q = refl
      swap false false r s t q = refl
      swap true false r s t q = refl
      swap true true false s t q = refl
      swap true true true s t q = ap not (q refl)

  -- 3. a carries the user key: all others but those with its word
  pub cross-row : EntriesFormed m → {set own : ℕ → Bool} {word : ℕ} → set ≡ others → word ≡ user_word m a → (word ≡ 0 → ⊥) → own ≡ of_user m word → less set own ≡ shown_at m 3 a
  unfolding less remove meet
  cross-row ok {set} {own} {word} e w n q =
      cross-with (with_user m word) (less set own)
      (λ b hb. formed-same-user m ok a b h hb ∙ ap₂ (λ p q. not p && q) (ne_eqb (user_word m a) 0 (λ z. n (w ∙ z))) (eqb-sym (user_word m a) (user_word m b) ∙ ap (eqb (user_word m b)) (sym w)) ∙ user-is m word b)
      (λ b. sym (ap₂ (λ (s t : ℕ → Bool). s b && not (t b)) e q ∙ among (not (eqb b a)) (containers_stand m b) (bit_at (row_at m a) b) (with_user m word b)))
    where
      -- outside of what the standing have of a user is outside of the user's
      among : (n c r u : Bool) → ((n && (c && r)) && not (c && u)) ≡ ((n && (c && r)) && not u)
      among n true r u = refl
      among true false r u = refl
      among false false r u = refl

  -- it does not: all others
  pub cross-all : EntriesFormed m → {set : ℕ → Bool} {word : ℕ} → set ≡ others → word ≡ user_word m a → word ≡ 0 → set ≡ shown_at m 3 a
  cross-all ok e w z =
      e ∙ cross-with (λ b. false) others
      (λ b hb. formed-same-user m ok a b h hb ∙ ap (λ p. not p && eqb (user_word m a) (user_word m b)) (eq-eqb (user_word m a) 0 (sym w ∙ z)))
      (λ b. and-true (others b))

  -- there are no others
  pub cross-none : {set : ℕ → Bool} → set ≡ others → has_some set ≡ false → nothing ≡ shown_at m 3 a
  unfolding remove meet
  cross-none e n =
      cross-with (model.same_user (model_in m) a) nothing (λ b h. refl)
      (λ b. go b (containers_stand m b) refl)
    where
      go : (b : ℕ) (t : Bool) → containers_stand m b ≡ t → (others b && not (model.same_user (model_in m) a b)) ≡ nothing b
      go b true h = ap (λ t. t && not (model.same_user (model_in m) a b)) (sym (point e b) ∙ has_some-absent _ n b (container-below m b h)) ∙ sym (nothing-at b)
      go b false h =
          ap (λ t. (not (eqb b a) && (t && bit_at (row_at m a) b)) && not (model.same_user (model_in m) a b)) h
          ∙ ap (λ t. t && not (model.same_user (model_in m) a b)) (and-false (not (eqb b a))) ∙ sym (nothing-at b)

  -- 4. a does not carry the system label
  pub system-none : model.is_system (model_in m) a ≡ false → nothing ≡ shown_at m 4 a
  unfolding nothing system_isolation
  system-none e = fun_ext (λ b. sym (at-4 m a b ∙ ap₂ (λ p q. p && (containers_stand m b && (q && (not (eqb a b) && not ((bits_in m).matrix a b))))) h e ∙ and-false (containers_stand m b)))

  -- it does: those that it does not reach
  pub system-row : model.is_system (model_in m) a ≡ true → less (remove a (containers_stand m)) (bit_at (row_at m a)) ≡ shown_at m 4 a
  unfolding less remove system_isolation
  system-row e =
      fun_ext (λ b. sym (
      at-4 m a b
      ∙ ap₂ (λ p q. p && (containers_stand m b && (q && (not (eqb a b) && not ((bits_in m).matrix a b))))) h e
      ∙ swap (containers_stand m b) (not (eqb a b)) (not ((bits_in m).matrix a b))
      ∙ ap₂ (λ p q. (not p && containers_stand m b) && not q) (eqb-sym a b) (ap (λ s. s b) (sym row_read))))
    where
      swap : (c n r : Bool) → (c && (n && r)) ≡ ((n && c) && r)
      swap false true r = refl
      swap false false r = refl
      swap true true r = refl
      swap true false r = refl
