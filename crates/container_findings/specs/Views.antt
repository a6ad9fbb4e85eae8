-- What a view says of the memory that it was made of.
use Rattle.std.specs.Prelude.{◌≡◌, Bool, true, List, [], ℕ, ◌<◌, eqb, get_or}
use Rattle.bitrow.specs.Bit.{bit_at}
use Rattle.bitrow.specs.Set.{meet}
use Rattle.model.specs.Model.{container_slots}
use Rattle.store.specs.Layout.{word_at}
use Rattle.entries.specs.Entries.{user_word}
use Rattle.container_findings.specs.declared.Left.{Left}
use Rattle.container_findings.specs.declared.Users.{Users}
use Rattle.container_findings.specs.declared.ContainerView.{ContainerView}
use Rattle.container_findings.specs.Rows.{shown_at, containers_stand, with_user}

-- the containers of the user with this word
abbrev pub of_user : List ℕ → ℕ → ℕ → Bool
of_user m word = meet (containers_stand m) (with_user m word)

-- the word under the user key of each container below n, 0 where it has none or none stands there
pub record OwnWords (m : List ℕ) (n : ℕ) (own : List ℕ) : Type 0 where
  pub word : (c : ℕ) → c < n → word_at own c ≡ user_word m c

-- the places of a list at which this word stands
unfoldable pub places_of : List ℕ → ℕ → ℕ → Bool
places_of own word c = eqb (word_at own c) word

-- The words of all containers, if they are told. And beside the word of a user the row of that user's containers; a place with the word 0
-- is empty, and says nothing.
pub record UsersOf (m : List ℕ) (users : Users) : Type 0 where
  pub own : users.told ≡ true → OwnWords m container_slots users.own
  pub row : (i : ℕ) → i < 64 → (word_at users.words i ≡ 0 → ⊥) → bit_at (get_or users.rows i []) ≡ of_user m (word_at users.words i)

-- those that a kind whose findings have 0 for b tells of
unfoldable pub told_of : List ℕ → ℕ → ℕ → Bool
told_of m k a = shown_at m k a 0

-- those that every container reaches and those that are isolated
pub record BothTold (m : List ℕ) (left : Left) : Type 0 where
  pub by_all : bit_at left.by_all ≡ told_of m 1
  pub by_none : bit_at left.by_none ≡ told_of m 2

-- a row that has every slot at which there is a finding of kind k
pub record SlotsOfKind (m : List ℕ) (k : ℕ) (row : List ℕ) : Type 0 where
  pub slot : (a b : ℕ) → shown_at m k a b ≡ true → bit_at row a ≡ true

-- the containers that stand, some users, and the slots at which there can be a finding of kinds 1 and 2: if they are told, those that every
-- container reaches and those that are isolated
pub record ContainersSeen (m : List ℕ) (view : ContainerView) : Type 0 where
  pub standing : bit_at view.standing ≡ containers_stand m
  pub told : view.told ≡ true → BothTold m (record { by_all = view.by_all; by_none = view.by_none })
  pub users : UsersOf m view.users
  pub all_slots : SlotsOfKind m 1 view.by_all
  pub none_slots : SlotsOfKind m 2 view.by_none
