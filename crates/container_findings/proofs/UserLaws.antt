-- Laws of the users that were asked for.
use mathlib.Core.Path.{◌≡◌, refl, sym, ap, ◌∙◌, fun_ext}
use mathlib.Core.Bool.{Bool, true, false, ◌&&◌, false≢true}
use mathlib.Core.List.{List, [], ◌∷◌}
use Prim.Native.Nat.{ℕ, ◌+◌, ◌*◌, ◌≤◌, ◌<◌}
use native.Mathlib.Decide.{ℕ_discrete}
use native.Mathlib.Omega.{arith}
use lib.Dec.{eqb}
use borrow.Author.Tests.{eq-eqb, ne_eqb}
use lib.ListN.{length, get_or, set, replicate, get_or-replicate}
use lib.Seq.{get_or-set_same, get_or-set_other}
use Rattle.bitrow.specs.Bit.{bit, bit_at}
use Rattle.bitrow.specs.Set.{meet, under, Bounded}
use Rattle.bitrow.proofs.Sets.{point, meet-assoc, bounded-under, bounded-meet-left, bounded-meet-right}
use Rattle.bitrow.proofs.Rows.{word-bit}
use Rattle.store.specs.Layout.{word_at}
use Rattle.formed.specs.Tests.{firsts}
use Rattle.formed.proofs.Standing.{words_row, meet-in}
use Rattle.entries.proofs.Trials.{container-below}
use Rattle.entries.specs.Entries.{user_word}
use Rattle.container_findings.specs.declared.Users.{Users}
use Rattle.container_findings.specs.Rows.{containers_stand, with_user, users_from}
use Rattle.container_findings.specs.Views.{of_user, OwnWords, places_of, UsersOf}

-- no users yet
pub users_none : (m : List ℕ) {users : Users} → users.told ≡ false → users.words ≡ replicate 64 0 → UsersOf m users
users_none m f e = record {
  own = λ t. absurd (false≢true (sym f ∙ t));
  row = λ i h n. absurd (n (ap (λ l. word_at l i) e ∙ get_or-replicate 64 i 0 0 h));
}

-- ---- the places of a word, in four words of 64

module _ (own : List ℕ) (word : ℕ) where
  places-word : (from w : ℕ) → from + 64 ≤ 256 → bit w ≡ meet (firsts own from 1 word) (under 64) → (i : ℕ) → i < 64
      → bit w i ≡ meet (places_of own word) (under 256) (from + i)
  unfolding firsts places_of
  places-word from w l e i h =
      let p : from + 1 * i ≡ from + i = omega arith in
      point e i ∙ meet-in _ 64 i h ∙ ap (λ k. eqb (word_at own k) word) p ∙ sym (meet-in (λ c. eqb (word_at own c) word) 256 (from + i) (omega arith))

  pub places-row : (a b c d : ℕ) → bit a ≡ meet (firsts own 0 1 word) (under 64) → bit b ≡ meet (firsts own 64 1 word) (under 64)
      → bit c ≡ meet (firsts own 128 1 word) (under 64) → bit d ≡ meet (firsts own 192 1 word) (under 64)
      → bit_at (a ∷ b ∷ c ∷ d ∷ []) ≡ meet (places_of own word) (under 256)
  places-row a b c d e f g h =
      words_row (meet (places_of own word) (under 256)) a b c d (bounded-meet-right (bounded-under 256) (places_of own word))
      (places-word 0 a (omega arith) e) (places-word 64 b (omega arith) f) (places-word 128 c (omega arith) g) (places-word 192 d (omega arith) h)

-- ---- the containers of a user, asked one by one

module _ (m : List ℕ) (word first i : ℕ) {r : ℕ} (e : r ≡ user_word m (first + i)) where
  pub user_yes : r ≡ word → users_from m word first i ≡ true
  unfolding users_from with_user
  user_yes q = eq-eqb (user_word m (first + i)) word (sym e ∙ q)

  pub user_no : (r ≡ word → ⊥) → users_from m word first i ≡ false
  unfolding users_from with_user
  user_no n = ne_eqb (user_word m (first + i)) word (λ q. n (e ∙ q))

-- in four words of 64
module _ (m : List ℕ) (word : ℕ) (set : List ℕ) where
  same-user-bit : (k w : ℕ) → bit w ≡ meet (meet (bit (get_or set k 0)) (users_from m word (64 * k))) (under 64) → (i : ℕ) → i < 64
      → bit w i ≡ meet (bit_at set) (with_user m word) (64 * k + i)
  unfolding users_from meet
  same-user-bit k w e i h =
      let j : k * 64 + i ≡ 64 * k + i = omega arith in
      point e i ∙ meet-in (meet (bit (get_or set k 0)) (users_from m word (64 * k))) 64 i h
      ∙ ap (λ t. t && with_user m word (64 * k + i)) (sym (word-bit set k i h) ∙ ap (bit_at set) j)

  pub same-user-row : Bounded 256 (bit_at set) → (a b c d : ℕ) → bit a ≡ meet (meet (bit (get_or set 0 0)) (users_from m word 0)) (under 64)
      → bit b ≡ meet (meet (bit (get_or set 1 0)) (users_from m word 64)) (under 64)
      → bit c ≡ meet (meet (bit (get_or set 2 0)) (users_from m word 128)) (under 64)
      → bit d ≡ meet (meet (bit (get_or set 3 0)) (users_from m word 192)) (under 64)
      → bit_at (a ∷ b ∷ c ∷ d ∷ []) ≡ meet (bit_at set) (with_user m word)
  same-user-row q a b c d e f g h =
      words_row (meet (bit_at set) (with_user m word)) a b c d (bounded-meet-left q (with_user m word))
      (same-user-bit 0 a e) (same-user-bit 1 b f) (same-user-bit 2 c g) (same-user-bit 3 d h)

-- of a set, those that stand and are of the user
pub asked_ones : (m : List ℕ) (word : ℕ) (set : ℕ → Bool) {standing some row : ℕ → Bool} → standing ≡ containers_stand m → some ≡ meet set standing
    → row ≡ meet some (with_user m word) → row ≡ meet set (of_user m word)
asked_ones m word set e f g = g ∙ ap (λ (s : ℕ → Bool). meet s (with_user m word)) (f ∙ ap (meet set) e) ∙ meet-assoc set (containers_stand m) (with_user m word)

-- where the words are told, a user's containers are those that stand at the places of the word
module _ {m own : List ℕ} (t : OwnWords m 256 own) (word : ℕ) where
  pub user-places : {standing places row : ℕ → Bool} → standing ≡ containers_stand m → places ≡ meet (places_of own word) (under 256)
      → row ≡ meet standing places → row ≡ of_user m word
  unfolding places_of with_user meet
  user-places {standing} {places} e f g = g ∙ fun_ext (λ c. ap (λ (s : ℕ → Bool). s c && places c) e ∙ go c (containers_stand m c) refl)
    where
      go : (c : ℕ) (b : Bool) → containers_stand m c ≡ b → (b && places c) ≡ (b && eqb (user_word m c) word)
      go c true h =
          let l : c < 256 = container-below m c h in
          point f c ∙ meet-in (λ k. eqb (word_at own k) word) 256 c l ∙ ap (λ w. eqb w word) (t.word c l)
      go c false h = refl

-- a user takes a place
module _ {m : List ℕ} {users : Users} (u : UsersOf m users) where
  pub user-met : (place : ℕ) → place < length users.words → place < length users.rows → (word : ℕ) (row : List ℕ) → bit_at row ≡ of_user m word
      → UsersOf m (record { told = users.told; asked = users.asked; own = users.own; words = set users.words place word; rows = set users.rows place row })
  user-met place lw lr word row e = record { own = u.own; row = λ i h n. go i h n (ℕ_discrete i place) }
    where
      go : (i : ℕ) → i < 64 → (word_at (set users.words place word) i ≡ 0 → ⊥) → Dec (i ≡ place)
          → bit_at (get_or (set users.rows place row) i []) ≡ of_user m (word_at (set users.words place word) i)
      go i h n (yes q) =
          ap (λ k. bit_at (get_or (set users.rows place row) k [])) q ∙ ap bit_at (get_or-set_same users.rows place row [] lr) ∙ e
          ∙ ap (of_user m) (sym (ap (word_at (set users.words place word)) q ∙ get_or-set_same users.words place word 0 lw))
      go i h n (no q) =
          let w : word_at (set users.words place word) i ≡ word_at users.words i = get_or-set_other users.words place i word 0 q in
          ap bit_at (get_or-set_other users.rows place i row [] q) ∙ u.row i h (λ z. n (w ∙ z)) ∙ ap (of_user m) (sym w)
