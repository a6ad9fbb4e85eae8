-- What a memory says at each slot, and what the words of a memory that says entries can be.
use mathlib.Core.Path.{◌≡◌, refl, sym, ap, ◌∙◌}
use mathlib.Core.Bool.{true, not, ◌&&◌, cond}
use mathlib.Core.List.{List}
use mathlib.Core.Option.{Option, none, some}
use Prim.Native.Nat.{ℕ, ◌+◌, ◌^◌, ◌<◌, ◌≤◌}
use native.Mathlib.Omega.{arith}
use lib.Dec.{eqb, ltb}
use lib.ListN.{length}
use borrow.Author.Tests.{lt-ltb, eq-eqb, ne_eqb}
use Rattle.block.specs.Entry.{Container, Policy, Settings}
use Rattle.model.specs.Table.{on, at, stands}
use Rattle.model.specs.Model.{container_slots, policy_slots}
use Rattle.store.specs.Layout.{container_words, policy_words, select_offset, allow_offset, memory_words, rows_start, container_start, policy_start, row_count, selected_row, allowed_row, word_at, row_bit}
use Rattle.store.specs.Contents.{Holds, tab}
use Rattle.store.proofs.Cases.{by-ltb, by_eqb}
use Rattle.store.proofs.Image.{get_or-tab, tab-beyond}
use Rattle.formed.specs.Words.{container_word, policy_word, part_word, settings_in, part_in, container_in, policy_at, policy_in}
use Rattle.formed.specs.Registry.{model_in, bit_within, bits_in, registry_in, stored_bit, contents_of, valid_container, valid_policy, EntriesFormed}
use Rattle.formed.proofs.Parts.{labels-few}
use Rattle.formed.proofs.Slots.{Words, valid-container, valid-policy, direction-small, first_word}
use Rattle.formed.proofs.StoredLaws.{by-table}
use Rattle.formed.proofs.Back.{SettingsBounds, settings-bounds, container-words, policy-words, entry-small}

-- ---- any memory: slots

-- a table read from n slots: slot i is free where its head is 0
module _ {A : Type 0} (n : ℕ) (head : ℕ → ℕ) (entry : ℕ → A) where
  abbrev slots : ℕ → Option A
  slots i = cond (eqb (head i) 0) none (some (entry i))

  slots-stand : (i : ℕ) → stands (tab n slots) i ≡ (ltb i n && not (eqb (head i) 0))
  slots-stand i =
      by-ltb (λ t. stands (tab n slots) i ≡ (t && not (eqb (head i) 0))) i n
      (λ l. ap (on (λ x. true)) (get_or-tab n slots i none l) ∙ by_eqb (λ t. on (λ x. true) (cond t none (some (entry i))) ≡ not t) (head i) 0 (λ e. refl) (λ e. refl))
      (λ l. ap (on (λ x. true)) (tab-beyond n slots i none l))

module _ (m : List ℕ) where
  pub container-slot : (c : ℕ) → c < container_slots → at (model_in m).containers c ≡ container_in m c
  unfolding model_in
  container-slot c h = get_or-tab container_slots (container_in m) c none h

  pub container-beyond : (c : ℕ) → container_slots ≤ c → at (model_in m).containers c ≡ none
  unfolding model_in
  container-beyond c h = tab-beyond container_slots (container_in m) c none h

  pub policy-slot : (q : ℕ) → q < policy_slots → at (model_in m).policies q ≡ policy_in m q
  unfolding model_in
  policy-slot q h = get_or-tab policy_slots (policy_in m) q none h

  pub policy-beyond : (q : ℕ) → policy_slots ≤ q → at (model_in m).policies q ≡ none
  unfolding model_in
  policy-beyond q h = tab-beyond policy_slots (policy_in m) q none h

  pub container-stands : (c : ℕ) → stands (model_in m).containers c ≡ (ltb c container_slots && not (eqb (word_at m (container_start c)) 0))
  unfolding model_in container_in
  container-stands c = slots-stand container_slots (λ i. word_at m (container_start i)) (λ i. part_in m (container_start i)) c

  pub policy-stands : (q : ℕ) → stands (model_in m).policies q ≡ (ltb q policy_slots && not (eqb (word_at m (policy_start q)) 0))
  unfolding model_in policy_in
  policy-stands q = slots-stand policy_slots (λ i. word_at m (policy_start i)) (policy_at m) q

  -- by the head of the slot
  pub container-free : (c : ℕ) → word_at m (container_start c) ≡ 0 → container_in m c ≡ none
  unfolding container_in
  container-free c e = rw (eq-eqb (word_at m (container_start c)) 0 e)

  pub container-taken : (c : ℕ) → (word_at m (container_start c) ≡ 0 → ⊥) → container_in m c ≡ some (part_in m (container_start c))
  unfolding container_in
  container-taken c n = rw (ne_eqb (word_at m (container_start c)) 0 n)

  pub policy-free : (q : ℕ) → word_at m (policy_start q) ≡ 0 → policy_in m q ≡ none
  unfolding policy_in
  policy-free q e = rw (eq-eqb (word_at m (policy_start q)) 0 e)

  pub policy-taken : (q : ℕ) → (word_at m (policy_start q) ≡ 0 → ⊥) → policy_in m q ≡ some (policy_at m q)
  unfolding policy_in
  policy-taken q n = rw (ne_eqb (word_at m (policy_start q)) 0 n)

  -- ---- any memory: stored bits

  bit-within : (n x r y : ℕ) → x < n → y < container_slots → bit_within m n x r y ≡ row_bit m r y
  unfolding bit_within
  bit-within n x r y hx hy = rw (lt-ltb x n hx, lt-ltb y container_slots hy)

  pub matrix-in : (a b : ℕ) → a < container_slots → b < container_slots → (bits_in m).matrix a b ≡ row_bit m a b
  unfolding bits_in
  matrix-in a b ha hb = bit-within container_slots a a b ha hb

  pub selected-in : (q c : ℕ) → q < policy_slots → c < container_slots → (bits_in m).selected q c ≡ row_bit m (selected_row q) c
  unfolding bits_in
  selected-in q c hq hc = bit-within policy_slots q (selected_row q) c hq hc

  pub allowed-in : (q c : ℕ) → q < policy_slots → c < container_slots → (bits_in m).allowed q c ≡ row_bit m (allowed_row q) c
  unfolding bits_in
  allowed-in q c hq hc = bit-within policy_slots q (allowed_row q) c hq hc

-- ---- a memory whose words say entries: of its bits nothing is asked

-- the bits of a memory are always those of what it says
row-stored : (m : List ℕ) (x y : ℕ) → x < row_count → y < container_slots → row_bit m x y ≡ stored_bit (bits_in m) x y
row-stored m x y hx hy =
    by-table (λ z b. row_bit m z y ≡ b) (bits_in m) y (λ a l. sym (matrix-in m a y l hy)) (λ q l. sym (selected-in m q y l hy)) (λ q l. sym (allowed-in m q y l hy)) x hx

pub entries-hold : (m : List ℕ) → EntriesFormed m → Holds m (contents_of (registry_in m))
unfolding contents_of registry_in
entries-hold m ok = record { whole = ok.whole; words = ok.words; bits = row-stored m }

-- the heads of valid slots
container-head : (s : Settings) (o : Option Container) → valid_container s o ≡ true → container_word o 0 ≤ container_words
unfolding part_word
container-head s none v = omega arith
container-head s (some ls) v = omega (arith, labels-few 8 ls (valid-container s ls v))

policy-heads : (s : Settings) (o : Option Policy) → valid_policy s o ≡ true → (policy_word o 0 ≤ 2) × (policy_word o select_offset ≤ 5) × (policy_word o allow_offset ≤ 5)
unfolding part_word
policy-heads s none v = (omega arith, omega arith, omega arith)
policy-heads s (some p) v =
    let f = valid-policy s p v in
    ((direction-small p.direction).1, omega (arith, labels-few 4 p.select f.select), omega (arith, labels-few 4 p.allow f.allow))

module _ (m : List ℕ) (ok : EntriesFormed m) where
  pub formed-whole : length m ≡ memory_words
  formed-whole = ok.whole

  held-container : (c : ℕ) → c < container_slots → Words m (container_start c) container_words (container_word (at (model_in m).containers c))
  unfolding registry_in
  held-container c h = container-words (registry_in m) m (entries-hold m ok) c h

  -- the words of each slot are those of what it holds
  pub formed-container : (c : ℕ) → c < container_slots → Words m (container_start c) container_words (container_word (container_in m c))
  formed-container c h k l = held-container c h k l ∙ ap (λ o. container_word o k) (container-slot m c h)

  held-policy : (q : ℕ) → q < policy_slots → Words m (policy_start q) policy_words (policy_word (at (model_in m).policies q))
  unfolding registry_in
  held-policy q h = policy-words (registry_in m) m (entries-hold m ok) q h

  pub formed-policy : (q : ℕ) → q < policy_slots → Words m (policy_start q) policy_words (policy_word (policy_in m q))
  formed-policy q h k l = held-policy q h k l ∙ ap (λ o. policy_word o k) (policy-slot m q h)

  -- ---- bounds for code that reads them

  pub formed-settings : SettingsBounds (settings_in m)
  unfolding model_in
  formed-settings = settings-bounds (settings_in m) ok.entries.settings

  -- the head of a container is at most one more than its limit
  pub formed-head : (c : ℕ) → c < container_slots → word_at m (container_start c) ≤ container_words
  formed-head c h =
      let o = at (model_in m).containers c in
      omega (
        arith,
        first_word m (container_start c) 8 (container_word o) (held-container c h),
        container-head (model_in m).settings o (ok.entries.container c),
      )

  module _ (q : ℕ) (h : q < policy_slots) where
    abbrev held : Option Policy
    held = at (model_in m).policies q

    held-heads : (policy_word held 0 ≤ 2) × (policy_word held select_offset ≤ 5) × (policy_word held allow_offset ≤ 5)
    held-heads = policy-heads (model_in m).settings held (ok.entries.policy q)

    -- a policy's direction is 0, 1 or 2
    pub formed-direction : word_at m (policy_start q) ≤ 2
    formed-direction = omega (arith, first_word m (policy_start q) 10 (policy_word held) (held-policy q h), held-heads.0)

    -- the heads of its parts are at most 5
    pub formed-parts : (word_at m (policy_start q + select_offset) ≤ 5) × (word_at m (policy_start q + allow_offset) ≤ 5)
    formed-parts = (omega (arith, held-policy q h select_offset (omega arith), held-heads.1), omega (arith, held-policy q h allow_offset (omega arith), held-heads.2))

  -- a word before the rows is small
  pub formed-small : (k : ℕ) → k < rows_start → word_at m k ≤ 2 ^ 23
  formed-small k h = omega (arith, ok.words k h, entry-small (model_in m) ok.entries k)
