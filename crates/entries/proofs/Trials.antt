-- The trial of a part, and the rows that it gives.
use mathlib.Core.Path.{◌≡◌, refl, sym, ap, ap₂, ◌∙◌, fun_ext, subst}
use mathlib.Core.Bool.{false≢true, Bool, true, false, ◌&&◌, cond}
use mathlib.Core.List.{List, [], ◌∷◌}
use mathlib.Core.Option.{Option, none, some}
use Prim.Native.Nat.{ℕ, ◌+◌, ◌*◌, ◌%◌, ◌^◌, ◌<◌, ◌≤◌}
use native.Mathlib.Nat.{mod-eq_of_lt}
use native.Mathlib.Decide.{dec_lt}
use native.Mathlib.Omega.{arith}
use lib.Dec.{eqb}
use lib.ListN.{get_or}
use Rattle.block.specs.Entry.{Container}
use Rattle.bitrow.specs.Bit.{bit, bit_at}
use Rattle.bitrow.proofs.Words.{bit-above}
use Rattle.bitrow.proofs.Rows.{word-bit}
use Rattle.bitrow.proofs.Sets.{point}
use Rattle.bitrow.specs.Set.{nothing, under, insert, remove, meet, join, Bounded, Lowest}
use Rattle.bitrow.proofs.Sets.{meet-at, under-in, under-out, meet-next, meet-under, bounded-meet-left, nothing-meet, nothing-join, join-nothing, join-comm, insert-join, insert-remove, remove-meet, remove_absent}
use Rattle.model.specs.Table.{on, at, stands}
use Rattle.model.specs.Rules.{matches, selects, allows}
use Rattle.model.specs.Model.{container_slots, policy_slots, selected_bit, allowed_bit}
use Rattle.store.specs.Layout.{containers_start, container_words, select_offset, allow_offset, Whole, word_at, container_start, policy_start}
use Rattle.store.specs.Contents.{tab}
use Rattle.store.proofs.Cases.{by_eqb}
use Rattle.store.proofs.Image.{get_or-tab, tab-beyond}
use Rattle.formed.specs.Words.{part_in, container_in, policy_at, policy_in}
use Rattle.formed.specs.Registry.{model_in}
use Rattle.formed.proofs.Standing.{meet-in, word-zero, words_row}
use Rattle.entries.specs.Entries.{PartWithin, SlotAt, SlotsFormed, SlotsFrom, matching, matching_from, trial_set}

-- ---- parts that lie within the memory

module _ (m : List ℕ) (w : Whole m) (b : SlotsFormed m) where
  pub container-within : (c : ℕ) → c < 256 → PartWithin m (container_start c)
  container-within c h = record { header = omega (arith, w); labels = omega (arith, w, b.container c h) }

  pub select-within : (q : ℕ) → q < 128 → PartWithin m (policy_start q + select_offset)
  select-within q h = record { header = omega (arith, w); labels = omega (arith, w, b.select q h) }

  pub allow-within : (q : ℕ) → q < 128 → PartWithin m (policy_start q + allow_offset)
  allow-within q h = record { header = omega (arith, w); labels = omega (arith, w, b.allow q h) }

  slot_at : (c : ℕ) → c < 256 → SlotAt m (container_start c)
  slot_at c h = record { within = omega (arith, w); head = b.container c h; past = b.past c h }

  -- 64 container slots, of which slot j is the first
  pub slots-from : (j : ℕ) → j + 64 ≤ 256 → SlotsFrom m (container_start j)
  slots-from j h = record {
    slot = λ i l. let e : container_start (j + i) ≡ container_start j + container_words * i = omega arith in subst (SlotAt m) e (slot_at (j + i) (omega arith));
  }

-- ---- four words, each the trial over 64 containers

module _ (m : List ℕ) (part : ℕ) (cs : List ℕ) where
  trial-bit : (k w : ℕ) → bit w ≡ meet (meet (bit (get_or cs k 0)) (matching_from m part (container_start (k * 64)))) (under 64)
      → (i : ℕ) → i < 64 → bit w i ≡ trial_set m part (bit_at cs) (k * 64 + i)
  unfolding matching matching_from
  trial-bit k w e i h =
      let p : container_start (k * 64) + container_words * i ≡ container_start (k * 64 + i) = omega arith in
      point e i ∙ meet-in _ 64 i h ∙ meet-at (bit (get_or cs k 0)) _ i
      ∙ ap₂ ◌&&◌ (sym (word-bit cs k i h)) (ap (λ x. matches (part_in m part) (part_in m x)) p) ∙ sym (meet-at (bit_at cs) _ (k * 64 + i))

  pub trial-row : Bounded 256 (bit_at cs) → (a b c d : ℕ)
      → bit a ≡ meet (meet (bit (get_or cs 0 0)) (matching_from m part containers_start)) (under 64)
      → bit b ≡ meet (meet (bit (get_or cs 1 0)) (matching_from m part (container_start 64))) (under 64)
      → bit c ≡ meet (meet (bit (get_or cs 2 0)) (matching_from m part (container_start 128))) (under 64)
      → bit d ≡ meet (meet (bit (get_or cs 3 0)) (matching_from m part (container_start 192))) (under 64)
      → bit_at (a ∷ b ∷ c ∷ d ∷ []) ≡ trial_set m part (bit_at cs)
  trial-row q a b c d e f g h =
      words_row (trial_set m part (bit_at cs)) a b c d (bounded-meet-left q (matching m part)) (trial-bit 0 a e) (trial-bit 1 b f) (trial-bit 2 c g) (trial-bit 3 d h)

-- ---- those of s that f passes, gathered in rising order

-- none of t from i up to before j
meet-to : (t : ℕ → Bool) (i j : ℕ) → i ≤ j → ((k : ℕ) → i ≤ k → k < j → t k ≡ false) → meet t (under i) ≡ meet t (under j)
meet-to t i j h out = fun_ext λ k. meet-at t (under i) k ∙ go k (dec_lt k i) (dec_lt k j) ∙ sym (meet-at t (under j) k)
  where
    go : (k : ℕ) → Dec (k < i) → Dec (k < j) → (t k && under i k) ≡ (t k && under j k)
    go k (yes a) d = ap (λ b. t k && b) (under-in i k a ∙ sym (under-in j k (omega arith)))
    go k (no a) (yes b) = let e : t k ≡ false = out k (omega arith) b in rw e
    go k (no a) (no b) = ap (λ b. t k && b) (under-out i k (omega arith) ∙ sym (under-out j k (omega arith)))

module _ (s f : ℕ → Bool) (i n j : ℕ) (l : Lowest s i n j) where
  gather-before : (k : ℕ) → i ≤ k → k < j → meet s f k ≡ false
  gather-before k a b = meet-at s f k ∙ ap (λ t. t && f k) (l.before k a b)

  pub gather-take : f j ≡ true → insert j (meet (meet s f) (under i)) ≡ meet (meet s f) (under (j + 1))
  gather-take e =
      meet-next (meet s f) i n j (record { from = l.from; below = l.below; there = meet-at s f j ∙ ap₂ ◌&&◌ l.there e; before = gather-before })

  pub gather-skip : f j ≡ false → meet (meet s f) (under i) ≡ meet (meet s f) (under (j + 1))
  gather-skip e = let h = l.from in meet-to (meet s f) i (j + 1) (omega arith) (λ k a b. go k a (dec_lt k j) b)
    where
      go : (k : ℕ) → i ≤ k → Dec (k < j) → k < j + 1 → meet s f k ≡ false
      go k a (yes b) c = gather-before k a b
      go k a (no b) c =
          let q : k ≡ j = omega arith in
          meet-at s f k ∙ ap₂ ◌&&◌ (ap s q ∙ l.there) (ap f q ∙ e)

-- none of s is left
pub gather-done : (s f : ℕ → Bool) (i n : ℕ) → Bounded n s → i ≤ n → ((k : ℕ) → i ≤ k → k < n → s k ≡ false) → meet (meet s f) (under i) ≡ meet s f
gather-done s f i n b h out =
    meet-to (meet s f) i n h (λ k a c. meet-at s f k ∙ ap (λ t. t && f k) (out k a c))
    ∙ meet-under (bounded-meet-left b f)

-- ---- those of a word that f passes, its lowest bit taken away each time

-- what is chosen, and what f passes of the rest, are together what f passes of the word
pub record Tried (word : ℕ) (f : ℕ → Bool) (chosen rest : ℕ) : Type 0 where
  pub small : rest < 2 ^ 64
  pub all : join (bit chosen) (meet (bit rest) f) ≡ meet (bit word) f

module _ (word : ℕ) (f : ℕ → Bool) (h : word < 2 ^ 64) where
  pub tried-none : Tried word f 0 word
  tried-none = record { small = h; all = ap (λ s. join s (meet (bit word) f)) word-zero ∙ nothing-join (meet (bit word) f) }

  pub tried-all : {chosen rest : ℕ} → Tried word f chosen rest → rest ≤ 0 → bit chosen ≡ meet (meet (bit word) f) (under 64)
  tried-all {chosen} {rest} g l =
      let e : rest ≡ 0 = omega arith in
      let n : meet (bit rest) f ≡ nothing = ap (λ w. meet (bit w) f) e ∙ ap (λ s. meet s f) word-zero ∙ nothing-meet f in
      sym (join-nothing (bit chosen)) ∙ ap (join (bit chosen)) (sym n) ∙ g.all
      ∙ sym (meet-under (bounded-meet-left (record { clear = λ j. bit-above 64 word j h }) f))

module _ {word : ℕ} {f : ℕ → Bool} {chosen rest next k : ℕ} (g : Tried word f chosen rest) (l : Lowest (bit rest) 0 64 k)
    (e : (bit next ≡ remove k (bit rest)) × (next < rest)) where
  abbrev passed : ℕ → Bool
  passed = meet (bit rest) f

  passed-next : meet (bit next) f ≡ remove k passed
  passed-next = ap (λ s. meet s f) e.0 ∙ sym (remove-meet k (bit rest) f)

  pub tried-take : {more : ℕ} {t : Bool} → bit more ≡ insert (k % 64) (bit chosen) → t ≡ f k → t ≡ true → Tried word f more next
  tried-take i p t = record {
    small = omega (arith, g.small, e.1);
    all = ap₂ join (i ∙ ap (λ j. insert j (bit chosen)) (mod-eq_of_lt l.below)) passed-next
        ∙ sym (insert-join k (bit chosen) (remove k passed)) ∙ ap (insert k) (join-comm (bit chosen) (remove k passed)) ∙ insert-join k (remove k passed) (bit chosen)
        ∙ ap (λ s. join s (bit chosen)) (insert-remove k passed (meet-at (bit rest) f k ∙ ap₂ ◌&&◌ l.there (sym p ∙ t))) ∙ join-comm passed (bit chosen) ∙ g.all;
  }

  pub tried-skip : {t : Bool} → t ≡ f k → t ≡ false → Tried word f chosen next
  tried-skip p t = record {
    small = omega (arith, g.small, e.1);
    all = ap (join (bit chosen)) (passed-next ∙ remove_absent k passed (meet-at (bit rest) f k ∙ ap₂ ◌&&◌ l.there (sym p ∙ t))) ∙ g.all;
  }

-- ---- what the memory says at a slot

-- n slots, each free where its head is 0, else with what f gives
module _ {A : Type 0} (n : ℕ) (head : ℕ → ℕ) (f : ℕ → A) where
  abbrev slot : ℕ → Option A
  slot i = cond (eqb (head i) 0) none (some (f i))

  by-slot : (P : Option A → Type 0) (i : ℕ) → P none → (i < n → P (some (f i))) → P (at (tab n slot) i)
  by-slot P i a b = go (dec_lt i n)
    where
      go : Dec (i < n) → P (at (tab n slot) i)
      go (yes h) = subst P (sym (get_or-tab n slot i none h)) (by_eqb (λ t. P (cond t none (some (f i)))) (head i) 0 (λ e. a) (λ o. b h))
      go (no h) = subst P (sym (tab-beyond n slot i none (omega arith))) a

  at_slot : (i : ℕ) → stands (tab n slot) i ≡ true → at (tab n slot) i ≡ some (f i)
  at_slot i = by-slot (λ o. on (λ x. true) o ≡ true → o ≡ some (f i)) i (λ e. absurd (false≢true e)) (λ h e. refl)

  slot-below : (i : ℕ) → stands (tab n slot) i ≡ true → i < n
  slot-below i = by-slot (λ o. on (λ x. true) o ≡ true → i < n) i (λ e. absurd (false≢true e)) (λ h e. h)

  slot-on : (g : A → Bool) (i : ℕ) → (stands (tab n slot) i && g (f i)) ≡ on g (at (tab n slot) i)
  slot-on g i = by-slot (λ o. (on (λ x. true) o && g (f i)) ≡ on g o) i refl (λ h. refl)

module _ (m : List ℕ) where
  abbrev container_head : ℕ → ℕ
  container_head c = word_at m (container_start c)

  abbrev container_part : ℕ → Container
  container_part c = part_in m (container_start c)

  abbrev policy_head : ℕ → ℕ
  policy_head q = word_at m (policy_start q)

  -- a container that stands is the part at its slot
  pub container-at : (c : ℕ) → stands (model_in m).containers c ≡ true → at (model_in m).containers c ≡ some (part_in m (container_start c))
  unfolding model_in container_in
  container-at c = at_slot container_slots container_head container_part c

  pub container-below : (c : ℕ) → stands (model_in m).containers c ≡ true → c < container_slots
  unfolding model_in container_in
  container-below c = slot-below container_slots container_head container_part c

  container-on : (g : Container → Bool) (c : ℕ) → (stands (model_in m).containers c && g (part_in m (container_start c))) ≡ on g (at (model_in m).containers c)
  unfolding model_in container_in
  container-on g c = slot-on container_slots container_head container_part g c

  pub policy-at : (q : ℕ) → stands (model_in m).policies q ≡ true → at (model_in m).policies q ≡ some (policy_at m q)
  unfolding model_in policy_in
  policy-at q = at_slot policy_slots policy_head (policy_at m) q

  pub policy-below : (q : ℕ) → stands (model_in m).policies q ≡ true → q < policy_slots
  unfolding model_in policy_in
  policy-below q = slot-below policy_slots policy_head (policy_at m) q

  -- ---- the trial of a part

  -- over the standing containers
  trial-standing : (part c : ℕ) → trial_set m part (stands (model_in m).containers) c ≡ on (matches (part_in m part)) (at (model_in m).containers c)
  unfolding matching matching_from
  trial-standing part c = meet-at (stands (model_in m).containers) (matching m part) c ∙ container-on (matches (part_in m part)) c

  module _ (q : ℕ) (h : stands (model_in m).policies q ≡ true) where
    -- the trial of a policy's select part over the standing containers is the row of those it selects
    pub select_row : trial_set m (policy_start q + select_offset) (stands (model_in m).containers) ≡ selected_bit (model_in m) q
    unfolding selected_bit selects policy_at
    select_row =
        fun_ext λ c. trial-standing (policy_start q + select_offset) c
        ∙ sym (ap (on (λ p. on (λ x. selects p x) (at (model_in m).containers c))) (policy-at q h))

    -- and that of its allow part the row of those it allows
    pub allow-row : trial_set m (policy_start q + allow_offset) (stands (model_in m).containers) ≡ allowed_bit (model_in m) q
    unfolding allowed_bit allows policy_at
    allow-row =
        fun_ext λ c. trial-standing (policy_start q + allow_offset) c
        ∙ sym (ap (on (λ p. on (λ x. allows p x) (at (model_in m).containers c))) (policy-at q h))
