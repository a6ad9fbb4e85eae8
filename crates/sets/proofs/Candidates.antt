-- Candidate sets read from a memory: what their loops gather, and that they are the model's.
use mathlib.Core.Path.{◌≡◌, refl, sym, ap, ap₂, ◌∙◌, fun_ext}
use mathlib.Core.Bool.{Bool, true, false, not, ◌&&◌, true≢false}
use mathlib.Core.List.{List, []}
use mathlib.Core.Option.{Option, none, some}
use Rattle.std.specs.Prelude.{Option as Known, Some, None}
use Prim.Native.Nat.{ℕ, zero, suc, ◌+◌, ◌%◌, ◌<◌}
use native.Mathlib.Decide.{ℕ_discrete}
use native.Mathlib.Omega.{arith}
use lib.ListN.{length, get_or, set, replicate, length-set, length-replicate}
use lib.Seq.{get_or-set_same, get_or-set_other}
use borrow.Author.Tests.{eq-eqb, ne_eqb, lt-ltb, not-true}
use Rattle.bitrow.specs.Bit.{bit_at}
use Rattle.bitrow.specs.Set.{nothing, has_some}
use Rattle.bitrow.proofs.Words.{bit-zero}
use Rattle.bitrow.proofs.Rows.{zeros-row}
use Rattle.bitrow.proofs.Tests.{has_some-absent}
use Rattle.model.specs.Table.{on, at, stands}
use Rattle.model.specs.Model.{policy_slots, Model, selected_bit, allowed_bit}
use Rattle.store.specs.Layout.{select_offset, allow_offset, policy_start, word_at}
use Rattle.formed.specs.Registry.{model_in, EntriesFormed}
use Rattle.formed.proofs.Reading.{policy-slot, policy-stands, policy-free}
use Rattle.entries.specs.Entries.{trial_set}
use Rattle.entries.proofs.Trials.{select_row, allow-row}
use Rattle.entries.proofs.FormedEntries.{formed-select, formed-allow}
use Rattle.sets.specs.declared.PolicySets.{PolicySets}
use Rattle.sets.specs.Sets.{bits, RowsAre, Empty, EmptyBut, KnownSets, SetsOf, part_set, PartsWithin}

-- ---- an array of empty rows, and what is past it

empty-row : (n h : ℕ) → bits (replicate n (replicate 4 0)) h ≡ nothing
unfolding bit_at nothing
empty-row zero h = fun_ext (λ i. bit-zero (i % 64))
empty-row (suc n) zero = zeros-row
empty-row (suc n) (suc h) = empty-row n h

four-words : (n q : ℕ) → q < n → length {A = ℕ} (get_or (replicate n (replicate 4 0)) q []) ≡ 4
four-words zero q l = absurd (omega arith)
four-words (suc n) zero l = refl
four-words (suc n) (suc q) l = four-words n q (omega arith)

pub empty-rows : (n : ℕ) → Empty n (replicate n (replicate 4 0))
empty-rows n = record { shape = record { size = length-replicate n (replicate 4 0); width = four-words n }; row = empty-row n }

-- ---- an array of rows, filled from the front

-- of n rows the first p are f's, and row k, where there is one
pub record Filled (n : ℕ) (k : Known ℕ) (f : ℕ → ℕ → Bool) (rows : List (List ℕ)) (p : ℕ) : Type 0 where
  pub size : length rows ≡ n
  pub row : (q : ℕ) → q < p → bits rows q ≡ f q
  pub known : (q : ℕ) → k ≡ Some q → q < n → bits rows q ≡ f q

-- ---- rows that are there before the filling

module _ {n : ℕ} {f : ℕ → ℕ → Bool} {rows : List (List ℕ)} (e : Empty n rows) where
  but-none : EmptyBut n None f rows
  but-none = record { size = e.shape.size; row = λ q i l. cc; others = λ q d. e.row q }

  but-one : {k : ℕ} (row : List ℕ) → k < n → bit_at row ≡ f k → EmptyBut n (Some k) f (set rows k row)
  but-one {k} row h r = record {
    size = length-set rows k row ∙ e.shape.size;
    row = λ q i l. let j : q ≡ k = cc in ap (bits (set rows k row)) j ∙ ap bit_at (get_or-set_same rows k row [] (omega (arith, e.shape.size))) ∙ r ∙ sym (ap f j);
    others = λ q d. ap bit_at (get_or-set_other rows k q row [] (λ j. d (ap Some (sym j)))) ∙ e.row q;
  }

module _ {m : Model} {s : PolicySets} (e : Empty policy_slots s.selected) (f : Empty policy_slots s.allowed) where
  pub none-known : KnownSets m None s
  none-known = record { selected = but-none e; allowed = but-none f }

  pub one_known : {k : ℕ} (x y : List ℕ) → k < policy_slots → bit_at x ≡ selected_bit m k → bit_at y ≡ allowed_bit m k
      → KnownSets m (Some k) (record { selected = set s.selected k x; allowed = set s.allowed k y })
  one_known x y h ex ey = record { selected = but-one e x h ex; allowed = but-one f y h ey }

-- ---- the rows that a memory's policies say

module _ (m : List ℕ) (s : ℕ → Bool) (offset q : ℕ) where
  pub part_free : word_at m (policy_start q) ≡ 0 → nothing ≡ part_set m s offset q
  unfolding nothing part_set
  part_free e = fun_ext (λ c. rw (eq-eqb (word_at m (policy_start q)) 0 e))

  pub part-taken : (word_at m (policy_start q) ≡ 0 → ⊥) → trial_set m (policy_start q + offset) s ≡ part_set m s offset q
  unfolding part_set
  part-taken n = fun_ext (λ c. rw (ne_eqb (word_at m (policy_start q)) 0 n))

module _ (m : List ℕ) (ok : EntriesFormed m) where
  pub selects-within : PartsWithin m select_offset
  selects-within = record { part = formed-select m ok }

  pub allows-within : PartsWithin m allow_offset
  allows-within = record { part = formed-allow m ok }

module _ (m : List ℕ) (q : ℕ) (h : q < policy_slots) where
  abbrev head : ℕ
  head = word_at m (policy_start q)

  abbrev standing : ℕ → Bool
  standing = stands (model_in m).containers

  stands-taken : (head ≡ 0 → ⊥) → stands (model_in m).policies q ≡ true
  stands-taken n = policy-stands m q ∙ ap₂ (λ (x y : Bool). x && not y) (lt-ltb q policy_slots h) (ne_eqb head 0 n)

  none_free : head ≡ 0 → at (model_in m).policies q ≡ none
  none_free e = policy-slot m q h ∙ policy-free m q e

  part-is : (offset : ℕ) {f : ℕ → Bool} → (at (model_in m).policies q ≡ none → f ≡ nothing)
      → (stands (model_in m).policies q ≡ true → trial_set m (policy_start q + offset) standing ≡ f) → part_set m standing offset q ≡ f
  part-is offset {f} a b = go (ℕ_discrete head 0)
    where
      go : Dec (head ≡ 0) → part_set m standing offset q ≡ f
      go (yes e) = sym (part_free m standing offset q e) ∙ sym (a (none_free e))
      go (no n) = sym (part-taken m standing offset q n) ∙ b (stands-taken n)

  pub selected-set : part_set m standing select_offset q ≡ selected_bit (model_in m) q
  unfolding nothing selected_bit
  selected-set = part-is select_offset (λ e. fun_ext (λ c. rw e)) (select_row m q)

  pub allowed-set : part_set m standing allow_offset q ≡ allowed_bit (model_in m) q
  unfolding nothing allowed_bit
  allowed-set = part-is allow_offset (λ e. fun_ext (λ c. rw e)) (allow-row m q)

-- what `fill` finds and leaves, over the standing containers
module _ (m : List ℕ) {s : ℕ → Bool} (e : s ≡ stands (model_in m).containers) {rows : List (List ℕ)} where
  pub selected-known : {k : Known ℕ} → EmptyBut policy_slots k (selected_bit (model_in m)) rows → EmptyBut policy_slots k (part_set m s select_offset) rows
  selected-known r = record { size = r.size; row = λ q i h. r.row q i h ∙ sym (ap (λ t. part_set m t select_offset q) e ∙ selected-set m q h); others = r.others }

  pub allowed-known : {k : Known ℕ} → EmptyBut policy_slots k (allowed_bit (model_in m)) rows → EmptyBut policy_slots k (part_set m s allow_offset) rows
  allowed-known r = record { size = r.size; row = λ q i h. r.row q i h ∙ sym (ap (λ t. part_set m t allow_offset q) e ∙ allowed-set m q h); others = r.others }

  pub selected-rows : RowsAre policy_slots (part_set m s select_offset) rows → RowsAre policy_slots (selected_bit (model_in m)) rows
  selected-rows r = record { row = λ q h. r.row q h ∙ ap (λ t. part_set m t select_offset q) e ∙ selected-set m q h }

  pub allowed-rows : RowsAre policy_slots (part_set m s allow_offset) rows → RowsAre policy_slots (allowed_bit (model_in m)) rows
  allowed-rows r = record { row = λ q h. r.row q h ∙ ap (λ t. part_set m t allow_offset q) e ∙ allowed-set m q h }

-- ---- no policy stands

on-free : {A : Type 0} (f : A → Bool) (o : Option A) → on (λ x. true) o ≡ false → false ≡ on f o
on-free f none e = refl
on-free f (some x) e = absurd (true≢false e)

-- where f has nothing, the rows stand as they are
rows-nothing : {n : ℕ} {k : Known ℕ} {f : ℕ → ℕ → Bool} {rows : List (List ℕ)} → EmptyBut n k f rows → ((q : ℕ) → q < n → nothing ≡ f q) → RowsAre n f rows
rows-nothing {n} {k} {f} {rows} e none-there = record { row = λ q h. go q h k refl }
  where
    other : (q : ℕ) → q < n → (k ≡ Some q → ⊥) → bits rows q ≡ f q
    other q h d = e.others q d ∙ none-there q h

    by_slot : (q j : ℕ) → q < n → k ≡ Some j → Dec (q ≡ j) → bits rows q ≡ f q
    by_slot q j h i (yes d) = e.row q (i ∙ ap Some (sym d)) h
    by_slot q j h i (no d) = other q h (λ l. d (cc))

    go : (q : ℕ) → q < n → (o : Known ℕ) → k ≡ o → bits rows q ≡ f q
    go q h None i = other q h (λ l. cc)
    go q h (Some j) i = by_slot q j h i (ℕ_discrete q j)

module _ (m : Model) (none-stands : not (has_some (stands m.policies)) ≡ true) where
  free : (q : ℕ) → q < policy_slots → on (λ p. true) (at m.policies q) ≡ false
  free q h = has_some-absent (stands m.policies) (not-true _ none-stands) q (omega arith)

  selects-none : (q : ℕ) → q < policy_slots → nothing ≡ selected_bit m q
  unfolding nothing selected_bit
  selects-none q h = fun_ext (λ c. on-free _ (at m.policies q) (free q h))

  allows-none : (q : ℕ) → q < policy_slots → nothing ≡ allowed_bit m q
  unfolding nothing allowed_bit
  allows-none q h = fun_ext (λ c. on-free _ (at m.policies q) (free q h))

  pub sets-none : {k : Known ℕ} {s : PolicySets} → KnownSets m k s → SetsOf m s
  sets-none g = record { selected = rows-nothing g.selected selects-none; allowed = rows-nothing g.allowed allows-none }
