-- The words of entries that go into a block: what they can be, and that their labels find room.
use mathlib.Core.Path.{◌≡◌, ap, ◌∙◌}
use mathlib.Core.List.{List}
use lib.ListN.{length, get_or}
use mathlib.Core.Option.{some}
use Prim.Native.Nat.{ℕ, ◌+◌, ◌*◌, ◌-◌, ◌<◌, ◌≤◌}
use native.Mathlib.Omega.{arith}
use Rattle.block.specs.Written.{direction_number}
use Rattle.model.specs.Model.{container_slots, policy_slots}
use Rattle.store.specs.Layout.{word_at, rows_start, container_words, policy_words, part_size, select_offset, allow_offset, container_start, policy_start}
use Rattle.formed.specs.Words.{part_word, policy_word, policy_at, settings_in}
use Rattle.formed.specs.Registry.{EntriesFormed}
use Rattle.formed.proofs.Reading.{policy-taken, formed-policy, formed-head, formed-direction, formed-parts, formed-small, formed-settings}
use Rattle.formed.proofs.EntryTests.{direction-read}
use Rattle.entries.specs.Entries.{PartWithin, label_words}
use Rattle.entries.proofs.PartLabels.{label-count, label-before, nth-label}
use Rattle.entries.proofs.Trials.{container-within, select-within, allow-within}
use Rattle.entries.proofs.FormedEntries.{formed-slots}
use Rattle.entry_blocks.specs.Labels.{LabelsFit}

-- what a policy that stands has: its direction, and the headers of its parts
pub record PolicyHeads (m : List ℕ) (q : ℕ) : Type 0 where
  pub direction : word_at m (policy_start q) ≤ 2
  pub select : (1 ≤ word_at m (policy_start q + select_offset)) × (word_at m (policy_start q + select_offset) ≤ part_size)
  pub allow : (1 ≤ word_at m (policy_start q + allow_offset)) × (word_at m (policy_start q + allow_offset) ≤ part_size)

module _ (m : List ℕ) (ok : EntriesFormed m) where
  pub settings-small : (word_at m 0 ≤ 64) × (word_at m 1 ≤ 64) × (word_at m 2 ≤ 65535)
  unfolding settings_in
  settings-small = let b = formed-settings m ok in (b.user.1, b.key, b.value)

  -- the labels of a part of at most n words that stands before the rows
  fits : (part at n : ℕ) → PartWithin m part → word_at m part ≤ n → part + n ≤ rows_start → at + 4 * n ≤ 510 → {words : List ℕ} → words ≡ label_words m part → LabelsFit words at
  fits part at n w h l r {words} e = record {
    room = omega (arith, ap length e, label-count m part w);
    small = λ k b.
        let k-in : k < length (label_words m part) = omega (arith, ap length e) in
        omega (arith, ap (λ v. get_or v k 0) e, nth-label m part w k k-in, formed-small m ok (part + 1 + k) (omega (arith, label-before m part w k k-in)));
  }

  pub container-fits : (c : ℕ) → c < container_slots → {words : List ℕ} → words ≡ label_words m (container_start c) → LabelsFit words 4
  container-fits c h = fits (container_start c) 4 container_words (container-within m ok.whole (formed-slots m ok) c h) (formed-head m ok c h) (omega arith) (omega arith)

  -- how many labels
  pub container-count : (c : ℕ) → c < container_slots → {words : List ℕ} → words ≡ label_words m (container_start c) → length words ≡ word_at m (container_start c) - 1
  container-count c h e = ap length e ∙ label-count m (container_start c) (container-within m ok.whole (formed-slots m ok) c h)

  module _ (q : ℕ) (h : q < policy_slots) where
    pub select-within-it : PartWithin m (policy_start q + select_offset)
    select-within-it = select-within m ok.whole (formed-slots m ok) q h

    pub allow-within-it : PartWithin m (policy_start q + allow_offset)
    allow-within-it = allow-within m ok.whole (formed-slots m ok) q h

    module _ {words : List ℕ} where
      pub select-fits : words ≡ label_words m (policy_start q + select_offset) → LabelsFit words 4
      select-fits = fits (policy_start q + select_offset) 4 part_size select-within-it (formed-parts m ok q h).0 (omega arith) (omega arith)

      pub allow-fits : (at : ℕ) → at ≤ 20 → words ≡ label_words m (policy_start q + allow_offset) → LabelsFit words at
      allow-fits at l = fits (policy_start q + allow_offset) at part_size allow-within-it (formed-parts m ok q h).1 (omega arith) (omega arith)

      pub select-count : words ≡ label_words m (policy_start q + select_offset) → length words ≡ word_at m (policy_start q + select_offset) - 1
      select-count e = ap length e ∙ label-count m (policy_start q + select_offset) select-within-it

      pub allow-count : words ≡ label_words m (policy_start q + allow_offset) → length words ≡ word_at m (policy_start q + allow_offset) - 1
      allow-count e = ap length e ∙ label-count m (policy_start q + allow_offset) allow-within-it

    -- a policy that stands
    module _ (s : 0 < word_at m (policy_start q)) where
      pub standing-direction : word_at m (policy_start q) ≡ direction_number (policy_at m q).direction
      unfolding policy_at
      standing-direction = direction-read (word_at m (policy_start q)) (λ z. omega arith) (formed-direction m ok q h)

      standing-word : (k : ℕ) → k < policy_words → word_at m (policy_start q + k) ≡ policy_word (some (policy_at m q)) k
      standing-word k l = formed-policy m ok q h k l ∙ ap (λ o. policy_word o k) (policy-taken m q (λ z. omega arith))

      pub standing-heads : PolicyHeads m q
      unfolding part_word
      standing-heads = record {
        direction = formed-direction m ok q h;
        select = (omega (arith, standing-word select_offset (omega arith)), (formed-parts m ok q h).0);
        allow = (omega (arith, standing-word allow_offset (omega arith)), (formed-parts m ok q h).1);
      }
