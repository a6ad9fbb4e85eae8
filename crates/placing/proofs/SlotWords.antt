-- The words of a slot, stored part by part.
use mathlib.Core.Path.{◌≡◌, sym, ap, ap₂, ◌∙◌}
use mathlib.Core.List.{List, []}
use mathlib.Core.Option.{some}
use Prim.Native.Nat.{ℕ, ◌+◌, ◌*◌}
use lib.ListN.{length, get_or, set}
use Rattle.block.specs.Entry.{Policy}
use Rattle.block.specs.Bytes.{byte_at}
use Rattle.block.specs.Reader.{labels_at, direction_of, container_said, policy_said}
use Rattle.block.specs.Written.{direction_number}
use Rattle.store.specs.Layout.{container_words, policy_words, part_size, part_offset, select_offset, allow_offset}
use Rattle.store.specs.Memory.{slot_set}
use Rattle.store.proofs.Stores.{slot-first, length-slot, slot_same, slot-join}
use Rattle.formed.specs.Words.{part_word, parts_of, container_word, policy_word}
use Rattle.formed.proofs.Slots.{policy-part-word}
use Rattle.placing.proofs.Fields.{PolicyFields}

pub long-by : (m e : List ℕ) (start n : ℕ) (f : ℕ → ℕ) → e ≡ slot_set m start n f → length e ≡ length m
long-by m e start n f q = ap length q ∙ length-slot m start n f

pub container-stored : (b m e : List ℕ) (at n : ℕ) → n ≡ byte_at b 1 → e ≡ slot_set m at container_words (part_word (labels_at b 4 n))
    → e ≡ slot_set m at container_words (container_word (some (container_said b)))
unfolding container_said
container-stored b m e at n h q = q ∙ ap (λ (k : ℕ). slot_set m at container_words (part_word (labels_at b 4 k))) h

-- a part stored after what stands before it in the slot
part-joined : (p : Policy) (m : List ℕ) (at i : ℕ)
    → slot_set (slot_set m at (part_offset i) (policy_word (some p))) (at + part_offset i) part_size (part_word (get_or (parts_of p) i [])) ≡ slot_set m at (part_offset i + part_size) (policy_word (some p))
part-joined p m at i =
    slot_same _ (at + part_offset i) part_size _ (λ (k : ℕ). policy_word (some p) (part_offset i + k)) (λ k h. sym (policy-part-word p i k h))
    ∙ slot-join m at (part_offset i) part_size (policy_word (some p))

policy-joined : (p : Policy) (m : List ℕ) (at : ℕ)
    → slot_set (slot_set (set m at (direction_number p.direction)) (at + select_offset) part_size (part_word p.select)) (at + allow_offset) part_size (part_word p.allow)
    ≡ slot_set m at policy_words (policy_word (some p))
policy-joined p m at =
    ap (λ (l : List ℕ). slot_set (slot_set l (at + select_offset) part_size (part_word p.select)) (at + allow_offset) part_size (part_word p.allow)) (slot-first m at (policy_word (some p)))
    ∙ ap (λ (l : List ℕ). slot_set l (at + allow_offset) part_size (part_word p.allow)) (part-joined p m at 0)
    ∙ part-joined p m at 1

pub policy-stored : (b m e1 e2 : List ℕ) (at d s a : ℕ) → PolicyFields b → d ≡ byte_at b 1 → s ≡ byte_at b 2 → a ≡ byte_at b 3
    → e1 ≡ slot_set (set m at d) (at + select_offset) part_size (part_word (labels_at b 4 s))
    → e2 ≡ slot_set e1 (at + allow_offset) part_size (part_word (labels_at b (4 + 4 * s) a)) → e2 ≡ slot_set m at policy_words (policy_word (some (policy_said b)))
unfolding policy_said
policy-stored b m e1 e2 at d s a f hd hs ha p q =
    let n : d ≡ direction_number (direction_of (byte_at b 1)) = hd ∙ f.direction in
    let l : labels_at b 4 s ≡ labels_at b 4 (byte_at b 2) = ap (labels_at b 4) hs in
    let k : labels_at b (4 + 4 * s) a ≡ labels_at b (4 + 4 * byte_at b 2) (byte_at b 3) = ap₂ (λ (x y : ℕ). labels_at b (4 + 4 * x) y) hs ha in
    cc (policy-joined (policy_said b) m at)
