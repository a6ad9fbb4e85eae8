-- The tests of a part and of a slot pass exactly if the words are those of what they say, and that is valid.
use mathlib.Core.Path.{◌≡◌, refl, sym, ap, ap₂, ◌∙◌}
use mathlib.Core.Bool.{Bool, true, false, ◌&&◌, cond}
use mathlib.Core.List.{List, [], ◌∷◌, map}
use mathlib.Core.Option.{none, some}
use Prim.Native.Nat.{ℕ, zero, suc, ◌+◌, ◌-◌, ◌/◌, ◌%◌, ◌<◌, ◌≤◌}
use native.Mathlib.Nat.{not-suc-le-zero, le_of_suc-le-suc, add-zero}
use native.Mathlib.Omega.{arith}
use lib.Dec.{eqb, ltb, leb}
use lib.ListN.{length, get_or, length-map, get_or-eq_default}
use borrow.Author.Tests.{ltb-true, leb-true, lt-ltb, le-leb, eqb-true, eqb-false, eq-eqb}
use Rattle.block.specs.declared.Direction.TheVariants.{Ingress as ingress, Egress as egress}
use Rattle.block.specs.Entry.{Label, Settings}
use Rattle.block.specs.Reader.{within, direction_of}
use Rattle.block.specs.Written.{direction_number, in_range, all_in_range, rising_after, rising, valid_labels, valid_entry}
use Rattle.model.proofs.Lists.{both}
use Rattle.store.specs.Layout.{container_words, policy_words, part_size, part_offset, select_offset, allow_offset, container_start, policy_start, word_at}
use Rattle.store.proofs.Cases.{by-ltb}
use Rattle.formed.specs.Words.{label_word, part_word, parts_of, container_word, policy_word, label_in, labels_in, part_in, container_in, policy_at, policy_in}
use Rattle.formed.specs.Registry.{valid_container, valid_policy}
use Rattle.formed.specs.Tests.{◌and◌, choose, zeros, label_ok, labels_ok, labels_between, part_ok, container_ok, policy_ok}
use Rattle.formed.proofs.Parts.{label-word, label-bounds, length-labels-in, labels-few}
use Rattle.formed.proofs.Slots.{Words, first_word, direction-small, policy-part-words}
use Rattle.formed.proofs.Runs.{and_left, and_right, and-passes, between-at, between-all}

-- ---- labels

label-valid : (last w : ℕ) → label_ok last w ≡ true → (in_range (label_in w) ≡ true) × (ltb last (label_in w).key ≡ true)
unfolding label_ok in_range within label_in
label-valid last w e =
    let h = both (ltb last (w / 65536)) (leb (w / 65536) 64 && ltb 0 (w % 65536)) e in
    let g = both (leb (w / 65536) 64) (ltb 0 (w % 65536)) h.1 in
    let k = ltb-true last (w / 65536) h.0 in
    let v = ltb-true 0 (w % 65536) g.1 in
    (ap₂ ◌&&◌ (ap₂ ◌&&◌ (le-leb 1 (w / 65536) (omega arith)) g.0) (ap₂ ◌&&◌ (le-leb 1 (w % 65536) (omega arith)) (le-leb (w % 65536) 65535 (omega arith))), h.0)

valid-label : (last w : ℕ) → in_range (label_in w) ≡ true → ltb last (label_in w).key ≡ true → label_ok last w ≡ true
unfolding label_ok label_in
valid-label last w v r =
    let b = label-bounds (label_in w) v in
    ap₂ ◌&&◌ r (ap₂ ◌&&◌ (le-leb (w / 65536) 64 (omega arith)) (lt-ltb 0 (w % 65536) (omega arith)))

module _ (m : List ℕ) where
  labels-valid : (n last i : ℕ) → labels_ok m last i n ≡ true → (all_in_range (labels_in m i n) ≡ true) × (rising_after last (labels_in m i n) ≡ true)
  unfolding label_in
  labels-valid zero last i e = (refl, refl)
  labels-valid (suc n) last i e =
      let h = label-valid last (word_at m i) (and_left _ _ e) in
      let r = labels-valid n (word_at m i / 65536) (i + 1) (and_right _ _ e) in
      (ap₂ ◌&&◌ h.0 r.0, ap₂ ◌&&◌ h.1 r.1)

  valid-labels : (n last i : ℕ) → all_in_range (labels_in m i n) ≡ true → rising_after last (labels_in m i n) ≡ true → labels_ok m last i n ≡ true
  unfolding label_in
  valid-labels zero last i v r = refl
  valid-labels (suc n) last i v r =
      let ls = labels_in m (i + 1) n in
      let w = word_at m i in
      let a = both (in_range (label_in w)) (all_in_range ls) v in
      let b = both (ltb last (w / 65536)) (rising_after (w / 65536) ls) r in
      and-passes _ _ (valid-label last w a.0 b.0) (valid-labels n (w / 65536) (i + 1) a.1 b.1)

rising-after : (ls : List Label) → all_in_range ls ≡ true → rising ls ≡ true → rising_after 0 ls ≡ true
rising-after [] v r = refl
rising-after (l ∷ ls) v r =
    let b = label-bounds l (both (in_range l) (all_in_range ls) v).0 in
    ap₂ ◌&&◌ (lt-ltb 0 l.key (omega arith)) r

after-rising : (ls : List Label) → rising_after 0 ls ≡ true → rising ls ≡ true
after-rising [] r = refl
after-rising (l ∷ ls) r = (both (ltb 0 l.key) (rising_after l.key ls) r).1

words-at : (m : List ℕ) (n s i : ℕ) → i < n → get_or (map label_word (labels_in m s n)) i 0 ≡ word_at m (s + i)
words-at m zero s i h = absurd (not-suc-le-zero h)
words-at m (suc n) s zero h = label-word (word_at m s) ∙ ap (λ k. word_at m k) (sym (add-zero s))
words-at m (suc n) s (suc i) h = words-at m n (s + 1) i (le_of_suc-le-suc h) ∙ ap (λ k. word_at m k) (omega arith)

-- ---- a part

module _ (m : List ℕ) (from : ℕ) where
  part_length : 0 < word_at m from → suc (length (part_in m from)) ≡ word_at m from
  unfolding part_in
  part_length h = omega (arith, length-labels-in m (from + 1) (word_at m from - 1))

  -- a word of the part is a label's, or past the last label
  part-word : (i : ℕ) → i < word_at m from - 1 → part_word (part_in m from) (suc i) ≡ word_at m (from + suc i)
  unfolding part_in part_word
  part-word i h = words-at m (word_at m from - 1) (from + 1) i h ∙ ap (λ k. word_at m k) (omega arith)

  pub past_word : (i : ℕ) → word_at m from - 1 ≤ i → part_word (part_in m from) (suc i) ≡ 0
  unfolding part_in part_word
  past_word i h =
      let ls = labels_in m (from + 1) (word_at m from - 1) in
      get_or-eq_default (map label_word ls) 0 (omega (arith, length-map ls label_word, length-labels-in m (from + 1) (word_at m from - 1)))

  run-labels : labels_between m (from + 1) (from + word_at m from) ≡ labels_ok m 0 (from + 1) (word_at m from - 1)
  run-labels = ap (labels_ok m 0 (from + 1)) e
    where
      e : from + word_at m from - (from + 1) ≡ word_at m from - 1
      e = omega arith

module _ (m : List ℕ) (from limit : ℕ) (ok : part_ok m from limit ≡ true) where
  head-pos : 0 < word_at m from
  unfolding part_ok
  head-pos = ltb-true _ _ (and_left _ _ ok)

  part-valid : valid_labels limit (part_in m from) ≡ true
  unfolding part_ok valid_labels part_in
  part-valid =
      let n = word_at m from - 1 in
      let p = head-pos in
      let q : word_at m from ≤ limit + 1 = leb-true _ _ (and_left _ _ (and_right _ _ ok)) in
      let v = labels-valid m n 0 (from + 1) (sym (run-labels m from) ∙ and_left _ _ (and_right _ _ (and_right _ _ ok))) in
      ap₂ ◌&&◌ (le-leb (length (labels_in m (from + 1) n)) limit (omega (arith, length-labels-in m (from + 1) n)))
      (ap₂ ◌&&◌ v.0 (after-rising (labels_in m (from + 1) n) v.1))

  past-zero : (k : ℕ) → from + word_at m from ≤ k → k < from + 1 + limit → word_at m k ≡ 0
  unfolding part_ok
  past-zero k h l = eqb-true _ _ (between-at (λ i. eqb (word_at m i) 0) _ _ (and_right _ _ (and_right _ _ (and_right _ _ ok))) k h l)

  part-words : Words m from (limit + 1) (part_word (part_in m from))
  unfolding part_word
  part-words zero h = let p = head-pos in ap (λ k. word_at m k) (add-zero from) ∙ sym (part_length m from p)
  part-words (suc i) h =
      let p = head-pos in
      by-ltb (λ t. word_at m (from + suc i) ≡ part_word (part_in m from) (suc i)) i (word_at m from - 1)
      (λ l. sym (part-word m from i l))
      (λ l. past-zero (from + suc i) (omega arith) (omega arith) ∙ sym (past_word m from i l))

module _ (m : List ℕ) (from limit : ℕ) (v : valid_labels limit (part_in m from) ≡ true) (w : Words m from (limit + 1) (part_word (part_in m from))) where
  head-is : word_at m from ≡ suc (length (part_in m from))
  unfolding part_word
  head-is = ap (λ k. word_at m k) (sym (add-zero from)) ∙ w 0 (omega arith)

  part-past : (k : ℕ) → from + word_at m from ≤ k → k < from + 1 + limit → word_at m k ≡ 0
  part-past k a b =
      let h = head-is in
      let i = k - from - 1 in
      let e : k ≡ from + suc i = omega arith in
      ap (λ n. word_at m n) e ∙ w (suc i) (omega arith) ∙ past_word m from i (omega arith)

  part-labels : labels_between m (from + 1) (from + word_at m from) ≡ true
  unfolding part_in valid_labels
  part-labels =
      let ls = labels_in m (from + 1) (word_at m from - 1) in
      let r = both (all_in_range ls) (rising ls) (both (leb (length ls) limit) (all_in_range ls && rising ls) v).1 in
      run-labels m from ∙ valid-labels m (word_at m from - 1) 0 (from + 1) r.0 (rising-after ls r.0 r.1)

  part-passes : part_ok m from limit ≡ true
  unfolding part_ok
  part-passes =
      let h = head-is in
      let few = labels-few limit (part_in m from) v in
      and-passes _ _ (lt-ltb 0 (word_at m from) (omega arith)) (and-passes _ _ (le-leb (word_at m from) (limit + 1) (omega arith))
      (and-passes _ _ part-labels
      (between-all (λ i. eqb (word_at m i) 0) (from + word_at m from) (from + 1 + limit) (λ k a b. eq-eqb _ _ (part-past k a b)))))

-- ---- words that are all zero

zeros-at : (m : List ℕ) (s n : ℕ) → zeros m s (s + n) ≡ true → Words m s n (λ k. 0)
zeros-at m s n e k h = eqb-true _ _ (between-at (λ i. eqb (word_at m i) 0) s (s + n) e (s + k) (omega arith) (omega arith))

zeros-pass : (m : List ℕ) (s n : ℕ) → Words m s n (λ k. 0) → zeros m s (s + n) ≡ true
zeros-pass m s n w =
    between-all (λ i. eqb (word_at m i) 0) s (s + n) (λ k a b. let e : k ≡ s + (k - s) = omega arith in eq-eqb _ _ (ap (λ i. word_at m i) e ∙ w (k - s) (omega arith)))

-- ---- a container's slot

module _ (s : Settings) (m : List ℕ) (c : ℕ) where
  pub container-holds : container_ok m c ≡ true
      → (valid_container s (container_in m c) ≡ true) × Words m (container_start c) container_words (container_word (container_in m c))
  unfolding container_ok container_in choose valid_entry
  container-holds ok = go (eqb (word_at m (container_start c)) 0) ok
    where
      go : (t : Bool) → choose t (zeros m (container_start c) (container_start c + container_words)) (part_ok m (container_start c) 8) ≡ true
          → (valid_container s (cond t none (some (part_in m (container_start c)))) ≡ true)
          × Words m (container_start c) container_words (container_word (cond t none (some (part_in m (container_start c)))))
      go true e = (refl, zeros-at m (container_start c) container_words e)
      go false e = (part-valid m (container_start c) 8 e, part-words m (container_start c) 8 e)

  pub container-passes : valid_container s (container_in m c) ≡ true → Words m (container_start c) container_words (container_word (container_in m c)) → container_ok m c ≡ true
  unfolding container_ok container_in choose valid_entry
  container-passes v w = go (eqb (word_at m (container_start c)) 0) v w
    where
      go : (t : Bool) → valid_container s (cond t none (some (part_in m (container_start c)))) ≡ true
          → Words m (container_start c) container_words (container_word (cond t none (some (part_in m (container_start c)))))
          → choose t (zeros m (container_start c) (container_start c + container_words)) (part_ok m (container_start c) 8) ≡ true
      go true v w = zeros-pass m (container_start c) container_words w
      go false v w = part-passes m (container_start c) 8 v w

-- ---- a policy's slot

-- a direction's number is read back
pub direction-read : (d : ℕ) → (d ≡ 0 → ⊥) → d ≤ 2 → d ≡ direction_number (direction_of d)
unfolding direction_of
direction-read d n h = go (eqb d 1) refl
  where
    go : (t : Bool) → eqb d 1 ≡ t → d ≡ direction_number (cond t ingress egress)
    go true e = eqb-true _ _ e
    go false e = let q = eqb-false d 1 e in omega arith

module _ (m : List ℕ) (q : ℕ) where
  abbrev entry_ok : Bool
  entry_ok = leb (word_at m (policy_start q)) 2 and (part_ok m (policy_start q + select_offset) 4 and part_ok m (policy_start q + allow_offset) 4)

  entry-words : (word_at m (policy_start q) ≡ 0 → ⊥) → entry_ok ≡ true → Words m (policy_start q) policy_words (policy_word (some (policy_at m q)))
  unfolding policy_at
  entry-words n e zero h =
      ap (λ i. word_at m i) (add-zero (policy_start q)) ∙ direction-read (word_at m (policy_start q)) n (leb-true _ _ (and_left _ _ e))
  entry-words n e (suc k) h =
      let i = k / part_size in
      let a : policy_start q + suc k ≡ policy_start q + part_offset i + k % part_size = omega arith in
      ap (λ i. word_at m i) a ∙ part_at i (omega arith) (k % part_size) (omega arith)
    where
      part_at : (i : ℕ) → i < 2 → Words m (policy_start q + part_offset i) part_size (part_word (get_or (parts_of (policy_at m q)) i []))
      part_at zero l = part-words m (policy_start q + select_offset) 4 (and_left _ _ (and_right _ _ e))
      part_at (suc zero) l = part-words m (policy_start q + allow_offset) 4 (and_right _ _ (and_right _ _ e))
      part_at (suc (suc i)) l = absurd (omega arith)

  entry-valid : entry_ok ≡ true → (valid_labels 4 (policy_at m q).select && valid_labels 4 (policy_at m q).allow) ≡ true
  unfolding policy_at
  entry-valid e =
      ap₂ ◌&&◌ (part-valid m (policy_start q + select_offset) 4 (and_left _ _ (and_right _ _ e))) (part-valid m (policy_start q + allow_offset) 4 (and_right _ _ (and_right _ _ e)))

  entry-passes : (valid_labels 4 (policy_at m q).select && valid_labels 4 (policy_at m q).allow) ≡ true
      → Words m (policy_start q) policy_words (policy_word (some (policy_at m q))) → entry_ok ≡ true
  unfolding policy_at
  entry-passes v w =
      let s = policy_start q in
      let n = first_word m s 10 (policy_word (some (policy_at m q))) w in
      let d = direction-small (policy_at m q).direction in
      let b = both (valid_labels 4 (part_in m (s + select_offset))) (valid_labels 4 (part_in m (s + allow_offset))) v in
      and-passes _ _ (le-leb (word_at m s) 2 (omega arith))
      (and-passes _ _ (part-passes m (s + select_offset) 4 b.0 (policy-part-words m q (policy_at m q) w 0 (omega arith)))
      (part-passes m (s + allow_offset) 4 b.1 (policy-part-words m q (policy_at m q) w 1 (omega arith))))

module _ (s : Settings) (m : List ℕ) (q : ℕ) where
  pub policy-holds : policy_ok m q ≡ true
      → (valid_policy s (policy_in m q) ≡ true) × Words m (policy_start q) policy_words (policy_word (policy_in m q))
  unfolding policy_ok policy_in choose valid_entry
  policy-holds ok = go (eqb (word_at m (policy_start q)) 0) refl ok
    where
      go : (t : Bool) → eqb (word_at m (policy_start q)) 0 ≡ t → choose t (zeros m (policy_start q) (policy_start q + policy_words)) (entry_ok m q) ≡ true
          → (valid_policy s (cond t none (some (policy_at m q))) ≡ true) × Words m (policy_start q) policy_words (policy_word (cond t none (some (policy_at m q))))
      go true z e = (refl, zeros-at m (policy_start q) policy_words e)
      go false z e = (entry-valid m q e, entry-words m q (eqb-false _ _ z) e)

  pub policy-passes : valid_policy s (policy_in m q) ≡ true → Words m (policy_start q) policy_words (policy_word (policy_in m q)) → policy_ok m q ≡ true
  unfolding policy_ok policy_in choose valid_entry
  policy-passes v w = go (eqb (word_at m (policy_start q)) 0) v w
    where
      go : (t : Bool) → valid_policy s (cond t none (some (policy_at m q))) ≡ true
          → Words m (policy_start q) policy_words (policy_word (cond t none (some (policy_at m q))))
          → choose t (zeros m (policy_start q) (policy_start q + policy_words)) (entry_ok m q) ≡ true
      go true v w = zeros-pass m (policy_start q) policy_words w
      go false v w = entry-passes m q v w
