-- The tests of words that stand together are those of the same words on their own.
use Rattle.std.proofs.Common.{◌≡◌, ◌∙◌, refl, sym, ap, ap₂, ℕ, zero, suc, ◌+◌, ◌-◌, ◌/◌, ◌≤◌, ◌<◌, Bool, true, false, eqb, ltb, leb, List, length, slice_range, drop, length-take, length-drop, arith}
use Rattle.std.proofs.lemmas.List.{get_or-take, get_or-drop}
use Rattle.std.proofs.Math.Nat.{add-zero}
use borrow.Author.Tests.{ltb-true, leb-true}
use Rattle.store.specs.Layout.{word_at}
use Rattle.formed.specs.Tests.{◌and◌, every, between, zeros, label_ok, labels_ok, labels_between, part_ok}

-- ---- the same words, from other places on

every-same : (f g : ℕ → Bool) (n i j : ℕ) → ((k : ℕ) → k < n → f (i + k) ≡ g (j + k)) → every f i n ≡ every g j n
every-same f g zero i j h = refl
every-same f g (suc n) i j h =
    let e : f i ≡ g j = ap f (sym (add-zero i)) ∙ h 0 (omega arith) ∙ ap g (add-zero j) in
    ap₂ ◌and◌ e
    (every-same f g n (i + 1) (j + 1) (λ k l.
    let p : i + 1 + k ≡ i + suc k = omega arith in
    let q : j + suc k ≡ j + 1 + k = omega arith in
    ap f p ∙ h (suc k) (omega arith) ∙ ap g q))

labels-same : (m s : List ℕ) (n last i j : ℕ) → ((k : ℕ) → k < n → word_at m (i + k) ≡ word_at s (j + k)) → labels_ok m last i n ≡ labels_ok s last j n
labels-same m s zero last i j h = refl
labels-same m s (suc n) last i j h =
    let e : word_at m i ≡ word_at s j = ap (word_at m) (sym (add-zero i)) ∙ h 0 (omega arith) ∙ ap (word_at s) (add-zero j) in
    ap (λ w. label_ok last w and labels_ok m (w / 65536) (i + 1) n) e
    ∙ ap (λ t. label_ok last (word_at s j) and t)
    (labels-same m s n (word_at s j / 65536) (i + 1) (j + 1) (λ k l.
    let p : i + 1 + k ≡ i + suc k = omega arith in
    let q : j + suc k ≡ j + 1 + k = omega arith in
    ap (word_at m) p ∙ h (suc k) (omega arith) ∙ ap (word_at s) q))

-- ---- a slice

module _ (m : List ℕ) (a b : ℕ) (within : b ≤ length m) where
  pub slice-length : length (slice_range m a b) ≡ b - a
  slice-length = omega (arith, length-take (b - a) (drop a m), length-drop a m)

  pub slice-word : (i : ℕ) → i < b - a → word_at (slice_range m a b) i ≡ word_at m (a + i)
  slice-word i h = get_or-take (b - a) (drop a m) i 0 h ∙ get_or-drop a m i 0

  pub zeros-slice : zeros (slice_range m a b) 0 (length (slice_range m a b)) ≡ zeros m a b
  unfolding between
  zeros-slice =
      let s = slice_range m a b in
      let e : length s - 0 ≡ b - a = omega (arith, slice-length) in
      ap (every (λ i. eqb (word_at s i) 0) 0) e
      ∙ every-same (λ i. eqb (word_at s i) 0) (λ i. eqb (word_at m i) 0) (b - a) 0 a (λ k h. let z : 0 + k ≡ k = omega arith in ap (λ w. eqb w 0) (ap (word_at s) z ∙ slice-word k h))

-- ---- a part on its own

and-same : (t : Bool) {a b : Bool} → (t ≡ true → a ≡ b) → (t and a) ≡ (t and b)
unfolding ◌and◌
and-same true h = h refl
and-same false h = refl

module _ (m : List ℕ) (a b limit : ℕ) (e : b ≡ a + 1 + limit) (within : b ≤ length m) where
  abbrev s : List ℕ
  s = slice_range m a b

  word : (i : ℕ) → i < limit + 1 → word_at s i ≡ word_at m (a + i)
  word i h = slice-word m a b within i (omega arith)

  head : word_at s 0 ≡ word_at m a
  head = word 0 (omega arith) ∙ ap (word_at m) (add-zero a)

  module _ (h : ℕ) (some : 0 < h) (few : h ≤ limit + 1) where
    labels-alike : labels_between s (0 + 1) (0 + h) ≡ labels_between m (a + 1) (a + h)
    labels-alike =
        let n : 0 + h - (0 + 1) ≡ h - 1 = omega arith in
        let k : h - 1 ≡ a + h - (a + 1) = omega arith in
        ap (labels_ok s 0 (0 + 1)) n
        ∙ labels-same s m (h - 1) 0 (0 + 1) (a + 1) (λ i l. let q : a + (0 + 1 + i) ≡ a + 1 + i = omega arith in word (0 + 1 + i) (omega arith) ∙ ap (word_at m) q)
        ∙ ap (labels_ok m 0 (a + 1)) k

    zeros-alike : zeros s (0 + h) (0 + 1 + limit) ≡ zeros m (a + h) (a + 1 + limit)
    unfolding between
    zeros-alike =
        let f : ℕ → Bool = λ i. eqb (word_at s i) 0 in
        let g : ℕ → Bool = λ i. eqb (word_at m i) 0 in
        let n : 0 + 1 + limit - (0 + h) ≡ limit + 1 - h = omega arith in
        let k : limit + 1 - h ≡ a + 1 + limit - (a + h) = omega arith in
        ap (every f (0 + h)) n
        ∙ every-same f g (limit + 1 - h) (0 + h) (a + h) (λ i l. let q : a + (0 + h + i) ≡ a + h + i = omega arith in ap (λ w. eqb w 0) (word (0 + h + i) (omega arith) ∙ ap (word_at m) q))
        ∙ ap (every g (a + h)) k

  pub part-slice : part_ok s 0 (length s - 1) ≡ part_ok m a limit
  unfolding part_ok
  part-slice =
      let n : length s - 1 ≡ limit = omega (arith, slice-length m a b within) in
      ap (part_ok s 0) n
      ∙ ap (λ w. ltb 0 w and (leb w (limit + 1) and (labels_between s (0 + 1) (0 + w) and zeros s (0 + w) (0 + 1 + limit)))) head
      ∙ and-same (ltb 0 (word_at m a))
      (λ p. and-same (leb (word_at m a) (limit + 1))
      (λ q. let f = ltb-true 0 (word_at m a) p in let g = leb-true (word_at m a) (limit + 1) q in ap₂ ◌and◌ (labels-alike (word_at m a) f g) (zeros-alike (word_at m a) f g)))
