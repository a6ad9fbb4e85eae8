-- A set narrowed by a test at each of some numbers, one after another: left are those that pass at all of them.
use mathlib.Core.Path.{◌≡◌, refl, sym, ap, ap₂, ◌∙◌, fun_ext}
use mathlib.Core.Bool.{Bool, true, false, not, ◌&&◌, and_assoc, and-true, and-false, false≢true}
use mathlib.Core.List.{List}
use Prim.Native.Nat.{ℕ, zero, suc, ◌+◌, ◌*◌, ◌/◌, ◌%◌, ◌<◌}
use native.Mathlib.Decide.{ℕ_discrete}
use native.Mathlib.Omega.{arith}
use lib.Dec.{eqb}
use lib.ListN.{get_or}
use borrow.Author.Tests.{eqb-true, eq-eqb}
use Rattle.bitrow.specs.Bit.{bit, bit_at}
use Rattle.bitrow.specs.Set.{nothing, remove, meet, part}
use Rattle.bitrow.proofs.Sets.{point, nothing-at, remove-there, remove-other}
use Rattle.bitrow.proofs.Tests.{same_test, part-all, part_in-law}
use Rattle.bitrow.proofs.Words.{bit-zero}
use Rattle.model.proofs.Lists.{both}
use Rattle.store.proofs.Cases.{by_eqb}
use Rattle.container_findings.specs.Passes.{word_set, narrowed}

-- ---- all of a set, one by one

module _ (g : ℕ → Bool) where
  part-nothing : part nothing g ≡ true
  part-nothing = part-all nothing g (λ j l e. absurd (false≢true (sym (nothing-at j) ∙ e)))

  part-take : (w : ℕ → Bool) (c : ℕ) → c < 256 → w c ≡ true → (g c && part (remove c w) g) ≡ part w g
  unfolding remove
  part-take w c h e =
      same_test (g c && part (remove c w) g) (part w g)
      (λ p. let q = both (g c) (part (remove c w) g) p in part-all w g (λ j l r. go j l r q.0 q.1 (ℕ_discrete j c)))
      (λ p. ap₂ ◌&&◌ (part_in-law w g p c h e) (part-all (remove c w) g (λ j l r. part_in-law w g p j l (both (not (eqb j c)) (w j) r).1)))
    where
      go : (j : ℕ) → j < 256 → w j ≡ true → g c ≡ true → part (remove c w) g ≡ true → Dec (j ≡ c) → g j ≡ true
      go j l r p q (yes i) = ap g i ∙ p
      go j l r p q (no n) = part_in-law (remove c w) g q j l (remove-other c w j n ∙ r)

-- ---- what is left, narrowed by the rest, is what was there, narrowed by all

pub record Narrowing (f : ℕ → ℕ → Bool) (w before rest now : ℕ → Bool) : Type 0 where
  pub same : narrowed f rest now ≡ narrowed f w before

module _ {f : ℕ → ℕ → Bool} {w before rest now : ℕ → Bool} (g : Narrowing f w before rest now) where
  pub narrowing-take : {c : ℕ} {next left : ℕ → Bool} → c < 256 → rest c ≡ true → next ≡ remove c rest → left ≡ meet now (λ a. f a c) → Narrowing f w before next left
  unfolding narrowed meet
  narrowing-take {c} h e q r = record {
    same = fun_ext (λ a.
        ap₂ (λ (s t : ℕ → Bool). s a && part t (f a)) r q
        ∙ and_assoc (now a) (f a c) (part (remove c rest) (f a))
        ∙ ap (λ t. now a && t) (part-take (f a) rest c h e)
        ∙ point g.same a);
  }

  pub narrowing-all : rest ≡ nothing → now ≡ narrowed f w before
  unfolding narrowed
  narrowing-all e = fun_ext (λ a.
      sym (and-true (now a)) ∙ ap (λ t. now a && t) (sym (ap (λ (s : ℕ → Bool). part s (f a)) e ∙ part-nothing (f a))) ∙ point g.same a)

-- ---- the numbers of a word

module _ (n word : ℕ) where
  pub word-none : word ≡ 0 → word_set n word ≡ nothing
  unfolding word_set
  word-none e = fun_ext (λ j. ap (λ t. eqb (j / 64) n && t) (ap (λ w. bit w (j % 64)) e ∙ bit-zero (j % 64)) ∙ and-false (eqb (j / 64) n) ∙ sym (nothing-at j))

  module _ (k : ℕ) (h : k < 64) where
    pub word-has : bit word k ≡ true → word_set n word (64 * n + k) ≡ true
    unfolding word_set
    word-has e =
        let d : (64 * n + k) / 64 ≡ n = omega arith in
        let m : (64 * n + k) % 64 ≡ k = omega arith in
        ap₂ ◌&&◌ (eq-eqb _ n d) (ap (bit word) m ∙ e)

    pub word-next : (next : ℕ) → bit next ≡ remove k (bit word) → word_set n next ≡ remove (64 * n + k) (word_set n word)
    unfolding word_set
    word-next next e = fun_ext (λ j. go j (ℕ_discrete j (64 * n + k)))
      where
        go : (j : ℕ) → Dec (j ≡ 64 * n + k) → (eqb (j / 64) n && bit next (j % 64)) ≡ remove (64 * n + k) (λ i. eqb (i / 64) n && bit word (i % 64)) j
        go j (yes q) =
            let m : j % 64 ≡ k = omega arith in
            ap (λ t. eqb (j / 64) n && t) (ap (bit next) m ∙ point e k ∙ remove-there k (bit word)) ∙ and-false (eqb (j / 64) n)
            ∙ sym (ap (remove (64 * n + k) (λ i. eqb (i / 64) n && bit word (i % 64))) q ∙ remove-there (64 * n + k) (λ i. eqb (i / 64) n && bit word (i % 64)))
        go j (no m) =
            by_eqb (λ t. (t && bit next (j % 64)) ≡ (t && bit word (j % 64))) (j / 64) n
            (λ d. point e (j % 64) ∙ remove-other k (bit word) (j % 64) (λ i. m (omega arith)))
            (λ d. refl)
            ∙ sym (remove-other (64 * n + k) (λ i. eqb (i / 64) n && bit word (i % 64)) j m)

-- ---- a row by its four words

module _ (r : List ℕ) where
  abbrev pub in_word : ℕ → ℕ → Bool
  in_word n = word_set n (get_or r n 0)

  module _ (g : ℕ → Bool) where
    part_words : part (bit_at r) g ≡ (((part (in_word 0) g && part (in_word 1) g) && part (in_word 2) g) && part (in_word 3) g)
    unfolding bit_at word_set
    part_words =
        same_test _ _
        (λ p. ap₂ ◌&&◌ (ap₂ ◌&&◌ (ap₂ ◌&&◌ (into 0 p) (into 1 p)) (into 2 p)) (into 3 p))
        (λ p. let h = both ((part (in_word 0) g && part (in_word 1) g) && part (in_word 2) g) (part (in_word 3) g) p in
        let i = both (part (in_word 0) g && part (in_word 1) g) (part (in_word 2) g) h.0 in
        let k = both (part (in_word 0) g) (part (in_word 1) g) i.0 in
        part-all (bit_at r) g (λ j l e. back j l e (j / 64) refl k.0 k.1 i.1 h.1))
      where
        into : (n : ℕ) → part (bit_at r) g ≡ true → part (in_word n) g ≡ true
        into n p = part-all (in_word n) g (λ j l e.
            let h = both (eqb (j / 64) n) (bit (get_or r n 0) (j % 64)) e in
            part_in-law (bit_at r) g p j l (ap (λ i. bit (get_or r i 0) (j % 64)) (eqb-true (j / 64) n h.0) ∙ h.1))

        from : (n j : ℕ) → j < 256 → bit_at r j ≡ true → j / 64 ≡ n → part (in_word n) g ≡ true → g j ≡ true
        from n j l e q p = part_in-law (in_word n) g p j l (ap₂ ◌&&◌ (eq-eqb (j / 64) n q) (ap (λ i. bit (get_or r i 0) (j % 64)) (sym q) ∙ e))

        back : (j : ℕ) → j < 256 → bit_at r j ≡ true → (n : ℕ) → j / 64 ≡ n
            → part (in_word 0) g ≡ true → part (in_word 1) g ≡ true → part (in_word 2) g ≡ true → part (in_word 3) g ≡ true → g j ≡ true
        back j l e zero q a b c d = from 0 j l e q a
        back j l e (suc zero) q a b c d = from 1 j l e q b
        back j l e (suc (suc zero)) q a b c d = from 2 j l e q c
        back j l e (suc (suc (suc zero))) q a b c d = from 3 j l e q d
        back j l e (suc (suc (suc (suc n)))) q a b c d = absurd (omega arith)

  pub narrowed-words : (f : ℕ → ℕ → Bool) (s : ℕ → Bool)
      → narrowed f (in_word 3) (narrowed f (in_word 2) (narrowed f (in_word 1) (narrowed f (in_word 0) s))) ≡ narrowed f (bit_at r) s
  unfolding narrowed
  narrowed-words f s = fun_ext (λ a. go (s a) (part (in_word 0) (f a)) (part (in_word 1) (f a)) (part (in_word 2) (f a)) (part (in_word 3) (f a)) ∙ ap (λ t. s a && t) (sym (part_words (f a))))
    where
      go : (x p q t u : Bool) → ((((x && p) && q) && t) && u) ≡ (x && (((p && q) && t) && u))
      go true p q t u = refl
      go false p q t u = refl
