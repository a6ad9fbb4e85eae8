-- Rows of policies: one put in, two joined.
use mathlib.Core.Path.{◌≡◌, refl, sym, ap, ap₂, ◌∙◌, fun_ext}
use mathlib.Core.Bool.{Bool, true, ◌||◌, or-true}
use mathlib.Core.List.{List, [], ◌∷◌}
use Prim.Native.Nat.{ℕ, zero, suc, ◌/◌, ◌%◌, ◌<◌}
use native.Mathlib.Decide.{ℕ_discrete}
use native.Mathlib.Omega.{arith}
use lib.Bits.{bit_or}
use lib.Dec.{eqb}
use lib.ListN.{length, get_or, set, replicate, length-set, length-replicate}
use lib.Seq.{get_or-set_same, get_or-set_other}
use Rattle.std.proofs.lemmas.List.{get_or_past}
use Rattle.bitrow.specs.Bit.{bit, bit_at}
use Rattle.bitrow.specs.Set.{insert, join}
use Rattle.bitrow.proofs.Sets.{point, insert-there}
use Rattle.bitrow.proofs.Words.{bit-or}
use Rattle.sets.specs.Sets.{bits}
use Rattle.selecting.specs.Selecting.{Within, Shaped, Put}

-- ---- tables

two-words : (n c : ℕ) → c < n → length {A = ℕ} (get_or (replicate n (replicate 2 0)) c []) ≡ 2
two-words zero c l = absurd (omega arith)
two-words (suc n) zero l = refl
two-words (suc n) (suc c) l = two-words n c (omega arith)

pub empty-shaped : (n : ℕ) → Shaped n (replicate n (replicate 2 0))
empty-shaped n = record { size = length-replicate n (replicate 2 0); width = two-words n }

pub shaped-set : {n : ℕ} {rows : List (List ℕ)} → Shaped n rows → (c : ℕ) (row : List ℕ) → length row ≡ 2 → Shaped n (set rows c row)
shaped-set {n} {rows} s c row e = record { size = length-set rows c row ∙ s.size; width = λ d l. go d l (ℕ_discrete d c) }
  where
    go : (d : ℕ) → d < n → Dec (d ≡ c) → length (get_or (set rows c row) d []) ≡ 2
    go d l (yes i) = ap (λ k. length (get_or (set rows c row) k [])) i ∙ ap length (get_or-set_same rows c row [] (omega (arith, s.size))) ∙ e
    go d l (no i) = ap length (get_or-set_other rows c d row [] i) ∙ s.width d l

-- ---- a policy put into a row

insert-kept : (i : ℕ) (s : ℕ → Bool) (j : ℕ) → s j ≡ true → insert i s j ≡ true
unfolding insert
insert-kept i s j h = ap (λ t. eqb j i || t) h ∙ or-true (eqb j i)

module _ (r : List ℕ) (b v : ℕ) (h : b / 64 < length r) (e : bit v ≡ insert (b % 64) (bit (get_or r (b / 64) 0))) where
  row-there : bit_at (set r (b / 64) v) b ≡ true
  unfolding bit_at
  row-there = ap (λ (w : ℕ). bit w (b % 64)) (get_or-set_same r (b / 64) v 0 h) ∙ point e (b % 64) ∙ insert-there (b % 64) (bit (get_or r (b / 64) 0))

  row-kept : (q : ℕ) → bit_at r q ≡ true → bit_at (set r (b / 64) v) q ≡ true
  unfolding bit_at
  row-kept q p = go (ℕ_discrete (q / 64) (b / 64))
    where
      go : Dec (q / 64 ≡ b / 64) → bit (get_or (set r (b / 64) v) (q / 64) 0) (q % 64) ≡ true
      go (yes i) =
          ap (λ (k : ℕ). bit (get_or (set r (b / 64) v) k 0) (q % 64)) i
          ∙ ap (λ (w : ℕ). bit w (q % 64)) (get_or-set_same r (b / 64) v 0 h)
          ∙ point e (q % 64)
          ∙ insert-kept (b % 64) (bit (get_or r (b / 64) 0)) (q % 64) (sym (ap (λ (k : ℕ). bit (get_or r k 0) (q % 64)) i) ∙ p)
      go (no n) = ap (λ (w : ℕ). bit w (q % 64)) (get_or-set_other r (b / 64) (q / 64) v 0 n) ∙ p

  pub put-row : Put b r (set r (b / 64) v)
  put-row = record { width = length-set r (b / 64) v; there = row-there; kept = record { each = row-kept } }

-- the same in a table
module _ (rows : List (List ℕ)) (c b : ℕ) (row : List ℕ) (l : c < length rows) (p : Put b (get_or rows c []) row) where
  pub put-there : bits (set rows c row) c b ≡ true
  put-there = ap (λ (r : List ℕ). bit_at r b) (get_or-set_same rows c row [] l) ∙ p.there

  pub put-kept : (d : ℕ) → Within (bits rows d) (bits (set rows c row) d)
  put-kept d = record { each = λ q h. go q h (ℕ_discrete d c) }
    where
      go : (q : ℕ) → bits rows d q ≡ true → Dec (d ≡ c) → bits (set rows c row) d q ≡ true
      go q h (yes i) =
          ap (λ (k : ℕ). bits (set rows c row) k q) i ∙ ap (λ (r : List ℕ). bit_at r q) (get_or-set_same rows c row [] l)
          ∙ p.kept.each q (sym (ap (λ (k : ℕ). bits rows k q) i) ∙ h)
      go q h (no n) = ap (λ (r : List ℕ). bit_at r q) (get_or-set_other rows c d row [] n) ∙ h

-- ---- rows of two words

module _ (a : List ℕ) (p : length a ≡ 2) where
  past : (n : ℕ) → get_or a (suc (suc n)) 0 ≡ 0
  past n = get_or_past a (suc (suc n)) 0 (omega (arith, p))

  -- two words more
  pub wider : bit_at (get_or a 0 0 ∷ get_or a 1 0 ∷ 0 ∷ 0 ∷ []) ≡ bit_at a
  unfolding bit_at
  wider = fun_ext (λ j. ap (λ (w : ℕ). bit w (j % 64)) (word (j / 64)))
    where
      word : (n : ℕ) → get_or (get_or a 0 0 ∷ get_or a 1 0 ∷ 0 ∷ 0 ∷ []) n 0 ≡ get_or a n 0
      word zero = refl
      word (suc zero) = refl
      word (suc (suc zero)) = sym (past zero)
      word (suc (suc (suc zero))) = sym (past (suc zero))
      word (suc (suc (suc (suc n)))) = get_or_past (get_or a 0 0 ∷ get_or a 1 0 ∷ 0 ∷ 0 ∷ []) (suc (suc (suc (suc n)))) 0 (omega arith) ∙ sym (past (suc (suc n)))

  module _ (b : List ℕ) (q : length b ≡ 2) where
    pub either-row : bit_at (bit_or (get_or a 0 0) (get_or b 0 0) ∷ bit_or (get_or a 1 0) (get_or b 1 0) ∷ []) ≡ join (bit_at a) (bit_at b)
    unfolding bit_at join
    either-row = fun_ext (λ j. ap (λ (w : ℕ). bit w (j % 64)) (word (j / 64)) ∙ bit-or (get_or a (j / 64) 0) (get_or b (j / 64) 0) (j % 64))
      where
        word : (n : ℕ) → get_or (bit_or (get_or a 0 0) (get_or b 0 0) ∷ bit_or (get_or a 1 0) (get_or b 1 0) ∷ []) n 0 ≡ bit_or (get_or a n 0) (get_or b n 0)
        word zero = refl
        word (suc zero) = refl
        word (suc (suc n)) =
            get_or_past (bit_or (get_or a 0 0) (get_or b 0 0) ∷ bit_or (get_or a 1 0) (get_or b 1 0) ∷ []) (suc (suc n)) 0 (omega arith)
            ∙ sym (ap₂ bit_or (past n) (get_or_past b (suc (suc n)) 0 (omega (arith, q))))
