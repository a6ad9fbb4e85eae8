-- The policies whose set has a container, gathered word by word.
use mathlib.Core.Path.{◌≡◌, ap, ◌∙◌}
use mathlib.Core.Bool.{Bool, true, false, ◌&&◌, and-true}
use mathlib.Core.List.{[], ◌∷◌}
use Prim.Native.Nat.{ℕ, ◌+◌, ◌%◌, ◌<◌}
use Rattle.bitrow.specs.Bit.{bit, bit_at}
use Rattle.bitrow.specs.Set.{under, insert}
use Rattle.bitrow.proofs.Sets.{under-in, meet-at}
use Rattle.bitrow.proofs.Sets.{point}
use Rattle.formed.proofs.Standing.{meet-in, word_none, word-skip, word-take, two-words}
use Rattle.container_bits.specs.ContainerBits.{holding_set}

module _ (sets : ℕ → ℕ → Bool) (c : ℕ) where
  -- of 64 from a number on, gathered one by one
  module _ (first : ℕ) where
    abbrev those : ℕ → ℕ → Bool
    those k c = sets (first + k) c

    pub holding-none : bit 0 ≡ holding_set 0 those c
    unfolding holding_set
    holding-none = word_none (λ k. those k c)

    pub holding-take : (k w v : ℕ) → bit w ≡ holding_set k those c → k < 64 → bit v ≡ insert (k % 64) (bit w) → sets (first + k) c ≡ true → bit v ≡ holding_set (k + 1) those c
    unfolding holding_set
    holding-take k w v e h f t = word-take (λ k. those k c) k w e v h f t

    pub holding-skip : (k w : ℕ) → bit w ≡ holding_set k those c → sets (first + k) c ≡ false → bit w ≡ holding_set (k + 1) those c
    unfolding holding_set
    holding-skip k w e t = word-skip (λ k. those k c) k w e t

  pub holding-row : (a b : ℕ) → bit a ≡ holding_set 64 (λ k. sets (0 + k)) c → bit b ≡ holding_set 64 (λ k. sets (64 + k)) c → bit_at (a ∷ b ∷ 0 ∷ 0 ∷ []) ≡ holding_set 128 sets c
  unfolding holding_set
  holding-row a b e f =
      two-words (λ q. sets q c) a b (λ i h. point e i ∙ meet-in (λ k. sets (0 + k) c) 64 i h) (λ i h. point f i ∙ meet-in (λ k. sets (64 + k) c) 64 i h)

pub holding-at : (n : ℕ) (s : ℕ → ℕ → Bool) (c q : ℕ) → q < n → holding_set n s c q ≡ s q c
unfolding holding_set
holding-at n s c q h = meet-at (λ i. s i c) (under n) q ∙ ap (λ (t : Bool). s q c && t) (under-in n q h) ∙ and-true (s q c)
