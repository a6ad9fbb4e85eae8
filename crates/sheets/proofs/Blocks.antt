-- Bytes as blocks, however they came.
use mathlib.Core.Path.{◌≡◌, refl, sym, ap, ap₂, ◌∙◌}
use mathlib.Core.List.{List, [], ◌∷◌, ◌++◌, append-nil}
use Prim.Native.Nat.{ℕ, zero, suc, ◌+◌, ◌*◌, ◌≤◌, ◌<◌}
use native.Mathlib.Omega.{arith}
use lib.ListN.{length, take, drop, length-drop, length-append}
use lib.Seq.{take_all, take-append-le, drop-append-le, take-append-add, drop-append-add}
use Rattle.block.specs.Cut.{blocks_of}
use Rattle.block.proofs.Cut.{blocks_more, blocks_end}

pub no_bytes : {A : Type 0} (l : List A) → length l ≡ 0 → l ≡ []
no_bytes [] e = refl
no_bytes (x ∷ l) e = absurd (omega arith)

-- j whole blocks, and those of what comes after them
pub blocks-several : (j : ℕ) (s l : List ℕ) → length s ≡ 512 * j → blocks_of (s ++ l) ≡ blocks_of s ++ blocks_of l
blocks-several zero s l e =
    let z = no_bytes s (omega (arith, e)) in
    ap (λ (x : List ℕ). blocks_of (x ++ l)) z ∙ ap (λ (x : List (List ℕ)). x ++ blocks_of l) (sym (ap blocks_of z ∙ blocks_end))
blocks-several (suc j) s l e =
    let h : 512 ≤ length s = omega (arith, e) in
    blocks_more (s ++ l) (let a = length-append s l in omega (arith, a, h))
    ∙ ap₂ (λ (x y : List ℕ). x ∷ blocks_of y) (take-append-le 512 s l h) (drop-append-le 512 s l h)
    ∙ ap (λ (x : List (List ℕ)). take 512 s ∷ x) (blocks-several j (drop 512 s) l (let d = length-drop 512 s in omega (arith, d, e)))
    ∙ ap (λ (x : List (List ℕ)). x ++ blocks_of l) (sym (blocks_more s (omega (arith, h))))

-- the first n bytes of a piece p complete a block that was started with s; q comes after the piece
module _ (s p q : List ℕ) (n : ℕ) (h : n ≤ length p) where
  whole_take : length s + n ≡ 512 → take 512 (s ++ (p ++ q)) ≡ s ++ take n p
  whole_take e = ap (λ i. take i (s ++ (p ++ q))) (sym e) ∙ take-append-add s (p ++ q) n ∙ ap (λ (x : List ℕ). s ++ x) (take-append-le n p q h)

  whole_drop : length s + n ≡ 512 → drop 512 (s ++ (p ++ q)) ≡ drop n p ++ q
  whole_drop e = ap (λ i. drop i (s ++ (p ++ q))) (sym e) ∙ drop-append-add s (p ++ q) n ∙ drop-append-le n p q h

  -- a whole block
  pub blocks-whole : length s + n ≡ 512 → blocks_of (s ++ (p ++ q)) ≡ (s ++ take n p) ∷ blocks_of (drop n p ++ q)
  blocks-whole e =
      let l = length-append s (p ++ q) in
      let k = length-append p q in
      blocks_more (s ++ (p ++ q)) (omega (arith, l, k, h, e)) ∙ ap₂ (λ (x y : List ℕ). x ∷ blocks_of y) (whole_take e) (whole_drop e)

  piece-taken-whole : n ≡ length p → take n p ≡ p
  piece-taken-whole e = take_all n p (omega (arith, e))

  piece-none-left : n ≡ length p → drop n p ≡ []
  piece-none-left e = no_bytes (drop n p) (omega (arith, length-drop n p, e))

  -- a short last block, which ends with the piece
  pub blocks-short : q ≡ [] → n ≡ length p → length s + n < 512 → 0 < length s + n → blocks_of (s ++ (p ++ q)) ≡ (s ++ take n p) ∷ blocks_of (drop n p ++ q)
  blocks-short z e w v =
      let l = length-append s p in
      let all : length (s ++ p) ≤ 512 = omega (arith, l, e, w) in
      ap (λ (x : List ℕ). blocks_of (s ++ x)) (ap (λ (x : List ℕ). p ++ x) z ∙ append-nil p)
      ∙ blocks_more (s ++ p) (omega (arith, l, e, v))
      ∙ ap₂ (λ (x y : List ℕ). x ∷ blocks_of y) (take_all 512 (s ++ p) all ∙ ap (λ (x : List ℕ). s ++ x) (sym (piece-taken-whole e)))
      (no_bytes (drop 512 (s ++ p)) (omega (arith, length-drop 512 (s ++ p), all)) ∙ sym (ap₂ (λ (x y : List ℕ). x ++ y) (piece-none-left e) z))
