-- Bytes as blocks: the first 512 are the first block.
use mathlib.Core.Path.{◌≡◌, refl, sym, ap, ap₂, ◌∙◌}
use mathlib.Core.List.{List, [], ◌∷◌, ◌++◌, append_assoc, append-nil}
use Prim.Native.Nat.{ℕ, zero, suc, ◌*◌, ◌≤◌, ◌<◌}
use native.Mathlib.Omega.{arith}
use lib.ListN.{length, take, drop, length-drop, length-append, take-append-drop}
use lib.Seq.{length-take-le, take_at, drop_at}
use Rattle.block.specs.Cut.{blocks_by, blocks_of}

-- enough is enough
blocks-enough : (f g : ℕ) (l : List ℕ) → length l ≤ f → length l ≤ g → blocks_by f l ≡ blocks_by g l
unfolding blocks_by
blocks-enough zero zero [] h k = refl
blocks-enough zero (suc g) [] h k = refl
blocks-enough (suc f) zero [] h k = refl
blocks-enough (suc f) (suc g) [] h k = refl
blocks-enough zero g (x ∷ l) h k = absurd (omega arith)
blocks-enough (suc f) zero (x ∷ l) h k = absurd (omega arith)
blocks-enough (suc f) (suc g) (x ∷ l) h k =
    let n = length-drop 512 (x ∷ l) in
    ap (λ (r : List (List ℕ)). take 512 (x ∷ l) ∷ r) (blocks-enough f g (drop 512 (x ∷ l)) (omega (arith, n, h)) (omega (arith, n, k)))

-- the first block, and those of the rest
pub blocks_more : (l : List ℕ) → 0 < length l → blocks_of l ≡ take 512 l ∷ blocks_of (drop 512 l)
unfolding blocks_of blocks_by
blocks_more [] h = absurd (omega arith)
blocks_more (x ∷ l) h =
    ap (λ (r : List (List ℕ)). take 512 (x ∷ l) ∷ r)
    (blocks-enough (length l) (length (drop 512 (x ∷ l))) (drop 512 (x ∷ l)) (omega (arith, length-drop 512 (x ∷ l))) (omega arith))

pub blocks_end : blocks_of [] ≡ []
unfolding blocks_of blocks_by
blocks_end = refl

-- a whole block, and those of what comes after it
pub blocks-first : (b l : List ℕ) → length b ≡ 512 → blocks_of (b ++ l) ≡ b ∷ blocks_of l
blocks-first b l e =
    blocks_more (b ++ l) (omega (arith, length-append b l, e)) ∙ ap₂ (λ (x y : List ℕ). x ∷ blocks_of y) (take_at b l 512 e) (drop_at b l 512 e)

-- ---- whole blocks

pub blocks-count : (k : ℕ) (l : List ℕ) → length l ≡ 512 * k → length (blocks_of l) ≡ k
blocks-count zero [] e = ap length blocks_end
blocks-count zero (x ∷ l) e = absurd (omega arith)
blocks-count (suc k) l e =
    ap length (blocks_more l (omega (arith, e))) ∙ ap suc (blocks-count k (drop 512 l) (omega (arith, length-drop 512 l, e)))

-- one more behind them
pub blocks_last : (k : ℕ) (a b : List ℕ) → length a ≡ 512 * k → length b ≡ 512 → blocks_of (a ++ b) ≡ blocks_of a ++ (b ∷ [])
blocks_last zero [] b e f =
    ap blocks_of (sym (append-nil b)) ∙ blocks-first b [] f ∙ ap (λ (r : List (List ℕ)). b ∷ r) blocks_end ∙ ap (λ (r : List (List ℕ)). r ++ (b ∷ [])) (sym blocks_end)
blocks_last zero (x ∷ a) b e f = absurd (omega arith)
blocks_last (suc k) a b e f =
    let x = take 512 a in
    let y = drop 512 a in
    let n : length x ≡ 512 = length-take-le 512 a (omega (arith, e)) in
    let whole : x ++ y ≡ a = take-append-drop 512 a in
    ap (λ (l : List ℕ). blocks_of (l ++ b)) (sym whole)
    ∙ ap blocks_of (append_assoc x y b)
    ∙ blocks-first x (y ++ b) n
    ∙ ap (λ (r : List (List ℕ)). x ∷ r) (blocks_last k y b (omega (arith, length-drop 512 a, e)) f)
    ∙ ap (λ (r : List (List ℕ)). r ++ (b ∷ [])) (sym (blocks-first x y n) ∙ ap blocks_of whole)
