-- One bit of a word, and one bit of a row, changed.
use mathlib.Core.Path.{◌≡◌, refl, sym, ap, ap₂, ◌∙◌}
use mathlib.Core.Bool.{Bool, true, false, not, ◌&&◌, ◌||◌, cond}
use mathlib.Core.List.{List}
use Prim.Native.Nat.{ℕ, ◌-◌, ◌*◌, ◌/◌, ◌%◌, ◌^◌, ◌<◌}
use native.Mathlib.Omega.{arith}
use lib.Bits.{bit_and, bit_or}
use lib.Dec.{eqb}
use lib.Pow.{pow-lt}
use lib.Seq.{get_or-set_same, get_or-set_other}
use borrow.Author.Tests.{eq-eqb, ne_eqb}
use Rattle.bitrow.specs.Bit.{bit}
use Rattle.bitrow.proofs.Words.{bit-and, bit-or, bit_not, bit-pow, one_shl}
use Rattle.store.specs.Layout.{row_count, Whole, word_at, row_bit}
use Rattle.store.specs.Memory.{with_bit, bit_word, bit_set, changed}
use Rattle.store.proofs.Cases.{by_eqb}

rem_lt : (n : ℕ) → n % 64 < 64
rem_lt n = omega arith

-- `1 << (i % 64)`
abbrev mask : ℕ → ℕ
mask i = 1 * 2 ^ (i % 64) % 18446744073709551616

-- `word | mask` and `word & !mask`
pub bit-put : (w i : ℕ) (v : Bool) → v ≡ true → bit_or w (mask i) ≡ with_bit w (i % 64) v
unfolding with_bit
bit-put w i true e = ap (bit_or w) (one_shl 64 (i % 64) (rem_lt i))
bit-put w i false e = absurd (mathlib.Core.Bool.false≢true e)

pub bit_cut : (w i : ℕ) (v : Bool) → v ≡ false → bit_and w (18446744073709551615 - mask i) ≡ with_bit w (i % 64) v
unfolding with_bit
bit_cut w i true e = absurd (mathlib.Core.Bool.true≢false e)
bit_cut w i false e = ap (λ (x : ℕ). bit_and w (18446744073709551615 - x)) (one_shl 64 (i % 64) (rem_lt i))

-- a bit of the changed word
bit-with : (w i : ℕ) (v : Bool) (j : ℕ) → i < 64 → j < 64 → bit (with_bit w i v) j ≡ cond (eqb j i) v (bit w j)
unfolding with_bit
bit-with w i true j hi hj = bit-or w (2 ^ i) j ∙ ap (λ (b : Bool). bit w j || b) (bit-pow i j) ∙ go (bit w j) (eqb j i)
  where
    go : (x e : Bool) → (x || e) ≡ cond e true x
    go true true = refl
    go true false = refl
    go false true = refl
    go false false = refl
bit-with w i false j hi hj =
    bit-and w (2 ^ 64 - 1 - 2 ^ i) j
    ∙ ap (λ (b : Bool). bit w j && b) (bit_not 64 (2 ^ i) j (pow-lt hi) hj ∙ ap not (bit-pow i j))
    ∙ go (bit w j) (eqb j i)
  where
    go : (x e : Bool) → (x && not e) ≡ cond e false x
    go true true = refl
    go true false = refl
    go false true = refl
    go false false = refl

-- ---- one bit of a row

same-eqb : (a b c d : ℕ) → (a ≡ b → c ≡ d) → (c ≡ d → a ≡ b) → eqb a b ≡ eqb c d
same-eqb a b c d f g = by_eqb (λ t. t ≡ eqb c d) a b (λ e. sym (eq-eqb c d (f e))) (λ n. sym (ne_eqb c d (λ q. n (g q))))

-- a bit of the memory with bit b of row x changed
pub row-bit-set : (m : List ℕ) (x b : ℕ) (v : Bool) (r y : ℕ) → Whole m → x < row_count → b < 256 → y < 256
    → row_bit (bit_set m x b v) r y ≡ cond (eqb r x) (changed b v (row_bit m x)) (row_bit m r) y
unfolding row_bit bit_set changed
row-bit-set m x b v r y whole hx hb hy =
    by_eqb (λ t. bit (word_at (bit_set m x b v) (bit_word r y)) (y % 64) ≡ cond t (changed b v (row_bit m x)) (row_bit m r) y) r x
    (λ e. by_eqb (λ t. bit (word_at (bit_set m x b v) (bit_word r y)) (y % 64) ≡ cond (eqb y b) v (bit (word_at m (bit_word x y)) (y % 64))) (y / 64) (b / 64)
    (λ q. let p : bit_word r y ≡ bit_word x b = omega arith in
    let s : bit_word x b ≡ bit_word x y = omega arith in
    ap (λ (k : ℕ). bit (word_at (bit_set m x b v) k) (y % 64)) p
    ∙ ap (λ (w : ℕ). bit w (y % 64)) (get_or-set_same m (bit_word x b) _ 0 (omega arith))
    ∙ bit-with (word_at m (bit_word x b)) (b % 64) v (y % 64) (rem_lt b) (rem_lt y)
    ∙ ap₂ (λ (t : Bool) (k : ℕ). cond t v (bit (word_at m k) (y % 64))) (same-eqb (y % 64) (b % 64) y b (λ d. omega arith) (λ d. omega arith)) s)
    (λ n. ap (λ (w : ℕ). bit w (y % 64)) (get_or-set_other m (bit_word x b) (bit_word r y) _ 0 (λ d. n (omega arith)))
    ∙ ap (λ (k : ℕ). bit (word_at m k) (y % 64)) (ap (λ (k : ℕ). bit_word k y) e)
    ∙ ap (λ (t : Bool). cond t v (bit (word_at m (bit_word x y)) (y % 64))) (sym (ne_eqb y b (λ d. n (ap (λ (k : ℕ). k / 64) d))))))
    (λ n. ap (λ (w : ℕ). bit w (y % 64)) (get_or-set_other m (bit_word x b) (bit_word r y) _ 0 (λ d. n (omega arith))))
