-- How many pairs are set, row by row, and how many slots stand.
use mathlib.Core.Path.{◌≡◌, refl, sym, ap, ap₂, ◌∙◌}
use mathlib.Core.Bool.{Bool, true, false, cond}
use mathlib.Core.List.{List, [], ◌∷◌}
use mathlib.Core.Option.{none, some}
use Prim.Native.Nat.{ℕ, zero, suc, ◌+◌, ◌*◌, ◌-◌, ◌<◌, ◌≤◌}
use native.Mathlib.Nat.{add-zero, zero-add, add-suc, suc-add}
use native.Mathlib.Numerals.{add-one, one-add}
use native.Mathlib.Omega.{arith}
use lib.ListN.{length}
use Rattle.bitrow.specs.Bit.{bit_at}
use Rattle.bitrow.specs.Set.{nothing, one, size}
use Rattle.bitrow.proofs.Sizes.{size-zero, size_low, size-le, size-cong, size-nothing}
use Rattle.model.specs.Table.{Table, stands, count, up_from, below, standing_from, standing}
use Rattle.model.specs.Model.{container_slots, Bits}
use Rattle.model.specs.Findings.{pairs_in, pairs}
use Rattle.store.specs.Layout.{row_at}
use Rattle.store.proofs.Image.{length-tab}
use Rattle.entries.specs.Tables.{Tabled, slot_in}
use Rattle.formed.specs.Registry.{bits_in}
use Rattle.formed.proofs.StoredLaws.{matrix-row}

-- ---- how many pairs

one-cond : (b : Bool) → cond b 1 0 ≡ one b
one-cond true = refl
one-cond false = refl

count-up : (f : ℕ → Bool) (n i : ℕ) → count f (up_from i n) ≡ size (λ k. f (i + k)) n
count-up f zero i = sym (size-zero (λ k. f (i + k)))
count-up f (suc n) i =
    ap₂ (λ (x y : ℕ). x + y) (one-cond (f i) ∙ ap (λ (k : ℕ). one (f k)) (sym (add-zero i)))
    (count-up f n (suc i) ∙ size-cong _ _ n (λ k l. ap f (suc-add i k ∙ sym (add-suc i k))))
    ∙ sym (size_low (λ k. f (i + k)) n)

count-below : (f : ℕ → Bool) (n : ℕ) → count f (below n) ≡ size f n
count-below f n = count-up f n 0 ∙ size-cong _ _ n (λ k l. ap f (zero-add k))

-- the set bits of the n rows from a on, each of w bits
unfoldable pub pairs_from : (ℕ → ℕ → Bool) → ℕ → ℕ → ℕ → ℕ
pairs_from f w a n = pairs_in f (up_from a n) (below w)

-- those of the rows before a are counted
pub record Counting (f : ℕ → ℕ → Bool) (w n total a : ℕ) : Type 0 where
  pub most : a ≤ n
  pub few : total ≤ w * a
  pub rest : total + pairs_from f w a (n - a) ≡ pairs_from f w 0 n

pub counting-none : {f : ℕ → ℕ → Bool} {w n : ℕ} → Counting f w n 0 0
counting-none {f} {w} {n} = record { most = omega arith; few = omega arith; rest = let d : n - 0 ≡ n = omega arith in zero-add (pairs_from f w 0 (n - 0)) ∙ ap (pairs_from f w 0) d }

pairs_next : (f : ℕ → ℕ → Bool) (w a n : ℕ) → pairs_from f w a (suc n) ≡ size (f a) w + pairs_from f w (a + 1) n
unfolding pairs_from
pairs_next f w a n = ap (λ (x : ℕ). x + pairs_in f (up_from (suc a) n) (below w)) (count-below (f a) w) ∙ ap (λ (k : ℕ). size (f a) w + pairs_in f (up_from k n) (below w)) (sym (add-one a))

pairs-done : (f : ℕ → ℕ → Bool) (w a : ℕ) → pairs_from f w a 0 ≡ 0
unfolding pairs_from
pairs-done f w a = refl

module _ {f : ℕ → ℕ → Bool} {w n total a : ℕ} (g : Counting f w n total a) where
  pub counting-next : {k : ℕ} → a < n → k ≡ size (f a) w → Counting f w n (total + k) (a + 1)
  counting-next {k} h e =
      let d : n - a ≡ suc (n - (a + 1)) = omega arith in
      record {
        most = omega arith;
        few = omega (arith, g.few, size-le (f a) w);
        rest = omega (arith, g.rest, ap (pairs_from f w a) d, pairs_next f w a (n - (a + 1)));
      }

  counting-all : n ≤ a → total ≡ pairs_from f w 0 n
  counting-all h = let d : n - a ≡ 0 = omega arith in omega (arith, g.rest, ap (pairs_from f w a) d, pairs-done f w a)

pub pairs-counted : (s : Bits) {total a : ℕ} → Counting s.matrix container_slots container_slots total a → container_slots ≤ a → total ≡ pairs s
unfolding pairs pairs_from
pairs-counted s g h = counting-all g h

-- `count(row_at(memory, a))`
pub row-counted : (m : List ℕ) (a : ℕ) {row : List ℕ} {k : ℕ} → row ≡ row_at m a → k ≡ size (bit_at row) 256 → a < container_slots → k ≡ size ((bits_in m).matrix a) 256
row-counted m a e f h = f ∙ ap (λ (s : ℕ → Bool). size s 256) (ap bit_at e ∙ matrix-row m a h)

-- ---- how many slots stand

standing-size : {A : Type 0} (t : Table A) (i n : ℕ) → length t ≤ n → length (standing_from i t) ≡ size (stands t) n
unfolding nothing
standing-size [] i n h = sym (size-nothing n)
standing-size (x ∷ t) i zero h = absurd (omega arith)
standing-size (none ∷ t) i (suc n) h = standing-size t (suc i) n (omega arith) ∙ sym (zero-add (size (stands t) n)) ∙ sym (size_low (stands (none ∷ t)) n)
standing-size (some x ∷ t) i (suc n) h = ap suc (standing-size t (suc i) n (omega arith)) ∙ sym (one-add (size (stands t) n)) ∙ sym (size_low (stands (some x ∷ t)) n)

-- `count` of a row that has the standing slots
standing-counted : {A : Type 0} (t : Table A) (row : List ℕ) {k : ℕ} → length t ≤ 256 → bit_at row ≡ stands t → k ≡ size (bit_at row) 256 → k ≡ length (standing t)
standing-counted t row h e f = f ∙ ap (λ (s : ℕ → Bool). size s 256) e ∙ sym (standing-size t 0 256 h)

pub table-counted : {A : Type 0} {start words n : ℕ} {entry : ℕ → A} {m : List ℕ} {t : Table A} → Tabled start words n entry m t
    → (row : List ℕ) {k : ℕ} → bit_at row ≡ stands t → k ≡ size (bit_at row) 256 → k ≡ length (standing t)
table-counted {start} {words} {n} {entry} {m} {t} g row =
    standing-counted t row (omega (arith, ap length g.reads, length-tab n (slot_in start words entry m), g.in_row))
