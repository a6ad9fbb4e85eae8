-- Laws of lists that were stored to: a run of stores, a part that was filled, the rows of a band.
use mathlib.Core.Path.{◌≡◌, refl, sym, ap, ap₂, ◌∙◌}
use mathlib.Core.Bool.{Bool}
use mathlib.Core.List.{List, [], ◌∷◌, ◌++◌, append_assoc}
use Prim.Native.Nat.{ℕ, zero, suc, ◌+◌, ◌-◌, ◌<◌, ◌≤◌}
use native.Mathlib.Nat.{add-suc, add-zero, suc-add, not-suc-le-zero, mul-le-mul_left}
use native.Mathlib.Numerals.{add-one}
use native.Mathlib.Omega.{arith}
use lib.ListN.{length, get_or, set, take, drop, replicate, length-set, replicate-append-replicate}
use lib.Seq.{sets, sets-eq, length-sets, get_or-set_same, get_or-set_other, take_all, take-suc-set}
use borrow.Rule.Slice.PartMut.{put_mid, Post-is}
use Rattle.store.specs.Layout.{band_row, word_at, row_start}
use Rattle.store.specs.declared.Band.{Band}
use Rattle.store.specs.Contents.{tab}
use Rattle.store.specs.Memory.{bit_word, slot_set, four_words, row_set, bit_set, runs, column_set}
use Rattle.store.proofs.Image.{length-tab}
use Rattle.bitrow.specs.Bit.{bit_at}

-- ---- a run of stores

-- nothing changes but from i on, and there as many as were stored
pub sets-out : {A : Type 0} (vs m : List A) (i k : ℕ) (d : A) → (i ≤ k → k < i + length vs → ⊥) → get_or (sets m i vs) k d ≡ get_or m k d
sets-out [] m i k d h = refl
sets-out (v ∷ vs) m i k d h =
    sets-out vs (set m i v) (suc i) k d (λ p q. h (omega arith) (omega (arith, add-suc i (length vs), suc-add i (length vs))))
    ∙ get_or-set_other m i k v d (λ e. h (omega arith) (omega (arith, add-suc i (length vs))))

pub sets-in : {A : Type 0} (vs m : List A) (i j : ℕ) (d : A) → i + length vs ≤ length m → j < length vs → get_or (sets m i vs) (i + j) d ≡ get_or vs j d
sets-in [] m i j d h l = absurd (not-suc-le-zero l)
sets-in (v ∷ vs) m i zero d h l =
    rw add-zero (sets-out vs (set m i v) (suc i) i d (λ p q. omega arith) ∙ get_or-set_same m i v d (omega (arith, add-suc i (length vs))))
sets-in (v ∷ vs) m i (suc j) d h l =
    rw (add-suc, ← suc-add) (sets-in vs (set m i v) (suc i) j d (rw length-set (omega (arith, add-suc i (length vs), suc-add i (length vs)))) (omega arith))

-- one store more
sets-snoc : {A : Type 0} (vs m : List A) (i : ℕ) (v : A) → sets m i (vs ++ v ∷ []) ≡ set (sets m i vs) (i + length vs) v
sets-snoc [] m i v = rw add-zero
sets-snoc (x ∷ vs) m i v = rw (add-suc, ← suc-add) (sets-snoc vs (set m i x) (suc i) v)

-- a table with one place more
tab-more : {A : Type 0} (n : ℕ) (f : ℕ → A) → tab (suc n) f ≡ tab n f ++ f n ∷ []
unfolding tab
tab-more zero f = refl
tab-more {A} (suc n) f = ap (λ (l : List A). f 0 ∷ l) (tab-more n (λ (i : ℕ). f (suc i)))

-- `memory[start + k] = f(k)`, after the first k
slot-more : (m : List ℕ) (start k : ℕ) (f : ℕ → ℕ) → set (slot_set m start k f) (start + k) (f k) ≡ slot_set m start (k + 1) f
unfolding slot_set
slot-more m start k f =
    ap (λ (n : ℕ). set (sets m start (tab k f)) (start + n) (f k)) (sym (length-tab k f))
    ∙ sym (sets-snoc (tab k f) m start (f k))
    ∙ ap (sets m start) (sym (tab-more k f) ∙ ap (λ (n : ℕ). tab n f) (sym (add-one k)))

-- a turn of the loop that stores them
pub slot_turn : (m l : List ℕ) (start k v : ℕ) (f : ℕ → ℕ) → l ≡ slot_set m start k f → v ≡ f k → set l (start + k) v ≡ slot_set m start (k + 1) f
slot_turn m l start k v f e q = ap₂ (λ (x : List ℕ) (w : ℕ). set x (start + k) w) e q ∙ slot-more m start k f

pub slot-none : (m : List ℕ) (start : ℕ) (f : ℕ → ℕ) → slot_set m start 0 f ≡ m
unfolding slot_set tab
slot-none m start f = refl

-- `memory[start] = f(0)`
pub slot-first : (m : List ℕ) (start : ℕ) (f : ℕ → ℕ) → set m start (f 0) ≡ slot_set m start 1 f
slot-first m start f = ap₂ (λ (l : List ℕ) (i : ℕ). set l i (f 0)) (sym (slot-none m start f)) (sym (add-zero start)) ∙ slot-more m start 0 f

pub length-slot : (m : List ℕ) (start n : ℕ) (f : ℕ → ℕ) → length (slot_set m start n f) ≡ length m
unfolding slot_set
length-slot m start n f = length-sets m start (tab n f)

-- words that agree are stored alike
pub slot_same : (m : List ℕ) (start n : ℕ) (f g : ℕ → ℕ) → ((k : ℕ) → k < n → f k ≡ g k) → slot_set m start n f ≡ slot_set m start n g
slot_same m start zero f g e = slot-none m start f ∙ sym (slot-none m start g)
slot_same m start (suc n) f g e =
    ap (λ (k : ℕ). slot_set m start k f) (sym (add-one n)) ∙ sym (slot-more m start n f)
    ∙ ap₂ (λ (l : List ℕ) (w : ℕ). set l (start + n) w) (slot_same m start n f g (λ k h. e k (omega arith))) (e n (omega arith))
    ∙ slot-more m start n g ∙ ap (λ (k : ℕ). slot_set m start k g) (add-one n)

-- words stored after others are stored with them
pub slot-join : (m : List ℕ) (start a b : ℕ) (f : ℕ → ℕ) → slot_set (slot_set m start a f) (start + a) b (λ k. f (a + k)) ≡ slot_set m start (a + b) f
slot-join m start a zero f = slot-none (slot_set m start a f) (start + a) _ ∙ ap (λ (k : ℕ). slot_set m start k f) (sym (add-zero a))
slot-join m start a (suc b) f =
    let e : start + a + b ≡ start + (a + b) = omega arith in
    let n : a + b + 1 ≡ a + suc b = omega arith in
    ap (λ (k : ℕ). slot_set (slot_set m start a f) (start + a) k (λ k. f (a + k))) (sym (add-one b))
    ∙ sym (slot-more (slot_set m start a f) (start + a) b (λ k. f (a + k)))
    ∙ ap₂ (λ (l : List ℕ) (k : ℕ). set l k (f (a + b))) (slot-join m start a b f) e
    ∙ slot-more m start (a + b) f ∙ ap (λ (k : ℕ). slot_set m start k f) n

-- ---- a part that was filled

-- `xs[a..b]` written over
pub part-written : {A : Type 0} (a b : ℕ) (xs vs : List A) → a + length vs ≡ b → b ≤ length xs → put_mid a (b - a) xs vs ≡ sets xs a vs
part-written {A} a b xs vs e h =
    ap (λ (l : List A). take a xs ++ (vs ++ l)) (Post-is a b xs (omega arith) ∙ ap (λ n. drop n xs) (sym e))
    ∙ sym (append_assoc (take a xs) vs (drop (a + length vs) xs))
    ∙ sym (sets-eq vs xs a (omega arith))

tab-same : {A : Type 0} (n : ℕ) (v : A) → tab n (λ (i : ℕ). v) ≡ replicate n v
unfolding tab
tab-same zero v = refl
tab-same {A} (suc n) v = ap (λ (l : List A). v ∷ l) (tab-same n v)

-- `m[start..start + n]` filled with v
pub slot-filled : (m l : List ℕ) (start n v : ℕ) → start + n ≤ length m → l ≡ replicate n v → put_mid start (start + n - start) m l ≡ slot_set m start n (λ k. v)
unfolding slot_set
slot-filled m l start n v h e =
    let t = e ∙ sym (tab-same n v) in
    ap (put_mid start (start + n - start) m) t
    ∙ part-written start (start + n) m (tab n (λ k. v)) (ap (λ k. start + k) (length-tab n (λ (k : ℕ). v))) h

four-words : (row : List ℕ) → length row ≡ 4 → row ≡ four_words row
four-words [] e = absurd (omega arith)
four-words (a ∷ []) e = absurd (omega arith)
four-words (a ∷ b ∷ []) e = absurd (omega arith)
four-words (a ∷ b ∷ c ∷ []) e = absurd (omega arith)
four-words (a ∷ b ∷ c ∷ d ∷ []) e = refl
four-words (a ∷ b ∷ c ∷ d ∷ x ∷ row) e = absurd (omega arith)

-- the four words of row r written over
pub row-written : (m l row : List ℕ) (r : ℕ) → row_start r + 4 ≤ length m → length row ≡ 4 → l ≡ row → put_mid (row_start r) (row_start r + 4 - row_start r) m l ≡ row_set m r row
unfolding row_set
row-written m l row r h f e =
    ap (put_mid (row_start r) (row_start r + 4 - row_start r) m) (e ∙ four-words row f)
    ∙ part-written (row_start r) (row_start r + 4) m (four_words row) refl h

-- ---- every element made one value

-- `l[i] = v`, where the i before it are v
pub filled_more : {A : Type 0} (l : List A) (i : ℕ) (v : A) → i < length l → take i l ≡ replicate i v → take (i + 1) (set l i v) ≡ replicate (i + 1) v
filled_more {A} l i v h e =
    ap (λ (n : ℕ). take n (set l i v)) (add-one i) ∙ take-suc-set l i v h ∙ ap (λ (s : List A). s ++ (v ∷ [])) e ∙ replicate-append-replicate i 1 v

pub all-filled : {A : Type 0} (l : List A) (i n : ℕ) (v : A) → length l ≡ n → i ≡ n → take i l ≡ replicate i v → l ≡ replicate n v
all-filled l i n v e q h = sym (take_all i l (omega arith)) ∙ h ∙ ap (λ (k : ℕ). replicate k v) q

-- ---- the rows of a band

-- a row of a band whose last one is below n
pub row_below : (t : Band) (n i : ℕ) → band_row t (t.count - 1) < n → i < t.count → band_row t i < n
row_below t n i h l = let p : i ≤ t.count - 1 = omega arith in omega (arith, mul-le-mul_left t.step p)

pub length-bit : (m : List ℕ) (r b : ℕ) (v : Bool) → length (bit_set m r b v) ≡ length m
unfolding bit_set
length-bit m r b v = length-set m (bit_word r b) _

-- no other word changes
pub bit-out : (m : List ℕ) (r b : ℕ) (v : Bool) (k : ℕ) → (k ≡ bit_word r b → ⊥) → word_at (bit_set m r b v) k ≡ word_at m k
unfolding bit_set
bit-out m r b v k h = get_or-set_other m (bit_word r b) k _ 0 h

-- the first n rows of a band
abbrev pub first_rows : Band → ℕ → Band
first_rows t n = record { first = t.first; step = t.step; count = n }

pub column-none : (m : List ℕ) (t : Band) (b : ℕ) (values : List ℕ) → m ≡ column_set m (first_rows t 0) b values
unfolding column_set runs
column-none m t b values = refl

column-more : (m : List ℕ) (t : Band) (i b : ℕ) (values : List ℕ)
    → bit_set (column_set m (first_rows t i) b values) (band_row t i) b (bit_at values i) ≡ column_set m (first_rows t (i + 1)) b values
unfolding column_set runs
column-more m t i b values = rw add-one

-- a turn of the loop over the rows: l after it, where l₀ before it has the first i of them
pub column-turn : (m : List ℕ) (t : Band) (i b : ℕ) (values l₀ l : List ℕ) (v : Bool) → l₀ ≡ column_set m (first_rows t i) b values
    → v ≡ bit_at values i → l ≡ bit_set l₀ (band_row t i) b v → l ≡ column_set m (first_rows t (i + 1)) b values
column-turn m t i b values l₀ l v p q e = cc (column-more m t i b values)
