-- The search for the lowest free slot.
use mathlib.Core.Path.{◌≡◌, refl, sym, ap, ◌∙◌, subst}
use mathlib.Core.Bool.{Bool, true, false, not, ◌&&◌, cond}
use mathlib.Core.List.{List, ◌∷◌}
use mathlib.Core.Option.{Option, none, some}
use Prim.Native.Nat.{ℕ, zero, suc, ◌+◌, ◌*◌, ◌-◌, ◌<◌, ◌≤◌}
use native.Mathlib.Nat.{add-zero, zero-add, mul-le-mul_left}
use native.Mathlib.Decide.{dec_lt}
use native.Mathlib.Omega.{arith}
use lib.Dec.{eqb, ltb}
use lib.ListN.{length}
use borrow.Author.Tests.{eq-eqb, ne_eqb}
use Rattle.std.specs.Prelude.{Option as Search, Some, None, option_map}
use Rattle.bitrow.specs.Set.{first_of}
use Rattle.model.specs.Table.{Table, is_free, free, next, lowest_free, on, stands}
use Rattle.model.proofs.Tables.{free-at}
use Rattle.store.specs.Layout.{Whole, word_at}
use Rattle.store.specs.Contents.{tab}
use Rattle.store.proofs.Cases.{by-ltb, by_eqb}
use Rattle.store.proofs.Image.{length-tab, get_or-tab, tab-beyond}
use Rattle.entries.specs.Entries.{SlotsWithin, free_in, NoneFree, slot_found}
use Rattle.entries.specs.Tables.{slot_in, Tabled}

-- ---- one step of the search among the slots from i up to before n

module _ (s : ℕ → Bool) (i n : ℕ) where
  first_next : i < n → first_of s i (n - i) ≡ cond (s i) (Some i) (first_of s (i + 1) (n - (i + 1)))
  unfolding first_of
  first_next h = let e : n - i ≡ suc (n - (i + 1)) = omega arith in ap (first_of s i) e

  pub first-hit : i < n → s i ≡ true → first_of s i (n - i) ≡ Some i
  first-hit h e = first_next h ∙ ap (λ t. cond t (Some i) (first_of s (i + 1) (n - (i + 1)))) e

  pub first-miss : i < n → s i ≡ false → first_of s i (n - i) ≡ first_of s (i + 1) (n - (i + 1))
  first-miss h e = first_next h ∙ ap (λ t. cond t (Some i) (first_of s (i + 1) (n - (i + 1)))) e

  pub first-end : n ≤ i → first_of s i (n - i) ≡ None
  unfolding first_of
  first-end h = let e : n - i ≡ 0 = omega arith in ap (first_of s i) e

-- the search may begin past slots that are not free
first-from : (s : ℕ → Bool) (n from : ℕ) → ((i : ℕ) → i < from → i < n → s i ≡ false) → first_of s from (n - from) ≡ first_of s 0 n
first-from s n zero h = let e : n - 0 ≡ n = omega arith in ap (first_of s 0) e
first-from s n (suc i) h =
    let e : suc i ≡ i + 1 = omega arith in
    ap (λ j. first_of s j (n - j)) e ∙ sym (go (dec_lt i n)) ∙ first-from s n i (λ j a b. h j (omega arith) b)
  where
    go : Dec (i < n) → first_of s i (n - i) ≡ first_of s (i + 1) (n - (i + 1))
    go (yes l) = first-miss s i n l (h i (omega arith) l)
    go (no l) = first-end s i n (omega arith) ∙ sym (first-end s (i + 1) n (omega arith))

-- no slot is below the first
pub none-free-yet : {A : Type 0} (t : Table A) → NoneFree t 0
none-free-yet t = record { below = λ i h. absurd (omega arith) }

module _ (m : List ℕ) (start words i : ℕ) where
  pub zero-is-free : word_at m (start + words * i) ≡ 0 → free_in m start words i ≡ true
  unfolding free_in
  zero-is-free e = eq-eqb (word_at m (start + words * i)) 0 e

  pub taken_at : (word_at m (start + words * i) ≡ 0 → ⊥) → free_in m start words i ≡ false
  unfolding free_in
  taken_at o = ne_eqb (word_at m (start + words * i)) 0 o

-- a slot below the number of slots lies within the memory
pub slot-within : (m : List ℕ) (start words i slots : ℕ) → SlotsWithin m start words slots → i < slots → start + words * i < length m
slot-within m start words i slots w h = let a = w.some in let b = w.all in omega (arith, mul-le-mul_left words h)

-- ---- the model's search

-- a slot of the rest is so many further on
abbrev found_after : ℕ → Option ℕ → Search ℕ
found_after i none = None
found_after i (some k) = Some (i + k)

found-next : (i : ℕ) (o : Option ℕ) → found_after (i + 1) o ≡ found_after i (next o)
found-next i none = refl
found-next i (some k) = let e : i + 1 + k ≡ i + suc k = omega arith in ap Some e

-- the search from slot i on is the model's search of the table's rest, so many slots further on
search-rest : {A : Type 0} (s : ℕ → Bool) (n i : ℕ) (f : ℕ → Option A) → ((j : ℕ) → is_free (f j) ≡ s (i + j)) → first_of s i n ≡ found_after i (lowest_free (tab n f))
unfolding first_of tab
search-rest s zero i f h = refl
search-rest {A = A} s (suc n) i f h =
    go (f 0) (h 0) (search-rest s n (i + 1) (λ (j : ℕ). f (suc j)) (λ j. let e : i + suc j ≡ i + 1 + j = omega arith in h (suc j) ∙ ap s e))
  where
    go : (o : Option A) → is_free o ≡ s (i + 0) → first_of s (i + 1) n ≡ found_after (i + 1) (lowest_free (tab n (λ (j : ℕ). f (suc j))))
        → cond (s i) (Some i) (first_of s (i + 1) n) ≡ found_after i (lowest_free (o ∷ tab n (λ (j : ℕ). f (suc j))))
    go none e r = let t : s i ≡ true = ap s (sym (add-zero i)) ∙ sym e in rw t (ap Some (sym (add-zero i)))
    go (some x) e r = let t : s i ≡ false = ap s (sym (add-zero i)) ∙ sym e in rw t (r ∙ found-next i (lowest_free (tab n (λ (j : ℕ). f (suc j)))))

-- slots that are free where their first word is 0
module _ {A : Type 0} (m : List ℕ) (start words n : ℕ) (f : ℕ → A) where
  abbrev slot : ℕ → Option A
  slot i = cond (eqb (word_at m (start + words * i)) 0) none (some (f i))

  free-slot : (i : ℕ) → is_free (slot i) ≡ free_in m start words (0 + i)
  unfolding free_in
  free-slot i = rw zero-add (go (eqb (word_at m (start + words * i)) 0))
    where
      go : (t : Bool) → is_free {A = A} (cond t none (some (f i))) ≡ t
      go true = refl
      go false = refl

  table-free : (i : ℕ) → i < n → free (tab n slot) i ≡ free_in m start words i
  table-free i h =
      let l : i < length (tab n slot) = omega (arith, length-tab n slot) in
      free-at (tab n slot) i l ∙ ap is_free (get_or-tab n slot i none h) ∙ free-slot i ∙ ap (free_in m start words) (zero-add i)

  searched : (from : ℕ) → NoneFree (tab n slot) from → first_of (free_in m start words) from (n - from) ≡ found_after 0 (lowest_free (tab n slot))
  searched from taken =
      first-from (free_in m start words) n from (λ i h l. sym (table-free i l) ∙ taken.below i h)
      ∙ search-rest (free_in m start words) n 0 slot free-slot

-- ---- a table of the memory

module _ {A : Type 0} {m : List ℕ} {start words n : ℕ} {entry : ℕ → A} {t : Table A} (g : Tabled start words n entry m t) where
  pub slots-within : Whole m → SlotsWithin m start words n
  slots-within w = record { some = g.some_words; all = omega (arith, g.within, w) }

  -- the search finds the lowest free slot of the table
  module _ {S : Type 0} (slot : ℕ → S) where
    named : (o : Option ℕ) → option_map slot (found_after 0 o) ≡ slot_found slot o
    named none = refl
    named (some i) = let e : 0 + i ≡ i = omega arith in ap (λ (k : ℕ). Some (slot k)) e

    pub slot-searched : (from : ℕ) → NoneFree t from → option_map slot (first_of (free_in m start words) from (n - from)) ≡ slot_found slot (lowest_free t)
    slot-searched from =
        let P : Table A → Type 0 = λ u. NoneFree u from → option_map slot (first_of (free_in m start words) from (n - from)) ≡ slot_found slot (lowest_free u) in
        subst P (sym g.reads) (λ taken. ap (option_map slot) (searched m start words n entry from taken) ∙ named (lowest_free (tab n (slot_in start words entry m))))

  -- which slots are taken
  pub tabled-stands : (i : ℕ) → stands t i ≡ (ltb i n && not (eqb (word_at m (start + words * i)) 0))
  tabled-stands i =
      let slot = slot_in start words entry m in
      ap (λ (u : Table A). stands u i) g.reads
      ∙ by-ltb (λ b. stands (tab n slot) i ≡ (b && not (eqb (word_at m (start + words * i)) 0))) i n
      (λ l. ap (on (λ x. true)) (get_or-tab n slot i none l) ∙ by_eqb (λ b. on (λ x. true) (cond b none (some (entry i))) ≡ not b) (word_at m (start + words * i)) 0 (λ e. refl) (λ e. refl))
      (λ l. ap (on (λ x. true)) (tab-beyond n slot i none l))

-- ---- what the search answers

module _ {S : Type 0} (slot : ℕ → S) where
  pub found-none : (o : Option ℕ) → slot_found slot o ≡ None → o ≡ none
  found-none none e = refl
  found-none (some i) e = let z : ◌≡◌ {A = ℕ} 0 1 = cc in absurd (omega arith)

  pub found_some : (index : S → ℕ) → ((i : ℕ) → index (slot i) ≡ i) → (o : Option ℕ) (s : S) → slot_found slot o ≡ Some s → o ≡ some (index s)
  found_some index back none s e = let z : ◌≡◌ {A = ℕ} 0 1 = cc in absurd (omega arith)
  found_some index back (some i) s e = let p : slot i ≡ s = cc in ap some (sym (back i) ∙ ap index p)
