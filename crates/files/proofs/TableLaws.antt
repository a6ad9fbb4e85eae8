-- The blocks of a table, slot by slot, and what a loop over the slots has put.
use mathlib.Core.Path.{◌≡◌, refl, sym, ap, ◌∙◌}
use mathlib.Core.List.{List, [], ◌∷◌, ◌++◌, flatten, append_assoc, append-nil}
use mathlib.Core.Option.{Option, none, some}
use Prim.Native.Nat.{ℕ, suc, ◌+◌, ◌*◌, ◌-◌, ◌<◌, ◌≤◌}
use native.Mathlib.Numerals.{add-one}
use native.Mathlib.Omega.{arith}
use lib.ListN.{length, take, length-append, take-append-drop}
use lib.Seq.{take_all, take-suc}
use borrow.Rule.Slice.PartMut.{put_mid}
use Rattle.buffer.specs.Buffer.{Puts}
use Rattle.buffer.proofs.BufferLaws.{puts_none, puts-size, puts-as, puts_then, puts-lent}
use Rattle.model.specs.Table.{Table, at}
use Rattle.model.specs.File.{standing_entries}
use Rattle.files.specs.Tables.{table_blocks}

-- ---- the blocks of the standing entries

module _ {A : Type 0} (f : A → List ℕ) where
  -- of a free slot none
  abbrev slot_block : Option A → List ℕ
  slot_block none = []
  slot_block (some x) = f x

  blocks-none : table_blocks f [] ≡ []
  unfolding table_blocks flatten
  blocks-none = refl

  blocks-slot : (o : Option A) (t : Table A) → table_blocks f (o ∷ t) ≡ slot_block o ++ table_blocks f t
  unfolding table_blocks flatten
  blocks-slot none t = refl
  blocks-slot (some x) t = refl

  blocks-append : (t u : Table A) → table_blocks f (t ++ u) ≡ table_blocks f t ++ table_blocks f u
  blocks-append [] u = rw blocks-none
  blocks-append (o ∷ t) u = rw (blocks-slot o (t ++ u), blocks-slot o t, append_assoc, blocks-append t u)

  -- each of n bytes
  pub blocks-length : (n : ℕ) (t : Table A) → ((i : ℕ) (x : A) → at t i ≡ some x → length (f x) ≡ n) → length (table_blocks f t) ≡ n * length (standing_entries t)
  blocks-length n [] h = let e : length (table_blocks f []) ≡ 0 = ap length blocks-none in omega arith
  blocks-length n (none ∷ t) h = ap length (blocks-slot none t) ∙ blocks-length n t (λ i. h (suc i))
  blocks-length n (some x ∷ t) h =
      let l : length (table_blocks f (some x ∷ t)) ≡ length (f x) + length (table_blocks f t) = ap length (blocks-slot (some x) t) ∙ length-append (f x) (table_blocks f t) in
      let r = blocks-length n t (λ i. h (suc i)) in
      let s = h 0 x refl in
      omega arith

  -- those of one slot more
  blocks-next : (t : Table A) (i : ℕ) (o : Option A) → i < length t → at t i ≡ o → table_blocks f (take i t) ++ slot_block o ≡ table_blocks f (take (i + 1) t)
  blocks-next t i o h e = rw (add-one, take-suc t i none, e, blocks-append, blocks-slot, blocks-none, append-nil)

  -- those of the first slots are no longer than all
  blocks-part : (t : Table A) (k : ℕ) → length (table_blocks f (take k t)) ≤ length (table_blocks f t)
  blocks-part t k =
      let e = ap (λ (u : Table A). length (table_blocks f u)) (take-append-drop k t) in
      omega (arith, simp (blocks-append, length-append) at e)

-- ---- a loop over the slots

-- e is the buffer d with the blocks of the first i slots put from `start` on, up to before `stop`; d has room for those of all slots
pub record TablePut {A : Type 0} (f : A → List ℕ) (t : Table A) (d : List ℕ) (start : ℕ) (e : List ℕ) (stop i : ℕ) : Type 0 where
  pub fits : start + length (table_blocks f t) ≤ length d
  pub puts : Puts d start (table_blocks f (take i t)) e stop

-- slot i is free
pub record FreeSlot {A : Type 0} (t : Table A) (i : ℕ) : Type 0 where
  pub within : i < length t
  pub slot : at t i ≡ none

-- slot i holds x, and the block of x has n bytes
pub record TakenSlot {A : Type 0} (f : A → List ℕ) (t : Table A) (n i : ℕ) (x : A) : Type 0 where
  pub within : i < length t
  pub slot : at t i ≡ some x
  pub size : length (f x) ≡ n

module _ {A : Type 0} {f : A → List ℕ} {t : Table A} {d : List ℕ} {start : ℕ} where
  pub begins : start + length (table_blocks f t) ≤ length d → TablePut f t d start d start 0
  begins h = record { fits = h; puts = puts-as (puts_none (omega arith)) (sym (blocks-none f)) }

  module _ {e : List ℕ} {stop i : ℕ} (g : TablePut f t d start e stop i) where
    pub size : length e ≡ length d
    size = puts-size g.puts

    pub skips : FreeSlot t i → TablePut f t d start e stop (i + 1)
    skips s = record { fits = g.fits; puts = puts-as g.puts (sym (append-nil (table_blocks f (take i t))) ∙ blocks-next f t i none s.within s.slot) }

    module _ {n : ℕ} {x : A} (s : TakenSlot f t n i x) where
      more : table_blocks f (take i t) ++ f x ≡ table_blocks f (take (i + 1) t)
      more = blocks-next f t i (some x) s.within s.slot

      pub room : stop + n ≤ length e
      room =
          let l = ap length more in
          omega (arith, length-append (table_blocks f (take i t)) (f x), blocks-part f t (i + 1), s.size, g.fits, g.puts.stops, size)

      pub appends : {part : List ℕ} → part ≡ f x → TablePut f t d start (put_mid stop (stop + n - stop) e part) (stop + n) (i + 1)
      appends q = record { fits = g.fits; puts = puts-as (puts_then g.puts (puts-lent stop (stop + n) (omega arith) room (s.size ∙ omega arith) q)) more }

    pub ends : length t ≤ i → Puts d start (table_blocks f t) e stop
    ends h = puts-as g.puts (ap (table_blocks f) (take_all i t h))
