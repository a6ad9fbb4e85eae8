-- What a piece leaves, by the ways of the tests: the last block, more to come, the end, a whole block, several.
use mathlib.Core.Path.{◌≡◌, refl, sym, ap, ap₂, ◌∙◌, subst}
use mathlib.Core.Bool.{Bool, true, false, cond}
use mathlib.Core.List.{List, []}
use Prim.Native.Nat.{ℕ, ◌+◌, ◌*◌, ◌≤◌}
use native.Mathlib.Omega.{arith}
use lib.Dec.{eqb}
use lib.ListN.{length, take}
use lib.Seq.{paste}
use borrow.Author.Tests.{eq-eqb, ne_eqb, eqb-true, eqb-false}
use Rattle.sheets.specs.declared.State.TheVariants.{Taking, Counting}
use Rattle.sheets.specs.Blocks.{taken, end_of}
use Rattle.sheets.specs.declared.Stepped.{Stepped}
use Rattle.sheets.specs.Left.{Left, left, Does}
use Rattle.sheets.specs.Pieces.{share, waits, with_block, take_with, take_one, blocks_at_once, whole_blocks, take_several, take_step}

pub does-as : {x y : Left} {m k o e : List ℕ} {r : Stepped} → x ≡ y → Does y m k o e r → Does x m k o e r
does-as {m = m} {k = k} {o = o} {e = e} {r = r} q d = subst (λ z. Does z m k o e r) (sym q) d

module _ (m k p : List ℕ) (ended : Bool) (n f : ℕ) where
  pub take_last : n ≡ 18446744073709551615 → take_one m k p ended n f ≡ left m k [] Counting 0
  unfolding take_one
  take_last z =
      let c = share f (length p) in
      ap (λ t. cond t (left m k [] Counting 0) (take_with m (paste k f p c) ended n (f + c) c)) (eq-eqb n 18446744073709551615 z)

  pub take_on : (n ≡ 18446744073709551615 → ⊥) → (c : ℕ) → c ≡ share f (length p) → (l : List ℕ) → l ≡ paste k f p c → take_one m k p ended n f ≡ take_with m l ended n (f + c) c
  unfolding take_one
  take_on z c q l h =
      ap (λ t. cond t (left m k [] Counting 0) (take_with m (paste k f p (share f (length p))) ended n (f + share f (length p)) (share f (length p)))) (ne_eqb n 18446744073709551615 z)
      ∙ ap (λ i. take_with m (paste k f p i) ended n (f + i) i) (sym q) ∙ ap (λ j. take_with m j ended n (f + c) c) (sym h)

module _ (m k : List ℕ) (ended : Bool) (n e c : ℕ) where
  abbrev ways : Bool → Bool → Left
  ways t u = cond t (left m k [] (Taking n e) c) (cond u (left m k (end_of n).0 (end_of n).1 c) (with_block k c (taken m (take e k) n)))

  pub with-more : waits e ended ≡ true → take_with m k ended n e c ≡ left m k [] (Taking n e) c
  unfolding take_with
  with-more w = ap (λ t. ways t (eqb e 0)) w

  pub with-end : waits e ended ≡ false → e ≡ 0 → take_with m k ended n e c ≡ left m k (end_of n).0 (end_of n).1 c
  unfolding take_with
  with-end w z = ap₂ ways w (eq-eqb e 0 z)

  pub with-block : waits e ended ≡ false → (e ≡ 0 → ⊥) → take_with m k ended n e c ≡ with_block k c (taken m (take e k) n)
  unfolding take_with
  with-block w z = ap₂ ways w (ne_eqb e 0 z)

-- ---- several blocks

-- j blocks are taken at once of so many bytes, after n others and no byte of the next
pub record Several (bytes n f j : ℕ) : Type 0 where
  pub later : n ≡ 0 → ⊥
  pub begins : f ≡ 0
  pub within : 512 * j ≤ bytes
  pub numbered : n + j ≤ 18446744073709551615

module _ (room bytes n f : ℕ) where
  abbrev whole_by : Bool → Bool → ℕ
  whole_by t u = cond t 0 (cond u (blocks_at_once room bytes n) 0)

  pub whole-first : n ≡ 0 → 0 ≡ whole_blocks room bytes n f
  unfolding whole_blocks
  whole-first z = ap (λ t. whole_by t (eqb f 0)) (sym (eq-eqb n 0 z))

  pub whole-next : (n ≡ 0 → ⊥) → f ≡ 0 → blocks_at_once room bytes n ≡ whole_blocks room bytes n f
  unfolding whole_blocks
  whole-next z y = ap₂ whole_by (sym (ne_eqb n 0 z)) (sym (eq-eqb f 0 y))

  pub whole-started : (n ≡ 0 → ⊥) → (f ≡ 0 → ⊥) → 0 ≡ whole_blocks room bytes n f
  unfolding whole_blocks
  whole-started z y = ap₂ whole_by (sym (ne_eqb n 0 z)) (sym (ne_eqb f 0 y))

  pub whole-several : (whole_blocks room bytes n f ≡ 0 → ⊥) → Several bytes n f (whole_blocks room bytes n f)
  unfolding whole_blocks blocks_at_once
  whole-several = pick (eqb n 0) refl (eqb f 0) refl
    where
      pick : (t : Bool) → eqb n 0 ≡ t → (u : Bool) → eqb f 0 ≡ u → (whole_by t u ≡ 0 → ⊥) → Several bytes n f (whole_by t u)
      pick true e u d z = absurd (z refl)
      pick false e false d z = absurd (z refl)
      pick false e true d z = record { later = eqb-false n 0 e; begins = eqb-true f 0 d; within = omega arith; numbered = omega (arith, z) }

module _ (m k p : List ℕ) (ended : Bool) (room n f j : ℕ) (q : j ≡ whole_blocks room (length p) n f) where
  abbrev one_or_several : Bool → Left
  one_or_several t = cond t (take_one m k p ended n f) (take_several m k p n (whole_blocks room (length p) n f))

  pub take-one : j ≡ 0 → take_step m k p ended room n f ≡ take_one m k p ended n f
  unfolding take_step
  take-one z = ap one_or_several (eq-eqb (whole_blocks room (length p) n f) 0 (sym q ∙ z))

  pub take-several : (j ≡ 0 → ⊥) → take_step m k p ended room n f ≡ take_several m k p n j
  unfolding take_step
  take-several z = ap one_or_several (ne_eqb (whole_blocks room (length p) n f) 0 (λ y. z (q ∙ y))) ∙ ap (take_several m k p n) (sym q)
