-- The findings of kinds 1 and 2, which have 0 for b: of the containers whose columns have the bit of each standing one, or of none but itself.
use mathlib.Core.Path.{◌≡◌, refl, sym, ap, ap₂, ◌∙◌, fun_ext}
use mathlib.Core.Bool.{Bool, true, false, not, ◌&&◌, ◌||◌, and_comm}
use mathlib.Core.List.{List}
use Prim.Native.Nat.{ℕ, ◌+◌, ◌*◌, ◌^◌, ◌<◌}
use native.Mathlib.Omega.{arith}
use lib.Dec.{eqb, ltb}
use lib.ListN.{length}
use Rattle.bitrow.specs.Bit.{bit, bit_at}
use Rattle.bitrow.specs.Set.{remove, meet, less, part}
use Rattle.bitrow.proofs.Sets.{point}
use Rattle.model.specs.Table.{standing}
use Rattle.model.specs.Findings.{containers_of, all_reachable, all_isolated}
use Rattle.model.proofs.Lists.{eqb-sym}
use Rattle.store.specs.Layout.{row_at}
use Rattle.formed.specs.Registry.{model_in, bits_in}
use Rattle.formed.proofs.StoredLaws.{matrix-row}
use Rattle.entries.specs.Tables.{container_tabled}
use Rattle.entries.proofs.Trials.{container-below}
use Rattle.counts.proofs.CountLaws.{table-counted}
use Rattle.container_findings.specs.Rows.{shown_at, containers_stand, zero_if, if_two_stand}
use Rattle.container_findings.specs.declared.Left.{Left}
use Rattle.container_findings.specs.Passes.{word_set, narrowed, reached_by, spares, Passed}
use Rattle.container_findings.specs.Views.{told_of}
use Rattle.container_findings.proofs.Standing.{not-any, all-part}
use Rattle.container_findings.proofs.KindRows.{at_1, at-2}
use Rattle.container_findings.proofs.Narrowing.{Narrowing, narrowing-take, narrowing-all, word-none, word-has, word-next, in_word, narrowed-words}

-- ---- one pass over the rows of the standing containers

not-both : (x y : Bool) → not (not x && y) ≡ (x || not y)
not-both true y = refl
not-both false y = refl

module _ (m : List ℕ) (c : ℕ) (h : c < 256) {row : List ℕ} (e : row ≡ row_at m c) where
  row_read : bit_at row ≡ (bits_in m).matrix c
  row_read = ap bit_at e ∙ matrix-row m c h

  kept-set : (s : ℕ → Bool) → meet s (bit_at row) ≡ meet s (λ a. reached_by (bits_in m) a c)
  unfolding reached_by
  kept-set s = ap (meet s) row_read

  kept-clear : (s : ℕ → Bool) → less s (remove c (bit_at row)) ≡ meet s (λ a. spares (bits_in m) a c)
  unfolding meet less remove spares
  kept-clear s = fun_ext (λ a. ap (λ t. s a && t) (not-both (eqb a c) (bit_at row a) ∙ ap₂ (λ t u. t || not u) (eqb-sym a c) (point row_read a)))

-- what is left so far, and the containers of w that are still to pass
pub record Passing (m : List ℕ) (w : ℕ → Bool) (before : Left) (n rest : ℕ) (all none : List ℕ) : Type 0 where
  pub small : rest < 2 ^ 64
  pub by_all : Narrowing (reached_by (bits_in m)) w (bit_at before.by_all) (word_set n rest) (bit_at all)
  pub by_none : Narrowing (spares (bits_in m)) w (bit_at before.by_none) (word_set n rest) (bit_at none)

pub passing_none : {m : List ℕ} {before : Left} {n word rest : ℕ} → rest ≡ word → rest < 2 ^ 64
    → Passing m (word_set n word) before n rest before.by_all before.by_none
passing_none {m} {before} {n} e h = record {
  small = h;
  by_all = record { same = ap (λ r. narrowed (reached_by (bits_in m)) (word_set n r) (bit_at before.by_all)) e };
  by_none = record { same = ap (λ r. narrowed (spares (bits_in m)) (word_set n r) (bit_at before.by_none)) e };
}

module _ {m : List ℕ} {w : ℕ → Bool} {before : Left} {n rest : ℕ} {all none : List ℕ} (p : Passing m w before n rest all none) where
  pub passing-next : (k : ℕ) → n < 4 → k < 64 → bit rest k ≡ true → {next : ℕ} → bit next ≡ remove k (bit rest) → next < rest
      → {row : List ℕ} → row ≡ row_at m (64 * n + k)
      → {more left : List ℕ} {others : ℕ → Bool} → bit_at more ≡ meet (bit_at all) (bit_at row) → others ≡ remove (64 * n + k) (bit_at row)
      → bit_at left ≡ less (bit_at none) others → Passing m w before n next more left
  passing-next k l h t d s i q o r =
      let c : 64 * n + k < 256 = omega arith in
      let here = word-has n rest k h t in
      let next_set = word-next n rest k h _ d in
      record {
        small = omega (arith, s, p.small);
        by_all = narrowing-take p.by_all c here next_set (q ∙ kept-set m (64 * n + k) c i (bit_at all));
        by_none = narrowing-take p.by_none c here next_set (r ∙ ap (less (bit_at none)) o ∙ kept-clear m (64 * n + k) c i (bit_at none));
      }

  pub passing-all : rest ≡ 0 → Passed m w before (record { by_all = all; by_none = none })
  passing-all e = record { by_all = narrowing-all p.by_all (word-none n rest e); by_none = narrowing-all p.by_none (word-none n rest e) }

-- ---- what is left is what the two kinds tell of

module _ (m : List ℕ) (a : ℕ) where
  reachable-column : all_reachable (model_in m) (bits_in m) a ≡ part (containers_stand m) (reached_by (bits_in m) a)
  unfolding all_reachable reached_by
  reachable-column = all-part (model_in m).containers (container-below m) (λ c. (bits_in m).matrix c a)

  isolated-column : all_isolated (model_in m) (bits_in m) a ≡ (ltb 1 (length (containers_of (model_in m))) && part (containers_stand m) (spares (bits_in m) a))
  unfolding all_isolated spares
  isolated-column =
      ap (λ t. ltb 1 (length (containers_of (model_in m))) && t)
      (not-any (λ c. not (eqb c a) && (bits_in m).matrix c a) (standing (model_in m).containers)
      ∙ all-part (model_in m).containers (container-below m) (λ c. not (not (eqb c a) && (bits_in m).matrix c a))
      ∙ ap (part (containers_stand m)) (fun_ext (λ c. not-both (eqb c a) ((bits_in m).matrix c a))))

  pub told-1 : told_of m 1 a ≡ (containers_stand m a && part (containers_stand m) (reached_by (bits_in m) a))
  unfolding told_of
  told-1 = at_1 m a 0 ∙ ap (λ t. containers_stand m a && t) reachable-column

  pub told-2 : told_of m 2 a ≡ (containers_stand m a && (ltb 1 (length (containers_of (model_in m))) && part (containers_stand m) (spares (bits_in m) a)))
  unfolding told_of
  told-2 = at-2 m a 0 ∙ ap (λ t. containers_stand m a && t) isolated-column

module _ {m set : List ℕ} {one two three four : Left}
    (p : Passed m (in_word set 0) (record { by_all = set; by_none = set }) one) (q : Passed m (in_word set 1) one two)
    (r : Passed m (in_word set 2) two three) (s : Passed m (in_word set 3) three four) where
  pub passed-words : Passed m (bit_at set) (record { by_all = set; by_none = set }) four
  passed-words = record {
    by_all = s.by_all ∙ ap (narrowed _ _) (r.by_all ∙ ap (narrowed _ _) (q.by_all ∙ ap (narrowed _ _) p.by_all)) ∙ narrowed-words set _ _;
    by_none = s.by_none ∙ ap (narrowed _ _) (r.by_none ∙ ap (narrowed _ _) (q.by_none ∙ ap (narrowed _ _) p.by_none)) ∙ narrowed-words set _ _;
  }

module _ {m set : List ℕ} {t : Left} (e : bit_at set ≡ containers_stand m) (p : Passed m (bit_at set) (record { by_all = set; by_none = set }) t) where
  pub passed-1 : bit_at t.by_all ≡ told_of m 1
  unfolding narrowed
  passed-1 = p.by_all ∙ fun_ext (λ a. ap (λ (s : ℕ → Bool). s a && part s (reached_by (bits_in m) a)) e ∙ sym (told-1 m a))

  pub passed-2 : if_two_stand (bit_at set) (bit_at t.by_none) ≡ told_of m 2
  unfolding if_two_stand narrowed
  passed-2 = fun_ext (λ a.
      ap₂ (λ (n : ℕ) t. ltb 1 n && t) (table-counted (container_tabled m) set e refl)
      (point p.by_none a ∙ ap (λ (s : ℕ → Bool). s a && part s (spares (bits_in m) a)) e)
      ∙ swap (ltb 1 (length (containers_of (model_in m)))) (containers_stand m a) (part (containers_stand m) (spares (bits_in m) a))
      ∙ sym (told-2 m a))
    where
      swap : (x y z : Bool) → (x && (y && z)) ≡ (y && (x && z))
      swap true y z = refl
      swap false true z = refl
      swap false false z = refl

-- ---- the row of a container, by whether its kind tells of it

-- a test that asks of b that it is 0, and of a one more thing
zero-row : (s q : Bool) → zero_if (s && q) ≡ (λ b. s && (eqb b 0 && q))
unfolding zero_if
zero-row true q = fun_ext (λ b. and_comm q (eqb b 0))
zero-row false q = refl

module _ (m : List ℕ) (a : ℕ) {t : Bool} where
  pub row-1 : t ≡ told_of m 1 a → zero_if t ≡ shown_at m 1 a
  unfolding told_of
  row-1 e = ap zero_if (e ∙ at_1 m a 0) ∙ zero-row (containers_stand m a) (all_reachable (model_in m) (bits_in m) a) ∙ sym (fun_ext (at_1 m a))

  pub row-2 : t ≡ told_of m 2 a → zero_if t ≡ shown_at m 2 a
  unfolding told_of
  row-2 e = ap zero_if (e ∙ at-2 m a 0) ∙ zero-row (containers_stand m a) (all_isolated (model_in m) (bits_in m) a) ∙ sym (fun_ext (at-2 m a))
