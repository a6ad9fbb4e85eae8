-- PAIRS is the count over the standing slots, where no free slot has a bit.
use mathlib.Core.Path.{◌≡◌, refl, sym, ap, fun_ext, ◌∙◌}
use mathlib.Core.Bool.{Bool, false, cond}
use mathlib.Core.List.{List, [], ◌∷◌}
use mathlib.Core.Option.{Option, none, some}
use Prim.Native.Nat.{ℕ, suc, ◌+◌}
use native.Mathlib.Nat.{zero-add}
use native.Mathlib.Omega.{arith}
use lib.ListN.{length}
use Rattle.model.specs.Table.{Table, count, on, at, standing, standing_from, up_from, below}
use Rattle.model.specs.Model.{container_slots, Model, matrix_bit, computed_bits}
use Rattle.model.specs.Findings.{containers_of, pairs_in, pairs}

total : (ℕ → ℕ) → List ℕ → ℕ
total g [] = 0
total g (x ∷ l) = g x + total g l

-- a sum over all slots of a table is the sum over the standing ones, where a free slot gives 0
total-standing : {A : Type 0} (g : ℕ → ℕ) (i : ℕ) (t : Table A) → ((j : ℕ) → at t j ≡ none → g (i + j) ≡ 0)
    → total g (up_from i (length t)) ≡ total g (standing_from i t)
unfolding total
total-standing g i [] h = refl
total-standing g i (none ∷ t) h =
    let z : g i ≡ 0 = ap g (omega arith) ∙ h 0 refl in
    rw (z, total-standing g (suc i) t (λ j e. ap g (omega arith) ∙ h (suc j) e)) (zero-add (total g (standing_from (suc i) t)))
total-standing g i (some x ∷ t) h = ap (λ n. g i + n) (total-standing g (suc i) t (λ j e. ap g (omega arith) ∙ h (suc j) e))

count-total : (f : ℕ → Bool) (l : List ℕ) → count f l ≡ total (λ i. cond (f i) 1 0) l
unfolding total
count-total f [] = refl
count-total f (x ∷ l) = rw (count-total f l)

pairs-total : (f : ℕ → ℕ → Bool) (l bs : List ℕ) → pairs_in f l bs ≡ total (λ a. count (f a) bs) l
unfolding total
pairs-total f [] bs = refl
pairs-total f (x ∷ l) bs = rw (pairs-total f l bs)

count-clear : (f : ℕ → Bool) → ((i : ℕ) → f i ≡ false) → (l : List ℕ) → count f l ≡ 0
count-clear f h [] = refl
count-clear f h (x ∷ l) = rw (h x, count-clear f h l)

module _ {A : Type 0} (t : Table A) (f : ℕ → ℕ → Bool)
    (rows : (a b : ℕ) → at t a ≡ none → f a b ≡ false) (columns : (a b : ℕ) → at t b ≡ none → f a b ≡ false) where
  row-standing : (a : ℕ) → count (f a) (below (length t)) ≡ count (f a) (standing t)
  row-standing a =
      count-total (f a) (below (length t))
      ∙ total-standing (λ b. cond (f a b) 1 0) 0 t (λ j e. rw (zero-add j, columns a j e))
      ∙ sym (count-total (f a) (standing t))

  pub pairs-standing : pairs_in f (below (length t)) (below (length t)) ≡ pairs_in f (standing t) (standing t)
  pairs-standing =
      pairs-total f (below (length t)) (below (length t))
      ∙ ap (λ g. total g (below (length t))) (fun_ext row-standing)
      ∙ total-standing (λ a. count (f a) (standing t)) 0 t (λ j e. rw zero-add (count-clear (f j) (λ b. rows j b e) (standing t)))
      ∙ sym (pairs-total f (standing t) (standing t))

module _ (m : Model) where
  matrix-free-row : (a b : ℕ) → at m.containers a ≡ none → matrix_bit m a b ≡ false
  unfolding matrix_bit
  matrix-free-row a b h = rw h

  matrix-free-column : (a b : ℕ) → at m.containers b ≡ none → matrix_bit m a b ≡ false
  unfolding matrix_bit
  matrix-free-column a b h = rw h (clear (at m.containers a))
    where
      clear : {A : Type 0} (o : Option A) → on (λ x. false) o ≡ false
      clear none = refl
      clear (some x) = refl

  pairs_below : (n : ℕ) → length m.containers ≡ n → pairs_in (matrix_bit m) (below n) (below n) ≡ pairs_in (matrix_bit m) (containers_of m) (containers_of m)
  pairs_below n h = rw (← h) (pairs-standing m.containers (matrix_bit m) matrix-free-row matrix-free-column)

  -- "PAIRS is the number of set bits in the matrix", counted over the standing containers
  pub pairs-computed : length m.containers ≡ container_slots → pairs (computed_bits m) ≡ pairs_in (matrix_bit m) (containers_of m) (containers_of m)
  unfolding pairs computed_bits
  pairs-computed h = pairs_below container_slots h
