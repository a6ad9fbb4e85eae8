-- Laws of sets joined to rows, word by word and policy by policy.
use mathlib.Core.Path.{◌≡◌, refl, sym, ap, ap₂, ◌∙◌, subst}
use mathlib.Core.Bool.{Bool, true, false, ◌&&◌, ◌||◌, cond, and-true, and-false, or-false}
use mathlib.Core.List.{List, []}
use Prim.Native.Nat.{ℕ, zero, suc, ◌+◌, ◌-◌, ◌*◌, ◌/◌, ◌%◌, ◌^◌, ◌≤◌, ◌<◌}
use native.Mathlib.Decide.{ℕ_discrete, dec_lt}
use native.Mathlib.Omega.{arith}
use lib.Dec.{eqb, leb}
use lib.ListN.{length, get_or, set, length-set}
use lib.Seq.{get_or-set_same, get_or-set_other}
use borrow.Author.Tests.{le-leb, lt-leb, leb-true}
use Rattle.bitrow.specs.Bit.{bit, bit_at, Row}
use Rattle.bitrow.specs.Set.{nothing, meet, join, under, remove}
use Rattle.bitrow.proofs.Words.{bit-zero, bit_below}
use Rattle.bitrow.proofs.Sets.{point, meet-at, join-at, join-assoc, join-self, remove-there, remove-other}
use Rattle.store.proofs.Cases.{by_eqb}
use Rattle.model.specs.Model.{container_slots}
use Rattle.model.proofs.Lists.{both}
use Rattle.sets.specs.Sets.{bits, Empty}
use Rattle.rules.specs.Lets.{having}
use Rattle.rules.proofs.Unions.{Joining, having_begun, having-take, having-skip, having_ended}
use Rattle.joins.specs.Joins.{join_if, raised, Joined, LinesAre}

-- ---- a set joined to some rows

module _ (s u : ℕ → Bool) where
  join-yes : {t : Bool} → t ≡ true → join_if t s u ≡ join s u
  unfolding join_if
  join-yes e = ap (λ t. cond t (join s u) s) e

  join-no : {t : Bool} → t ≡ false → join_if t s u ≡ s
  unfolding join_if
  join-no e = ap (λ t. cond t (join s u) s) e

-- ---- word by word

-- a set moved up
module _ (n : ℕ) (s : ℕ → Bool) where
  raised-in : (k : ℕ) → raised n s (n + k) ≡ s k
  unfolding raised
  raised-in k = let e : n + k - n ≡ k = omega arith in ap₂ ◌&&◌ (le-leb n (n + k) (omega arith)) (ap s e)

  raised-out : (a : ℕ) → a < n → raised n s a ≡ false
  unfolding raised
  raised-out a h = ap (λ t. t && s (a - n)) (lt-leb n a h)

-- by cases on where a stands
by-raised : (P : ℕ → Type 0) (n a : ℕ) → (a < n → P a) → ((k : ℕ) → P (n + k)) → P a
by-raised P n a f g = go (dec_lt a n)
  where
    go : Dec (a < n) → P a
    go (yes h) = f h
    go (no h) = let e : n + (a - n) ≡ a = omega arith in subst P e (g (a - n))

-- what is joined for the rest of a word gives the whole
pub record WordJoining (first word : ℕ) (u : ℕ → Bool) (before after : List (List ℕ)) (rest : ℕ) : Type 0 where
  pub size : length after ≡ length before
  pub small : rest < 2 ^ 64
  pub row : (a : ℕ) → join_if (raised first (bit rest) a) (bits after a) u ≡ join_if (raised first (bit word) a) (bits before a) u

module _ (first word : ℕ) (u : ℕ → Bool) (before : List (List ℕ)) where
  module _ {after : List (List ℕ)} {rest : ℕ} (g : WordJoining first word u before after rest) where
    pub joining-next : (k : ℕ) {next : ℕ} → bit rest k ≡ true → bit next ≡ remove k (bit rest) → next < rest
        → (row : List ℕ) → first + k < length after → bit_at row ≡ join (bits after (first + k)) u → WordJoining first word u before (set after (first + k) row) next
    joining-next k {next} t d l row h e = record {
      size = length-set after (first + k) row ∙ g.size;
      small = omega (arith, l, g.small);
      row = λ a. go a (ℕ_discrete a (first + k)) ∙ g.row a;
    }
      where
        other : (a : ℕ) → (a ≡ first + k → ⊥) → raised first (bit next) a ≡ raised first (bit rest) a
        other a = by-raised (λ a. (a ≡ first + k → ⊥) → raised first (bit next) a ≡ raised first (bit rest) a) first a
            (λ p n. raised-out first _ a p ∙ sym (raised-out first _ a p))
            (λ j n. raised-in first _ j ∙ point d j ∙ remove-other k (bit rest) j (λ q. n (ap (λ i. first + i) q)) ∙ sym (raised-in first _ j))

        go : (a : ℕ) → Dec (a ≡ first + k) → join_if (raised first (bit next) a) (bits (set after (first + k) row) a) u ≡ join_if (raised first (bit rest) a) (bits after a) u
        go a (yes q) = subst (λ a. join_if (raised first (bit next) a) (bits (set after (first + k) row) a) u ≡ join_if (raised first (bit rest) a) (bits after a) u) (sym q)
            (join-no _ u (raised-in first _ k ∙ point d k ∙ remove-there k (bit rest)) ∙ ap bit_at (get_or-set_same after (first + k) row [] h) ∙ e
            ∙ sym (join-yes _ u (raised-in first _ k ∙ t)))
        go a (no n) = ap₂ (λ t s. join_if t s u) (other a n) (ap bit_at (get_or-set_other after (first + k) a row [] n))

    pub joining-all : rest ≤ 0 → Joined (raised first (bit word)) u before after
    unfolding raised
    joining-all h = record { size = g.size; row = λ a l. sym (join-no (bits after a) u (ap (λ t. leb first a && t) (clear (a - first)) ∙ and-false (leb first a))) ∙ g.row a }
      where
        clear : (k : ℕ) → bit rest k ≡ false
        clear k = let e : rest ≡ 0 = omega arith in ap (λ w. bit w k) e ∙ bit-zero k

-- one after the other
pub joined-both : {w v u : ℕ → Bool} {a b c : List (List ℕ)} → Joined w u a b → Joined v u b c → Joined (join w v) u a c
unfolding join_if
joined-both {w} {v} {u} {a} {b} {c} f g = record {
  size = g.size ∙ f.size;
  row = λ i l. g.row i l ∙ ap (λ s. join_if (v i) s u) (f.row i l) ∙ go (bits a i) (w i) (v i) ∙ ap (λ t. join_if t (bits a i) u) (sym (join-at w v i));
}
  where
    go : (s : ℕ → Bool) (x y : Bool) → join_if y (join_if x s u) u ≡ join_if (x || y) s u
    go s true true = join-assoc s u u ∙ ap (join s) (join-self u)
    go s true false = refl
    go s false y = refl

-- a row by its four words
module _ (r : List ℕ) (p : Row r) where
  in-word : (k a : ℕ) → raised (k * 64) (bit (get_or r k 0)) a ≡ (eqb (a / 64) k && bit_at r a)
  unfolding bit_at raised
  in-word k a = by_eqb (λ t. (leb (k * 64) a && bit (get_or r k 0) (a - k * 64)) ≡ (t && bit (get_or r (a / 64) 0) (a % 64))) (a / 64) k
      (λ e. let d : a - k * 64 ≡ a % 64 = omega arith in ap₂ ◌&&◌ (le-leb (k * 64) a (omega arith)) (ap₂ (λ i j. bit (get_or r i 0) j) (sym e) d))
      (λ n. pick (leb (k * 64) a && bit (get_or r k 0) (a - k * 64)) refl n)
    where
      pick : (t : Bool) → (leb (k * 64) a && bit (get_or r k 0) (a - k * 64)) ≡ t → (a / 64 ≡ k → ⊥) → t ≡ false
      pick false e n = refl
      pick true e n =
          let h = both (leb (k * 64) a) (bit (get_or r k 0) (a - k * 64)) e in
          let i : k * 64 ≤ a = leb-true (k * 64) a h.0 in
          let j : a - k * 64 < 64 = bit_below 64 (get_or r k 0) (a - k * 64) (p.small k).fits h.1 in
          absurd (n (omega arith))

  one-of-four : (n : ℕ) (x : Bool) → n < 4 → ((((eqb n 0 && x) || (eqb n 1 && x)) || (eqb n 2 && x)) || (eqb n 3 && x)) ≡ x
  one-of-four zero x h = or-false ((x || false) || false) ∙ or-false (x || false) ∙ or-false x
  one-of-four (suc zero) x h = or-false (x || false) ∙ or-false x
  one-of-four (suc (suc zero)) x h = or-false x
  one-of-four (suc (suc (suc zero))) x h = refl
  one-of-four (suc (suc (suc (suc n)))) x h = absurd (omega arith)

  pub joined-row : {u : ℕ → Bool} {a b : List (List ℕ)}
      → Joined (join (join (join (raised 0 (bit (get_or r 0 0))) (raised 64 (bit (get_or r 1 0)))) (raised 128 (bit (get_or r 2 0)))) (raised 192 (bit (get_or r 3 0)))) u a b
      → Joined (bit_at r) u a b
  unfolding join
  joined-row {u} {a} g = record {
    size = g.size;
    row = λ i l. g.row i l ∙ ap (λ t. join_if t (bits a i) u)
        (ap₂ ◌||◌ (ap₂ ◌||◌ (ap₂ ◌||◌ (in-word 0 i) (in-word 1 i)) (in-word 2 i)) (in-word 3 i) ∙ one-of-four (i / 64) (bit_at r i) (omega arith));
  }

-- ---- lines, policy by policy

-- the lines so far, and the rows of the policies to come, make the unions
pub record LinesSoFar (some t : ℕ → Bool) (s u : ℕ → ℕ → Bool) (l : ℕ → Bool) (lines : List (List ℕ)) : Type 0 where
  pub size : length lines ≡ container_slots
  pub row : (a : ℕ) → a < container_slots → some a ≡ true → Joining (having t s a) u (having l s a) (bits lines a)

module _ {some t : ℕ → Bool} {s u : ℕ → ℕ → Bool} {l : ℕ → Bool} {lines : List (List ℕ)} where
  pub lines_none : Empty container_slots lines → l ≡ meet t (under 128) → LinesSoFar some t s u l lines
  lines_none e f = record { size = e.shape.size; row = λ a h k. having_begun t s u a f (e.row a) }

  module _ (g : LinesSoFar some t s u l lines) where
    pub lines-take : {p : ℕ} {rest w v : ℕ → Bool} {next : List (List ℕ)} → (p < 128) × (l p ≡ true) × (rest ≡ remove p l)
        → w ≡ meet (s p) some → v ≡ u p → Joined w v lines next → LinesSoFar some t s u rest next
    lines-take {p} {rest} {w} {v} {next} step f h j = record {
      size = j.size ∙ g.size;
      row = λ a i k. go a i k (s p a) refl;
    }
      where
        has : (a : ℕ) → some a ≡ true → w a ≡ s p a
        has a k = point f a ∙ meet-at (s p) some a ∙ ap (λ b. s p a && b) k ∙ and-true (s p a)

        go : (a : ℕ) → a < container_slots → some a ≡ true → (b : Bool) → s p a ≡ b → Joining (having t s a) u (having rest s a) (bits next a)
        go a i k true d =
            having-take t s u a l (g.row a i k) step.2 step.0 step.1 d
            (j.row a i ∙ join-yes (bits lines a) v (has a k ∙ d) ∙ ap (join (bits lines a)) h)
        go a i k false d =
            rw (j.row a i ∙ join-no (bits lines a) v (has a k ∙ d)) (having-skip t s u a l (g.row a i k) step.2 d)

    pub lines-all : l ≡ nothing → LinesAre 128 some t s u lines
    lines-all e = record { size = g.size; row = λ a h k. having_ended t s u a l (g.row a h k) e }
