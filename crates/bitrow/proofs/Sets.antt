-- Laws of sets of numbers.
use mathlib.Core.Path.{◌≡◌, refl, sym, ap, ◌∙◌, fun_ext}
use mathlib.Core.Bool.{Bool, true, false, not, ◌&&◌, ◌||◌, and-true, and-false, or-false, or_self, and_assoc, or_assoc, and_comm, or_comm}
use Prim.Native.Nat.{ℕ, ◌+◌, ◌≤◌, ◌<◌, zero-le}
use native.Mathlib.Decide.{ℕ_discrete, dec_lt}
use native.Mathlib.Omega.{arith}
use lib.Dec.{eqb}
use borrow.Author.Tests.{eq-eqb, ne_eqb, lt-ltb, le-ltb, le-leb, lt-leb}
use Rattle.bitrow.specs.Set.{nothing, under, at_least, insert, remove, meet, join, less, Bounded, Lowest}

-- ---- what is in each

-- a set's equation, at a number
pub point : {s t : ℕ → Bool} → s ≡ t → (j : ℕ) → s j ≡ t j
point e j = ap (λ (u : ℕ → Bool). u j) e

pub nothing-at : (j : ℕ) → nothing j ≡ false
unfolding nothing
nothing-at j = refl

pub under-in : (n j : ℕ) → j < n → under n j ≡ true
unfolding under
under-in n j h = lt-ltb j n h

pub under-out : (n j : ℕ) → n ≤ j → under n j ≡ false
unfolding under
under-out n j h = le-ltb j n h

pub at-least-in : (i j : ℕ) → i ≤ j → at_least i j ≡ true
unfolding at_least
at-least-in i j h = le-leb i j h

pub at-least-out : (i j : ℕ) → j < i → at_least i j ≡ false
unfolding at_least
at-least-out i j h = lt-leb i j h

pub insert-there : (i : ℕ) (s : ℕ → Bool) → insert i s i ≡ true
unfolding insert
insert-there i s = ap (λ (b : Bool). b || s i) (eq-eqb i i refl)

insert-other : (i : ℕ) (s : ℕ → Bool) (j : ℕ) → (j ≡ i → ⊥) → insert i s j ≡ s j
unfolding insert
insert-other i s j n = ap (λ (b : Bool). b || s j) (ne_eqb j i n)

pub remove-there : (i : ℕ) (s : ℕ → Bool) → remove i s i ≡ false
unfolding remove
remove-there i s = ap (λ (b : Bool). not b && s i) (eq-eqb i i refl)

pub remove-other : (i : ℕ) (s : ℕ → Bool) (j : ℕ) → (j ≡ i → ⊥) → remove i s j ≡ s j
unfolding remove
remove-other i s j n = ap (λ (b : Bool). not b && s j) (ne_eqb j i n)

pub meet-at : (s t : ℕ → Bool) (j : ℕ) → meet s t j ≡ (s j && t j)
unfolding meet
meet-at s t j = refl

pub join-at : (s t : ℕ → Bool) (j : ℕ) → join s t j ≡ (s j || t j)
unfolding join
join-at s t j = refl

pub less-at : (s t : ℕ → Bool) (j : ℕ) → less s t j ≡ (s j && not (t j))
unfolding less
less-at s t j = refl

-- ---- the algebra

pub meet_comm : (s t : ℕ → Bool) → meet s t ≡ meet t s
unfolding meet
meet_comm s t = fun_ext (λ j. and_comm (s j) (t j))

pub join-comm : (s t : ℕ → Bool) → join s t ≡ join t s
unfolding join
join-comm s t = fun_ext (λ j. or_comm (s j) (t j))

pub meet-assoc : (s t u : ℕ → Bool) → meet (meet s t) u ≡ meet s (meet t u)
unfolding meet
meet-assoc s t u = fun_ext (λ j. and_assoc (s j) (t j) (u j))

pub join-assoc : (s t u : ℕ → Bool) → join (join s t) u ≡ join s (join t u)
unfolding join
join-assoc s t u = fun_ext (λ j. or_assoc (s j) (t j) (u j))

pub join-self : (s : ℕ → Bool) → join s s ≡ s
unfolding join
join-self s = fun_ext (λ j. or_self (s j))

pub join-nothing : (s : ℕ → Bool) → join s nothing ≡ s
unfolding join nothing
join-nothing s = fun_ext (λ j. or-false (s j))

pub nothing-join : (s : ℕ → Bool) → join nothing s ≡ s
unfolding join nothing
nothing-join s = refl

pub meet-nothing : (s : ℕ → Bool) → meet s nothing ≡ nothing
unfolding meet nothing
meet-nothing s = fun_ext (λ j. and-false (s j))

pub nothing-meet : (s : ℕ → Bool) → meet nothing s ≡ nothing
unfolding meet nothing
nothing-meet s = refl

pub less-nothing : (s : ℕ → Bool) → less s nothing ≡ s
unfolding less nothing
less-nothing s = fun_ext (λ j. and-true (s j))

-- what is outside what s has of t is outside t
pub less-meet : (s t : ℕ → Bool) → less s (meet t s) ≡ less s t
unfolding meet less
less-meet s t = fun_ext (λ j. outside (s j) (t j))
  where
    outside : (a b : Bool) → (a && not (b && a)) ≡ (a && not b)
    outside true b = ap not (and-true b)
    outside false b = refl

-- ---- one number put in or taken out

-- two sets that agree at i and at every other number
by_one : (i : ℕ) {s t : ℕ → Bool} → s i ≡ t i → ((j : ℕ) → (j ≡ i → ⊥) → s j ≡ t j) → s ≡ t
by_one i {s} {t} e f = fun_ext (λ j. go j (ℕ_discrete j i))
  where
    go : (j : ℕ) → Dec (j ≡ i) → s j ≡ t j
    go j (yes p) = ap s p ∙ e ∙ ap t (sym p)
    go j (no n) = f j n

pub insert-member : (i : ℕ) (s : ℕ → Bool) → s i ≡ true → insert i s ≡ s
insert-member i s h = by_one i (insert-there i s ∙ sym h) (insert-other i s)

pub remove_absent : (i : ℕ) (s : ℕ → Bool) → s i ≡ false → remove i s ≡ s
remove_absent i s h = by_one i (remove-there i s ∙ sym h) (remove-other i s)

pub insert-remove : (i : ℕ) (s : ℕ → Bool) → s i ≡ true → insert i (remove i s) ≡ s
insert-remove i s h = by_one i (insert-there i (remove i s) ∙ sym h) (λ j n. insert-other i (remove i s) j n ∙ remove-other i s j n)

pub insert-join : (i : ℕ) (s t : ℕ → Bool) → insert i (join s t) ≡ join (insert i s) t
unfolding insert join
insert-join i s t = fun_ext (λ j. sym (or_assoc (eqb j i) (s j) (t j)))

pub remove-meet : (i : ℕ) (s t : ℕ → Bool) → remove i (meet s t) ≡ meet (remove i s) t
unfolding remove meet
remove-meet i s t = fun_ext (λ j. sym (and_assoc (not (eqb j i)) (s j) (t j)))

-- ---- bounds

pub bounded-nothing : (n : ℕ) → Bounded n nothing
bounded-nothing n = record { clear = λ j h. nothing-at j }

pub bounded-under : (n : ℕ) → Bounded n (under n)
bounded-under n = record { clear = under-out n }

module _ {n : ℕ} {s : ℕ → Bool} (p : Bounded n s) where
  pub bounded-meet-left : (t : ℕ → Bool) → Bounded n (meet s t)
  unfolding meet
  bounded-meet-left t = record { clear = λ j h. ap (λ (b : Bool). b && t j) (p.clear j h) }

  pub bounded-meet-right : (t : ℕ → Bool) → Bounded n (meet t s)
  unfolding meet
  bounded-meet-right t = record { clear = λ j h. ap (λ (b : Bool). t j && b) (p.clear j h) ∙ and-false (t j) }

  pub bounded-less : (t : ℕ → Bool) → Bounded n (less s t)
  unfolding less
  bounded-less t = record { clear = λ j h. ap (λ (b : Bool). b && not (t j)) (p.clear j h) }

  pub bounded-join : {t : ℕ → Bool} → Bounded n t → Bounded n (join s t)
  unfolding join
  bounded-join {t} q = record { clear = λ j h. ap (λ (b : Bool). b || t j) (p.clear j h) ∙ q.clear j h }

  -- two sets below n that agree there are the same
  pub bounded-ext : {t : ℕ → Bool} → Bounded n t → ((j : ℕ) → j < n → s j ≡ t j) → s ≡ t
  bounded-ext {t} q f = fun_ext (λ j. go j (dec_lt j n))
    where
      go : (j : ℕ) → Dec (j < n) → s j ≡ t j
      go j (yes h) = f j h
      go j (no m) = p.clear j (omega arith) ∙ sym (q.clear j (omega arith))

  -- s has nothing but what it has below n
  pub meet-under : meet s (under n) ≡ s
  meet-under = sym (bounded-ext (bounded-meet-left (under n)) (λ j h. sym (meet-at s (under n) j ∙ ap (λ (b : Bool). s j && b) (under-in n j h) ∙ and-true (s j))))

-- a bound may be raised
pub bounded-raise : {m n : ℕ} {s : ℕ → Bool} → m ≤ n → Bounded m s → Bounded n s
bounded-raise h p = record { clear = λ j l. p.clear j (omega arith) }

-- ---- the numbers below and from a number

-- the lower of two bounds
pub under-under : (m n : ℕ) → m ≤ n → meet (under m) (under n) ≡ under m
under-under m n h = meet-under (bounded-raise h (bounded-under m))

pub under-zero : under 0 ≡ nothing
unfolding under nothing
under-zero = fun_ext (λ j. le-ltb j 0 zero-le)

-- not below is from there on
less-under : (s : ℕ → Bool) (i : ℕ) → less s (under i) ≡ meet (at_least i) s
unfolding less meet
less-under s i = fun_ext (λ j. and_comm (s j) (not (under i j)) ∙ ap (λ (b : Bool). b && s j) (go j (dec_lt j i)))
  where
    go : (j : ℕ) → Dec (j < i) → not (under i j) ≡ at_least i j
    go j (yes h) = ap not (under-in i j h) ∙ sym (at-least-out i j h)
    go j (no m) = ap not (under-out i j (omega arith)) ∙ sym (at-least-in i j (omega arith))

-- all of u less those of u below i
pub less-below : (u : ℕ → Bool) (i : ℕ) {r s t : ℕ → Bool} → s ≡ u → t ≡ meet (under i) u → r ≡ less s t → r ≡ meet (at_least i) u
less-below u i {r} {s} {t} p q e = e ∙ ap (λ (k : ℕ → Bool). less k t) p ∙ ap (less u) q ∙ less-meet u (under i) ∙ less-under u i

-- the part of a set below a number, as that number goes up to the next of the set
pub meet-next : (s : ℕ → Bool) (i n j : ℕ) → Lowest s i n j → insert j (meet s (under i)) ≡ meet s (under (j + 1))
unfolding meet
meet-next s i n j l = by_one j here (λ k m. insert-other j (meet s (under i)) k m ∙ there k m (dec_lt k i) (dec_lt k j))
  where
    here : insert j (meet s (under i)) j ≡ (s j && under (j + 1) j)
    here = insert-there j (meet s (under i)) ∙ sym (ap (λ (b : Bool). b && under (j + 1) j) l.there ∙ under-in (j + 1) j (omega arith))

    there : (k : ℕ) → (k ≡ j → ⊥) → Dec (k < i) → Dec (k < j) → (s k && under i k) ≡ (s k && under (j + 1) k)
    there k m (yes p) d = ap (λ (b : Bool). s k && b) (under-in i k p ∙ sym (under-in (j + 1) k (omega (arith, l.from))))
    there k m (no o) (yes p) = let f : s k ≡ false = l.before k (omega arith) p in ap (λ (b : Bool). b && under i k) f ∙ sym (ap (λ (b : Bool). b && under (j + 1) k) f)
    there k m (no o) (no q) = ap (λ (b : Bool). s k && b) (under-out i k (omega arith) ∙ sym (under-out (j + 1) k (omega arith)))

-- one number on, where that number is in the set, and where it is not
pub meet-take : (s : ℕ → Bool) (i : ℕ) → s i ≡ true → insert i (meet s (under i)) ≡ meet s (under (i + 1))
meet-take s i e = meet-next s i (i + 1) i (record { from = omega arith; below = omega arith; there = e; before = λ k a b. absurd (omega arith) })

pub meet-skip : (s : ℕ → Bool) (i : ℕ) → s i ≡ false → meet s (under i) ≡ meet s (under (i + 1))
unfolding meet
meet-skip s i e = by_one i (ap (λ (b : Bool). b && under i i) e ∙ sym (ap (λ (b : Bool). b && under (i + 1) i) e)) (λ j n. ap (λ (b : Bool). s j && b) (go j n (dec_lt j i)))
  where
    go : (j : ℕ) → (j ≡ i → ⊥) → Dec (j < i) → under i j ≡ under (i + 1) j
    go j n (yes p) = under-in i j p ∙ sym (under-in (i + 1) j (omega arith))
    go j n (no m) = under-out i j (omega arith) ∙ sym (under-out (i + 1) j (omega arith))
