-- The walk, whatever the kinds are: the order of three numbers as the order of one.
use mathlib.Core.Path.{◌≡◌}
use mathlib.Core.Bool.{Bool, true, false, ◌&&◌, ◌||◌}
use Prim.Native.Nat.{ℕ, suc, ◌+◌, ◌≤◌, ◌<◌}
use native.Mathlib.Decide.{dec_lt, ℕ_discrete}
use native.Mathlib.Omega.{arith}
use lib.Dec.{eqb, ltb}
use borrow.Author.Tests.{eq-eqb, ne_eqb, lt-ltb, le-ltb}
use Rattle.model.specs.declared.Finding.{Finding}
use Rattle.model.specs.Findings.{Place, finding, finding_code, after, place_of}
use Rattle.model.proofs.Next.{Least, NoneAfter}
use Rattle.findings.specs.RowSteps.{row_number}

-- ---- three numbers as one, where those of a and b are below 65536

abbrev pub rank : ℕ → ℕ → ℕ → ℕ
rank k a b = finding_code (finding k a b)

abbrev pub rank_of : Place → ℕ
rank_of p = rank p.kind p.a p.b

-- three numbers that a cursor can hold
pub record SmallPlace (c : Place) : Type 0 where
  pub small_kind : c.kind < 65536
  pub small_a : c.a < 65536
  pub small_b : c.b < 65536

module _ (c : Place) (g : Finding) (s : SmallPlace c) (t : SmallPlace (place_of g)) where
  after-lt : rank_of c < finding_code g → after c g ≡ true
  unfolding after finding_code
  after-lt h = go (dec_lt c.kind g.kind) (dec_lt c.a g.a)
    where
      go : Dec (c.kind < g.kind) → Dec (c.a < g.a)
          → (ltb c.kind g.kind || (eqb c.kind g.kind && (ltb c.a g.a || (eqb c.a g.a && ltb c.b g.b)))) ≡ true
      go (yes p) d = rw (lt-ltb c.kind g.kind p)
      go (no m) (yes p) =
          let e : c.kind ≡ g.kind = omega (arith, s.small_a, s.small_b, t.small_a, t.small_b) in
          rw (le-ltb c.kind g.kind (omega arith), eq-eqb c.kind g.kind e, lt-ltb c.a g.a p)
      go (no m) (no n) =
          let e : c.kind ≡ g.kind = omega (arith, s.small_a, s.small_b, t.small_a, t.small_b) in
          let d : c.a ≡ g.a = omega (arith, s.small_a, s.small_b, t.small_a, t.small_b) in
          rw (le-ltb c.kind g.kind (omega arith), eq-eqb c.kind g.kind e, le-ltb c.a g.a (omega arith), eq-eqb c.a g.a d, lt-ltb c.b g.b (omega arith))

  after-ge : finding_code g ≤ rank_of c → after c g ≡ false
  unfolding after finding_code
  after-ge h = go (ℕ_discrete c.kind g.kind) (ℕ_discrete c.a g.a)
    where
      go : Dec (c.kind ≡ g.kind) → Dec (c.a ≡ g.a)
          → (ltb c.kind g.kind || (eqb c.kind g.kind && (ltb c.a g.a || (eqb c.a g.a && ltb c.b g.b)))) ≡ false
      go (no m) d =
          rw (le-ltb c.kind g.kind (omega (arith, s.small_a, s.small_b, t.small_a, t.small_b)), ne_eqb c.kind g.kind m)
      go (yes p) (no m) =
          rw (le-ltb c.kind g.kind (omega arith), eq-eqb c.kind g.kind p, le-ltb c.a g.a (omega (arith, s.small_a, s.small_b, t.small_a, t.small_b)), ne_eqb c.a g.a m)
      go (yes p) (yes q) =
          rw (le-ltb c.kind g.kind (omega arith), eq-eqb c.kind g.kind p, le-ltb c.a g.a (omega arith), eq-eqb c.a g.a q, le-ltb c.b g.b (omega arith))

  pub lt-after : after c g ≡ true → rank_of c < finding_code g
  lt-after e = go (dec_lt (rank_of c) (finding_code g))
    where
      go : Dec (rank_of c < finding_code g) → rank_of c < finding_code g
      go (yes p) = p
      go (no n) = let x : after c g ≡ false = after-ge (omega arith) in let z : ◌≡◌ {A = ℕ} 0 1 = cc in absurd (omega arith)

-- ---- the walk over kinds 1 to 7, a and b below 256: a test of findings, T k a the row of all b

pub record Inside (k a b : ℕ) : Type 0 where
  pub low : 0 < k
  pub high : k < 8
  pub in_a : a < 256
  pub in_b : b < 256

abbrev pub AllInside : (ℕ → ℕ → ℕ → Bool) → Type 0
AllInside T = (k a b : ℕ) → T k a b ≡ true → Inside k a b

abbrev pub there_in : (ℕ → ℕ → ℕ → Bool) → Finding → Bool
there_in T g = T g.kind g.a g.b

-- from the place p the walk has come to k, a and all b from `from` on: that is after p, and all that is after p is left
pub record Come (T : ℕ → ℕ → ℕ → Bool) (p : Place) (k a from : ℕ) : Type 0 where
  pub short_a : a ≤ 65536
  pub short_b : from ≤ 65536
  pub far : p.kind ≤ k
  pub past : rank_of p < rank k a from
  pub left : (x y z : ℕ) → T x y z ≡ true → rank_of p < rank x y z → rank k a from ≤ rank x y z

module _ (T : ℕ → ℕ → ℕ → Bool) (B : AllInside T) where
  pub sized-there : (g : Finding) → there_in T g ≡ true → SmallPlace (place_of g)
  sized-there g e =
      let i = B g.kind g.a g.b e in
      record { small_kind = omega (arith, i.high); small_a = omega (arith, i.in_a); small_b = omega (arith, i.in_b) }

module _ (T : ℕ → ℕ → ℕ → Bool) (B : AllInside T) (p : Place) (s : SmallPlace p) where
  sized : (g : Finding) → there_in T g ≡ true → SmallPlace (place_of g)
  sized = sized-there T B

  pub come-start : Come T p p.kind p.a (p.b + 1)
  unfolding finding_code
  come-start = record { short_a = omega (arith, s.small_a); short_b = omega (arith, s.small_b); far = omega arith; past = omega arith; left = λ x y z t h. omega arith }

  -- the row has `from`: that is the first after p
  pub come-found : (k a from : ℕ) → Come T p k a from → T k a from ≡ true → Least (there_in T) p (finding k a from)
  come-found k a from c t =
      let g = finding k a from in
      record {
        is = t;
        later = after-lt p g s (sized g t) c.past;
        least = λ h e d. after-ge (place_of h) g (sized h e) (sized g t) (c.left h.kind h.a h.b e (lt-after p h s (sized h e) d));
      }

  -- the row has not `from`
  pub come-skip : (k a from : ℕ) → Come T p k a from → a < 256 → from < 256 → T k a from ≡ false → Come T p k a (suc from)
  unfolding finding_code
  come-skip k a from c h l f = record {
    short_a = c.short_a;
    short_b = omega arith;
    far = c.far;
    past = omega (arith, c.past);
    left = λ x y z e q. go x y z e (c.left x y z e q) (dec_lt (rank k a from) (rank x y z));
  }
    where
      go : (x y z : ℕ) → T x y z ≡ true → rank k a from ≤ rank x y z → Dec (rank k a from < rank x y z) → rank k a (suc from) ≤ rank x y z
      go x y z e q (yes m) = omega arith
      go x y z e q (no m) =
          let i = B x y z e in
          let ka = i.in_a in
          let kb = i.in_b in
          let ek : x ≡ k = omega arith in
          let ea : y ≡ a = omega arith in
          let eb : z ≡ from = omega arith in
          let t : T k a from ≡ true = rw (ek, ea, eb) at e in
          let w : ◌≡◌ {A = ℕ} 0 1 = cc in
          absurd (omega arith)

  -- the row is at its end
  pub come-row : (k a from : ℕ) → Come T p k a from → a < 256 → 256 ≤ from → Come T p k (a + 1) 0
  unfolding finding_code
  come-row k a from c h l = record {
    short_a = omega arith;
    short_b = omega arith;
    far = c.far;
    past = omega (arith, c.past, c.short_b);
    left = λ x y z e q. let i = B x y z e in let ka = i.in_a in let kb = i.in_b in let u = c.left x y z e q in omega arith;
  }

  -- no finding is from there on and before the slot b of kind j, which is further on
  pub come-later : (k a from j b : ℕ) → Come T p k a from → k ≤ j → (j ≡ k → a < b) → b ≤ 65536
      → ((x y z : ℕ) → T x y z ≡ true → row_number k a ≤ row_number x y → row_number x y < row_number j b → ⊥) → Come T p j b 0
  unfolding finding_code
  come-later k a from j b c f n l none = record {
    short_a = l;
    short_b = omega arith;
    far = omega (arith, c.far);
    past = after (ℕ_discrete j k);
    left = λ x y z e q. go x y z e (c.left x y z e q) (dec_lt (rank x y z) (rank j b 0));
  }
    where
      after : Dec (j ≡ k) → rank_of p < rank j b 0
      after (yes e) = let m = n e in omega (arith, c.past, c.short_b)
      after (no m) = omega (arith, c.far, s.small_a, s.small_b)

      go : (x y z : ℕ) → T x y z ≡ true → rank k a from ≤ rank x y z → Dec (rank x y z < rank j b 0) → rank j b 0 ≤ rank x y z
      go x y z e q (no m) = omega arith
      go x y z e q (yes m) = let i = B x y z e in let kb = i.in_b in absurd (none x y z e (omega arith) (omega arith))

  -- no kind is left
  pub come-end : (k a from : ℕ) → Come T p k a from → 8 ≤ k → NoneAfter (there_in T) p
  unfolding finding_code
  come-end k a from c h g e = after-ge p g s (sized g e) (go (dec_lt (rank_of p) (finding_code g)))
    where
      go : Dec (rank_of p < finding_code g) → finding_code g ≤ rank_of p
      go (no n) = omega arith
      go (yes q) =
          let i = B g.kind g.a g.b e in
          let kk = i.high in
          let ka = i.in_a in
          let kb = i.in_b in
          let l = c.left g.kind g.a g.b e q in
          omega arith
