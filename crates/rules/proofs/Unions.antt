-- Laws of unions over the policies, and of the rules over sets.
use mathlib.Core.Path.{◌≡◌, refl, sym, ap, ap₂, ◌∙◌, fun_ext}
use mathlib.Core.Bool.{Bool, true, false, not, ◌&&◌, ◌||◌, and-true, and-false, or-true, or-false, and_assoc, and_comm, or_assoc, or_comm, and-or_distrib_left, true≢false}
use mathlib.Core.List.{List}
use Prim.Native.Nat.{ℕ, zero, suc, ◌+◌, ◌<◌}
use native.Mathlib.Decide.{ℕ_discrete}
use native.Mathlib.Omega.{arith}
use lib.Dec.{eqb}
use borrow.Author.Tests.{eq-eqb, ne_eqb}
use Rattle.std.specs.Prelude.{Option, Some, None, unwrap_or}
use Rattle.bitrow.specs.Bit.{bit_at}
use Rattle.bitrow.specs.Set.{nothing, meet, join, less, under, insert, remove, some}
use Rattle.bitrow.proofs.Sets.{point, nothing-at, meet-at, under-in, remove-there, remove-other, remove_absent, nothing-join, join-nothing}
use Rattle.bitrow.proofs.Tests.{some-zero, some_next, some-skip, some-cong}
use Rattle.rules.specs.Lets.{having, union, Picks, picked, sets_let, sets_let_by, line}

and-swap : (a b c : Bool) → ((a && b) && c) ≡ ((a && c) && b)
and-swap true b c = and_comm b c
and-swap false b c = refl

-- ---- a set with one number taken out

some-none : (n : ℕ) → some nothing n ≡ false
some-none zero = some-zero nothing
some-none (suc n) = let e : suc n ≡ n + 1 = omega arith in ap (some nothing) e ∙ some-skip nothing n (nothing-at n) ∙ some-none n

some-out : (s : ℕ → Bool) (n q : ℕ) → q < n → some s n ≡ (s q || some (remove q s) n)
some-out s zero q h = absurd (omega arith)
some-out s (suc n) q h = let e : suc n ≡ n + 1 = omega arith in rw e (go (some-out s n q) (ℕ_discrete q n))
  where
    go : (q < n → some s n ≡ (s q || some (remove q s) n)) → Dec (q ≡ n) → some s (n + 1) ≡ (s q || some (remove q s) (n + 1))
    go ih (yes p) =
        some_next s n ∙ or_comm (some s n) (s n)
        ∙ sym (ap₂ ◌||◌ (ap s p) (some-skip (remove q s) n (ap (remove q s) (sym p) ∙ remove-there q s)
        ∙ some-cong (remove q s) s n (λ j l. remove-other q s j (λ k. absurd (omega arith)))))
    go ih (no m) =
        some_next s n ∙ ap (λ t. t || s n) (ih (omega arith)) ∙ or_assoc (s q) (some (remove q s) n) (s n)
        ∙ sym (ap (λ t. s q || t) (some_next (remove q s) n ∙ ap (λ t. some (remove q s) n || t) (remove-other q s n (λ k. m (sym k)))))

module _ (s : ℕ → ℕ → Bool) (a : ℕ) where
  having-none : having nothing s a ≡ nothing
  unfolding having nothing
  having-none = refl

  having-under : (t : ℕ → Bool) (n : ℕ) → having (meet t (under n)) s a ≡ meet (having t s a) (under n)
  unfolding having meet
  having-under t n = fun_ext (λ q. and-swap (t q) (under n q) (s q a))

  having-out : (t : ℕ → Bool) (q : ℕ) → having (remove q t) s a ≡ remove q (having t s a)
  unfolding having remove
  having-out t q = fun_ext (λ p. and_assoc (not (eqb p q)) (t p) (s p a))

  having-yes : (t : ℕ → Bool) (q : ℕ) → t q ≡ true → s q a ≡ true → having t s a q ≡ true
  unfolding having
  having-yes t q e f = ap₂ ◌&&◌ e f

  having-of : (t : ℕ → Bool) (q : ℕ) → t q ≡ true → having t s a q ≡ s q a
  unfolding having
  having-of t q e = ap (λ x. x && s q a) e

  having-no : (t : ℕ → Bool) (q : ℕ) → s q a ≡ false → having t s a q ≡ false
  unfolding having
  having-no t q f = ap (λ x. t q && x) f ∙ and-false (t q)

-- ---- a union, policy by policy: what is joined, and the sets of those of l that are still to come, make the union over t

pub record Joining (t : ℕ → Bool) (u : ℕ → ℕ → Bool) (l joined : ℕ → Bool) : Type 0 where
  pub whole : join joined (union l u 128) ≡ union t u 128

module _ {t : ℕ → Bool} {u : ℕ → ℕ → Bool} where
  pub joining_none : {l joined : ℕ → Bool} → l ≡ meet t (under 128) → joined ≡ nothing → Joining t u l joined
  unfolding union
  joining_none e f = record {
    whole = rw (e, f) (nothing-join _ ∙ fun_ext (λ j. some-cong _ _ 128 (λ q h. point (having-under u j t 128) q ∙ meet-at (having t u j) (under 128) q
        ∙ ap (λ x. having t u j q && x) (under-in 128 q h) ∙ and-true (having t u j q))));
  }

  module _ {l joined : ℕ → Bool} (g : Joining t u l joined) where
    pub joining-one : {q : ℕ} {next all : ℕ → Bool} → q < 128 → l q ≡ true → next ≡ remove q l → all ≡ join joined (u q) → Joining t u next all
    unfolding union join
    joining-one {q} h e d f = record {
      whole = rw (d, f) (fun_ext (λ j. or_assoc (joined j) (u q j) (some (having (remove q l) u j) 128) ∙ ap (λ x. joined j || x) (sym (out j)) ∙ point g.whole j));
    }
      where
        out : (j : ℕ) → some (having l u j) 128 ≡ (u q j || some (having (remove q l) u j) 128)
        out j = some-out (having l u j) 128 q h ∙ ap₂ ◌||◌ (having-of u j l q e) (ap (λ (s : ℕ → Bool). some s 128) (sym (having-out u j l q)))

    pub joining-other : {next : ℕ → Bool} → next ≡ l → Joining t u next joined
    joining-other e = record { whole = rw e g.whole }

    pub joining-all : l ≡ nothing → joined ≡ union t u 128
    unfolding union
    joining-all e = sym (join-nothing joined) ∙ ap (join joined) (sym (rw e (fun_ext (λ j. ap (λ (s : ℕ → Bool). some s 128) (having-none u j) ∙ some-none 128 ∙ sym (nothing-at j))))) ∙ g.whole

-- of those whose set in s has a
module _ (t : ℕ → Bool) (s u : ℕ → ℕ → Bool) (a : ℕ) where
  pub having_begun : {l joined : ℕ → Bool} → l ≡ meet t (under 128) → joined ≡ nothing → Joining (having t s a) u (having l s a) joined
  having_begun e f = joining_none (ap (λ (x : ℕ → Bool). having x s a) e ∙ having-under s a t 128) f

  module _ (l : ℕ → Bool) {joined : ℕ → Bool} (g : Joining (having t s a) u (having l s a) joined) {q : ℕ} {next : ℕ → Bool} (d : next ≡ remove q l) where
    pub having-take : {all : ℕ → Bool} → q < 128 → l q ≡ true → s q a ≡ true → all ≡ join joined (u q) → Joining (having t s a) u (having next s a) all
    having-take h e f j = joining-one g h (having-yes s a l q e f) (ap (λ (x : ℕ → Bool). having x s a) d ∙ having-out s a l q) j

    pub having-skip : s q a ≡ false → Joining (having t s a) u (having next s a) joined
    having-skip f = joining-other g (ap (λ (x : ℕ → Bool). having x s a) d ∙ having-out s a l q ∙ remove_absent q (having l s a) (having-no s a l q f))

  pub having_ended : (l : ℕ → Bool) {joined : ℕ → Bool} → Joining (having t s a) u (having l s a) joined → l ≡ nothing → joined ≡ union (having t s a) u 128
  having_ended l g e = joining-all g (ap (λ (x : ℕ → Bool). having x s a) e ∙ having-none s a)

-- ---- what is picked, policy by policy

pub picked-or : (o : Option (List ℕ)) (d r : List ℕ) → bit_at d ≡ nothing → r ≡ unwrap_or o d → bit_at r ≡ picked o
picked-or None d r e f = ap bit_at f ∙ e
picked-or (Some x) d r e f = ap bit_at f

pub record Picking (t : ℕ → Bool) (s u : ℕ → ℕ → Bool) (a : ℕ) (l : ℕ → Bool) (any : Bool) (joined : ℕ → Bool) : Type 0 where
  pub more : (any || some (having l s a) 128) ≡ some (having t s a) 128
  pub rest : Joining (having t s a) u (having l s a) joined
  pub empty : any ≡ false → joined ≡ nothing

module _ {t : ℕ → Bool} {s u : ℕ → ℕ → Bool} {a : ℕ} where
  pub pick_none : {l joined : ℕ → Bool} → l ≡ meet t (under 128) → joined ≡ nothing → Picking t s u a l false joined
  pick_none e f = record {
    more = some-cong _ _ 128 (λ q h. point (ap (λ (x : ℕ → Bool). having x s a) e ∙ having-under s a t 128) q ∙ meet-at (having t s a) (under 128) q
        ∙ ap (λ x. having t s a q && x) (under-in 128 q h) ∙ and-true (having t s a q));
    rest = having_begun t s u a e f;
    empty = λ n. f;
  }

  module _ {l joined : ℕ → Bool} {any : Bool} (g : Picking t s u a l any joined) where
    module _ {q : ℕ} {next : ℕ → Bool} (h : q < 128) (e : l q ≡ true) (d : next ≡ remove q l) where
      pub pick-take : {all : ℕ → Bool} → s q a ≡ true → all ≡ join joined (u q) → Picking t s u a next true all
      pick-take f j = record {
        more = sym (or-true any) ∙ ap (λ x. any || x) (sym (some-out (having l s a) 128 q h ∙ ap (λ x. x || some (remove q (having l s a)) 128) (having-yes s a l q e f))) ∙ g.more;
        rest = having-take t s u a l g.rest d h e f j;
        empty = λ n. absurd (true≢false n);
      }

      pub pick-skip : s q a ≡ false → Picking t s u a next any joined
      pick-skip f = record {
        more = ap (λ (x : ℕ → Bool). any || some x 128) (ap (λ (x : ℕ → Bool). having x s a) d ∙ having-out s a l q ∙ remove_absent q (having l s a) (having-no s a l q f)) ∙ g.more;
        rest = having-skip t s u a l g.rest d f;
        empty = g.empty;
      }

    pub picked-all : l ≡ nothing → Picks 128 t s u a any joined
    unfolding union
    picked-all e = record {
      any = sym (or-false any) ∙ ap (λ x. any || x) (sym (ap (λ (x : ℕ → Bool). some (having x s a) 128) e ∙ ap (λ (x : ℕ → Bool). some x 128) (having-none s a) ∙ some-none 128)) ∙ g.more;
      joined = having_ended t s u a l g.rest e;
    }

-- ---- the rules over sets

module _ {n : ℕ} {w : ℕ → Bool} {sel alw : ℕ → ℕ → Bool} {a : ℕ} {x : Bool} {u : ℕ → Bool} (s : ℕ → Bool) where
  -- some policy selects a: what those that do allow
  pub lets-chosen : Picks n w sel alw a x u → x ≡ true → meet s u ≡ meet s (sets_let n w sel alw a)
  unfolding meet sets_let
  lets-chosen p e = rw p.joined (fun_ext (λ j. rw (sym p.any ∙ e)))

  -- none does: all
  pub lets-free : Picks n w sel alw a x u → x ≡ false → s ≡ meet s (sets_let n w sel alw a)
  unfolding meet sets_let
  lets-free p e = fun_ext (λ j. rw (sym p.any ∙ e) (sym (and-true (s j))))

  -- what no policy selects, and what a policy selects that allows a
  pub lets_by : {t : ℕ → Bool} → Picks n w alw sel a x u → t ≡ union w sel n → join (less s t) (meet s u) ≡ meet s (sets_let_by n w sel alw a)
  unfolding meet sets_let_by sets_let join less union having
  lets_by p e = rw (p.joined, e) (fun_ext (λ j.
      ap (λ (b : Bool). (s j && not (some (λ q. w q && sel q j) n)) || (s j && b)) (some-cong _ _ n (λ q h. and-swap (w q) (alw q a) (sel q j)))
      ∙ sym (and-or_distrib_left (s j) (not (some (λ q. w q && sel q j) n)) (some (λ q. (w q && sel q j) && alw q a) n))))

  -- the same, of sets that are these
  pub lets-by-these : {t y z r : ℕ → Bool} → Picks n w alw sel a x u → t ≡ union w sel n → y ≡ less s t → z ≡ meet s u → r ≡ join y z
      → r ≡ meet s (sets_let_by n w sel alw a)
  lets-by-these {t} {y} {z} p e l m f = f ∙ ap (λ (k : ℕ → Bool). join k z) l ∙ ap (join (less s t)) m ∙ lets_by p e

module _ (n : ℕ) (s w v : ℕ → Bool) (sel alw : ℕ → ℕ → Bool) (a : ℕ) where
  -- one after the other, where a stands, and a itself
  pub line-meet : s a ≡ true → insert a (meet (meet s (sets_let n w sel alw a)) (sets_let_by n v sel alw a)) ≡ line n s w v sel alw a
  unfolding insert meet sets_let_by line
  line-meet e = fun_ext (λ j. go j (ℕ_discrete j a))
    where
      go : (j : ℕ) → Dec (j ≡ a)
          → (eqb j a || ((s j && sets_let n w sel alw a j) && sets_let n v sel alw j a)) ≡ (s a && (s j && (eqb a j || (sets_let n w sel alw a j && sets_let n v sel alw j a))))
      go j (yes q) = rw (e, eq-eqb j a q, eq-eqb a j (sym q), ap s q ∙ e)
      go j (no m) = rw (e, ne_eqb j a m, ne_eqb a j (λ q. m (sym q))) (and_assoc (s j) (sets_let n w sel alw a j) (sets_let n v sel alw j a))

  pub line-meet-these : {t u r : ℕ → Bool} → s a ≡ true → t ≡ meet s (sets_let n w sel alw a) → u ≡ meet t (sets_let_by n v sel alw a)
      → r ≡ insert a u → r ≡ line n s w v sel alw a
  line-meet-these e h f g = g ∙ ap (insert a) (f ∙ ap (λ (k : ℕ → Bool). meet k (sets_let_by n v sel alw a)) h) ∙ line-meet e

  pub line-free : s a ≡ false → nothing ≡ line n s w v sel alw a
  unfolding nothing line
  line-free e = fun_ext (λ j. rw e)
