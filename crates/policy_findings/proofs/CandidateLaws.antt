-- A policy that is no candidate is of the other direction, does not select the containers that it would have to, or is not above a where
-- it would have to be: so it makes no finding with a.
use mathlib.Core.Path.{◌≡◌, refl, sym, ap, ap₂, ◌∙◌, fun_ext}
use mathlib.Core.Bool.{Bool, true, false, ◌&&◌}
use mathlib.Core.List.{List}
use mathlib.Core.Option.{Option, none, some}
use Prim.Native.Nat.{ℕ, ◌+◌}
use native.Mathlib.Omega.{arith}
use lib.Dec.{leb, ltb}
use borrow.Author.Tests.{leb-false, lt-ltb}
use Rattle.bitrow.specs.Bit.{bit_at}
use Rattle.bitrow.specs.Set.{meet, under, at_least}
use Rattle.bitrow.proofs.Sets.{point, meet-at}
use Rattle.block.specs.declared.Direction.{Direction}
use Rattle.block.specs.Entry.{Policy}
use Rattle.block.specs.Reader.{direction_of}
use Rattle.model.specs.Table.{on, at as slot}
use Rattle.model.specs.Rules.{same_direction}
use Rattle.model.specs.Findings.{one_direction}
use Rattle.model.proofs.Lists.{both}
use Rattle.store.specs.Layout.{policy_start, word_at}
use Rattle.formed.specs.Words.{policy_at}
use Rattle.formed.specs.Registry.{model_in}
use Rattle.entries.proofs.Trials.{policy-at, policy-below}
use Rattle.reach.specs.Sides.{direction_set}
use Rattle.container_findings.specs.Rows.{policies_stand}
use Rattle.policy_pairs.specs.Comparisons.{comparison, AtPolicy, ComparedIn}
use Rattle.policy_pairs.specs.declared.Compared.{Compared}
use Rattle.policy_pairs.proofs.ComparisonLaws.{comparison-below}
use Rattle.policy_pairs.proofs.SharedContainers.{comparison-alike, shadow-covered, conflict-shared}
use Rattle.selecting.specs.Selecting.{Sharing, Covering}
use Rattle.policy_findings.specs.Candidates.{AllFound, Candidates}

-- standing policies, among them all that compare so with a
candidates-are : (m : List ℕ) (k a : ℕ) {s : ℕ → Bool} → ((b : ℕ) → s b ≡ true → policies_stand m b ≡ true)
    → ((b : ℕ) → policies_stand m b ≡ true → comparison k m a b ≡ true → s b ≡ true) → Candidates m k a s
unfolding meet
candidates-are m k a {s} f g = record { stand = f; row = fun_ext (λ b. pick (s b) (policies_stand m b) (comparison k m a b) (f b) (g b)) }
  where
    pick : (x y z : Bool) → (x ≡ true → y ≡ true) → (y ≡ true → z ≡ true → x ≡ true) → (x && z) ≡ (y && z)
    pick true y z f g = ap (λ t. t && z) (sym (f refl))
    pick false true true f g = g refl refl
    pick false true false f g = refl
    pick false false z f g = refl

-- a policy of a direction stands
direction-stands : (m : List ℕ) (d : Direction) (q : ℕ) → direction_set (model_in m) d q ≡ true → policies_stand m q ≡ true
unfolding direction_set
direction-stands m d q = go (slot (model_in m).policies q)
  where
    go : (o : Option Policy) → on (λ p. same_direction d p.direction) o ≡ true → on (λ p. true) o ≡ true
    go none h = h
    go (some p) h = refl

module _ (m : List ℕ) (a : ℕ) (here : AtPolicy m a) where
  abbrev alike_set : ℕ → Bool
  alike_set = direction_set (model_in m) (direction_of (word_at m (policy_start a)))

  same-direction : (b : ℕ) → alike_set b ≡ one_direction (model_in m) a b
  unfolding direction_set one_direction policy_at
  same-direction b =
      sym (ap (λ (o : Option Policy). on (λ p. on (λ q. same_direction p.direction q.direction) (slot (model_in m).policies b)) o) (policy-at m a here.here))

  -- those of its direction among some that have all
  pub of-both : (k : ℕ) {alike found s : ℕ → Bool} → alike ≡ direction_set (model_in m) (direction_of (word_at m (policy_start a)))
      → AllFound m k a found → s ≡ meet alike found → Candidates m k a s
  of-both k {alike} {found} {s} e f g =
      candidates-are m k a
      (λ b h. direction-stands m _ b (sym (point e b) ∙ (both (alike b) (found b) (sym (point g b ∙ meet-at alike found b) ∙ h)).0))
      (λ b h t. point g b ∙ meet-at alike found b ∙ ap₂ ◌&&◌ (point e b ∙ same-direction b ∙ comparison-alike k m a b t) (f.policy b h t))

-- by the containers
module _ (m : List ℕ) (k : ℕ) (p : Compared) (c : ComparedIn m p) {s : ℕ → Bool} where
  pub shadows-found : k ≡ 5 → Covering m (bit_at p.who) s → AllFound m k p.slot s
  shadows-found e f = record { policy = λ b h t. f.policy b h (λ d l w. shadow-covered m p c k b e t d l (sym (point c.selected d) ∙ w)) }

  pub conflicts-found : (k ≡ 5 → ⊥) → Sharing m (bit_at p.who) s → AllFound m k p.slot s
  conflicts-found n f = record {
    policy = λ b h t. (let d = conflict-shared m p c k b n t in f.policy b d.container h d.of_other (point c.selected d.container ∙ d.of_one));
  }

module _ (m : List ℕ) (k a : ℕ) where
  -- above a
  pub above : (k ≡ 5 → ⊥) → {s u : ℕ → Bool} → Candidates m k a s → u ≡ meet s (meet (at_least (a + 1)) (under 256)) → Candidates m k a u
  unfolding meet at_least under
  above n {s} {u} c g = record {
    stand = λ b h. c.stand b (both (s b) _ (sym (point g b) ∙ h)).0;
    row = fun_ext (λ b. ap (λ (t : Bool). t && comparison k m a b) (point g b) ∙ pick b (s b) refl (leb (a + 1) b) refl) ∙ c.row;
  }
    where
      pick : (b : ℕ) (x : Bool) → s b ≡ x → (y : Bool) → leb (a + 1) b ≡ y
          → ((s b && (leb (a + 1) b && ltb b 256)) && comparison k m a b) ≡ (s b && comparison k m a b)
      pick b false e y f = rw e
      pick b true e true f = rw (e, f, lt-ltb b 256 (omega (arith, policy-below m b (c.stand b e))))
      pick b true e false f =
          let l = comparison-below k m a b n (omega (arith, leb-false (a + 1) b f)) in
          rw (e, f, l)
