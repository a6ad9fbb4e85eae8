-- A finding's kind is 1 to 7, and its numbers are below 256.
use mathlib.Core.Path.{◌≡◌, refl}
use mathlib.Core.Bool.{Bool, true, false, ◌&&◌, ◌||◌}
use mathlib.Core.List.{List}
use Prim.Native.Nat.{ℕ, ◌<◌}
use native.Mathlib.Omega.{arith}
use lib.Dec.{eqb}
use borrow.Author.Tests.{eqb-true}
use Rattle.model.specs.Findings.{shown, needless, irrelevance}
use Rattle.entries.proofs.Trials.{container-below, policy-below}
use Rattle.model.proofs.Lists.{both}
use Rattle.container_findings.specs.Rows.{shown_at, containers_stand, policies_stand}
use Rattle.findings.proofs.Walk.{Inside, AllInside}

kind-case : {P : Type 0} (k i : ℕ) {x rest : Bool} → ((eqb k i && x) || rest) ≡ true → (k ≡ i → x ≡ true → P) → (rest ≡ true → P) → P
kind-case {P} k i {x} {rest} h f g = pick (eqb k i) refl x refl h
  where
    pick : (t : Bool) → eqb k i ≡ t → (u : Bool) → x ≡ u → ((t && u) || rest) ≡ true → P
    pick true e true d q = f (eqb-true k i e) d
    pick true e false d q = g q
    pick false e u d q = g q

module _ (m : List ℕ) (k a b : ℕ) where
  inside-zero : (x : Bool) → 0 < k → k < 8 → (containers_stand m a && (eqb b 0 && x)) ≡ true → Inside k a b
  inside-zero x l u t =
      let p = both (containers_stand m a) (eqb b 0 && x) t in
      let z = eqb-true b 0 (both (eqb b 0) x p.1).0 in
      record { low = l; high = u; in_a = container-below m a p.0; in_b = omega arith }

  inside-containers : (x : Bool) → 0 < k → k < 8 → (containers_stand m a && (containers_stand m b && x)) ≡ true → Inside k a b
  inside-containers x l u t =
      let p = both (containers_stand m a) (containers_stand m b && x) t in
      let q = both (containers_stand m b) x p.1 in
      record { low = l; high = u; in_a = container-below m a p.0; in_b = container-below m b q.0 }

  inside-policies : (x : Bool) → 0 < k → k < 8 → (policies_stand m a && (policies_stand m b && x)) ≡ true → Inside k a b
  inside-policies x l u t =
      let p = both (policies_stand m a) (policies_stand m b && x) t in
      let q = both (policies_stand m b) x p.1 in
      let pa = policy-below m a p.0 in
      let pb = policy-below m b q.0 in
      record { low = l; high = u; in_a = omega arith; in_b = omega arith }

  inside-numbers : (x y : Bool) → 0 < k → k < 8 → (policies_stand m a && ((eqb b 0 && x) || (eqb b 1 && y))) ≡ true → Inside k a b
  inside-numbers x y l u t =
      let p = both (policies_stand m a) ((eqb b 0 && x) || (eqb b 1 && y)) t in
      let pa = policy-below m a p.0 in
      let pb : b < 256 = kind-case b 0 p.1 (λ e f. omega arith) (λ r. let e = eqb-true b 1 (both (eqb b 1) y r).0 in omega arith) in
      record { low = l; high = u; in_a = omega arith; in_b = pb }

pub shown-inside : (m : List ℕ) → AllInside (shown_at m)
unfolding shown_at shown irrelevance needless
shown-inside m k a b h =
    kind-case k 1 h (λ e. inside-zero m k a b _ (omega arith) (omega arith)) (λ h.
    kind-case k 2 h (λ e. inside-zero m k a b _ (omega arith) (omega arith)) (λ h.
    kind-case k 3 h (λ e. inside-containers m k a b _ (omega arith) (omega arith)) (λ h.
    kind-case k 4 h (λ e. inside-containers m k a b _ (omega arith) (omega arith)) (λ h.
    kind-case k 5 h (λ e. inside-policies m k a b _ (omega arith) (omega arith)) (λ h.
    kind-case k 6 h (λ e. inside-policies m k a b _ (omega arith) (omega arith)) (λ h.
    let p = both (eqb k 7) _ h in
    let e = eqb-true k 7 p.0 in
    inside-numbers m k a b _ _ (omega arith) (omega arith) p.1))))))
