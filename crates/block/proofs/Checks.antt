-- A list of checks passes exactly if none of them finds a fault; and what a list of checks answers behind another.
use mathlib.Core.Path.{◌≡◌, refl, ap, subst, ◌∙◌}
use mathlib.Core.Logic.{◌↔◌}
use mathlib.Core.Bool.{Bool, true, false, and-eq-true_iff}
use mathlib.Core.List.{List, [], ◌∷◌, ◌++◌}
use Prim.Native.Nat.{ℕ, ◌≤◌, ◌<◌}
use native.Mathlib.Omega.{arith}
use borrow.Author.Tests.{leb-true, eqb-true, eq-eqb}
use lib.Dec.{eqb, leb}
use Rattle.std.specs.Prelude.{Option, None, Some, Result, Ok, Err, ⊤}
use Rattle.std.specs.Option.{option_or}
use Rattle.block.specs.declared.Reason.{Reason}
use Rattle.block.specs.declared.Reason.TheVariants.{MemorySize, NotWellFormed, BlockLength, Checksum, Kind, Limit, Range, Order, Unused, BeyondTable, FreeSlot, TableFull, BufferLength, BatchLength}
use Rattle.block.specs.declared.Refusal.{Refusal}
use Rattle.block.specs.Fault.{unless}
use Rattle.block.specs.Refusal.{reason_number, Check, check, refuse, first_refusal, accepted, read_unless}
use Rattle.block.specs.Reader.{within}

-- ---- no reason has the number 0

pub reason-positive : (w : Reason) → 0 < reason_number w
reason-positive MemorySize = omega arith
reason-positive NotWellFormed = omega arith
reason-positive BlockLength = omega arith
reason-positive Checksum = omega arith
reason-positive Kind = omega arith
reason-positive Limit = omega arith
reason-positive Range = omega arith
reason-positive Order = omega arith
reason-positive Unused = omega arith
reason-positive BeyondTable = omega arith
reason-positive FreeSlot = omega arith
reason-positive TableFull = omega arith
reason-positive BufferLength = omega arith
reason-positive BatchLength = omega arith

-- ---- one test

pub unless-none : (t : Bool) (p : ℕ) → (unless t p ≡ None) ↔ (t ≡ true)
unless-none true p = (λ e. refl, λ e. refl)
unless-none false p = (λ e. cc, λ e. cc)

pub equal-none : (m n p : ℕ) → (unless (eqb m n) p ≡ None) ↔ (m ≡ n)
equal-none m n p = (λ e. eqb-true m n ((unless-none (eqb m n) p).0 e), λ e. (unless-none (eqb m n) p).1 (eq-eqb m n e))

pub within-bounds : (low high x : ℕ) → within low high x ≡ true → (low ≤ x) × (x ≤ high)
unfolding within
within-bounds low high x e =
    let s = (and-eq-true_iff (leb low x) (leb x high)).0 e in
    (leb-true low x s.0, leb-true x high s.1)

-- ---- two faults

pub or_else-none : (f g : Option ℕ) → option_or f g ≡ None → (f ≡ None) × (g ≡ None)
or_else-none None g e = (refl, e)
or_else-none (Some p) g e = (cc, cc)

-- ---- a list of checks

-- every check finds no fault
abbrev pub Clear : List Check → Type 0
Clear [] = Unit {0}
Clear (c ∷ cs) = (c.fault ≡ None) × Clear cs

refuse-passed : (w : Reason) (f : Option ℕ) (rest : Result ⊤ Refusal) → (refuse w f rest ≡ Ok tt) ↔ ((f ≡ None) × (rest ≡ Ok tt))
refuse-passed w None rest = (λ e. (refl, e), λ e. e.1)
refuse-passed w (Some p) rest = (λ e. (cc, cc), λ e. cc)

pub passed-clear : (cs : List Check) → (first_refusal cs ≡ Ok tt) ↔ Clear cs
passed-clear [] = (λ e. tt, λ c. refl)
passed-clear (c ∷ cs) =
    let h = refuse-passed c.reason c.fault (first_refusal cs) in
    (λ e. ((h.0 e).0, (passed-clear cs).0 (h.0 e).1), λ d. h.1 (d.0, (passed-clear cs).1 d.1))

module _ {A : Type 0} where
  accepted-passed : (t : Result ⊤ Refusal) (x y : A) → (read_unless t x ≡ accepted y) ↔ ((t ≡ Ok tt) × (x ≡ y))
  accepted-passed (Ok tt) x y = (λ e. (refl, cc), λ h. ap accepted h.1)
  accepted-passed (Err r) x y = (λ e. (cc, cc), λ h. cc)

  pub accepted-clear : (cs : List Check) (x y : A) → (read_unless (first_refusal cs) x ≡ accepted y) ↔ (Clear cs × (x ≡ y))
  accepted-clear cs x y =
      let h = accepted-passed (first_refusal cs) x y in
      (λ e. ((passed-clear cs).0 (h.0 e).0, (h.0 e).1), λ d. h.1 ((passed-clear cs).1 d.0, d.1))

-- ---- what holds of every refusal of a list of checks

-- whichever of the checks refuses, P holds of its refusal
pub record EveryRefusal (P : Refusal → Type 0) (cs : List Check) : Type 0 where
  pub holds : (f : Refusal) → first_refusal cs ≡ Err f → P f

pub every-none : {P : Refusal → Type 0} → EveryRefusal P []
every-none = record { holds = λ f e. cc }

-- what the first check tells where it finds fault, and the others where it finds none
pub every-next : {P : Refusal → Type 0} {w : Reason} {o : Option ℕ} {cs : List Check} → ((p : ℕ) → o ≡ Some p → P (record { reason = w; position = p })) → (o ≡ None → EveryRefusal P cs) → EveryRefusal P (check w o ∷ cs)
every-next {P} {w} {o} {cs} at rest = record { holds = by o at rest }
  where
    by : (o : Option ℕ) → ((p : ℕ) → o ≡ Some p → P (record { reason = w; position = p })) → (o ≡ None → EveryRefusal P cs) → (f : Refusal) → refuse w o (first_refusal cs) ≡ Err f → P f
    by None at rest f e = (rest refl).holds f e
    by (Some p) at rest f e =
        let q : record { reason = w; position = p } ≡ f = cc in
        subst P q (at p refl)

-- ---- the checks of one list, then those of another

pub append-passed : (xs ys : List Check) → first_refusal xs ≡ Ok tt → first_refusal (xs ++ ys) ≡ first_refusal ys
append-passed [] ys e = refl
append-passed (x ∷ xs) ys e =
    let s = (refuse-passed x.reason x.fault (first_refusal xs)).0 e in
    ap (λ (f : Option ℕ). refuse x.reason f (first_refusal (xs ++ ys))) s.0 ∙ append-passed xs ys s.1

pub append-refused : (xs ys : List Check) (r : Refusal) → first_refusal xs ≡ Err r → first_refusal (xs ++ ys) ≡ Err r
append-refused [] ys r e = cc
append-refused (x ∷ xs) ys r e = at x.fault e (append-refused xs ys r)
  where
    at : (f : Option ℕ) → refuse x.reason f (first_refusal xs) ≡ Err r → (first_refusal xs ≡ Err r → first_refusal (xs ++ ys) ≡ Err r) → refuse x.reason f (first_refusal (xs ++ ys)) ≡ Err r
    at None h rest = rest h
    at (Some p) h rest = h
