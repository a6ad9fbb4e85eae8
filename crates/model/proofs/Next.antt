-- The list rises: so the first finding after a place is the least of those, and a walk from 0 0 0 meets each finding once.
use mathlib.Core.Path.{◌≡◌, refl, ap, ◌∙◌, fun_ext, subst}
use mathlib.Core.Bool.{false≢true, Bool, true, false, cond}
use mathlib.Core.List.{List, [], ◌∷◌}
use mathlib.Core.Option.{Option, none, some}
use Prim.Native.Nat.{ℕ, zero, suc, ◌≤◌}
use lib.ListN.{length, take}
use lib.Seq.{take_all}
use Rattle.model.specs.declared.Finding.{Finding}
use Rattle.model.specs.Findings.{Place}
use Rattle.model.specs.Table.{first}
use Rattle.model.specs.Model.{Model, Bits}
use Rattle.model.specs.Findings.{findings, shown, place_of, after, next_after, start, walk}
use Rattle.model.proofs.Lists.{either, or_right, All, all_map}
use Rattle.model.proofs.Findings.{member, same, same-eq, same_refl, all_listed, findings-shown}
use Rattle.model.proofs.Findings.{After, Rising, FromKind, after_turn, after-self, after_equal, after-kind, findings-rising, findings-from}

-- g is there, after the place, and none of those there stands between
pub record Least (there : Finding → Bool) (c : Place) (g : Finding) : Type 0 where
  pub is : there g ≡ true
  pub later : after c g ≡ true
  pub least : (h : Finding) → there h ≡ true → after c h ≡ true → after (place_of h) g ≡ false

-- none of those there stands after the place
abbrev pub NoneAfter : (Finding → Bool) → Place → Type 0
NoneAfter there c = (h : Finding) → there h ≡ true → after c h ≡ false

-- the answer is the first of those there after the place, or says that there is none
abbrev pub Nearest : (Finding → Bool) → Place → Option Finding → Type 0
Nearest there c none = NoneAfter there c
Nearest there c (some g) = Least there c g

module _ (there : Finding → Bool) (c : Place) where
  -- one answer only
  nearest-one : (o p : Option Finding) → Nearest there c o → Nearest there c p → o ≡ p
  nearest-one none none s t = refl
  nearest-one none (some g) s t = cc (s g t.is, t.later)
  nearest-one (some g) none s t = cc (t g s.is, s.later)
  nearest-one (some g) (some h) s t = ap some (after_equal g h (t.least g s.is s.later) (s.least h t.is t.later))

-- the test of what is listed
abbrev pub in_list : List Finding → Finding → Bool
in_list l g = member g l

module _ (c : Place) (x : Finding) (l : List Finding) where
  -- one more at the head, not after the place
  past : after c x ≡ false → (o : Option Finding) → Nearest (in_list l) c o → Nearest (in_list (x ∷ l)) c o
  past d none s = λ h. either (same h x) (member h l) (λ e. cc (same-eq h x e)) (s h)
  past d (some g) s = record {
    is = or_right (same g x) (member g l) s.is;
    later = s.later;
    least = λ h. either (same h x) (member h l) (λ e a. cc (same-eq h x e)) (s.least h);
  }

  -- the head is after the place
  here : Rising (x ∷ l) → after c x ≡ true → Least (in_list (x ∷ l)) c x
  here s d = record {
    is = rw (same_refl x);
    later = d;
    least = λ h. either (same h x) (member h l) (λ e a. cc (same-eq h x e, after-self x)) (λ i a. after_turn x h (all_listed (After x) h l s.0 i));
  }

first-nearest : (c : Place) (l : List Finding) → Rising l → Nearest (in_list l) c (first (after c) l)
first-nearest c [] s = λ h i. absurd (false≢true i)
first-nearest c (x ∷ l) s = pick (after c x) refl (first-nearest c l s.1)
  where
    pick : (t : Bool) → after c x ≡ t → Nearest (in_list l) c (first (after c) l) → Nearest (in_list (x ∷ l)) c (cond t (some x) (first (after c) l))
    pick true d r = here c x l s d
    pick false d r = past c x l d (first (after c) l) r

-- ---- the next finding: "the first finding after them in the order, or says there is none"

module _ (m : Model) (s : Bits) (c : Place) where
  -- of those listed
  next-listed : Nearest (in_list (findings m s)) c (next_after m s c)
  unfolding next_after
  next-listed = first-nearest c (findings m s) (findings-rising m s)

  pub is-next : (g : Finding) → next_after m s c ≡ some g → Least (in_list (findings m s)) c g
  is-next g e = subst (Nearest (in_list (findings m s)) c) e next-listed

  -- of those shown
  pub next-shown : Nearest (shown m s) c (next_after m s c)
  next-shown = subst (λ there. Nearest there c (next_after m s c)) (fun_ext (findings-shown m s)) next-listed

  pub shown-is : (g : Finding) → Least (shown m s) c g → next_after m s c ≡ some g
  shown-is g h = nearest-one (shown m s) c (next_after m s c) (some g) next-shown h

  pub shown-none : NoneAfter (shown m s) c → next_after m s c ≡ none
  shown-none h = nearest-one (shown m s) c (next_after m s c) none next-shown h

  pub is-shown : (g : Finding) → next_after m s c ≡ some g → Least (shown m s) c g
  is-shown g e = subst (Nearest (shown m s) c) e next-shown

-- ---- a walk

-- from the place, each step gives the next of the list, and then none
abbrev pub Leads : (Place → Option Finding) → Place → List Finding → Type 0
Leads step c [] = step c ≡ none
Leads step c (x ∷ l) = (step c ≡ some x) × Leads step (place_of x) l

pub leads-walk : (step : Place → Option Finding) (n : ℕ) (c : Place) (l : List Finding) → Leads step c l → walk step n c ≡ take n l
leads-walk step zero c l t = refl
leads-walk step (suc n) c [] t = rw (t, walk)
leads-walk step (suc n) c (x ∷ l) t = rw (t.0, walk) (ap (λ r. x ∷ r) (leads-walk step n (place_of x) l t.1))

abbrev first_in : List Finding → Place → Option Finding
first_in l c = first (after c) l

-- one more at the head that no place of the walk stands before
leads-more : (x : Finding) (l : List Finding) (c : Place) (r : List Finding) → after c x ≡ false → All (λ y. after (place_of y) x ≡ false) r
    → Leads (first_in l) c r → Leads (first_in (x ∷ l)) c r
leads-more x l c [] d p t = rw d t
leads-more x l c (y ∷ r) d p t = (rw d t.0, leads-more x l (place_of y) r p.0 p.1 t.1)

leads-all : (c : Place) (l : List Finding) → Rising l → All (λ x. after c x ≡ true) l → Leads (first_in l) c l
leads-all c [] s t = refl
leads-all c (x ∷ l) s t = (
  rw t.0,
  leads-more x l (place_of x) l (after-self x) (all_map (After x) (λ y. after (place_of y) x ≡ false) (after_turn x) l s.0) (leads-all (place_of x) l s.1 s.0),
)

pub findings-lead : (m : Model) (s : Bits) → Leads (next_after m s) start (findings m s)
unfolding next_after
findings-lead m s =
    leads-all start (findings m s) (findings-rising m s) (all_map (FromKind 1) (λ x. after start x ≡ true) (after-kind start) (findings m s) (findings-from m s))

-- "a walk from the start meets each one once": n calls, no fewer than the findings, give them all, in their order
pub walk-meets-all : (m : Model) (s : Bits) (n : ℕ) → length (findings m s) ≤ n → walk (next_after m s) n start ≡ findings m s
walk-meets-all m s n h = leads-walk (next_after m s) n start (findings m s) (findings-lead m s) ∙ take_all n (findings m s) h
