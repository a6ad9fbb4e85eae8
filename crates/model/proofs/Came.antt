-- What changes touch, told by the slots that they are to, as the answers say them, over entries where each policy that came stands at its slot.
use mathlib.Core.Path.{◌≡◌, refl, sym, ap, ap₂, ◌∙◌}
use mathlib.Core.Bool.{Bool, true, false, ◌&&◌, ◌||◌, and-false, or_assoc}
use mathlib.Core.List.{List, [], ◌∷◌}
use mathlib.Core.Option.{Option, none, some}
use Prim.Native.Nat.{ℕ}
use lib.Dec.{eqb}
use borrow.Author.Tests.{eqb-true, eqb-false, eq-eqb, ne_eqb}
use Rattle.block.specs.declared.Direction.{Direction}
use Rattle.block.specs.declared.Direction.TheVariants.{Ingress as ingress, Egress as egress}
use Rattle.block.specs.Entry.{Container, Policy}
use Rattle.model.specs.Table.{any, on, at, stands}
use Rattle.model.specs.Rules.{selects, same_direction}
use Rattle.model.specs.Model.{Model}
use Rattle.model.specs.Findings.{policies_of}
use Rattle.model.specs.Calls.{Answer}
use Rattle.model.specs.Registry.{touches}
use Rattle.model.specs.Settled.{selects_as, some_came_selects, touched_pair, touched_set}
use Rattle.model.specs.OnePass.{containers_came, policies_came}
use Rattle.model.proofs.Lists.{elem, elem-standing}
use Rattle.model.proofs.Book.{reflexive, BitPlace, matrix, selected, allowed, EntryChange, container_becomes, policy_becomes, touched_by}
use Rattle.model.proofs.WrittenRules.{both_directions, written_rules, model_book}
use Rattle.model.proofs.Admission.{slot_answer}

-- one slot more
abbrev more : ℕ → (ℕ → Bool) → ℕ → Bool
more q s i = eqb i q || s i

left_comm : (a b c : Bool) → (a || (b || c)) ≡ (b || (a || c))
left_comm true true c = refl
left_comm true false c = refl
left_comm false b c = refl

or-mix : (a b c d : Bool) → ((a || b) || (c || d)) ≡ ((a || c) || (b || d))
or-mix true b c d = refl
or-mix false b c d = left_comm b c d

any-more : (F s : ℕ → Bool) (q : ℕ) (l : List ℕ) → any (λ i. more q s i && F i) l ≡ ((elem q l && F q) || any (λ i. s i && F i) l)
any-more F s q [] = refl
any-more F s q (x ∷ l) = rw (any-more F s q l) (pick (eqb x q) refl)
  where
    here : (f e t r : Bool) → (f || ((e && f) || r)) ≡ (f || ((t && f) || r))
    here true e t r = refl
    here false e t r = rw (and-false e, and-false t)

    pick : (u : Bool) → eqb x q ≡ u
        → (((u || s x) && F x) || ((elem q l && F q) || any (λ i. s i && F i) l)) ≡ (((eqb q x || elem q l) && F q) || ((s x && F x) || any (λ i. s i && F i) l))
    pick true e = rw (eqb-true x q e, eq-eqb q q refl) (here (F q) (elem q l) (s q) (any (λ i. s i && F i) l))
    pick false e = rw (ne_eqb q x (λ h. eqb-false x q e (sym h))) (left_comm (s x && F x) (elem q l && F q) (any (λ i. s i && F i) l))

-- p is of direction d and selects the container of a slot
abbrev selects_in : Direction → Policy → Option Container → Bool
selects_in d p u = same_direction d p.direction && on (selects p) u

selects-more : (d : Direction) (m : Model) (q : ℕ) (p : Policy) (s : ℕ → Bool) (a : ℕ) → at m.policies q ≡ some p
    → some_came_selects d m (more q s) a ≡ (selects_in d p (at m.containers a) || some_came_selects d m s a)
unfolding some_came_selects selects_as
selects-more d m q p s a h = any-more (λ i. selects_as d m i a) s q (policies_of m) ∙ rw (elem-standing q m.policies, h)

touches-pair : (p : Policy) (u v : Option Container)
    → on (λ x. on (λ y. touches p x y) v) u ≡ ((on (λ x. true) u && on (λ x. true) v) && (selects_in egress p u || selects_in ingress p v))
unfolding touches
touches-pair p none v = refl
touches-pair p (some x) none = refl
touches-pair p (some x) (some y) = refl

-- what containers and policies that came to these slots touch
abbrev pub touched_at : Model → (ℕ → Bool) → (ℕ → Bool) → BitPlace → Bool
touched_at m cs qs (matrix a b) = touched_pair m cs qs a b
touched_at m cs qs (selected q c) = touched_set cs qs q c
touched_at m cs qs (allowed q c) = touched_set cs qs q c

container-more : (m : Model) (cs qs : ℕ → Bool) (c : ℕ) (x : Option Container) (i : BitPlace)
    → touched_at m (more c cs) qs i ≡ (touched_by model_book m (container_becomes c x) i || touched_at m cs qs i)
unfolding touched_pair touched_set touched_by
container-more m cs qs c x (matrix a b) = rw (or-mix (eqb a c) (cs a) (eqb b c) (cs b)) (or_assoc (eqb a c || eqb b c) (cs a || cs b) _)
container-more m cs qs c x (selected q b) = left_comm (qs q) (eqb b c) (cs b)
container-more m cs qs c x (allowed q b) = left_comm (qs q) (eqb b c) (cs b)

policy-more : (m : Model) (cs qs : ℕ → Bool) (q : ℕ) (p : Policy) (x : Option Policy) → at m.policies q ≡ some p → (i : BitPlace)
    → touched_at m cs (more q qs) i ≡ (touched_by model_book m (policy_becomes q p x) i || touched_at m cs qs i)
unfolding touched_pair touched_set touched_by model_book written_rules reflexive both_directions
policy-more m cs qs q p x h (matrix a b) =
    let u = at m.containers a in
    let v = at m.containers b in
    let standing = stands m.containers a && stands m.containers b in
    ap₂ (λ s t. (cs a || cs b) || (standing && (s || t))) (selects-more egress m q p qs a h) (selects-more ingress m q p qs b h)
    ∙ spread standing (cs a || cs b) (selects_in egress p u) (some_came_selects egress m qs a) (selects_in ingress p v) (some_came_selects ingress m qs b)
    ∙ ap (λ t. t || touched_pair m cs qs a b) (sym (touches-pair p u v))
  where
    spread : (s c e f i j : Bool) → (c || (s && ((e || f) || (i || j)))) ≡ ((s && (e || i)) || (c || (s && (f || j))))
    spread true c e f i j = rw (or-mix e f i j) (left_comm c (e || i) (f || j))
    spread false c e f i j = refl
policy-more m cs qs q p x h (selected i b) = or_assoc (eqb i q) (qs i) (cs b)
policy-more m cs qs q p x h (allowed i b) = or_assoc (eqb i q) (qs i) (cs b)

-- ---- by the answers

-- what all that came touches
abbrev pub touched_came : Model → List Answer → BitPlace → Bool
touched_came m l i = touched_at m (containers_came l) (policies_came l) i

none-selects : (d : Direction) (m : Model) (a : ℕ) → some_came_selects d m (λ q. false) a ≡ false
unfolding some_came_selects
none-selects d m a = pick (policies_of m)
  where
    pick : (l : List ℕ) → any (λ q. false) l ≡ false
    pick [] = refl
    pick (q ∷ l) = pick l

pub none_came : (m : Model) (i : BitPlace) → touched_came m [] i ≡ false
unfolding touched_pair touched_set containers_came policies_came
none_came m (matrix a b) =
    let standing = stands m.containers a && stands m.containers b in
    ap₂ (λ s t. standing && (s || t)) (none-selects egress m a) (none-selects ingress m b) ∙ and-false standing
none_came m (selected q c) = refl
none_came m (allowed q c) = refl

-- the policy of a change stands at its slot
abbrev pub Sits : Model → EntryChange Policy → Type 0
Sits m (container_becomes c x) = Unit {0}
Sits m (policy_becomes q p x) = at m.policies q ≡ some p

-- one more came
pub one-came : (m : Model) (c : EntryChange Policy) → Sits m c → (l : List Answer) (i : BitPlace)
    → touched_came m (slot_answer c ∷ l) i ≡ (touched_by model_book m c i || touched_came m l i)
unfolding containers_came policies_came
one-came m (container_becomes c x) s l i = container-more m (containers_came l) (policies_came l) c x i
one-came m (policy_becomes q p x) s l i = policy-more m (containers_came l) (policies_came l) q p x s i
