-- The seven findings: over the standing entries of a model, and bits.
use Rattle.std.specs.Prelude.{Bool, not, ◌&&◌, ◌||◌, cond, List, [], ◌∷◌, ◌++◌, ℕ, zero, suc, ◌+◌, ◌*◌, eqb, ltb, length}
use Rattle.std.proofs.Math.Option.{Option, none, some}
use Rattle.model.specs.declared.Finding.{Finding}
use Rattle.model.specs.Table.{any, all, count, first, on, at, stands, standing, below}
use Rattle.model.specs.Rules.{carries, same_direction}
use Rattle.model.specs.Model.{container_slots, Model, Bits}

abbrev pub finding : ℕ → ℕ → ℕ → Finding
finding k a b = record { kind = k; a = a; b = b }

abbrev pub containers_of : Model → List ℕ
containers_of m = standing m.containers

abbrev pub policies_of : Model → List ℕ
policies_of m = standing m.policies

-- ---- the seven definitions

module _ (m : Model) where
  -- both carry the user key with one value
  unfoldable pub same_user : ℕ → ℕ → Bool
  same_user a b =
      on (λ x. on (λ y. any (λ l. eqb l.key m.settings.user_key && carries y l) x) (at m.containers b)) (at m.containers a)

  -- a carries the system label; "With no system label set there are none."
  unfoldable pub is_system : ℕ → Bool
  is_system a =
      let k = m.settings.system_key in
      not (eqb k 0) && on (λ x. carries x (record { key = k; value = m.settings.system_value })) (at m.containers a)

  unfoldable pub one_direction : ℕ → ℕ → Bool
  one_direction a b = on (λ p. on (λ q. same_direction p.direction q.direction) (at m.policies b)) (at m.policies a)

-- "b is 0 if a selects nothing, b is 1 if a selects something and allows nothing", by whether it selects and allows something
unfoldable pub needless : Bool → Bool → ℕ → Bool
needless selects_some allows_some b = (eqb b 0 && not selects_some) || (eqb b 1 && (selects_some && not allows_some))

-- "a's connections (selected times allowed)": c to d is one of them
unfoldable pub connects : Bits → ℕ → ℕ → ℕ → Bool
connects s a c d = s.selected a c && s.allowed a d

module _ (m : Model) (s : Bits) where
  -- 1. "every container reaches a"
  unfoldable pub all_reachable : ℕ → Bool
  all_reachable a = all (λ c. s.matrix c a) (containers_of m)

  -- 2. Document 01: "no container reaches a." Document 02, Note 3: "All isolated means that no other container reaches it, and needs at
  -- least two standing containers."
  unfoldable pub all_isolated : ℕ → Bool
  all_isolated a = ltb 1 (length (containers_of m)) && not (any (λ c. not (eqb c a) && s.matrix c a) (containers_of m))

  -- 3. "a and b are different, a reaches b, and they don't both carry the user key with one value"
  unfoldable pub user_cross : ℕ → ℕ → Bool
  user_cross a b = not (eqb a b) && (s.matrix a b && not (same_user m a b))

  -- 4. "a carries the system label, b is another container, a does not reach b"
  unfoldable pub system_isolation : ℕ → ℕ → Bool
  system_isolation a b = is_system m a && (not (eqb a b) && not (s.matrix a b))

  -- a's connections are at least one
  unfoldable pub connected : ℕ → Bool
  connected a = any (λ c. any (λ d. connects s a c d) (containers_of m)) (containers_of m)

  -- a's connections all lie among b's
  unfoldable pub among : ℕ → ℕ → Bool
  among a b = all (λ c. all (λ d. not (connects s a c d) || connects s b c d) (containers_of m)) (containers_of m)

  -- 5. "policies a and b are different, of one direction; a's connections are at least one, and all lie among b's. If the
  -- connections are equal, only the pair with b < a is listed."
  unfoldable pub shadow : ℕ → ℕ → Bool
  shadow a b = not (eqb a b) && (one_direction m a b && (connected a && (among a b && (not (among b a) || ltb b a))))

  -- 6. "a < b, of one direction; some container is selected by both; neither allowed set is empty; the allowed sets share
  -- nothing"
  unfoldable pub conflict : ℕ → ℕ → Bool
  conflict a b =
      ltb a b && (one_direction m a b && (any (λ c. s.selected a c && s.selected b c) (containers_of m)
      && (any (s.allowed a) (containers_of m) && (any (s.allowed b) (containers_of m)
      && not (any (λ c. s.allowed a c && s.allowed b c) (containers_of m))))))

  -- 7.
  unfoldable pub irrelevance : ℕ → ℕ → Bool
  irrelevance a b = needless (any (s.selected a) (containers_of m)) (any (s.allowed a) (containers_of m)) b

-- ---- the list: "Order: kind, then a, then b."

-- What a kind lists: the numbers that a and b can be, rising, and when a pair of them is a finding.
pub record Section : Type 0 where
  pub firsts : List ℕ
  pub seconds : List ℕ
  pub holds : ℕ → ℕ → Bool

-- kinds 1 to 7
unfoldable pub kinds : Model → Bits → List Section
kinds m s =
    record { firsts = containers_of m; seconds = 0 ∷ []; holds = λ a b. all_reachable m s a }
    ∷ record { firsts = containers_of m; seconds = 0 ∷ []; holds = λ a b. all_isolated m s a }
    ∷ record { firsts = containers_of m; seconds = containers_of m; holds = user_cross m s }
    ∷ record { firsts = containers_of m; seconds = containers_of m; holds = system_isolation m s }
    ∷ record { firsts = policies_of m; seconds = policies_of m; holds = shadow m s }
    ∷ record { firsts = policies_of m; seconds = policies_of m; holds = conflict m s }
    ∷ record { firsts = policies_of m; seconds = 0 ∷ 1 ∷ []; holds = irrelevance m s }
    ∷ []

-- those of kind k at a
abbrev pub row_of : ℕ → (ℕ → ℕ → Bool) → ℕ → List ℕ → List Finding
row_of k f a [] = []
row_of k f a (b ∷ bs) = cond (f a b) (finding k a b ∷ row_of k f a bs) (row_of k f a bs)

-- those of kind k
abbrev pub of_kind : ℕ → (ℕ → ℕ → Bool) → List ℕ → List ℕ → List Finding
of_kind k f [] bs = []
of_kind k f (a ∷ l) bs = row_of k f a bs ++ of_kind k f l bs

-- those of all kinds, the first of which is number k
abbrev pub of_kinds : ℕ → List Section → List Finding
of_kinds k [] = []
of_kinds k (x ∷ xs) = of_kind k x.holds x.firsts x.seconds ++ of_kinds (suc k) xs

-- all findings, in their order
unfoldable pub findings : Model → Bits → List Finding
findings m s = of_kinds 1 (kinds m s)

-- The entries that a finding speaks of stand and show it by its definition.
unfoldable pub shown : Model → Bits → Finding → Bool
shown m s g =
    let c = stands m.containers in
    let p = stands m.policies in
    (eqb g.kind 1 && (c g.a && (eqb g.b 0 && all_reachable m s g.a)))
    || ((eqb g.kind 2 && (c g.a && (eqb g.b 0 && all_isolated m s g.a)))
    || ((eqb g.kind 3 && (c g.a && (c g.b && user_cross m s g.a g.b)))
    || ((eqb g.kind 4 && (c g.a && (c g.b && system_isolation m s g.a g.b)))
    || ((eqb g.kind 5 && (p g.a && (p g.b && shadow m s g.a g.b)))
    || ((eqb g.kind 6 && (p g.a && (p g.b && conflict m s g.a g.b)))
    || (eqb g.kind 7 && (p g.a && irrelevance m s g.a g.b)))))))

-- ---- the next finding

-- A place in the list: any three numbers.
pub record Place : Type 0 where
  pub kind : ℕ
  pub a : ℕ
  pub b : ℕ

-- the three numbers of a finding as a place in the list
abbrev pub place_of : Finding → Place
place_of f = record { kind = f.kind; a = f.a; b = f.b }

-- g stands after the place in the order
unfoldable pub after : Place → Finding → Bool
after c g =
    ltb c.kind g.kind || (eqb c.kind g.kind
    && (ltb c.a g.a || (eqb c.a g.a && ltb c.b g.b)))

-- "Next finding takes three numbers, any at all, and gives the first finding after them in the order, or says there is none."
unfoldable pub next_after : Model → Bits → Place → Option Finding
next_after m s c = first (after c) (findings m s)

-- "The start is 0 0 0."
abbrev pub start : Place
start = record { kind = 0; a = 0; b = 0 }

-- "A walk calls next finding from 0 0 0, then from each finding given, until there is none." At most n calls from a place.
abbrev pub walk : (Place → Option Finding) → ℕ → Place → List Finding
walk step zero c = []
walk step (suc n) c = elim (step c) [ none ↦ [] | some g ↦ g ∷ walk step n (place_of g) ]

-- the place that a walk from a place over these findings has come to
abbrev pub moved : Place → List Finding → Place
moved c [] = c
moved c (g ∷ l) = moved (place_of g) l

-- a finding as one number: kind * 2^32 + a * 2^16 + b
unfoldable pub finding_code : Finding → ℕ
finding_code g = g.kind * 4294967296 + g.a * 65536 + g.b

-- ---- counts

-- the set bits of some rows and columns of a matrix
abbrev pub pairs_in : (ℕ → ℕ → Bool) → List ℕ → List ℕ → ℕ
pairs_in f [] bs = 0
pairs_in f (a ∷ l) bs = count (f a) bs + pairs_in f l bs

-- "PAIRS is the number of set bits in the matrix."
unfoldable pub pairs : Bits → ℕ
pairs s = pairs_in s.matrix (below container_slots) (below container_slots)
