-- Each kind goes through rising numbers and keeps those that hold: so the list is what is shown, rising, each once.
use mathlib.Core.Path.{◌≡◌, refl, sym, ap, ap₂, subst, ◌∙◌}
use mathlib.Core.Bool.{false≢true, Bool, true, false, ◌&&◌, ◌||◌, cond, and-true, and-false, or-false, and-or_distrib_left, and-or_distrib_right, and-eq-true_iff}
use mathlib.Core.List.{List, [], ◌∷◌}
use Prim.Native.Nat.{ℕ, suc, ◌+◌, ◌≤◌, ◌<◌}
use native.Mathlib.Nat.{le_refl, le_of_lt, zero-add}
use native.Mathlib.Omega.{arith}
use lib.Dec.{eqb, ltb}
use borrow.Author.Tests.{ltb-true, ltb-false, eqb-true, lt-ltb, le-ltb, eq-eqb, ne_eqb}
use Rattle.model.specs.declared.Finding.{Finding}
use Rattle.model.specs.Findings.{Place}
use Rattle.model.specs.Table.{any, count}
use Rattle.model.specs.Model.{Model, Bits}
use Rattle.model.specs.Findings.{finding, Section, kinds, row_of, of_kind, of_kinds, findings, shown, place_of, after, needless, irrelevance}
use Rattle.model.proofs.Lists.{either, neither, denied, elem, Up, standing-up, elem-standing}
use Rattle.model.proofs.Lists.{All, Sorted, all_of, all_map, all_append, all-cond, sorted-append, sorted_cond, any_append, any-cond}

-- ---- the list holds what is shown

-- the three numbers are equal
unfoldable pub same : Finding → Finding → Bool
same f g = eqb f.kind g.kind && (eqb f.a g.a && eqb f.b g.b)

equal : {f g : Finding} → f.kind ≡ g.kind → f.a ≡ g.a → f.b ≡ g.b → f ≡ g
equal p q r = λ i. record { kind = p i; a = q i; b = r i }

pub same-eq : (f g : Finding) → same f g ≡ true → f ≡ g
unfolding same
same-eq f g h =
    let k = (and-eq-true_iff (eqb f.kind g.kind) _).0 h in
    let t = (and-eq-true_iff (eqb f.a g.a) _).0 k.1 in
    equal (eqb-true f.kind g.kind k.0) (eqb-true f.a g.a t.0) (eqb-true f.b g.b t.1)

pub same_refl : (f : Finding) → same f f ≡ true
unfolding same
same_refl f = rw (eq-eqb f.kind f.kind refl, eq-eqb f.a f.a refl, eq-eqb f.b f.b refl)

abbrev pub member : Finding → List Finding → Bool
member g l = any (same g) l

-- what holds of all of a list holds of what is listed there
pub all_listed : (P : Finding → Type 0) (g : Finding) (l : List Finding) → All P l → member g l ≡ true → P g
all_listed P g [] t h = absurd (false≢true h)
all_listed P g (x ∷ l) t h = either (same g x) (member g l) (λ e. subst P (sym (same-eq g x e)) t.0) (all_listed P g l t.1) h

-- g is of kind x, whose number is k
abbrev pub is_of : ℕ → Section → Finding → Bool
is_of k x g = eqb g.kind k && (elem g.a x.firsts && (elem g.b x.seconds && x.holds g.a g.b))

-- g is of one of these kinds, the first of which is number k
abbrev pub is_of_one : ℕ → List Section → Finding → Bool
is_of_one k [] g = false
is_of_one k (x ∷ xs) g = is_of k x g || is_of_one (suc k) xs g

-- t is f at a and b, so f's value at g where g is there
here-step : (k a b f t : Bool) → (a ≡ true → b ≡ true → t ≡ f) → (t && (k && (a && b))) ≡ (k && (a && (b && f)))
here-step false a b f t h = and-false t
here-step true false b f t h = and-false t
here-step true true false f t h = and-false t
here-step true true true f t h = and-true t ∙ h refl refl

module _ (g : Finding) where
  row_listed : (k : ℕ) (f : ℕ → ℕ → Bool) (a : ℕ) (bs : List ℕ) → member g (row_of k f a bs)
      ≡ (eqb g.kind k && (eqb g.a a && (elem g.b bs && f g.a g.b)))
  unfolding same
  row_listed k f a [] = simp and-false
  row_listed k f a (b ∷ bs) =
      any-cond (same g) (f a b) (finding k a b) (row_of k f a bs)
      ∙ ap₂ ◌||◌ (here-step (eqb g.kind k) (eqb g.a a) (eqb g.b b) (f g.a g.b) (f a b)
      (λ p q. ap₂ f (sym (eqb-true g.a a p)) (sym (eqb-true g.b b q)))) (row_listed k f a bs)
      ∙ simp (and-or_distrib_right, and-or_distrib_left)

  kind-listed : (k : ℕ) (f : ℕ → ℕ → Bool) (l bs : List ℕ) → member g (of_kind k f l bs) ≡ is_of k (record { firsts = l; seconds = bs; holds = f }) g
  kind-listed k f [] bs = simp and-false
  kind-listed k f (a ∷ l) bs =
      any_append (same g) (row_of k f a bs) (of_kind k f l bs)
      ∙ ap₂ ◌||◌ (row_listed k f a bs) (kind-listed k f l bs)
      ∙ simp (and-or_distrib_right, and-or_distrib_left)

  -- Those listed of a list of kinds are those of one of them
  kinds-listed : (k : ℕ) (xs : List Section) → member g (of_kinds k xs) ≡ is_of_one k xs g
  kinds-listed k [] = refl
  kinds-listed k (x ∷ xs) =
      any_append (same g) (of_kind k x.holds x.firsts x.seconds) (of_kinds (suc k) xs)
      ∙ ap₂ ◌||◌ (kind-listed k x.holds x.firsts x.seconds) (kinds-listed (suc k) xs)

-- the definition of kind 7 says what b can be
irrelevance-seconds : (m : Model) (s : Bits) (a b : ℕ) → ((eqb b 0 || eqb b 1) && irrelevance m s a b) ≡ irrelevance m s a b
unfolding irrelevance needless
irrelevance-seconds m s a b = pick (eqb b 0) (eqb b 1) _ _
  where
    pick : (x y u v : Bool) → ((x || y) && ((x && u) || (y && v))) ≡ ((x && u) || (y && v))
    pick true y u v = refl
    pick false true u v = refl
    pick false false u v = refl

-- A triple is in the list of findings if and only if the entries it speaks of stand and show it by its definition
pub findings-shown : (m : Model) (s : Bits) (g : Finding) → member g (findings m s) ≡ shown m s g
unfolding findings kinds shown
findings-shown m s g = kinds-listed g 1 (kinds m s) ∙ simp (elem-standing, or-false, irrelevance-seconds)

-- ---- the order: kind, then a, then b

-- one number at a time
lex : ℕ → ℕ → Bool → Bool
lex m n t = ltb m n || (eqb m n && t)

lex-lt : (m n : ℕ) (t : Bool) → m < n → lex m n t ≡ true
unfolding lex
lex-lt m n t h = rw (lt-ltb m n h)

lex-same : (m : ℕ) (t : Bool) → t ≡ true → lex m m t ≡ true
unfolding lex
lex-same m t h = rw (le-ltb m m (le_refl m), eq-eqb m m refl, h)

-- never both ways
lex-turn : (m n : ℕ) (s t : Bool) → (s ≡ true → t ≡ false) → lex m n s ≡ true → lex n m t ≡ false
unfolding lex
lex-turn m n s t h =
    either (ltb m n) (eqb m n && s)
    (λ l. let lt = ltb-true m n l in rw (le-ltb n m (omega arith), ne_eqb n m (omega arith)))
    (λ k. let c = (and-eq-true_iff (eqb m n) s).0 k in let eq = eqb-true m n c.0 in rw (le-ltb n m (omega arith), h c.1) (and-false (eqb n m)))

-- neither way: the same number
lex-equal : (m n : ℕ) (s t : Bool) → lex m n s ≡ false → lex n m t ≡ false → (m ≡ n) × (s ≡ false) × (t ≡ false)
unfolding lex
lex-equal m n s t h k =
    let p = neither (ltb m n) (eqb m n && s) h in
    let q = neither (ltb n m) (eqb n m && t) k in
    let e : m ≡ n = omega (arith, ltb-false m n p.0, ltb-false n m q.0) in
    (e, rw (eq-eqb m n e) at p.1, rw (eq-eqb n m (sym e)) at q.1)

after-lex : (c : Place) (g : Finding) → after c g ≡ lex c.kind g.kind (lex c.a g.a (ltb c.b g.b))
unfolding after lex
after-lex c g = refl

pub after-kind : (c : Place) (g : Finding) → c.kind < g.kind → after c g ≡ true
after-kind c g h = rw after-lex (lex-lt c.kind g.kind _ h)

pub after_turn : (f g : Finding) → after (place_of f) g ≡ true → after (place_of g) f ≡ false
after_turn f g h =
    rw after-lex (lex-turn f.kind g.kind _ _ (lex-turn f.a g.a _ _ (λ e. le-ltb g.b f.b (le_of_lt (ltb-true f.b g.b e)))) (rw after-lex at h))

pub after-self : (f : Finding) → after (place_of f) f ≡ false
after-self f = denied (after (place_of f) f) (after_turn f f)

-- of two findings neither of which is after the other there is one only
pub after_equal : (f g : Finding) → after (place_of f) g ≡ false → after (place_of g) f ≡ false → f ≡ g
after_equal f g h k =
    let p = lex-equal f.kind g.kind _ _ (rw after-lex at h) (rw after-lex at k) in
    let q = lex-equal f.a g.a _ _ p.1 p.2 in
    equal p.0 q.0 (omega (arith, ltb-false f.b g.b q.1, ltb-false g.b f.b q.2))

-- ---- the list rises

abbrev pub After : Finding → Finding → Type 0
After f g = after (place_of f) g ≡ true

abbrev pub Rising : List Finding → Type 0
Rising l = Sorted After l

module _ (P : Finding → Type 0) (k : ℕ) (f : ℕ → ℕ → Bool) where
  row-all : (Q : ℕ → Type 0) (a : ℕ) → ((b : ℕ) → Q b → P (finding k a b)) → (bs : List ℕ) → All Q bs → All P (row_of k f a bs)
  row-all Q a h [] t = tt
  row-all Q a h (b ∷ bs) t = all-cond P (f a b) (finding k a b) (row_of k f a bs) (h b t.0) (row-all Q a h bs t.1)

  row-each : (a : ℕ) → ((b : ℕ) → P (finding k a b)) → (bs : List ℕ) → All P (row_of k f a bs)
  row-each a h bs = row-all (λ b. Unit {0}) a (λ b u. h b) bs (all_of (λ b. Unit {0}) (λ b. tt) bs)

  kind-all : (Q : ℕ → Type 0) → ((a b : ℕ) → Q a → P (finding k a b)) → (l bs : List ℕ) → All Q l → All P (of_kind k f l bs)
  kind-all Q h [] bs t = tt
  kind-all Q h (a ∷ l) bs t = all_append P (row_of k f a bs) (of_kind k f l bs) (row-each a (λ b. h a b t.0) bs) (kind-all Q h l bs t.1)

  kind-each : ((a b : ℕ) → P (finding k a b)) → (l bs : List ℕ) → All P (of_kind k f l bs)
  kind-each h l bs = kind-all (λ a. Unit {0}) (λ a b u. h a b) l bs (all_of (λ a. Unit {0}) (λ a. tt) l)

module _ (k : ℕ) (f : ℕ → ℕ → Bool) where
  row-rising : (a : ℕ) (bs : List ℕ) → Up bs → Rising (row_of k f a bs)
  row-rising a [] t = tt
  row-rising a (b ∷ bs) t =
      sorted_cond After (f a b) (finding k a b) (row_of k f a bs)
      (row-all (After (finding k a b)) k f (λ y. b < y) a (λ y h. rw after-lex (lex-same k _ (lex-same a _ (lt-ltb b y h)))) bs t.0)
      (row-rising a bs t.1)

  kind-rising : (l bs : List ℕ) → Up l → Up bs → Rising (of_kind k f l bs)
  kind-rising [] bs s t = tt
  kind-rising (a ∷ l) bs s t =
      sorted-append After (row_of k f a bs) (of_kind k f l bs) (row-rising a bs t) (kind-rising l bs s.1 t)
      (row-each (λ x. All (After x) (of_kind k f l bs)) k f a
      (λ b. kind-all (After (finding k a b)) k f (λ y. a < y) (λ y z h. rw after-lex (lex-same k _ (lex-lt a y _ h))) l bs s.0) bs)

-- what a and b can be rises
abbrev pub UpKind : Section → Type 0
UpKind x = Up x.firsts × Up x.seconds

-- of kind k or a later one
abbrev pub FromKind : ℕ → Finding → Type 0
FromKind k g = k ≤ g.kind

kinds-from : (j k : ℕ) (xs : List Section) → j ≤ k → All (FromKind j) (of_kinds k xs)
kinds-from j k [] h = tt
kinds-from j k (x ∷ xs) h =
    all_append (FromKind j) (of_kind k x.holds x.firsts x.seconds) (of_kinds (suc k) xs)
    (kind-each (FromKind j) k x.holds (λ a b. h) x.firsts x.seconds) (kinds-from j (suc k) xs (omega arith))

kinds-rising : (k : ℕ) (xs : List Section) → All UpKind xs → Rising (of_kinds k xs)
kinds-rising k [] t = tt
kinds-rising k (x ∷ xs) t =
    let rest = of_kinds (suc k) xs in
    sorted-append After (of_kind k x.holds x.firsts x.seconds) rest
    (kind-rising k x.holds x.firsts x.seconds t.0.0 t.0.1) (kinds-rising (suc k) xs t.1)
    (kind-each (λ f. All (After f) rest) k x.holds
    (λ a b. all_map (FromKind (suc k)) (After (finding k a b)) (after-kind (place_of (finding k a b))) rest (kinds-from (suc k) (suc k) xs (le_refl (suc k))))
    x.firsts x.seconds)

-- "Order: kind, then a, then b."
pub findings-rising : (m : Model) (s : Bits) → Rising (findings m s)
unfolding findings kinds
findings-rising m s =
    let c = standing-up m.containers in
    let p = standing-up m.policies in
    let z : Up (0 ∷ []) = (tt, tt) in
    let o : Up (0 ∷ 1 ∷ []) = ((omega arith, tt), (tt, tt)) in
    kinds-rising 1 (kinds m s) ((c, z), ((c, z), ((c, c), ((c, c), ((p, p), ((p, p), ((p, o), tt)))))))

-- No kind is 0
pub findings-from : (m : Model) (s : Bits) → All (FromKind 1) (findings m s)
unfolding findings
findings-from m s = kinds-from 1 1 (kinds m s) (le_refl 1)

-- In a rising list each finding stands once
rising-once : (g : Finding) (l : List Finding) → Rising l → count (same g) l ≡ cond (member g l) 1 0
rising-once g [] s = refl
rising-once g (x ∷ l) s = pick (same g x) refl (rising-once g l s.1)
  where
    pick : (t : Bool) → same g x ≡ t → count (same g) l ≡ cond (member g l) 1 0 → cond t 1 0 + count (same g) l ≡ cond (t || member g l) 1 0
    pick true e r =
        let gone : member g l ≡ false = denied (member g l) (λ h. cc (all_listed (After x) g l s.0 h, same-eq g x e, after-self x)) in
        rw (r, gone)
    pick false e r = zero-add (count (same g) l) ∙ r

-- A triple that is shown is in the list of findings once, and any other never
pub findings-once : (m : Model) (s : Bits) (g : Finding) → count (same g) (findings m s) ≡ cond (shown m s g) 1 0
findings-once m s g = rising-once g (findings m s) (findings-rising m s) ∙ ap (λ t. cond t 1 0) (findings-shown m s g)
