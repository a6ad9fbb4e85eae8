-- A table closed up has the same entries in the same order, and its slot i holds what the i-th standing slot held: so a file of it is the
-- same, and its bits are the old ones of the standing slots. Entries that come one after another fill such a table.
use mathlib.Core.Path.{◌≡◌, refl, sym, ap, ap₂, ◌∙◌}
use mathlib.Core.Bool.{Bool, not, ◌&&◌, ◌||◌}
use mathlib.Core.List.{List, [], ◌∷◌, ◌++◌, map, flatten, append-nil}
use mathlib.Core.Option.{Option, none, some}
use Prim.Native.Nat.{ℕ, zero, suc, ◌+◌, ◌-◌, ◌≤◌, ◌<◌}
use native.Mathlib.Nat.{not-suc-le-zero, le_of_suc-le-suc, sub-zero, suc-sub-suc}
use native.Mathlib.Omega.{arith}
use lib.Dec.{eqb}
use lib.ListN.{length, get_or, set, replicate, length-append}
use lib.Seq.{append_snoc}
use Rattle.block.specs.declared.Direction.{Direction}
use Rattle.block.specs.declared.Direction.TheVariants.{Egress as egress, Ingress as ingress}
use Rattle.block.specs.Entry.{Container, Policy, container, policy}
use Rattle.block.specs.Written.{block_of, settings_block}
use Rattle.model.specs.Table.{Table, any, on, at, standing, standing_from, next, lowest_free, up_from}
use Rattle.model.specs.Rules.{same_direction, selects, allows, some_selects, some_allows, permits, both_permit, reaches}
use Rattle.model.specs.Model.{Model, matrix_bit, selected_bit, allowed_bit, computed_bits}
use Rattle.model.specs.Findings.{containers_of, policies_of}
use Rattle.model.specs.Calls.{Call, Answer, run}
use Rattle.model.specs.File.{standing_entries, file_entries, file_of, closed, closed_up}
use Rattle.model.proofs.Lists.{All, up-same, standing-few, standing-up}

module _ {A : Type 0} where
  -- as many entries as standing slots
  entries_from : (i : ℕ) (t : Table A) → length (standing_entries t) ≡ length (standing_from i t)
  entries_from i [] = refl
  entries_from i (none ∷ t) = entries_from (suc i) t
  entries_from i (some x ∷ t) = ap suc (entries_from (suc i) t)

  pub entries-standing : (t : Table A) → length (standing_entries t) ≡ length (standing t)
  entries-standing t = entries_from 0 t

  pub entries_fit : (t : Table A) → length (standing_entries t) ≤ length t
  entries_fit t = omega (arith, entries-standing t, standing-few 0 t)

  -- these entries, then n free slots
  abbrev pub packed : List A → ℕ → Table A
  packed l n = map some l ++ replicate n none

  packed-lowest : (l : List A) (n : ℕ) → lowest_free (packed l (suc n)) ≡ some (length l)
  packed-lowest [] n = refl
  packed-lowest (x ∷ l) n = ap next (packed-lowest l n)

  packed-put : (l : List A) (n : ℕ) (x : A) → set (packed l (suc n)) (length l) (some x) ≡ packed (l ++ x ∷ []) n
  packed-put [] n x = refl
  packed-put (y ∷ l) n x = ap (λ (t : Table A). some y ∷ t) (packed-put l n x)

  packed-entries : (l : List A) (n : ℕ) → standing_entries (packed l n) ≡ l
  packed-entries [] zero = refl
  packed-entries [] (suc n) = packed-entries [] n
  packed-entries (x ∷ l) n = ap (λ (r : List A). x ∷ r) (packed-entries l n)

  -- ---- closed up

  closed-entries : (t : Table A) → standing_entries (closed t) ≡ standing_entries t
  unfolding closed
  closed-entries t = packed-entries (standing_entries t) (length t - length (standing_entries t))

  -- a test of some entry
  any-entries : (f : A → Bool) (t : Table A) → any (on f) t ≡ any f (standing_entries t)
  any-entries f [] = refl
  any-entries f (none ∷ t) = any-entries f t
  any-entries f (some x ∷ t) = ap (λ b. f x || b) (any-entries f t)

  closed-any : (f : A → Bool) (t : Table A) → any (on f) (closed t) ≡ any (on f) t
  closed-any f t = any-entries f (closed t) ∙ ap (any f) (closed-entries t) ∙ sym (any-entries f t)

  -- the i-th standing slot of a table whose first slot is number k, n slots being free after its entries
  record Nth (k n : ℕ) (t : Table A) (i : ℕ) : Type 0 where
    slot : ℕ
    number : get_or (standing_from k t) i 0 ≡ k + slot
    within : slot < length t
    holds : at (packed (standing_entries t) n) i ≡ at t slot

  nth : (k n : ℕ) (t : Table A) (i : ℕ) → i < length (standing_from k t) → Nth k n t i
  nth k n [] i h = absurd (not-suc-le-zero h)
  nth k n (none ∷ t) i h =
      let r = nth (suc k) n t i h in
      record { slot = suc r.slot; number = omega arith; within = omega arith; holds = r.holds }
  nth k n (some x ∷ t) zero h = record { slot = 0; number = omega arith; within = omega arith; holds = refl }
  nth k n (some x ∷ t) (suc i) h =
      let r = nth (suc k) n t i (le_of_suc-le-suc h) in
      record { slot = suc r.slot; number = omega arith; within = omega arith; holds = r.holds }

  pub standing-within : (t : Table A) (n : ℕ) → length t ≡ n → (i : ℕ) → i < length (standing t) → get_or (standing t) i 0 < n
  standing-within t n whole i h = let r = nth 0 0 t i h in omega arith

  closed_at : (t : Table A) (i : ℕ) → i < length (standing t) → at (closed t) i ≡ at t (get_or (standing t) i 0)
  unfolding closed
  closed_at t i h =
      let r = nth 0 (length t - length (standing_entries t)) t i h in
      let s : r.slot ≡ get_or (standing t) i 0 = omega arith in
      r.holds ∙ ap (at t) s

-- ---- the bits, and the file

closed-permits : (d : Direction) (ps : Table Policy) (x y : Container) → permits d (closed ps) x y ≡ permits d ps x y
unfolding permits some_selects some_allows
closed-permits d ps x y =
    ap₂ (λ s a. not s || a)
    (closed-any (λ p. same_direction d p.direction && selects p x) ps)
    (closed-any (λ p. same_direction d p.direction && (selects p x && allows p y)) ps)

closed-both : (ps : Table Policy) (x y : Container) → both_permit (closed ps) x y ≡ both_permit ps x y
unfolding both_permit
closed-both ps x y = ap₂ ◌&&◌ (closed-permits egress ps x y) (closed-permits ingress ps y x)

-- two slots of the table closed up are one where the standing slots that they come from are
closed-reaches : (i j a b : ℕ) → eqb i j ≡ eqb a b → (ps : Table Policy) (x y : Container) → reaches (closed ps) i j x y ≡ reaches ps a b x y
unfolding reaches
closed-reaches i j a b e ps x y = ap₂ ◌||◌ e (closed-both ps x y)

-- a rule asked of what two slots hold
closed-rule : {A B : Type 0} (f g : A → B → Bool) → ((x : A) (y : B) → f x y ≡ g x y) → (t : Table A) (u : Table B) (i j : ℕ)
    → i < length (standing t) → j < length (standing u)
    → on (λ x. on (λ y. f x y) (at (closed u) j)) (at (closed t) i)
    ≡ on (λ x. on (λ y. g x y) (at u (get_or (standing u) j 0))) (at t (get_or (standing t) i 0))
closed-rule {A} {B} f g e t u i j h k =
    ap₂ (λ o p. on (λ x. on (λ y. f x y) p) o) (closed_at t i h) (closed_at u j k) ∙ pick (at t (get_or (standing t) i 0)) (at u (get_or (standing u) j 0))
  where
    pick : (o : Option A) (p : Option B) → on (λ x. on (λ y. f x y) p) o ≡ on (λ x. on (λ y. g x y) p) o
    pick none p = refl
    pick (some x) none = refl
    pick (some x) (some y) = e x y

module _ (m : Model) where
  pub closed-matrix : (i j : ℕ) → i < length (containers_of m) → j < length (containers_of m)
      → (computed_bits (closed_up m)).matrix i j ≡ (computed_bits m).matrix (get_or (containers_of m) i 0) (get_or (containers_of m) j 0)
  unfolding computed_bits matrix_bit closed_up
  closed-matrix i j h k =
      closed-rule (reaches (closed m.policies) i j) (reaches m.policies (get_or (containers_of m) i 0) (get_or (containers_of m) j 0))
      (closed-reaches _ _ _ _ (up-same (containers_of m) (standing-up m.containers) i j h k) m.policies) m.containers m.containers i j h k

  pub closed-selected : (q i : ℕ) → q < length (policies_of m) → i < length (containers_of m)
      → (computed_bits (closed_up m)).selected q i ≡ (computed_bits m).selected (get_or (policies_of m) q 0) (get_or (containers_of m) i 0)
  unfolding computed_bits selected_bit closed_up
  closed-selected q i = closed-rule selects selects (λ p x. refl) m.policies m.containers q i

  pub closed-allowed : (q i : ℕ) → q < length (policies_of m) → i < length (containers_of m)
      → (computed_bits (closed_up m)).allowed q i ≡ (computed_bits m).allowed (get_or (policies_of m) q 0) (get_or (containers_of m) i 0)
  unfolding computed_bits allowed_bit closed_up
  closed-allowed q i = closed-rule allows allows (λ p x. refl) m.policies m.containers q i

  pub closed-file : file_of (closed_up m) ≡ file_of m
  unfolding file_of file_entries closed_up
  closed-file =
      ap₂ (λ (c : List Container) (p : List Policy). flatten (settings_block m.settings ∷ map block_of (map container c ++ map policy p)))
      (closed-entries m.containers) (closed-entries m.policies)

-- ---- lists of calls

module _ {S K A : Type 0} (step : S → K → S × A) where
  -- a call whose outcome is known, and those after it
  pub run-next : (s t : S) (a : A) (k : K) (ks : List K) → step s k ≡ (t, a) → run step s (k ∷ ks) ≡ ((run step t ks).0, a ∷ (run step t ks).1)
  run-next s t a k ks e = ap (λ (r : S × A). ((run step r.0 ks).0, r.1 ∷ (run step r.0 ks).1)) e

  pub run-append : (s : S) (xs ys : List K)
      → run step s (xs ++ ys) ≡ ((run step (run step s xs).0 ys).0, (run step s xs).1 ++ (run step (run step s xs).0 ys).1)
  run-append s [] ys = refl
  run-append s (x ∷ xs) ys = ap (λ (r : S × List A). (r.0, (step s x).1 ∷ r.1)) (run-append (step s x).0 xs ys)

module _ {S : Type 0} (step : S → Call → S × Answer) where
  -- where each call puts its entry at the lowest free slot, entries one after another take the slots after those that stand, one by one
  module _ {A : Type 0} (hold : Table A → S) (call : A → Call) (answer : ℕ → Answer) (P : A → Type 0)
      (puts : (t : Table A) (x : A) (i : ℕ) → P x → lowest_free t ≡ some i → step (hold t) (call x) ≡ (hold (set t i (some x)), answer i)) where
    pub run-fills : (l xs : List A) (n : ℕ) → All P xs → length xs ≤ n
        → run step (hold (packed l n)) (map call xs) ≡ (hold (packed (l ++ xs) (n - length xs)), map answer (up_from (length l) (length xs)))
    run-fills l [] n t h = rw (append-nil, sub-zero)
    run-fills l (x ∷ xs) zero t h = absurd (not-suc-le-zero h)
    run-fills l (x ∷ xs) (suc n) t h =
        let more : length (l ++ x ∷ []) ≡ suc (length l) = omega (arith, length-append l (x ∷ [])) in
        run-next step (hold (packed l (suc n))) (hold (packed (l ++ x ∷ []) n)) (answer (length l)) (call x) (map call xs)
        (puts (packed l (suc n)) x (length l) t.0 (packed-lowest l n) ∙ ap (λ (u : Table A). (hold u, answer (length l))) (packed-put l n x))
        ∙ rw (run-fills (l ++ x ∷ []) xs n t.1 (le_of_suc-le-suc h), append_snoc, more, suc-sub-suc)
