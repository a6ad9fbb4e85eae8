-- A test over all numbers below n holds exactly if it holds of each: so audit's test says that every stored bit equals the rules. An opened registry is computed.
use mathlib.Core.Path.{◌≡◌, refl, sym, ap, ap₂, fun_ext, ◌∙◌}
use mathlib.Core.Bool.{Bool, true, false, ◌&&◌, beq, and-eq-true_iff}
use mathlib.Core.Logic.{◌↔◌}
use mathlib.Core.Option.{none}
use Prim.Native.Nat.{ℕ, zero, suc, ◌+◌, ◌<◌}
use native.Mathlib.Nat.{not-suc-le-zero, zero-add}
use native.Mathlib.Omega.{arith}
use lib.ListN.{replicate}
use Rattle.block.specs.Entry.{Settings}
use Rattle.model.specs.Table.{all, on, at, up_from, below}
use Rattle.model.specs.Model.{container_slots, policy_slots, Model, empty, matrix_bit, selected_bit, allowed_bit, computed_bits}
use Rattle.model.specs.Registry.{Registry, computed, same_bits, consistent, Agree, FollowsRules, opened}

beq-true : (a b : Bool) → beq a b ≡ true → a ≡ b
beq-true true true h = refl
beq-true true false h = sym h
beq-true false true h = h
beq-true false false h = refl

beq_same : (a b : Bool) → a ≡ b → beq a b ≡ true
beq_same true true h = refl
beq_same true false h = sym h
beq_same false true h = h
beq_same false false h = refl

-- a test holds of all numbers below n exactly if it holds of each
all_up : (f : ℕ → Bool) (n i : ℕ) → ((k : ℕ) → k < n → f (i + k) ≡ true) → all f (up_from i n) ≡ true
all_up f zero i h = refl
all_up f (suc n) i h =
    let here : f i ≡ true = ap f (omega arith) ∙ h 0 (omega arith) in
    rw (here, all_up f n (suc i) (λ k l. ap f (omega arith) ∙ h (suc k) (omega arith)))

up-all : (f : ℕ → Bool) (n i k : ℕ) → all f (up_from i n) ≡ true → k < n → f (i + k) ≡ true
up-all f zero i k e h = absurd (not-suc-le-zero h)
up-all f (suc n) i zero e h = ap f (omega arith) ∙ ((and-eq-true_iff (f i) (all f (up_from (suc i) n))).0 e).0
up-all f (suc n) i (suc k) e h =
    ap f (omega arith) ∙ up-all f n (suc i) k ((and-eq-true_iff (f i) (all f (up_from (suc i) n))).0 e).1 (omega arith)

pub all-below : (f : ℕ → Bool) (n : ℕ) → ((k : ℕ) → k < n → f k ≡ true) → all f (below n) ≡ true
all-below f n h = all_up f n 0 (λ k l. ap f (zero-add k) ∙ h k l)

pub below_all : (f : ℕ → Bool) (n k : ℕ) → all f (below n) ≡ true → k < n → f k ≡ true
below_all f n k e h = ap f (sym (zero-add k)) ∙ up-all f n 0 k e h

module _ (m n : ℕ) (f g : ℕ → ℕ → Bool) where
  agree_same : Agree m n f g → same_bits m n f g ≡ true
  unfolding Agree
  agree_same h = all-below _ m (λ i l. all-below _ n (λ j k. beq_same (f i j) (g i j) (h i j l k)))

  same-agree : same_bits m n f g ≡ true → Agree m n f g
  unfolding Agree
  same-agree e i j l k =
      beq-true (f i j) (g i j)
      (below_all (λ j. beq (f i j) (g i j)) n j (below_all (λ i. all (λ j. beq (f i j) (g i j)) (below n)) m i e l) k)

pub consistent-exactly : (r : Registry) → (consistent r ≡ true) ↔ FollowsRules r
unfolding consistent
consistent-exactly r = let s = r.bits in
    let t = computed_bits r.model in
    let matrix = same_bits container_slots container_slots s.matrix t.matrix in
    let selected = same_bits policy_slots container_slots s.selected t.selected in
    let allowed = same_bits policy_slots container_slots s.allowed t.allowed in (
      λ e. let h = (and-eq-true_iff matrix (selected && allowed)).0 e in
          let k = (and-eq-true_iff selected allowed).0 h.1 in
          record { matrix = same-agree _ _ _ _ h.0; selected = same-agree _ _ _ _ k.0; allowed = same-agree _ _ _ _ k.1 },
      λ h. ap₂ ◌&&◌ (agree_same _ _ _ _ h.matrix) (ap₂ ◌&&◌ (agree_same _ _ _ _ h.selected) (agree_same _ _ _ _ h.allowed)),
    )

-- what the rules give is consistent
pub computed-consistent : (m : Model) → consistent (computed m) ≡ true
unfolding computed Agree
computed-consistent m =
    (consistent-exactly (computed m)).1
    (record { matrix = λ i j l k. refl; selected = λ i j l k. refl; allowed = λ i j l k. refl })

-- a test of a free table's slot fails
on-free : {A : Type 0} (f : A → Bool) (n i : ℕ) → false ≡ on f (at (replicate n none) i)
on-free f zero i = refl
on-free f (suc n) zero = refl
on-free f (suc n) (suc i) = on-free f n i

-- An opened registry is computed.
pub opened-computed : (s : Settings) → opened s ≡ computed (empty s)
unfolding opened computed computed_bits empty matrix_bit selected_bit allowed_bit
opened-computed s =
    let matrix : (λ (a b : ℕ). false) ≡ matrix_bit (empty s) = fun_ext λ a. fun_ext λ b. on-free _ 256 a in
    let selected : (λ (q b : ℕ). false) ≡ selected_bit (empty s) = fun_ext λ q. fun_ext λ b. on-free _ 128 q in
    let allowed : (λ (q b : ℕ). false) ≡ allowed_bit (empty s) = fun_ext λ q. fun_ext λ b. on-free _ 128 q in
    λ i. record { model = empty s; bits = record { matrix = matrix i; selected = selected i; allowed = allowed i } }
