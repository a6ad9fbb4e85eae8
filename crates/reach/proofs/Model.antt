-- The rules over candidate sets are the model's rules: what they give for egress is a row of the model's matrix, for ingress a column.
use mathlib.Core.Path.{◌≡◌, refl, sym, ap, ap₂, ◌∙◌, fun_ext}
use mathlib.Core.Bool.{Bool, not, ◌&&◌, ◌||◌, and_assoc, and_comm, or_assoc, or-false}
use mathlib.Core.List.{List, [], ◌∷◌}
use mathlib.Core.Option.{Option, none, some as just}
use Prim.Native.Nat.{ℕ, zero, suc, ◌+◌, ◌<◌}
use native.Mathlib.Nat.{add-zero, zero-add}
use native.Mathlib.Omega.{arith}
use lib.Dec.{eqb}
use lib.ListN.{length}
use Rattle.bitrow.specs.Set.{some}
use Rattle.bitrow.proofs.Sets.{point}
use Rattle.bitrow.proofs.Tests.{some-cong}
use Rattle.block.specs.declared.Direction.{Direction}
use Rattle.block.specs.declared.Direction.TheVariants.{Ingress as ingress, Egress as egress}
use Rattle.block.specs.Entry.{Container}
use Rattle.model.specs.Table.{Table, any, on, at, stands, standing, standing_from}
use Rattle.model.specs.Rules.{same_direction, selects, allows, some_selects, some_allows}
use Rattle.model.specs.Rules as rules
use Rattle.model.specs.Model.{policy_slots, Model, matrix_bit, selected_bit, allowed_bit}
use Rattle.model.proofs.Lists.{eqb-sym}
use Rattle.sets.specs.declared.PolicySets.{PolicySets}
use Rattle.sets.specs.Sets.{bits, RowsAre, SetsOf}
use Rattle.rules.specs.Lets.{having, union, sets_let, line}
use Rattle.reach.specs.Sides.{direction_set, opposite}

-- ---- some slot of a table, as some number below its length

some-front : (f : ℕ → Bool) (n : ℕ) → some f (suc n) ≡ (f 0 || some (λ q. f (suc q)) n)
unfolding some
some-front f zero = sym (or-false (f 0))
some-front f (suc n) = rw (some-front f n) (or_assoc (f 0) (some (λ q. f (suc q)) n) (f (suc n)))

any-slot : {A : Type 0} (f : Option A → Bool) (l : Table A) → any f l ≡ some (λ q. f (at l q)) (length l)
unfolding some
any-slot f [] = refl
any-slot f (x ∷ l) = ap (λ (b : Bool). f x || b) (any-slot f l) ∙ sym (some-front (λ q. f (at (x ∷ l) q)) (length l))

shifted : {A : Type 0} (f : ℕ → Bool) (i : ℕ) (l : Table A)
    → some (λ q. stands l q && f (suc i + q)) (length l) ≡ some (λ q. stands l q && f (i + suc q)) (length l)
shifted f i l = some-cong _ _ (length l) (λ q h. let e : suc i + q ≡ i + suc q = omega arith in ap (λ (k : ℕ). stands l q && f k) e)

-- the same of the standing slots alone, by their numbers; the first slot of l is number i
any-from : {A : Type 0} (f : ℕ → Bool) (i : ℕ) (l : Table A) → any f (standing_from i l) ≡ some (λ q. stands l q && f (i + q)) (length l)
unfolding some
any-from f i [] = refl
any-from f i (none ∷ l) = any-from f (suc i) l ∙ shifted f i l ∙ sym (some-front (λ q. stands (none ∷ l) q && f (i + q)) (length l))
any-from f i (just x ∷ l) =
    ap₂ ◌||◌ (ap f (sym (add-zero i))) (any-from f (suc i) l ∙ shifted f i l) ∙ sym (some-front (λ q. stands (just x ∷ l) q && f (i + q)) (length l))

pub any-standing : {A : Type 0} (f : ℕ → Bool) (l : Table A) → any f (standing l) ≡ some (λ q. stands l q && f q) (length l)
any-standing f l = any-from f 0 l ∙ some-cong _ _ (length l) (λ q h. ap (λ (k : ℕ). stands l q && f k) (zero-add q))

on_and : {A : Type 0} (f g : A → Bool) (o : Option A) → on (λ x. f x && g x) o ≡ (on f o && on g o)
on_and f g none = refl
on_and f g (just x) = refl

-- ---- sets that agree below n say the same of the rules

module _ (n : ℕ) (w : ℕ → Bool) {sel alw sel' alw' : ℕ → ℕ → Bool}
    (e : (q : ℕ) → q < n → sel q ≡ sel' q) (f : (q : ℕ) → q < n → alw q ≡ alw' q) where
  lets-cong : (a b : ℕ) → sets_let n w sel alw a b ≡ sets_let n w sel' alw' a b
  unfolding sets_let union having
  lets-cong a b =
      ap₂ (λ (x y : Bool). not x || y)
      (some-cong _ _ n (λ q h. ap (λ (x : Bool). w q && x) (point (e q h) a)))
      (some-cong _ _ n (λ q h. ap₂ (λ (x y : Bool). (w q && x) && y) (point (e q h) a) (point (f q h) b)))

-- ---- the model's sets

module _ (m : Model) (d : Direction) (a b : ℕ) (x y : Container) (ea : at m.containers a ≡ just x) (eb : at m.containers b ≡ just y) where
  lets-model : sets_let (length m.policies) (direction_set m d) (selected_bit m) (allowed_bit m) a b ≡ rules.permits d m.policies x y
  unfolding sets_let union having rules.permits some_selects some_allows direction_set selected_bit allowed_bit
  lets-model =
      ap₂ (λ (s t : Bool). not s || t)
      (some-cong _ _ (length m.policies) (λ q h. rw ea (sym (on_and (λ r. same_direction d r.direction) (λ r. selects r x) (at m.policies q))))
      ∙ sym (any-slot (on (λ r. same_direction d r.direction && selects r x)) m.policies))
      (some-cong _ _ (length m.policies) (λ q h. rw (ea, eb)
      (and_assoc (on (λ r. same_direction d r.direction) (at m.policies q)) (on (λ r. selects r x) (at m.policies q)) (on (λ r. allows r y) (at m.policies q))
      ∙ ap (λ (s : Bool). on (λ r. same_direction d r.direction) (at m.policies q) && s) (sym (on_and (λ r. selects r x) (λ r. allows r y) (at m.policies q)))
      ∙ sym (on_and (λ r. same_direction d r.direction) (λ r. selects r x && allows r y) (at m.policies q))))
      ∙ sym (any-slot (on (λ r. same_direction d r.direction && (selects r x && allows r y))) m.policies))

abbrev Slot : Type 0
Slot = Option Container

-- the rules over the model's own sets
abbrev model_line : Model → Direction → ℕ → ℕ → Bool
model_line m d a b = line (length m.policies) (stands m.containers) (direction_set m d) (direction_set m (opposite d)) (selected_bit m) (allowed_bit m) a b

module _ (m : Model) (a b : ℕ) where
  row-model : (o p : Slot) → at m.containers a ≡ o → at m.containers b ≡ p → model_line m egress a b ≡ matrix_bit m a b
  unfolding line matrix_bit rules.reaches rules.both_permit
  row-model none p e f = rw e
  row-model (just x) none e f = rw (e, f)
  row-model (just x) (just y) e f = rw (lets-model m egress a b x y e f, lets-model m ingress b a y x f e, e, f)

  column-model : (o p : Slot) → at m.containers b ≡ o → at m.containers a ≡ p → model_line m ingress b a ≡ matrix_bit m a b
  unfolding line matrix_bit rules.reaches rules.both_permit
  column-model none none e f = rw (e, f)
  column-model none (just y) e f = rw (e, f)
  column-model (just x) none e f = rw (e, f)
  column-model (just x) (just y) e f =
      rw (lets-model m ingress b a x y e f, lets-model m egress a b y x f e, e, f)
      (ap₂ ◌||◌ (eqb-sym b a) (and_comm (rules.permits ingress m.policies x y) (rules.permits egress m.policies y x)))

-- ---- the rules over candidate sets, the policies in their slots

module _ (m : Model) {n : ℕ} {sel alw : List (List ℕ)}
    (size : length m.policies ≡ n) (es : RowsAre n (selected_bit m) sel) (ea : RowsAre n (allowed_bit m) alw) where
  sets-model : (d : Direction) {s w v : ℕ → Bool} → s ≡ stands m.containers → w ≡ direction_set m d → v ≡ direction_set m (opposite d)
      → (a b : ℕ) → line n s w v (bits sel) (bits alw) a b ≡ model_line m d a b
  unfolding line
  sets-model d {s} {w} {v} f g h a b =
      ap₂ (λ (x y : Bool). s a && (s b && (eqb a b || (x && y)))) (lets-cong n w es.row ea.row a b) (lets-cong n v es.row ea.row b a)
      ∙ rw (f, g, h, ← size)

module _ (m : Model) {held : PolicySets} (size : length m.policies ≡ policy_slots) (sets : SetsOf m held) {s w v : ℕ → Bool} (f : s ≡ stands m.containers) where
  pub row-law : w ≡ direction_set m egress → v ≡ direction_set m ingress → (a : ℕ) → line policy_slots s w v (bits held.selected) (bits held.allowed) a ≡ matrix_bit m a
  row-law g h a = fun_ext (λ b. sets-model m size sets.selected sets.allowed egress f g h a b ∙ row-model m a b (at m.containers a) (at m.containers b) refl refl)

  pub column-law : w ≡ direction_set m ingress → v ≡ direction_set m egress → (b : ℕ) → line policy_slots s w v (bits held.selected) (bits held.allowed) b ≡ (λ a. matrix_bit m a b)
  column-law g h b = fun_ext (λ a. sets-model m size sets.selected sets.allowed ingress f g h b a ∙ column-model m a b (at m.containers b) (at m.containers a) refl refl)
