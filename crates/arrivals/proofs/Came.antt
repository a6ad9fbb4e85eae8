-- What is set anew is what came touches: they differ only at pairs that do not both stand, where neither the rule nor the old bit is set.
use mathlib.Core.Path.{◌≡◌, refl, sym, ap, ap₂, ◌∙◌, fun_ext}
use mathlib.Core.Bool.{Bool, true, false, true≢false, ◌&&◌, ◌||◌, cond, and-false}
use mathlib.Core.List.{List, [], ◌∷◌}
use Prim.Native.Nat.{ℕ}
use Rattle.bitrow.specs.Bit.{bit_at}
use Rattle.bitrow.specs.Set.{nothing, join, has_some, Bounded}
use Rattle.bitrow.proofs.Sets.{point, nothing-at, join-at, bounded-nothing, bounded-ext}
use Rattle.bitrow.proofs.Tests.{has_some-absent}
use Rattle.block.specs.declared.Direction.{Direction}
use Rattle.block.specs.declared.Direction.TheVariants.{Ingress as ingress, Egress as egress}
use Rattle.model.specs.Table.{any, stands}
use Rattle.model.specs.Model.{Model, computed_bits}
use Rattle.model.specs.Registry.{Registry, BitsStand, computed, set_where}
use Rattle.model.specs.Findings.{policies_of}
use Rattle.model.specs.Settled.{selects_as, some_came_selects, touched_pair, touched_set, settled}
use Rattle.model.proofs.Lists.{neither}
use Rattle.model.proofs.Clear.{computed-clear}
use Rattle.formed.specs.Registry.{registry_in, image, well_formed}
use Rattle.formed.proofs.Formed.{formed-memory}
use Rattle.arrivals.specs.declared.Touched.{Touched}
use Rattle.arrivals.specs.Anew.{anew, bits_where, set_anew, TouchedBy}

-- ---- bits set over other pairs

set-bit : (s n k rule old : Bool) → (s ≡ true → n ≡ k) → (rule ≡ true → s ≡ true) → (old ≡ true → s ≡ true) → cond n rule old ≡ cond k rule old
set-bit true n k rule old e f g = ap (λ (u : Bool). cond u rule old) (e refl)
set-bit false n k true old e f g = absurd (true≢false (sym (f refl)))
set-bit false n k false true e f g = absurd (true≢false (sym (g refl)))
set-bit false n k false false e f g = clear n ∙ sym (clear k)
  where
    clear : (u : Bool) → cond u false false ≡ false
    clear true = refl
    clear false = refl

-- pairs named alike where s has them, and no other pair by the rule or before
set_same : (s n k rule old : ℕ → ℕ → Bool) → ((a b : ℕ) → s a b ≡ true → n a b ≡ k a b) → ((a b : ℕ) → rule a b ≡ true → s a b ≡ true)
    → ((a b : ℕ) → old a b ≡ true → s a b ≡ true) → set_where n rule old ≡ set_where k rule old
unfolding set_where
set_same s n k rule old e f g = fun_ext (λ a. fun_ext (λ b. set-bit (s a b) (n a b) (k a b) (rule a b) (old a b) (e a b) (f a b) (g a b)))

or-mix : (a b c d : Bool) → ((a || b) || (c || d)) ≡ ((a || c) || (b || d))
or-mix true b c d = refl
or-mix false true true d = refl
or-mix false true false d = refl
or-mix false false true d = refl
or-mix false false false d = refl

-- ---- what came

module _ (r : Registry) {cs qs : ℕ → Bool} {t : Touched} (by : TouchedBy r.model cs qs t) where
  same-pair : (a b : ℕ) → (stands r.model.containers a && stands r.model.containers b) ≡ true → (anew t).matrix a b ≡ touched_pair r.model cs qs a b
  unfolding anew touched_pair
  same-pair a b e =
      let leaves = some_came_selects egress r.model qs in
      let takes = some_came_selects ingress r.model qs in
      ap₂ ◌||◌ (point by.rows a ∙ join-at cs leaves a) (point by.columns b ∙ join-at cs takes b) ∙ or-mix (cs a) (leaves a) (cs b) (takes b)
      ∙ ap (λ (u : Bool). (cs a || cs b) || (u && (leaves a || takes b))) (sym e)

  same-matrix : BitsStand r → set_where (anew t).matrix (computed_bits r.model).matrix r.bits.matrix
      ≡ set_where (touched_pair r.model cs qs) (computed_bits r.model).matrix r.bits.matrix
  unfolding computed
  same-matrix clear =
      set_same (λ a b. stands r.model.containers a && stands r.model.containers b) _ _ _ _ same-pair (computed-clear r.model).matrix clear.matrix

  same-sets : touched_set (bit_at t.containers) (bit_at t.policies) ≡ touched_set cs qs
  same-sets = ap₂ touched_set by.containers by.policies

  pub anew-settled : BitsStand r → set_anew t r ≡ settled cs qs r
  unfolding set_anew bits_where anew settled
  anew-settled clear =
      let rule = computed_bits r.model in
      λ i. record {
        model = r.model;
        bits = record {
          matrix = same-matrix clear i;
          selected = set_where (same-sets i) rule.selected r.bits.selected;
          allowed = set_where (same-sets i) rule.allowed r.bits.allowed;
        };
      }

-- ---- nothing came

none-selects : (d : Direction) (m : Model) (a : ℕ) → some_came_selects d m nothing a ≡ false
unfolding some_came_selects nothing
none-selects d m a = go (policies_of m)
  where
    go : (l : List ℕ) → any (λ q. false && selects_as d m q a) l ≡ false
    go [] = refl
    go (q ∷ l) = go l

none-pair : (m : Model) (a b : ℕ) → touched_pair m nothing nothing a b ≡ false
unfolding touched_pair nothing
none-pair m a b =
    ap₂ (λ (u v : Bool). (stands m.containers a && stands m.containers b) && (u || v)) (none-selects egress m a) (none-selects ingress m b)
    ∙ and-false (stands m.containers a && stands m.containers b)

none-set : (m : Model) (rule old : ℕ → ℕ → Bool) → set_where (touched_pair m nothing nothing) rule old ≡ old
unfolding set_where
none-set m rule old = fun_ext (λ a. fun_ext (λ b. ap (λ (u : Bool). cond u (rule a b) (old a b)) (none-pair m a b)))

none-settled : (r : Registry) → settled nothing nothing r ≡ r
unfolding settled set_where touched_set nothing
none-settled r =
    let rule = computed_bits r.model in
    λ i. record {
      model = r.model;
      bits = record { matrix = none-set r.model rule.matrix r.bits.matrix i; selected = r.bits.selected; allowed = r.bits.allowed };
    }

neither-came : (cs qs : ℕ → Bool) → join cs qs ≡ nothing → (cs ≡ nothing) × (qs ≡ nothing)
unfolding join nothing
neither-came cs qs e = (fun_ext (λ j. (neither (cs j) (qs j) (point e j)).0), fun_ext (λ j. (neither (cs j) (qs j) (point e j)).1))

pub came-none : (m : List ℕ) → well_formed m ≡ true → (cs qs : ℕ → Bool) {both : ℕ → Bool} → both ≡ join cs qs → Bounded 256 both → has_some both ≡ false
    → m ≡ image (settled cs qs (registry_in m))
came-none m ok cs qs {both} e b none =
    let r = registry_in m in
    let f = neither-came cs qs (sym e ∙ bounded-ext b (bounded-nothing 256) (λ j h. has_some-absent both none j h ∙ sym (nothing-at j))) in
    sym (formed-memory m ok).canonical ∙ ap image (sym (ap₂ (λ (s t : ℕ → Bool). settled s t r) f.0 f.1 ∙ none-settled r))
