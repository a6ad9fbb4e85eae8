-- Laws of the table: where probing ends, and labels entered one after another.
use mathlib.Core.Path.{◌≡◌, refl, sym, ap, ◌∙◌}
use mathlib.Core.Bool.{true, false, ◌||◌, cond}
use mathlib.Core.List.{List}
use Prim.Native.Nat.{ℕ, zero, suc, ◌+◌, ◌-◌, ◌%◌, ◌≤◌, ◌<◌}
use native.Mathlib.Omega.{arith}
use lib.Dec.{eqb}
use lib.ListN.{get_or, set}
use borrow.Author.Tests.{eq-eqb, ne_eqb}
use Rattle.store.specs.Layout.{select_offset, allow_offset, policy_start, word_at}
use Rattle.label_table.specs.LabelTable.{places, probe, first_place, table_place, entered, in_turn, word_entered, part_entered, policy_entered}

-- ---- probing

module _ (labels : List ℕ) (v : ℕ) where
  pub place-probe : {h : ℕ} → h ≡ first_place v → table_place labels v ≡ probe labels v 8 h
  unfolding table_place
  place-probe e = ap (probe labels v 8) (sym e)

  pub probe-end : (n h : ℕ) → n ≤ 0 → probe labels v n h ≡ h
  unfolding probe
  probe-end zero h e = refl
  probe-end (suc n) h e = absurd (omega arith)

  pub probe-here : (n h : ℕ) → 0 < n → (eqb (get_or labels h 0) v || eqb (get_or labels h 0) 0) ≡ true → probe labels v n h ≡ h
  unfolding probe
  probe-here zero h l e = absurd (omega arith)
  probe-here (suc n) h l e = ap (λ t. cond t h (probe labels v n ((h + 1) % places))) e

  -- k of n probes are done
  pub probe-on : {n : ℕ} (k h : ℕ) → k < n → (eqb (get_or labels h 0) v || eqb (get_or labels h 0) 0) ≡ false → probe labels v (n - k) h ≡ probe labels v (n - (k + 1)) ((h + 1) % places)
  unfolding probe
  probe-on {n} k h l e =
      let i : n - k ≡ suc (n - (k + 1)) = omega arith in
      ap (λ j. probe labels v j h) i ∙ ap (λ t. cond t h (probe labels v (n - (k + 1)) ((h + 1) % places))) e

-- ---- labels entered

module _ (labels : List ℕ) (v : ℕ) {h : ℕ} (e : h ≡ table_place labels v) where
  entering : entered labels v ≡ cond (eqb (get_or labels h 0) 0) (set labels h v) labels
  unfolding entered
  entering = ap (λ p. cond (eqb (get_or labels p 0) 0) (set labels p v) labels) (sym e)

  pub entered-free : get_or labels h 0 ≡ 0 → set labels h v ≡ entered labels v
  entered-free f = sym (entering ∙ ap (λ t. cond t (set labels h v) labels) (eq-eqb (get_or labels h 0) 0 f))

  pub entered-taken : (get_or labels h 0 ≡ 0 → ⊥) → labels ≡ entered labels v
  entered-taken f = sym (entering ∙ ap (λ t. cond t (set labels h v) labels) (ne_eqb (get_or labels h 0) 0 f))

-- a part's labels, up to before its end
pub part-turns : (m labels : List ℕ) (part : ℕ) → in_turn (word_entered m) (part + 1) (part + word_at m part - (part + 1)) labels ≡ part_entered m labels part
unfolding part_entered
part-turns m labels part = let k : part + word_at m part - (part + 1) ≡ word_at m part - 1 = omega arith in ap (λ n. in_turn (word_entered m) (part + 1) n labels) k

pub policy-entered : (m labels : List ℕ) (q : ℕ) {mid next : List ℕ} → mid ≡ part_entered m labels (policy_start q + select_offset) → next ≡ part_entered m mid (policy_start q + allow_offset)
    → next ≡ policy_entered m labels q
unfolding policy_entered
policy-entered m labels q e f = f ∙ ap (λ t. part_entered m t (policy_start q + allow_offset)) e

-- the steps from i up to before `end` give the whole
module _ (step : List ℕ → ℕ → List ℕ) (i end : ℕ) {labels whole : List ℕ} (g : in_turn step i (end - i) labels ≡ whole) where
  pub turn-next : {next : List ℕ} → i < end → next ≡ step labels i → in_turn step (i + 1) (end - (i + 1)) next ≡ whole
  unfolding in_turn
  turn-next l e = let k : end - i ≡ suc (end - (i + 1)) = omega arith in ap (in_turn step (i + 1) (end - (i + 1))) e ∙ sym (ap (λ n. in_turn step i n labels) k) ∙ g

  pub turn-done : end ≤ i → labels ≡ whole
  unfolding in_turn
  turn-done l = let k : end - i ≡ 0 = omega arith in sym (ap (λ n. in_turn step i n labels) k) ∙ g
