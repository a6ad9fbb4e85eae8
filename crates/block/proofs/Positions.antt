-- The position that a refusal tells is the first that its check finds at fault, and lies in the block.
use mathlib.Core.Path.{◌≡◌, refl, subst}
use mathlib.Core.Bool.{Bool, true, false, cond}
use mathlib.Core.List.{List, ◌++◌}
use Prim.Native.Nat.{ℕ, ◌+◌, ◌-◌, ◌*◌, ◌≤◌, ◌<◌}
use native.Mathlib.Nat.{le_refl, le_of_lt}
use native.Mathlib.Omega.{arith}
use borrow.Author.Tests.{ltb-false, le-ltb, eqb-false, ne_eqb}
use lib.Dec.{eqb}
use Rattle.std.specs.Prelude.{Option, None, Some, Err}
use Rattle.block.specs.declared.Reason.{Reason}
use Rattle.block.specs.declared.Refusal.{Refusal}
use Rattle.block.specs.Bytes.{byte_at, number_at}
use Rattle.block.specs.Entry.{Settings}
use Rattle.block.specs.Fault.{unless, first_in, Field, field_fault}
use Rattle.block.specs.Refusal.{Check, first_refusal}
use Rattle.block.specs.Reader.{Run, Span, Layout, label_fields, label_fault, range_fault, rise_fault, order_fault, zero_fault, container_layout, policy_layout, is_container, layout_of, settings_fields, settings_unused, frame, settings_checks, entry_checks}
use Rattle.block.specs.Positions.{FirstAt, First, Among, FieldAt, RangeAt, OrderAt, UnusedAt, SettingsFaultAt, EntryFaultAt, PositionOf, SettingsPositions, EntryPositions}
use Rattle.block.proofs.Faults.{first-as, first-test, first-numbers, Apart, Finds, among-inside, first-among}
use Rattle.block.proofs.Checks.{EveryRefusal, every-none, every-next}
use Rattle.block.proofs.Limits.{container-count, policy-counts}

-- ---- fields

abbrev field_start : Field → ℕ
field_start x = x.at

abbrev field_end : Field → ℕ
field_end x = x.at + 1

field-finds : Finds field_start field_end (λ x p. (p ≡ x.at) × (x.fits ≡ false)) (λ x. unless x.fits x.at)
field-finds = record { first = λ x. first-test x.fits x.at _ (λ e. e) (λ e. e); inside = λ x p h. let e = h.0 in (omega arith, omega arith) }

pub first-fields : (n : ℕ) (fs : List Field) (m : ℕ) → Apart field_start field_end n fs m → First (FieldAt fs) (field_fault fs)
first-fields = first-among field-finds

-- ---- labels

module _ (b : List ℕ) where
  label-apart : (p : ℕ) → Apart field_start field_end p (label_fields b p) (p + 3)
  label-apart p = (le_refl p, omega arith, (omega arith, omega arith, omega arith))

  pub first-label : (p : ℕ) → First (FieldAt (label_fields b p)) (label_fault b p)
  unfolding label_fault
  first-label p = first-fields p (label_fields b p) (p + 3) (label-apart p)

  label-inside : (p q : ℕ) → FieldAt (label_fields b p) q → (p ≤ q) × (q < p + 3)
  label-inside p = among-inside field-finds p (label_fields b p) (p + 3) (label-apart p)

  -- the key at p does not rise
  abbrev FallAt : ℕ → ℕ → Type 0
  FallAt p q = (q ≡ p) × (number_at b q ≤ number_at b (q - 4))

  first-fall : (p : ℕ) → First (FallAt p) (rise_fault b p)
  unfolding rise_fault
  first-fall p = first-test _ _ (λ q. number_at b q ≤ number_at b (q - 4)) (ltb-false _ _) (le-ltb _ _)

-- ---- runs

abbrev run_start : Run → ℕ
run_start r = r.start

abbrev run_end : Run → ℕ
run_end r = r.start + 4 * r.count

module _ (b : List ℕ) (r : Run) where
  -- where label k begins
  abbrev label_place : ℕ → ℕ
  label_place k = r.start + 4 * k

  pub first-range : (o : Option ℕ) → o ≡ range_fault b r.start r.count → First (RangeAt b r) o
  unfolding range_fault
  first-range =
      first-numbers (λ k. FieldAt (label_fields b (label_place k))) (λ k. label_fault b (label_place k)) (λ k. first-label b (label_place k))
      (λ j k p q l g h. let s = (label-inside b (label_place j) p g).1 in let t = (label-inside b (label_place k) q h).0 in omega arith)
      0 r.count (RangeAt b r)
      (λ p w. record { label = w.number; within = w.high; field = w.holds })
      (λ p h. record { number = h.label; low = omega arith; high = h.within; holds = h.field })

  pub first-order : (o : Option ℕ) → o ≡ order_fault b r.start r.count → First (OrderAt b r) o
  unfolding order_fault
  first-order =
      first-numbers (λ k. FallAt b (label_place k)) (λ k. rise_fault b (label_place k)) (λ k. first-fall b (label_place k))
      (λ j k p q l g h. let s = g.0 in let t = h.0 in omega arith)
      1 r.count (OrderAt b r)
      (λ p w. record { label = w.number; second = w.low; within = w.high; key = w.holds.0; falls = w.holds.1 })
      (λ p h. record { number = h.label; low = h.second; high = h.within; holds = (h.key, h.falls) })

range-finds : (b : List ℕ) → Finds run_start run_end (RangeAt b) (λ r. range_fault b r.start r.count)
range-finds b = record { first = λ r. first-range b r _ refl; inside = λ r p h. let i = label-inside b (label_place b r h.label) p h.field in let l = h.within in (omega arith, omega arith) }

order-finds : (b : List ℕ) → Finds run_start run_end (OrderAt b) (λ r. order_fault b r.start r.count)
order-finds b = record { first = λ r. first-order b r _ refl; inside = λ r p h. let k = h.key in let l = h.within in (omega arith, omega arith) }

-- ---- unused bytes

abbrev span_start : Span → ℕ
span_start u = u.from

abbrev span_end : Span → ℕ
span_end u = u.to

module _ (b : List ℕ) where
  abbrev ByteAt : ℕ → ℕ → Type 0
  ByteAt i p = (p ≡ i) × (byte_at b p ≡ 0 → ⊥)

  first-byte : (i : ℕ) → First (ByteAt i) (unless (eqb (byte_at b i) 0) i)
  first-byte i = first-test _ _ (λ p. byte_at b p ≡ 0 → ⊥) (eqb-false _ _) (ne_eqb _ _)

  pub first-unused : (u : Span) (o : Option ℕ) → o ≡ zero_fault b u.from u.to → First (UnusedAt b u) o
  unfolding zero_fault
  first-unused u =
      first-numbers ByteAt (λ i. unless (eqb (byte_at b i) 0) i) first-byte
      (λ j k p q l g h. let s = g.0 in let t = h.0 in omega arith)
      u.from u.to (UnusedAt b u)
      (λ p w. let e = w.holds.0 in record { from = omega (arith, w.low); to = omega (arith, w.high); byte = w.holds.1 })
      (λ p h. record { number = p; low = h.from; high = h.to; holds = (refl, h.byte) })

unused-finds : (b : List ℕ) → Finds span_start span_end (UnusedAt b) (λ u. zero_fault b u.from u.to)
unused-finds b = record { first = λ u. first-unused b u _ refl; inside = λ u p h. (h.from, h.to) }

-- ---- how the fields, runs and spans of a block lie

settings-fields-apart : (b : List ℕ) → Apart field_start field_end 0 (settings_fields b) 510
unfolding settings_fields
settings-fields-apart b = (omega arith, omega arith, (omega arith, omega arith, (omega arith, omega arith, omega arith)))

settings-unused-apart : Apart span_start span_end 0 settings_unused 510
unfolding settings_unused
settings-unused-apart = (omega arith, omega arith, (omega arith, omega arith, le_refl 510))

record Laid (l : Layout) : Type 0 where
  limits : Apart field_start field_end 0 l.limits 510
  runs : field_fault l.limits ≡ None → Apart run_start run_end 0 l.runs 510
  unused : Apart span_start span_end 0 l.unused 510

container-laid : (b : List ℕ) → Laid (container_layout b)
unfolding container_layout
container-laid b =
    record {
      limits = (omega arith, omega arith, omega arith);
      runs = λ e. let c = container-count b e in (omega arith, omega arith, omega arith);
      unused = (omega arith, omega arith, (omega arith, omega arith, le_refl 510));
    }

policy-laid : (b : List ℕ) → Laid (policy_layout b)
unfolding policy_layout
policy-laid b =
    record {
      limits = (omega arith, omega arith, (omega arith, omega arith, (omega arith, omega arith, omega arith)));
      runs = λ e. let c = policy-counts b e in (omega arith, omega arith, (omega arith, omega arith, omega arith));
      unused = (omega arith, omega arith, le_refl 510);
    }

layout-laid : (b : List ℕ) → Laid (layout_of b)
unfolding layout_of
layout-laid b = by (is_container b)
  where
    by : (t : Bool) → Laid (cond t (container_layout b) (policy_layout b))
    by true = container-laid b
    by false = policy-laid b

-- ---- the first field at fault of each of them

module _ (b : List ℕ) (o : Option ℕ) where
  pub first-settings-field : o ≡ field_fault (settings_fields b) → First (FieldAt (settings_fields b)) o
  first-settings-field = first-as _ _ o (first-fields 0 (settings_fields b) 510 (settings-fields-apart b))

  pub first-container-limit : o ≡ field_fault (container_layout b).limits → First (FieldAt (container_layout b).limits) o
  first-container-limit = first-as _ _ o (first-fields 0 (container_layout b).limits 510 (container-laid b).limits)

  pub first-policy-limit : o ≡ field_fault (policy_layout b).limits → First (FieldAt (policy_layout b).limits) o
  first-policy-limit = first-as _ _ o (first-fields 0 (policy_layout b).limits 510 (policy-laid b).limits)

-- what the readers find at fault is the first
pub ruleset firsts = (first-range, first-order, first-unused, first-settings-field, first-container-limit, first-policy-limit)

-- ---- the positions that the checks tell

-- of a test
test-positioned : (t : Bool) (p m : ℕ) → p ≤ m → (q : ℕ) → unless t p ≡ Some q → (q ≡ p) × (q ≤ m)
test-positioned true p m h q e = cc
test-positioned false p m h q e = let s : q ≡ p = cc in (s, omega arith)

-- of a list of items
module _ {A : Type 0} {from to : A → ℕ} {F : A → ℕ → Type 0} {f : A → Option ℕ} (finds : Finds from to F f) where
  list-positioned : (n : ℕ) (xs : List A) (m : ℕ) → Apart from to n xs m → (p : ℕ) → first_in f xs ≡ Some p → FirstAt (λ q. Among (λ x. F x q) xs) p × (p ≤ m)
  unfolding First
  list-positioned n xs m a p e =
      let h : FirstAt (λ q. Among (λ x. F x q) xs) p = subst (First (λ q. Among (λ x. F x q) xs)) e (first-among finds n xs m a) in
      (h, le_of_lt (among-inside finds n xs m a p h.at).1)

module _ (F : Reason → ℕ → Type 0) where
  -- the position is as Note 5 says, and within the block
  abbrev pub Positioned : Refusal → Type 0
  Positioned f = PositionOf F f.reason f.position × (f.position ≤ 510)

  frame-positioned : (b : List ℕ) (cs : List Check) → EveryRefusal Positioned cs → EveryRefusal Positioned (frame b ++ cs)
  frame-positioned b cs h = every-next (test-positioned _ _ 510 (omega arith)) (λ _. every-next (test-positioned _ _ 510 (omega arith)) (λ _. h))

pub settings-positioned : (b : List ℕ) → EveryRefusal (Positioned (SettingsFaultAt b)) (settings_checks b)
unfolding settings_checks
settings-positioned b =
    frame-positioned (SettingsFaultAt b) b _
    (every-next (test-positioned _ _ 510 (omega arith))
    (λ _. every-next (list-positioned field-finds 0 _ 510 (settings-fields-apart b))
    (λ _. every-next (list-positioned (unused-finds b) 0 _ 510 settings-unused-apart)
    (λ _. every-none))))

pub entry-positioned : (s : Settings) (b : List ℕ) → EveryRefusal (Positioned (EntryFaultAt b)) (entry_checks s b)
unfolding entry_checks
entry-positioned s b =
    let l = layout-laid b in
    frame-positioned (EntryFaultAt b) b _
    (every-next (test-positioned _ _ 510 (omega arith))
    (λ _. every-next (list-positioned field-finds 0 _ 510 l.limits)
    (λ e. every-next (list-positioned (range-finds b) 0 _ 510 (l.runs e))
    (λ _. every-next (list-positioned (order-finds b) 0 _ 510 (l.runs e))
    (λ _. every-next (list-positioned (unused-finds b) 0 _ 510 l.unused)
    (λ _. every-none))))))

pub settings-positions : SettingsPositions
unfolding SettingsPositions
settings-positions b f e = ((settings-positioned b).holds f e).0

pub entry-positions : EntryPositions
unfolding EntryPositions
entry-positions s b f e = ((entry-positioned s b).holds f e).0

pub entry-within : (s : Settings) (b : List ℕ) (f : Refusal) → first_refusal (entry_checks s b) ≡ Err f → f.position ≤ 510
entry-within s b f e = ((entry-positioned s b).holds f e).1
