-- What an acceptance tells: no check found a fault, and what was read is valid. Each is an equivalence, so that the other half
-- shows an acceptance.
use mathlib.Core.Path.{◌≡◌, refl, sym, ap, ◌∙◌}
use mathlib.Core.Logic.{◌↔◌}
use mathlib.Core.Bool.{Bool, true, false, ◌&&◌, ◌||◌, cond, and-true, and-false, false-or, and_assoc, and_comm, and-eq-true_iff}
use mathlib.Core.List.{List}
use Prim.Native.Nat.{ℕ}
use borrow.Author.Tests.{eq-eqb, ne_eqb}
use lib.Dec.{eqb}
use lib.ListN.{length}
use Rattle.std.specs.Prelude.{None, Result, Ok, ⊤, is_none}
use Rattle.block.specs.declared.Refusal.{Refusal}
use Rattle.block.specs.Entry.{Settings, Entry, container, policy}
use Rattle.block.specs.Bytes.{byte_at, number_at, checksum}
use Rattle.block.specs.Fault.{field_fault}
use Rattle.block.specs.Refusal.{first_refusal, accepted, read_unless}
use Rattle.block.specs.Reader.{within, range_faults, order_faults, unused_fault, container_layout, policy_layout, is_container, layout_of, container_said, policy_said, entry_said, settings_fields, settings_unused, settings_said, settings_checks, entry_checks, read_settings, read_entry, AcceptedAs}
use Rattle.block.specs.Written.{valid_entry, valid_settings}
use Rattle.block.proofs.Faults.{clear-or_else, clear-field}
use Rattle.block.proofs.LabelLists.{valid-clear}
use Rattle.block.proofs.Checks.{unless-none, equal-none, accepted-clear}

-- what holds of a block b that is read as the settings s
pub record SettingsRead (b : List ℕ) (s : Settings) : Type 0 where
  pub long : length b ≡ 512
  pub checked : number_at b 510 ≡ checksum b
  pub kind : byte_at b 0 ≡ 83
  pub ranges : field_fault (settings_fields b) ≡ None
  pub unused : unused_fault b settings_unused ≡ None
  pub says : s ≡ settings_said b

pub settings-accepted : (b : List ℕ) (s : Settings) → (read_settings b ≡ accepted s) ↔ SettingsRead b s
unfolding read_settings settings_checks
settings-accepted b s = (to, back)
  where
    to : read_settings b ≡ accepted s → SettingsRead b s
    to e =
        let ((l, (c, (k, (r, (u, _))))), q) = (accepted-clear (settings_checks b) (settings_said b) s).0 e in
        record { long = (equal-none _ _ _).0 l; checked = (equal-none _ _ _).0 c; kind = (equal-none _ _ _).0 k; ranges = r; unused = u; says = sym q }

    back : SettingsRead b s → read_settings b ≡ accepted s
    back r =
        (accepted-clear (settings_checks b) (settings_said b) s).1
        (((equal-none _ _ _).1 r.long, ((equal-none _ _ _).1 r.checked, ((equal-none _ _ _).1 r.kind, (r.ranges, (r.unused, tt))))), sym r.says)

-- what holds of a block b that is read as the entry e
pub record EntryRead (b : List ℕ) (e : Entry) : Type 0 where
  pub long : length b ≡ 512
  pub checked : number_at b 510 ≡ checksum b
  pub kind : (is_container b || eqb (byte_at b 0) 80) ≡ true
  pub limits : field_fault (layout_of b).limits ≡ None
  pub ranges : range_faults b (layout_of b).runs ≡ None
  pub orders : order_faults b (layout_of b).runs ≡ None
  pub unused : unused_fault b (layout_of b).unused ≡ None
  pub says : e ≡ entry_said b

pub entry-accepted : (s : Settings) (b : List ℕ) (e : Entry) → (read_entry s b ≡ accepted e) ↔ EntryRead b e
unfolding read_entry entry_checks
entry-accepted s b e = (to, back)
  where
    to : read_entry s b ≡ accepted e → EntryRead b e
    to i =
        let ((l, (c, (k, (m, (r, (o, (u, _))))))), q) = (accepted-clear (entry_checks s b) (entry_said b) e).0 i in
        record { long = (equal-none _ _ _).0 l; checked = (equal-none _ _ _).0 c; kind = (unless-none _ _).0 k; limits = m; ranges = r; orders = o; unused = u; says = sym q }

    back : EntryRead b e → read_entry s b ≡ accepted e
    back r =
        (accepted-clear (entry_checks s b) (entry_said b) e).1
        (((equal-none _ _ _).1 r.long, ((equal-none _ _ _).1 r.checked, ((unless-none _ _).1 r.kind, (r.limits, (r.ranges, (r.orders, (r.unused, tt))))))), sym r.says)

-- ---- what is read is valid

and-left-comm : (a b c : Bool) → (a && (b && c)) ≡ (b && (a && c))
and-left-comm true b c = refl
and-left-comm false b c = sym (and-false b)

module _ (s : Settings) (b : List ℕ) where
  by_kind : (t : Bool) → let l = cond t (container_layout b) (policy_layout b) in (is_none (field_fault l.limits) && (is_none (range_faults b l.runs) && is_none (order_faults b l.runs))) ≡ ((t || within 1 2 (byte_at b 1)) && valid_entry s (cond t (container (container_said b)) (policy (policy_said b))))
  unfolding container_layout policy_layout container_said policy_said valid_entry
  by_kind true = simp (clear-field, clear-or_else, and-true, valid-clear)
  by_kind false = simp (clear-field, clear-or_else, and-true, valid-clear, false-or, and_assoc, and_comm, and-left-comm)

  pub entry-clear : (is_none (field_fault (layout_of b).limits) && (is_none (range_faults b (layout_of b).runs) && is_none (order_faults b (layout_of b).runs))) ≡ ((is_container b || within 1 2 (byte_at b 1)) && valid_entry s (entry_said b))
  unfolding layout_of entry_said
  entry-clear = by_kind (is_container b)

pub settings-clear : (b : List ℕ) → is_none (field_fault (settings_fields b)) ≡ valid_settings (settings_said b)
unfolding settings_fields settings_said valid_settings
settings-clear b = simp (clear-field, and-true)

pub settings-valid : (b : List ℕ) (s : Settings) → read_settings b ≡ accepted s → valid_settings s ≡ true
settings-valid b s e =
    let r = (settings-accepted b s).0 e in
    ap valid_settings r.says ∙ sym (settings-clear b) ∙ ap is_none r.ranges

module _ (s : Settings) (b : List ℕ) (e : Entry) (q : AcceptedAs s b e) where
  entry-passes : ((is_container b || within 1 2 (byte_at b 1)) ≡ true) × (valid_entry s (entry_said b) ≡ true)
  entry-passes =
      let r = (entry-accepted s b e).0 q in
      let l = layout_of b in
      let c : (is_none (field_fault l.limits) && (is_none (range_faults b l.runs) && is_none (order_faults b l.runs))) ≡ true = rw (r.limits, r.ranges, r.orders) in
      (and-eq-true_iff (is_container b || within 1 2 (byte_at b 1)) (valid_entry s (entry_said b))).0 (sym (entry-clear s b) ∙ c)

  pub accepted-valid : valid_entry s e ≡ true
  accepted-valid = ap (valid_entry s) ((entry-accepted s b e).0 q).says ∙ entry-passes.1

-- ---- what is read once the checks have answered: byte 0 tells which of the two

module _ (s : Settings) (b : List ℕ) where
  -- the reading, by what the checks answer
  pub entry_read : (t : Result ⊤ Refusal) → first_refusal (entry_checks s b) ≡ t → read_entry s b ≡ read_unless t (entry_said b)
  unfolding read_entry
  entry_read t e = ap (λ (z : Result ⊤ Refusal). read_unless z (entry_said b)) e

  pub passed-long : first_refusal (entry_checks s b) ≡ Ok tt → length b ≡ 512
  passed-long e = ((entry-accepted s b (entry_said b)).0 (entry_read (Ok tt) e)).long

  pub accepted-container : first_refusal (entry_checks s b) ≡ Ok tt → byte_at b 0 ≡ 67 → AcceptedAs s b (container (container_said b))
  unfolding entry_said
  accepted-container e k = entry_read (Ok tt) e ∙ ap accepted (simp (eq-eqb _ _ k))

  pub accepted-policy : first_refusal (entry_checks s b) ≡ Ok tt → (byte_at b 0 ≡ 67 → ⊥) → AcceptedAs s b (policy (policy_said b))
  unfolding entry_said
  accepted-policy e k = entry_read (Ok tt) e ∙ ap accepted (simp (ne_eqb _ _ k))

  -- a policy's direction is one of the two
  pub policy-direction : AcceptedAs s b (policy (policy_said b)) → within 1 2 (byte_at b 1) ≡ true
  unfolding entry_said
  policy-direction q = go (is_container b) ((entry-accepted s b _).0 q).says (entry-passes s b _ q).0
    where
      go : (t : Bool) → policy (policy_said b) ≡ cond t (container (container_said b)) (policy (policy_said b)) → (t || within 1 2 (byte_at b 1)) ≡ true → within 1 2 (byte_at b 1) ≡ true
      go true e h = cc
      go false e h = h
