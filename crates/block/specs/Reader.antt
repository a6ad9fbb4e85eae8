-- The readers of blocks: refusals 3 to 9, and what an accepted block says.
use Rattle.block.specs.declared.Direction.{Direction}
use Rattle.block.specs.declared.Direction.TheVariants.{Ingress as ingress, Egress as egress}
use Rattle.std.specs.Prelude.{◌≡◌, Bool, ◌&&◌, ◌||◌, cond, List, [], ◌∷◌, ◌++◌, ℕ, zero, suc, ◌+◌, ◌-◌, ◌*◌, eqb, leb, ltb, length, Option}
use Rattle.block.specs.declared.Reason.TheVariants.{BlockLength, Checksum, Kind, Limit, Range, Order, Unused}
use Rattle.block.specs.Entry.{Label, Container, Policy, Settings, Entry, container, policy}
use Rattle.block.specs.Bytes.{byte_at, number_at, checksum}
use Rattle.block.specs.Fault.{unless, first_between, first_in, Field, field, field_fault}
use Rattle.block.specs.Refusal.{Check, check, first_refusal, Read, accepted, read_unless}

-- low ≤ x ≤ high
unfoldable pub within : ℕ → ℕ → ℕ → Bool
within low high x = leb low x && leb x high

-- ---- labels: "A label is key, then value, two bytes each."

-- A label list in a block: where its first label begins, and how many there are.
pub record Run : Type 0 where
  pub start : ℕ
  pub count : ℕ

-- the label whose key stands at p: its key 1 to 64, its value 1 to 65535
abbrev pub label_fields : List ℕ → ℕ → List Field
label_fields b p = field p (within 1 64 (number_at b p)) ∷ field (p + 2) (within 1 65535 (number_at b (p + 2))) ∷ []

-- the first of the two at fault
unfoldable pub label_fault : List ℕ → ℕ → Option ℕ
label_fault b p = field_fault (label_fields b p)

-- the first key or value out of range, of n labels from `at`
unfoldable pub range_fault : List ℕ → ℕ → ℕ → Option ℕ
range_fault b at n = first_between (λ k. label_fault b (at + 4 * k)) 0 n

-- the key at p exceeds the key before it
unfoldable pub rise_fault : List ℕ → ℕ → Option ℕ
rise_fault b p = unless (ltb (number_at b (p - 4)) (number_at b p)) p

-- the first key that does not rise, of n labels from `at`
unfoldable pub order_fault : List ℕ → ℕ → ℕ → Option ℕ
order_fault b at n = first_between (λ k. rise_fault b (at + 4 * k)) 1 n

-- 7. "A key or a value, settings included, is outside its range above."
abbrev pub range_faults : List ℕ → List Run → Option ℕ
range_faults b rs = first_in (λ r. range_fault b r.start r.count) rs

-- 8. "Within a container's list or a policy's part, a key does not exceed the key before it."
abbrev pub order_faults : List ℕ → List Run → Option ℕ
order_faults b rs = first_in (λ r. order_fault b r.start r.count) rs

unfoldable pub label_at : List ℕ → ℕ → Label
label_at b p = record { key = number_at b p; value = number_at b (p + 2) }

-- the n labels from p
abbrev pub labels_at : List ℕ → ℕ → ℕ → List Label
labels_at b p zero = []
labels_at b p (suc n) = label_at b p ∷ labels_at b (p + 4) n

-- ---- unused bytes: "Bytes said here to be zero, and all to 509 that no field takes"

-- Unused bytes: from one position up to before another.
pub record Span : Type 0 where
  pub from : ℕ
  pub to : ℕ

-- the first byte that is not zero
unfoldable pub zero_fault : List ℕ → ℕ → ℕ → Option ℕ
zero_fault b from to = first_between (λ i. unless (eqb (byte_at b i) 0) i) from to

-- 9. "An unused byte before byte 510 is not zero."
abbrev pub unused_fault : List ℕ → List Span → Option ℕ
unused_fault b us = first_in (λ u. zero_fault b u.from u.to) us

-- ---- how an admission block is laid out

pub record Layout : Type 0 where
  -- 6. "A label count is above its limit or a direction is neither 1 nor 2."
  pub limits : List Field
  pub runs : List Run
  pub unused : List Span

-- "Container: byte 0 is 67; byte 1 the number of labels, 0 to 8; bytes 2 and 3 zero; labels from byte 4."
unfoldable pub container_layout : List ℕ → Layout
container_layout b =
    let n = byte_at b 1 in
    record {
      limits = field 1 (leb n 8) ∷ [];
      runs = record { start = 4; count = n } ∷ [];
      unused = record { from = 2; to = 4 } ∷ record { from = 4 + 4 * n; to = 510 } ∷ [];
    }

-- "Policy: byte 0 is 80; byte 1 the direction, 1 ingress, 2 egress; bytes 2 and 3 the numbers of select and allow labels,
-- 0 to 4 each; from byte 4 the select labels, then the allow labels."
unfoldable pub policy_layout : List ℕ → Layout
policy_layout b =
    let m = byte_at b 2 in
    let n = byte_at b 3 in
    record {
      limits = field 1 (within 1 2 (byte_at b 1)) ∷ field 2 (leb m 4) ∷ field 3 (leb n 4) ∷ [];
      runs = record { start = 4; count = m } ∷ record { start = 4 + 4 * m; count = n } ∷ [];
      unused = record { from = 4 + 4 * (m + n); to = 510 } ∷ [];
    }

abbrev pub is_container : List ℕ → Bool
is_container b = eqb (byte_at b 0) 67

unfoldable pub layout_of : List ℕ → Layout
layout_of b = cond (is_container b) (container_layout b) (policy_layout b)

unfoldable pub direction_of : ℕ → Direction
direction_of n = cond (eqb n 1) ingress egress

unfoldable pub container_said : List ℕ → Container
container_said b = labels_at b 4 (byte_at b 1)

unfoldable pub policy_said : List ℕ → Policy
policy_said b =
    let m = byte_at b 2 in
    record { direction = direction_of (byte_at b 1); select = labels_at b 4 m; allow = labels_at b (4 + 4 * m) (byte_at b 3) }

unfoldable pub entry_said : List ℕ → Entry
entry_said b = cond (is_container b) (container (container_said b)) (policy (policy_said b))

-- ---- the settings block

-- 7, of settings: "byte 1 the user key, 1 to 64; byte 2 the system key, 0 for none, else 1 to 64; bytes 4 and 5 the system
-- value, 0 with system key 0, else 1 to 65535"
unfoldable pub settings_fields : List ℕ → List Field
settings_fields b =
    let key = byte_at b 2 in
    let value = number_at b 4 in
    field 1 (within 1 64 (byte_at b 1)) ∷ field 2 (leb key 64) ∷ field 4 (cond (eqb key 0) (eqb value 0) (within 1 65535 value)) ∷ []

unfoldable pub settings_unused : List Span
settings_unused = record { from = 3; to = 4 } ∷ record { from = 6; to = 510 } ∷ []

unfoldable pub settings_said : List ℕ → Settings
settings_said b = record { user_key = byte_at b 1; system_key = byte_at b 2; system_value = number_at b 4 }

-- ---- the checks, in their order

-- 3. "The block is not 512 bytes long." 4. "The stored check differs from the computed one."
abbrev pub frame : List ℕ → List Check
frame b =
    check BlockLength (unless (eqb (length b) 512) 0)
    ∷ check Checksum (unless (eqb (number_at b 510) (checksum b)) 510)
    ∷ []

-- Open's block meets 3, 4, 5, 7, 9.
unfoldable pub settings_checks : List ℕ → List Check
settings_checks b =
    frame b
    ++ (check Kind (unless (eqb (byte_at b 0) 83) 0)
    ∷ check Range (field_fault (settings_fields b))
    ∷ check Unused (unused_fault b settings_unused)
    ∷ [])

-- Admit's block meets 3 to 9. No check asks for the settings yet.
unfoldable pub entry_checks : Settings → List ℕ → List Check
entry_checks s b =
    let l = layout_of b in
    frame b
    ++ (check Kind (unless (is_container b || eqb (byte_at b 0) 80) 0)
    ∷ check Limit (field_fault l.limits)
    ∷ check Range (range_faults b l.runs)
    ∷ check Order (order_faults b l.runs)
    ∷ check Unused (unused_fault b l.unused)
    ∷ [])

unfoldable pub read_settings : List ℕ → Read Settings
read_settings b = read_unless (first_refusal (settings_checks b)) (settings_said b)

unfoldable pub read_entry : Settings → List ℕ → Read Entry
read_entry s b = read_unless (first_refusal (entry_checks s b)) (entry_said b)

-- b is a block that admit accepts under the settings s, as the entry e
abbrev pub AcceptedAs : Settings → List ℕ → Entry → Type 0
AcceptedAs s b e = read_entry s b ≡ accepted e
