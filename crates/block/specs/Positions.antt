-- Document 02, Note 5: "A refused block or delivery comes with the position at fault." What that position is, without a search: each check
-- says where a field at fault begins, and the position is the first.
use Rattle.std.specs.Prelude.{◌≡◌, ◌⊎◌, false, List, [], ◌∷◌, ℕ, ◌+◌, ◌-◌, ◌*◌, ◌≤◌, ◌<◌, Option, None, Some, Err}
use Rattle.block.specs.declared.Reason.{Reason}
use Rattle.block.specs.declared.Reason.TheVariants.{Checksum, Limit, Range, Order, Unused}
use Rattle.block.specs.declared.Refusal.{Refusal}
use Rattle.block.specs.Bytes.{byte_at, number_at}
use Rattle.block.specs.Entry.{Settings}
use Rattle.block.specs.Fault.{Field}
use Rattle.block.specs.Refusal.{first_refusal}
use Rattle.block.specs.Reader.{Run, Span, label_fields, settings_fields, settings_unused, layout_of, settings_checks, entry_checks}

-- ---- the first

-- F holds of p, and of no position before it
pub record FirstAt (F : ℕ → Type 0) (p : ℕ) : Type 0 where
  pub at : F p
  pub before : (q : ℕ) → F q → p ≤ q

-- the first position that F holds of, or none where it holds of no position
unfoldable pub First : (ℕ → Type 0) → Option ℕ → Type 0
First F None = (p : ℕ) → F p → ⊥
First F (Some p) = FirstAt F p

module _ {A : Type 0} where
  -- F holds of one of the list
  abbrev pub Among : (A → Type 0) → List A → Type 0
  Among F [] = ⊥
  Among F (x ∷ xs) = F x ⊎ Among F xs

-- ---- where each check finds fault

-- 6, and 7 of settings: one of these fields, at fault, begins at p
abbrev pub FieldAt : List Field → ℕ → Type 0
FieldAt fs p = Among (λ x. (p ≡ x.at) × (x.fits ≡ false)) fs

-- 7, "a key or a value": of a label of the run
pub record RangeAt (b : List ℕ) (r : Run) (p : ℕ) : Type 0 where
  pub label : ℕ
  pub within : label < r.count
  pub field : FieldAt (label_fields b (r.start + 4 * label)) p

-- 8, "key that doesn't rise": of a label of the run that has one before it
pub record OrderAt (b : List ℕ) (r : Run) (p : ℕ) : Type 0 where
  pub label : ℕ
  pub second : 1 ≤ label
  pub within : label < r.count
  pub key : p ≡ r.start + 4 * label
  pub falls : number_at b p ≤ number_at b (p - 4)

-- 9, "byte at fault": an unused one that is not zero
pub record UnusedAt (b : List ℕ) (u : Span) (p : ℕ) : Type 0 where
  pub from : u.from ≤ p
  pub to : p < u.to
  pub byte : byte_at b p ≡ 0 → ⊥

-- of a settings block, and of an admission block
abbrev pub SettingsFaultAt : List ℕ → Reason → ℕ → Type 0
SettingsFaultAt b Range p = FieldAt (settings_fields b) p
SettingsFaultAt b Unused p = Among (λ u. UnusedAt b u p) settings_unused
SettingsFaultAt b w p = ⊥

abbrev pub EntryFaultAt : List ℕ → Reason → ℕ → Type 0
EntryFaultAt b Limit p = FieldAt (layout_of b).limits p
EntryFaultAt b Range p = Among (λ r. RangeAt b r p) (layout_of b).runs
EntryFaultAt b Order p = Among (λ r. OrderAt b r p) (layout_of b).runs
EntryFaultAt b Unused p = Among (λ u. UnusedAt b u p) (layout_of b).unused
EntryFaultAt b w p = ⊥

-- ---- the position

-- "For 1, 2, 3, 5, 12, 13 and 14 it is 0; for 4, 510; for 6 the first byte of the first field at fault; for 9 the lowest byte at fault; for
-- 7 the first byte of the first key or value at fault; for 8 the first byte of the first key that doesn't rise."
abbrev pub PositionOf : (Reason → ℕ → Type 0) → Reason → ℕ → Type 0
PositionOf F Checksum p = p ≡ 510
PositionOf F Limit p = FirstAt (F Limit) p
PositionOf F Range p = FirstAt (F Range) p
PositionOf F Order p = FirstAt (F Order) p
PositionOf F Unused p = FirstAt (F Unused) p
PositionOf F w p = p ≡ 0

-- of every block that is refused, by the checks that it met
unfoldable pub SettingsPositions : Type 0
SettingsPositions = (b : List ℕ) (f : Refusal) → first_refusal (settings_checks b) ≡ Err f → PositionOf (SettingsFaultAt b) f.reason f.position

unfoldable pub EntryPositions : Type 0
EntryPositions = (s : Settings) (b : List ℕ) (f : Refusal) → first_refusal (entry_checks s b) ≡ Err f → PositionOf (EntryFaultAt b) f.reason f.position
