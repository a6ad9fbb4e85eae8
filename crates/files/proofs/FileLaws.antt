-- The file: the settings block, and the blocks of the two tables.
use mathlib.Core.Path.{◌≡◌, refl, sym, ap, ap₂, ◌∙◌}
use mathlib.Core.Bool.{cond}
use mathlib.Core.List.{List, [], ◌∷◌, ◌++◌, map, flatten, append_assoc, map-append, map-map}
use mathlib.Core.Option.{none, some}
use Prim.Native.Nat.{ℕ, ◌+◌, ◌*◌, ◌<◌, ◌≤◌}
use native.Mathlib.Omega.{arith}
use lib.ListN.{length, length-append}
use borrow.Rule.Slice.PartMut.{put_mid}
use Rattle.block.specs.Entry.{container, policy}
use Rattle.block.specs.Written.{block_of, settings_block}
use Rattle.block.proofs.Written.{settings-length}
use Rattle.buffer.specs.Buffer.{Puts}
use Rattle.buffer.proofs.BufferLaws.{puts-size, puts-as, puts_then, puts-lent}
use Rattle.model.specs.Table.{Table, at, standing}
use Rattle.model.specs.Model.{Model, container_slots, policy_slots}
use Rattle.model.specs.Findings.{containers_of, policies_of}
use Rattle.model.specs.File.{standing_entries, file_entries, file_of}
use Rattle.model.proofs.File.{entries-standing, entries_fit}
use borrow.Author.Tests.{eq-eqb, ne_eqb}
use Rattle.store.specs.Layout.{word_at}
use Rattle.store.proofs.Image.{length-tab, get_or-tab}
use Rattle.formed.specs.Words.{settings_in}
use Rattle.entries.specs.Tables.{slot_in, Tabled}
use Rattle.formed.specs.Registry.{model_in, ValidEntries, EntriesFormed}
use Rattle.entry_blocks.specs.Sizes.{container-size, policy-size}
use Rattle.files.specs.Tables.{table_blocks, container_block, policy_block}
use Rattle.files.proofs.TableLaws.{blocks-length, FreeSlot, TakenSlot}

-- ---- the file of a model

flatten-append : {A : Type 0} (l k : List (List A)) → flatten (l ++ k) ≡ flatten l ++ flatten k
unfolding flatten
flatten-append [] k = refl
flatten-append {A} (x ∷ l) k = ap (λ (r : List A). x ++ r) (flatten-append l k) ∙ sym (append_assoc x (flatten l) (flatten k))

module _ (m : Model) where
  file-parts : file_of m ≡ settings_block m.settings ++ table_blocks container_block m.containers ++ table_blocks policy_block m.policies
  unfolding file_of file_entries table_blocks flatten
  file-parts =
      let cs = standing_entries m.containers in
      let ps = standing_entries m.policies in
      ap (λ (l : List ℕ). settings_block m.settings ++ l)
      (ap flatten (map-append block_of (map container cs) (map policy ps) ∙ ap₂ ◌++◌ (map-map block_of container cs) (map-map block_of policy ps))
      ∙ flatten-append (map container_block cs) (map policy_block ps))
      ∙ sym (append_assoc (settings_block m.settings) (table_blocks container_block m.containers) (table_blocks policy_block m.policies))

  parts-length : length (file_of m) ≡ 512 + length (table_blocks container_block m.containers) + length (table_blocks policy_block m.policies)
  parts-length =
      let s = settings_block m.settings in
      let c = table_blocks container_block m.containers in
      omega (arith, ap length file-parts, length-append (s ++ c) (table_blocks policy_block m.policies), length-append s c, settings-length m.settings)

module _ (m : Model) (valid : ValidEntries m) where
  -- a block for the settings, and one for each standing entry
  pub file-size : length (file_of m) ≡ 512 * (1 + (length (containers_of m) + length (policies_of m)))
  file-size =
      let cs = m.containers in
      let ps = m.policies in
      omega (
        arith,
        parts-length m,
        blocks-length container_block 512 cs (container-size m valid),
        blocks-length policy_block 512 ps (policy-size m valid),
        entries-standing cs,
        entries-standing ps,
      )

  pub entries-at-most : length (containers_of m) + length (policies_of m) ≤ container_slots + policy_slots
  entries-at-most =
      let cs = m.containers in
      let ps = m.policies in
      omega (arith, entries-standing cs, entries_fit cs, valid.containers, entries-standing ps, entries_fit ps, valid.policies)

-- of a memory
module _ (m : List ℕ) (ok : EntriesFormed m) where
  pub file_blocks : length (file_of (model_in m)) ≡ 512 * (1 + (length (standing (model_in m).containers) + length (standing (model_in m).policies)))
  file_blocks = file-size (model_in m) ok.entries

  pub entries_few : length (standing (model_in m).containers) + length (standing (model_in m).policies) ≤ 384
  entries_few = entries-at-most (model_in m) ok.entries

-- ---- the slots of a table of the memory

module _ {A : Type 0} {m : List ℕ} {first words n : ℕ} {entry : ℕ → A} {t : Table A} (g : Tabled first words n entry m t) where
  pub table-length : length t ≡ n
  table-length = ap (λ (u : Table A). length u) g.reads ∙ length-tab n (slot_in first words entry m)

  module _ {i : ℕ} (h : i < n) where
    slot : at t i ≡ slot_in first words entry m i
    slot = ap (λ (u : Table A). at u i) g.reads ∙ get_or-tab n (slot_in first words entry m) i none h

    pub free-slot : word_at m (first + words * i) ≡ 0 → FreeSlot t i
    free-slot e = record { within = omega (arith, table-length); slot = slot ∙ ap (λ b. cond b none (some (entry i))) (eq-eqb (word_at m (first + words * i)) 0 e) }

    pub taken-slot : {f : A → List ℕ} → ((j : ℕ) (x : A) → at t j ≡ some x → length (f x) ≡ 512) → (word_at m (first + words * i) ≡ 0 → ⊥) → TakenSlot f t 512 i (entry i)
    taken-slot size e =
        let s : at t i ≡ some (entry i) = slot ∙ ap (λ b. cond b none (some (entry i))) (ne_eqb (word_at m (first + words * i)) 0 e) in
        record { within = omega (arith, table-length); slot = s; size = size i (entry i) s }

-- ---- the file of a memory, put part by part

module _ (m : List ℕ) where
  abbrev settings : List ℕ
  settings = settings_block (settings_in m)

  abbrev containers : List ℕ
  containers = table_blocks container_block (model_in m).containers

  abbrev policies : List ℕ
  policies = table_blocks policy_block (model_in m).policies

  in_parts : file_of (model_in m) ≡ settings ++ containers ++ policies
  unfolding model_in
  in_parts = file-parts (model_in m)

module _ (m d : List ℕ) (fits : length (file_of (model_in m)) ≤ length d) where
  pub settings-room : 512 ≤ length d
  settings-room = omega (arith, parts-length (model_in m))

  -- the settings block is in the part that was lent
  module _ {part : List ℕ} (q : part ≡ settings m) where
    settings-put : Puts d 0 (settings m) (put_mid 0 512 d part) 512
    settings-put = puts-lent 0 512 (omega arith) settings-room (settings-length (settings_in m)) q

    pub containers-room : 512 + length (containers m) ≤ length (put_mid 0 512 d part)
    containers-room = omega (arith, parts-length (model_in m), puts-size settings-put)

    -- the containers behind it
    module _ {f : List ℕ} {behind : ℕ} (c : Puts (put_mid 0 512 d part) 512 (containers m) f behind) where
      pub policies-room : behind + length (policies m) ≤ length f
      policies-room = omega (arith, parts-length (model_in m), puts-size settings-put, c.stops, puts-size c)

      pub file-put : {g : List ℕ} {r : ℕ} → Puts f behind (policies m) g r → Puts d 0 (file_of (model_in m)) g r
      file-put p = puts-as (puts_then (puts_then settings-put c) p) (sym (in_parts m))
