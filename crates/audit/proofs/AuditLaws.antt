-- Every stored bit by the rules: what an audit compares.
use mathlib.Core.Path.{◌≡◌, sym, ap, ap₂, ◌∙◌}
use mathlib.Core.Bool.{Bool, true}
use mathlib.Core.List.{List}
use Prim.Native.Nat.{ℕ, ◌<◌}
use native.Mathlib.Omega.{arith}
use Rattle.std.specs.List.{list_all, range_with_len}
use Rattle.bitrow.specs.Bit.{bit_at}
use Rattle.bitrow.specs.Set.{equal}
use Rattle.bitrow.proofs.Tests.{same_test, equal-all, equal-in}
use Rattle.model.specs.Model.{computed_bits}
use Rattle.model.specs.Registry.{computed, rebuilt, consistent, Agree, FollowsRules}
use Rattle.model.proofs.Consistent.{consistent-exactly}
use Rattle.store.specs.Layout.{row_count, row_at}
use Rattle.store.specs.Contents.{Holds}
use Rattle.store.proofs.Carried.{row-bit}
use Rattle.formed.specs.Registry.{model_in, bits_in, registry_in, stored_bit, contents_of, EntriesFormed}
use Rattle.formed.specs.Tests.{between}
use Rattle.formed.proofs.Runs.{between-at, between-all}
use Rattle.formed.proofs.Listed.{between-listed}
use Rattle.formed.proofs.Back.{matrix-bit, selected-bit, allowed-bit}
use Rattle.formed.proofs.Reading.{entries-hold}
use Rattle.formed.proofs.StoredLaws.{stored-cong}
use Rattle.matrix_rows.specs.declared.Gathered.{Gathered}
use Rattle.matrix_rows.specs.Rows.{Gathers}
use Rattle.whole.specs.StoredRows.{StoredFrom}
use Rattle.model.specs.Table.{stands}

-- row x of a memory is by the rules of its entries
unfoldable pub ruled_row : List ℕ → ℕ → Bool
ruled_row m x = equal (bit_at (row_at m x)) (stored_bit (computed_bits (model_in m)) x)

module _ (m : List ℕ) (ok : EntriesFormed m) where
  follows-row : FollowsRules (registry_in m) → (x : ℕ) → x < row_count → ruled_row m x ≡ true
  unfolding ruled_row Agree contents_of registry_in
  follows-row f x l = equal-all (bit_at (row_at m x)) (stored_bit (computed_bits (model_in m)) x) (λ y h.
      row-bit m x y h ∙ (entries-hold m ok).bits x y l h
      ∙ stored-cong (bits_in m) (computed_bits (model_in m)) x y l (λ a k _. f.matrix a y k h) (λ q k _. f.selected q y k h) (λ q k _. f.allowed q y k h))

  -- a memory whose rows are those by the rules holds the registry rebuilt
  rows-hold : ((x : ℕ) → x < row_count → ruled_row m x ≡ true) → Holds m (contents_of (rebuilt (registry_in m)))
  unfolding ruled_row contents_of rebuilt computed registry_in
  rows-hold f =
      let h = entries-hold m ok in
      record {
        whole = h.whole;
        words = h.words;
        bits = λ x y hx hy. sym (row-bit m x y hy) ∙ equal-in (bit_at (row_at m x)) (stored_bit (computed_bits (model_in m)) x) (f x hx) y hy;
      }

  rows-follow : Holds m (contents_of (rebuilt (registry_in m))) → FollowsRules (registry_in m)
  unfolding Agree rebuilt computed
  rows-follow g =
      let r = registry_in m in
      let h = entries-hold m ok in
      record {
        matrix = λ a b k l. sym (matrix-bit r m h a b k l) ∙ matrix-bit (rebuilt r) m g a b k l;
        selected = λ q c k l. sym (selected-bit r m h q c k l) ∙ selected-bit (rebuilt r) m g q c k l;
        allowed = λ q c k l. sym (allowed-bit r m h q c k l) ∙ allowed-bit (rebuilt r) m g q c k l;
      }

  pub consistent-rows : consistent (registry_in m) ≡ list_all (ruled_row m) (range_with_len 0 row_count)
  consistent-rows =
      same_test _ _
      (λ e. between-all (ruled_row m) 0 row_count (λ x l h. follows-row ((consistent-exactly (registry_in m)).0 e) x h))
      (λ e. (consistent-exactly (registry_in m)).1 (rows-follow (rows-hold (λ x h. between-at (ruled_row m) 0 row_count e x (omega arith) h))))
      ∙ between-listed (ruled_row m) row_count

-- `same(row_at(memory, x), row)`, where the row is read from what is gathered
pub row-told : (m : List ℕ) {some : ℕ → Bool} {g : Gathered} → Gathers (model_in m) some g → some ≡ stands (model_in m).containers
    → {x : ℕ} {old row : List ℕ} {t : Bool} → StoredFrom g x row → old ≡ row_at m x → t ≡ equal (bit_at old) (bit_at row) → t ≡ ruled_row m x
unfolding ruled_row
row-told m g e r o f = f ∙ ap₂ equal (ap bit_at o) (r.is g e)
