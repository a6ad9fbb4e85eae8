-- What the rows of some of the standing containers leave has every slot at which there can be a finding of kinds 1 and 2.
use mathlib.Core.Path.{◌≡◌, sym, ap, ap₂, ◌∙◌}
use mathlib.Core.Bool.{Bool, true, ◌&&◌}
use mathlib.Core.List.{List}
use Prim.Native.Nat.{ℕ, ◌/◌, ◌%◌}
use lib.Dec.{eqb, ltb}
use lib.ListN.{length, get_or}
use lib.Bits.{bit_and}
use borrow.Author.Tests.{eqb-true}
use Rattle.bitrow.specs.Bit.{bit, bit_at}
use Rattle.bitrow.specs.Set.{part}
use Rattle.bitrow.proofs.Sets.{point}
use Rattle.bitrow.proofs.Words.{bit-and}
use Rattle.bitrow.proofs.Tests.{part-all, part_in-law}
use Rattle.model.specs.Findings.{containers_of}
use Rattle.model.proofs.Lists.{both}
use Rattle.formed.specs.Registry.{model_in, bits_in}
use Rattle.container_findings.specs.Rows.{containers_stand}
use Rattle.container_findings.specs.declared.Left.{Left}
use Rattle.container_findings.specs.Passes.{word_set, narrowed, reached_by, spares, Passed}
use Rattle.container_findings.specs.Views.{SlotsOfKind}
use Rattle.container_findings.proofs.Columns.{told-1, told-2}
use Rattle.container_findings.proofs.SlotLaws.{told_by-1, told_by-2}

-- some of the first word's are of the row
pub first_of_row : (r : List ℕ) (x j : ℕ) → word_set 0 (bit_and (get_or r 0 0) x) j ≡ true → bit_at r j ≡ true
unfolding word_set bit_at
first_of_row r x j e =
    let h = both (eqb (j / 64) 0) (bit (bit_and (get_or r 0 0) x) (j % 64)) e in
    let k = both (bit (get_or r 0 0) (j % 64)) (bit x (j % 64)) (sym (bit-and (get_or r 0 0) x (j % 64)) ∙ h.1) in
    ap (λ i. bit (get_or r i 0) (j % 64)) (eqb-true (j / 64) 0 h.0) ∙ k.0

module _ {m set : List ℕ} {w : ℕ → Bool} {t : Left} (e : bit_at set ≡ containers_stand m) (some : (j : ℕ) → w j ≡ true → bit_at set j ≡ true)
    (p : Passed m w (record { by_all = set; by_none = set }) t) where
  still : (g : ℕ → Bool) → part (containers_stand m) g ≡ true → part w g ≡ true
  still g h = part-all w g (λ j l q. part_in-law (containers_stand m) g h j l (sym (point e j) ∙ some j q))

  pub first-1 : SlotsOfKind m 1 t.by_all
  unfolding narrowed
  first-1 = record {
    slot = λ a b h. (let k = both (containers_stand m a) (part (containers_stand m) (reached_by (bits_in m) a)) (sym (told-1 m a) ∙ told_by-1 m a b h) in
        point p.by_all a ∙ ap₂ ◌&&◌ (point e a ∙ k.0) (still (reached_by (bits_in m) a) k.1));
  }

  pub first-2 : SlotsOfKind m 2 t.by_none
  unfolding narrowed
  first-2 = record {
    slot = λ a b h. (let two = ltb 1 (length (containers_of (model_in m))) in
        let k = both (containers_stand m a) (two && part (containers_stand m) (spares (bits_in m) a)) (sym (told-2 m a) ∙ told_by-2 m a b h) in
        let l = both two (part (containers_stand m) (spares (bits_in m) a)) k.1 in
        point p.by_none a ∙ ap₂ ◌&&◌ (point e a ∙ k.0) (still (spares (bits_in m) a) l.1));
  }
