-- Laws of the label rows: rows marked container by container, candidates narrowed label by label.
use mathlib.Core.Path.{◌≡◌, refl, sym, ap, ◌∙◌, subst, fun_ext}
use mathlib.Core.Bool.{Bool, true, false, ◌&&◌, cond, and-true, and-false, and_assoc, true≢false}
use mathlib.Core.List.{List, []}
use Prim.Native.Nat.{ℕ, ◌+◌, ◌/◌, ◌%◌, ◌≤◌, ◌<◌}
use native.Mathlib.Decide.{ℕ_discrete}
use native.Mathlib.Omega.{arith}
use lib.Dec.{eqb}
use lib.ListN.{length, get_or, set, length-set}
use lib.Seq.{get_or-set_same, get_or-set_other}
use borrow.Author.Tests.{eq-eqb, ne_eqb}
use Rattle.bitrow.specs.Bit.{bit, bit_at}
use Rattle.bitrow.specs.Set.{meet, under, insert, Bounded}
use Rattle.bitrow.proofs.Rows.{insert-row}
use Rattle.bitrow.proofs.Sets.{point, meet-at, meet-assoc, meet-take, meet-skip, meet-under, meet-nothing, under-zero, bounded-meet-left, insert-member, insert-there}
use Rattle.model.specs.Rules.{carries, matches}
use Rattle.model.proofs.Lists.{both}
use Rattle.store.specs.Layout.{container_start, word_at}
use Rattle.formed.specs.Words.{label_in, part_in}
use Rattle.entries.specs.Entries.{matching_from, matching, trial_set}
use Rattle.entries.proofs.PartLabels.{labels_from, carries-part, carries-hit, carries-skip, carries-done, matches-part, matches-fail, matches-skip, matches-done}
use Rattle.label_table.specs.declared.LabelTable.{LabelTable}
use Rattle.label_table.specs.LabelTable.{places, table_place, Placed}
use Rattle.label_table.specs.Rows.{bits, Shaped, Empty}
use Rattle.label_table.specs.LabelRows.{put, Marked, carriers, LabelRows}

-- ---- rows marked

-- a row of four words stored
shaped-set : {n : ℕ} {rows : List (List ℕ)} → Shaped n rows → (h : ℕ) (row : List ℕ) → length row ≡ 4 → Shaped n (set rows h row)
shaped-set {n} {rows} s h row e = record { size = length-set rows h row ∙ s.size; width = λ q l. go q l (ℕ_discrete q h) }
  where
    go : (q : ℕ) → q < n → Dec (q ≡ h) → length (get_or (set rows h row) q []) ≡ 4
    go q l (yes i) = ap (λ k. length (get_or (set rows h row) k [])) i ∙ ap length (get_or-set_same rows h row [] (omega (arith, s.size))) ∙ e
    go q l (no i) = ap length (get_or-set_other rows h q row [] i) ∙ s.width q l

module _ (c : ℕ) (s : ℕ → Bool) where
  put-yes : {t : Bool} → t ≡ true → put c t s ≡ insert c s
  unfolding put
  put-yes e = ap (λ t. cond t (insert c s) s) e

  put-no : {t : Bool} → t ≡ false → put c t s ≡ s
  unfolding put
  put-no e = ap (λ t. cond t (insert c s) s) e

  put-again : (t : Bool) → put c t (insert c s) ≡ insert c s
  unfolding put
  put-again true = insert-member c (insert c s) (insert-there c s)
  put-again false = refl

module _ (labels : List ℕ) (rows : List (List ℕ)) {label h : ℕ} (c : ℕ) (e : h ≡ table_place labels label) where
  -- a label that is at its place
  pub mark-found : (w : ℕ) → Shaped places rows → h < places → c < 256 → get_or labels h 0 ≡ label → bit w ≡ insert (c % 64) (bit (get_or (get_or rows h []) (c / 64) 0))
      → Marked labels c (λ v. eqb v label) rows (set rows h (set (get_or rows h []) (c / 64) w))
  mark-found w s i k f b = record { shape = shaped-set s h row (length-set (get_or rows h []) (c / 64) w ∙ s.width h i); row = λ v p. go v p (ℕ_discrete v label) }
    where
      row : List ℕ
      row = set (get_or rows h []) (c / 64) w

      l : h < length rows
      l = omega (arith, s.size)

      g : bit_at row ≡ insert c (bits rows h)
      g = insert-row (get_or rows h []) c w (s.width h i) k b

      go : (v : ℕ) → Placed labels v → Dec (v ≡ label) → bits (set rows h row) (table_place labels v) ≡ put c (eqb v label) (bits rows (table_place labels v))
      go v p (yes q) =
          let i : table_place labels v ≡ h = ap (table_place labels) q ∙ sym e in
          ap (bits (set rows h row)) i ∙ ap bit_at (get_or-set_same rows h row [] l) ∙ g
          ∙ sym (put-yes c (bits rows (table_place labels v)) (eq-eqb v label q) ∙ ap (λ k. insert c (bits rows k)) i)
      go v p (no n) =
          ap bit_at (get_or-set_other rows h (table_place labels v) row [] (λ i. n (sym p ∙ ap (λ k. get_or labels k 0) i ∙ f)))
          ∙ sym (put-no c (bits rows (table_place labels v)) (ne_eqb v label n))

  -- one that is not
  pub mark-missed : Shaped places rows → (get_or labels h 0 ≡ label → ⊥) → Marked labels c (λ v. eqb v label) rows rows
  mark-missed s f = record {
    shape = s;
    row = λ v p. sym (put-no c (bits rows (table_place labels v)) (ne_eqb v label (λ q. f (ap (λ k. get_or labels k 0) (e ∙ ap (table_place labels) (sym q)) ∙ p ∙ q))));
  }

-- the labels of a part before word i are marked: the rest of them give the whole
pub record Marking (m labels : List ℕ) (c part end : ℕ) (before after : List (List ℕ)) (i : ℕ) : Type 0 where
  pub shape : Shaped places after
  pub row : (v : ℕ) → Placed labels v → put c (carries (labels_from m i end) (label_in v)) (bits after (table_place labels v))
      ≡ put c (carries (part_in m part) (label_in v)) (bits before (table_place labels v))

module _ (m labels : List ℕ) (c part : ℕ) where
  pub marking-none : {rows : List (List ℕ)} → Shaped places rows → Marking m labels c part (part + word_at m part) rows rows (part + 1)
  marking-none {rows} s = record { shape = s; row = λ v p. ap (λ t. put c t (bits rows (table_place labels v))) (sym (carries-part m part v)) }

  module _ {end i : ℕ} {before after : List (List ℕ)} (g : Marking m labels c part end before after i) where
    pub marking-next : {next : List (List ℕ)} → i < end → Marked labels c (λ v. eqb v (word_at m i)) after next → Marking m labels c part end before next (i + 1)
    marking-next {next} l k = record { shape = k.shape; row = λ v p. ap (put c (carries (labels_from m (i + 1) end) (label_in v))) (k.row v p) ∙ go v (ℕ_discrete v (word_at m i)) ∙ g.row v p }
      where
        go : (v : ℕ) → Dec (v ≡ word_at m i) → put c (carries (labels_from m (i + 1) end) (label_in v)) (put c (eqb v (word_at m i)) (bits after (table_place labels v)))
            ≡ put c (carries (labels_from m i end) (label_in v)) (bits after (table_place labels v))
        go v (yes q) =
            let s = bits after (table_place labels v) in
            ap (put c (carries (labels_from m (i + 1) end) (label_in v))) (put-yes c s (eq-eqb v (word_at m i) q))
            ∙ put-again c s (carries (labels_from m (i + 1) end) (label_in v)) ∙ sym (put-yes c s (carries-hit m v i end l (sym q)))
        go v (no n) =
            let s = bits after (table_place labels v) in
            ap (put c (carries (labels_from m (i + 1) end) (label_in v))) (put-no c s (ne_eqb v (word_at m i) n))
            ∙ ap (λ t. put c t s) (sym (carries-skip m v i end l (λ q. n (sym q))))

    pub marking-all : end ≤ i → Marked labels c (λ v. carries (part_in m part) (label_in v)) before after
    marking-all l = record { shape = g.shape; row = λ v p. sym (put-no c (bits after (table_place labels v)) (carries-done m v i end l)) ∙ g.row v p }

-- ---- the rows of all labels, container by container

module _ (m : List ℕ) where
  pub label-rows-none : {t : LabelTable} → Empty places t.rows → LabelRows m 0 t
  label-rows-none {t} e = record { shape = e.shape; row = λ v p. e.row (table_place t.labels v) ∙ sym (ap (meet (carriers m v)) under-zero ∙ meet-nothing (carriers m v)) }

  pub rows_next : {t next : LabelTable} {c : ℕ} → LabelRows m c t → next.labels ≡ t.labels
      → Marked t.labels c (λ v. carries (part_in m (container_start c)) (label_in v)) t.rows next.rows → LabelRows m (c + 1) next
  unfolding carriers
  rows_next {t} {next} {c} g e k = record { shape = k.shape; row = subst Row (sym e) (λ v p. k.row v p ∙ ap (put c (carriers m v c)) (g.row v p) ∙ go v (carriers m v c) refl) }
    where
      Row : List ℕ → Type 0
      Row labels = (v : ℕ) → Placed labels v → bits next.rows (table_place labels v) ≡ meet (carriers m v) (under (c + 1))

      go : (v : ℕ) (t : Bool) → carriers m v c ≡ t → put c (carriers m v c) (meet (carriers m v) (under c)) ≡ meet (carriers m v) (under (c + 1))
      go v true e = put-yes c (meet (carriers m v) (under c)) e ∙ meet-take (carriers m v) c e
      go v false e = put-no c (meet (carriers m v) (under c)) e ∙ meet-skip (carriers m v) c e

-- the row of a label that is at its place
pub label-row : {m : List ℕ} {n label h : ℕ} {t : LabelTable} → LabelRows m n t → h ≡ table_place t.labels label → get_or t.labels h 0 ≡ label
    → bits t.rows h ≡ meet (carriers m label) (under n)
label-row {m} {n} {label} {h} {t} g e f = ap (bits t.rows) e ∙ g.row label (ap (λ k. get_or t.labels k 0) (sym e) ∙ f)

-- ---- candidates narrowed

-- what is left of the candidates s before word i of a part: all that the part matches; if every label was found, no more than the
-- rest of the labels leaves
pub record Narrowing (m : List ℕ) (part end : ℕ) (s left : ℕ → Bool) (all : Bool) (i : ℕ) : Type 0 where
  pub bound : Bounded 256 left
  pub rest : (j : ℕ) → matching m part j ≡ true → matches (labels_from m i end) (part_in m (container_start j)) ≡ true
  pub narrowed : meet left (matching m part) ≡ trial_set m part s
  pub whole : all ≡ true → (j : ℕ) → (left j && matches (labels_from m i end) (part_in m (container_start j))) ≡ trial_set m part s j

module _ (m : List ℕ) (part : ℕ) where
  part-matching : (j : ℕ) → matching m part j ≡ matches (labels_from m (part + 1) (part + word_at m part)) (part_in m (container_start j))
  unfolding matching matching_from
  part-matching j = matches-part m part (part_in m (container_start j))

  pub narrow-none : (s : ℕ → Bool) → Bounded 256 s → Narrowing m part (part + word_at m part) s s true (part + 1)
  narrow-none s b = record {
    bound = b;
    rest = λ j e. sym (part-matching j) ∙ e;
    narrowed = refl;
    whole = λ e j. ap (λ t. s j && t) (sym (part-matching j)) ∙ sym (meet-at s (matching m part) j);
  }

  module _ {s left : ℕ → Bool} {all : Bool} {end i : ℕ} (g : Narrowing m part end s left all i) where
    pub narrow-all : all ≡ true → end ≤ i → left ≡ trial_set m part s
    narrow-all e l = fun_ext (λ j. sym (and-true (left j)) ∙ ap (λ t. left j && t) (sym (matches-done m (part_in m (container_start j)) i end l)) ∙ g.whole e j)

    module _ (l : i < end) where
      abbrev carrying : ℕ → Bool
      carrying = carriers m (word_at m i)

      abbrev after : ℕ → Bool
      after j = matches (labels_from m (i + 1) end) (part_in m (container_start j))

      next-label : (j : ℕ) → matches (labels_from m i end) (part_in m (container_start j)) ≡ (carrying j && after j)
      unfolding carriers
      next-label j = go (carrying j) refl
        where
          go : (t : Bool) → carrying j ≡ t → matches (labels_from m i end) (part_in m (container_start j)) ≡ (carrying j && after j)
          go true e = matches-skip m (part_in m (container_start j)) i end l e ∙ sym (ap (λ t. t && after j) e)
          go false e = matches-fail m (part_in m (container_start j)) i end l e ∙ sym (ap (λ t. t && after j) e)

      of-both : (j : ℕ) → matching m part j ≡ true → (carrying j ≡ true) × (after j ≡ true)
      of-both j e = both (carrying j) (after j) (sym (next-label j) ∙ g.rest j e)

      -- the label was not found
      pub narrow-missed : Narrowing m part end s left false (i + 1)
      narrow-missed = record {
        bound = g.bound;
        rest = λ j e. (of-both j e).1;
        narrowed = g.narrowed;
        whole = λ e. absurd (true≢false (sym e));
      }

      -- it was found, and its row is met
      pub narrow-found : {row next : ℕ → Bool} → row ≡ meet carrying (under 256) → next ≡ meet left row → Narrowing m part end s next all (i + 1)
      narrow-found {row} {next} e f = record {
        bound = rw same (bounded-meet-left g.bound carrying);
        rest = λ j k. (of-both j k).1;
        narrowed = ap (λ t. meet t (matching m part)) same ∙ meet-assoc left carrying (matching m part) ∙ ap (meet left) (fun_ext kept) ∙ g.narrowed;
        whole = λ k j.
            ap (λ t. t && after j) (point same j ∙ meet-at left carrying j) ∙ and_assoc (left j) (carrying j) (after j)
            ∙ ap (λ t. left j && t) (sym (next-label j)) ∙ g.whole k j;
      }
        where
          same : next ≡ meet left carrying
          same = f ∙ ap (meet left) e ∙ sym (meet-assoc left carrying (under 256)) ∙ meet-under (bounded-meet-left g.bound carrying)

          go : (j : ℕ) (t : Bool) → matching m part j ≡ t → (carrying j && matching m part j) ≡ matching m part j
          go j true k = ap (λ t. t && matching m part j) (of-both j k).0
          go j false k = ap (λ t. carrying j && t) k ∙ and-false (carrying j) ∙ sym k

          kept : (j : ℕ) → meet carrying (matching m part) j ≡ matching m part j
          kept j = meet-at carrying (matching m part) j ∙ go j (matching m part j) refl
