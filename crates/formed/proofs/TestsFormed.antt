-- The code's tests together are `well_formed`, on every memory of our size whose words fit 64 bits.
use mathlib.Core.Path.{◌≡◌, refl, sym, ap, ◌∙◌}
use mathlib.Core.Bool.{Bool, true, false, not, ◌&&◌}
use mathlib.Core.List.{List}
use Prim.Native.Nat.{ℕ, zero, suc, ◌+◌, ◌-◌, ◌/◌, ◌%◌, ◌^◌, ◌<◌, zero-le}
use native.Mathlib.Omega.{arith}
use lib.Dec.{eqb, ltb}
use mir.Syntax.{w64}
use mir.Val.{Fits}
use borrow.Author.Tests.{lt-ltb}
use Rattle.bitrow.proofs.Tests.{same_test}
use Rattle.block.specs.Entry.{Settings}
use Rattle.block.specs.Written.{valid_settings}
use Rattle.model.specs.Table.{at, stands}
use Rattle.model.specs.Model.{container_slots, policy_slots}
use Rattle.model.proofs.Lists.{denied}
use Rattle.model.specs.Registry.{BitsStand}
use Rattle.store.specs.Layout.{settings_size, containers_start, container_words, policies_start, policy_words, rows_start, container_start, policy_start, selected_row, allowed_row, Whole, word_at, row_bit}
use Rattle.store.proofs.Cases.{by-ltb}
use Rattle.formed.specs.Words.{settings_word, container_word, policy_word, settings_in}
use Rattle.formed.specs.Registry.{model_in, bits_in, registry_in, entry_word, valid_container, valid_policy, ValidEntries, EntriesFormed, well_formed}
use Rattle.formed.specs.Tests.{container_ok, policy_ok, containers_ok, policies_ok, row_ok, matrix_row_ok, set_rows_ok, matrix_ok, sets_ok, tests}
use Rattle.formed.proofs.StoredLaws.{by_part}
use Rattle.formed.proofs.Acceptable.{containers-size, policies-size, registry-in-tables}
use Rattle.formed.proofs.Formed.{formed-memory}
use Rattle.formed.proofs.Apart.{formed-apart}
use Rattle.formed.proofs.Reading.{container-slot, container-beyond, policy-slot, policy-beyond, container-stands, policy-stands, matrix-in, selected-in, allowed-in, formed-container, formed-policy}
use Rattle.formed.proofs.Runs.{and_left, and_right, and-passes, between-at, between-all}
use Rattle.formed.proofs.Rows.{row-holds, row-passes}
use Rattle.formed.proofs.EntryTests.{container-holds, container-passes, policy-holds, policy-passes}

-- ---- rows: one law for the matrix and both sets

-- what the first word of a slot says
stands-first : (o : ℕ → Bool) (m : List ℕ) (n : ℕ) (first : ℕ → ℕ) → ((x : ℕ) → o x ≡ (ltb x n && not (eqb (word_at m (first x)) 0)))
    → (x : ℕ) → x < n → o x ≡ not (eqb (word_at m (first x)) 0)
stands-first o m n first e x h = e x ∙ ap (λ t. t && not (eqb (word_at m (first x)) 0)) (lt-ltb x n h)

-- n slots with their first words, which of them stand, their rows, and the bits of those; the containers that stand
module _ (m : List ℕ) (n : ℕ) (first : ℕ → ℕ) (o : ℕ → Bool) (e : (x : ℕ) → o x ≡ (ltb x n && not (eqb (word_at m (first x)) 0)))
    (row : ℕ → ℕ) (f : ℕ → ℕ → Bool) (g : (x y : ℕ) → x < n → y < 256 → f x y ≡ row_bit m (row x) y) (s : ℕ → Bool) where
  bits-stand : ((x : ℕ) → x < n → row_ok m s (word_at m (first x)) (row x) ≡ true)
      → (x y : ℕ) → (x < n) × (y < 256) → f x y ≡ true → (o x && s y) ≡ true
  bits-stand ok x y h b =
      ap (λ t. t && s y) (stands-first o m n first e x h.0)
      ∙ row-holds m s (word_at m (first x)) (row x) (ok x h.0) y h.1 (sym (g x y h.0 h.1) ∙ b)

  stand-bits : ((x y : ℕ) → f x y ≡ true → (o x && s y) ≡ true) → (x : ℕ) → x < n → row_ok m s (word_at m (first x)) (row x) ≡ true
  stand-bits ok x h =
      row-passes m s (word_at m (first x)) (row x) (λ y l b.
      ap (λ t. t && s y) (sym (stands-first o m n first e x h)) ∙ ok x y (g x y h l ∙ b))

-- ---- from the tests

module _ (m : List ℕ) (ok : tests m ≡ true) where
  abbrev s : ℕ → Bool
  s = stands (model_in m).containers

  settings-ok : valid_settings (model_in m).settings ≡ true
  unfolding tests model_in
  settings-ok = and_left _ _ ok

  container-ok : (c : ℕ) → c < container_slots → container_ok m c ≡ true
  unfolding tests containers_ok
  container-ok c h = between-at (container_ok m) 0 container_slots (and_left _ _ (and_right _ _ ok)) c zero-le h

  policy-ok : (q : ℕ) → q < policy_slots → policy_ok m q ≡ true
  unfolding tests policies_ok
  policy-ok q h = between-at (policy_ok m) 0 policy_slots (and_left _ _ (and_right _ _ (and_right _ _ ok))) q zero-le h

  matrix-ok : (a : ℕ) → a < container_slots → row_ok m s (word_at m (container_start a)) a ≡ true
  unfolding tests matrix_ok
  matrix-ok a h = between-at (matrix_row_ok m s) 0 container_slots (and_left _ _ (and_right _ _ (and_right _ _ (and_right _ _ ok)))) a zero-le h

  sets-ok : (q : ℕ) → q < policy_slots → set_rows_ok m s q ≡ true
  unfolding tests sets_ok
  sets-ok q h = between-at (set_rows_ok m s) 0 policy_slots (and_right _ _ (and_right _ _ (and_right _ _ (and_right _ _ ok)))) q zero-le h

  -- every slot of a table, and beyond it
  container-valid : (x : Settings) (c : ℕ) → valid_container x (at (model_in m).containers c) ≡ true
  container-valid x c =
      by-ltb (λ t. valid_container x (at (model_in m).containers c) ≡ true) c container_slots
      (λ l. ap (valid_container x) (container-slot m c l) ∙ (container-holds x m c (container-ok c l)).0)
      (λ l. ap (valid_container x) (container-beyond m c l))

  policy-valid : (x : Settings) (q : ℕ) → valid_policy x (at (model_in m).policies q) ≡ true
  policy-valid x q =
      by-ltb (λ t. valid_policy x (at (model_in m).policies q) ≡ true) q policy_slots
      (λ l. ap (valid_policy x) (policy-slot m q l) ∙ (policy-holds x m q (policy-ok q l)).0)
      (λ l. ap (valid_policy x) (policy-beyond m q l))

  entries-valid : ValidEntries (model_in m)
  unfolding registry_in
  entries-valid = record {
    containers = containers-size m;
    policies = policies-size m;
    settings = settings-ok;
    container = container-valid (model_in m).settings;
    policy = policy-valid (model_in m).settings;
  }

  tests-stand : BitsStand (registry_in m)
  unfolding registry_in
  tests-stand =
      let b = registry-in-tables m in
      let p = stands (model_in m).policies in
      record {
        matrix = λ i j t. bits-stand m container_slots container_start s (container-stands m) (λ x. x) (bits_in m).matrix (matrix-in m) s matrix-ok i j (b.matrix i j t) t;
        selected = λ i j t. bits-stand m policy_slots policy_start p (policy-stands m) selected_row (bits_in m).selected (selected-in m) s (λ q h. and_left _ _ (sets-ok q h)) i j (b.selected i j t) t;
        allowed = λ i j t. bits-stand m policy_slots policy_start p (policy-stands m) allowed_row (bits_in m).allowed (allowed-in m) s (λ q h. and_right _ _ (sets-ok q h)) i j (b.allowed i j t) t;
      }

  container-word : (c k : ℕ) → c < container_slots → k < container_words → word_at m (container_start c + k) ≡ container_word (at (model_in m).containers c) k
  container-word c k hc hk =
      (container-holds (settings_in m) m c (container-ok c hc)).1 k hk ∙ ap (λ o. container_word o k) (sym (container-slot m c hc))

  policy-word : (q k : ℕ) → q < policy_slots → k < policy_words → word_at m (policy_start q + k) ≡ policy_word (at (model_in m).policies q) k
  policy-word q k hq hk =
      (policy-holds (settings_in m) m q (policy-ok q hq)).1 k hk ∙ ap (λ o. policy_word o k) (sym (policy-slot m q hq))

  settings-word : (k : ℕ) → k < settings_size → word_at m k ≡ settings_word (model_in m).settings k
  unfolding model_in settings_in
  settings-word zero h = refl
  settings-word (suc zero) h = refl
  settings-word (suc (suc zero)) h = refl
  settings-word (suc (suc (suc k))) h = absurd (omega arith)

  entry-word : (k : ℕ) → k < rows_start → word_at m k ≡ entry_word (model_in m) k
  entry-word k h =
      let c = (k - containers_start) / container_words in
      let q = (k - policies_start) / policy_words in
      by_part (λ w. word_at m k ≡ w) (model_in m) k
      (λ l. settings-word k l)
      (λ g l. let e : k ≡ container_start c + (k - containers_start) % container_words = omega arith in
      ap (λ i. word_at m i) e ∙ container-word c ((k - containers_start) % container_words) (omega arith) (omega arith))
      (λ l. let e : k ≡ policy_start q + (k - policies_start) % policy_words = omega arith in
      ap (λ i. word_at m i) e ∙ policy-word q ((k - policies_start) % policy_words) (omega arith) (omega arith))

  tests-entries : Whole m → EntriesFormed m
  tests-entries w = record { whole = w; entries = entries-valid; words = entry-word }

-- ---- to the tests

module _ (m : List ℕ) (f : EntriesFormed m) where
  container-pass : (c : ℕ) → c < container_slots → container_ok m c ≡ true
  container-pass c l =
      let s = (model_in m).settings in
      container-passes s m c (ap (valid_container s) (sym (container-slot m c l)) ∙ f.entries.container c) (formed-container m f c l)

  policy-pass : (q : ℕ) → q < policy_slots → policy_ok m q ≡ true
  policy-pass q l =
      let s = (model_in m).settings in
      policy-passes s m q (ap (valid_policy s) (sym (policy-slot m q l)) ∙ f.entries.policy q) (formed-policy m f q l)

  settings-pass : valid_settings (settings_in m) ≡ true
  unfolding model_in
  settings-pass = f.entries.settings

  tests-pass : BitsStand (registry_in m) → tests m ≡ true
  unfolding tests containers_ok policies_ok matrix_ok sets_ok registry_in
  tests-pass a =
      let c = stands (model_in m).containers in
      let p = stands (model_in m).policies in
      and-passes _ _ settings-pass
      (and-passes _ _ (between-all (container_ok m) 0 container_slots (λ k l h. container-pass k h))
      (and-passes _ _ (between-all (policy_ok m) 0 policy_slots (λ k l h. policy-pass k h))
      (and-passes _ _ (between-all (matrix_row_ok m c) 0 container_slots (λ k l h.
      stand-bits m container_slots container_start c (container-stands m) (λ x. x) (bits_in m).matrix (matrix-in m) c a.matrix k h))
      (between-all (set_rows_ok m c) 0 policy_slots (λ k l h.
      and-passes _ _ (stand-bits m policy_slots policy_start p (policy-stands m) selected_row (bits_in m).selected (selected-in m) c a.selected k h)
      (stand-bits m policy_slots policy_start p (policy-stands m) allowed_row (bits_in m).allowed (allowed-in m) c a.allowed k h))))))

-- the law
tests-formed : (m : List ℕ) → Whole m → ((k : ℕ) → word_at m k < 2 ^ 64) → tests m ≡ well_formed m
tests-formed m w fit =
    same_test (tests m) (well_formed m)
    (λ t. (formed-apart m fit).1 (tests-entries m t w, tests-stand m t))
    (λ e. let h = (formed-apart m fit).0 e in tests-pass m h.0 h.1)

-- no memory of another size is well formed
pub not-whole : (m : List ℕ) → (Whole m → ⊥) → well_formed m ≡ false
not-whole m h = denied (well_formed m) (λ e. absurd (h (formed-memory m e).whole))

-- what the code answers, by what its tests come to
pub decided : (m : List ℕ) {r : Bool} → Whole m → ((k : ℕ) → Fits w64 (word_at m k)) → tests m ≡ r → r ≡ well_formed m
decided m w fit e = sym e ∙ tests-formed m w (λ k. (fit k).fits)
