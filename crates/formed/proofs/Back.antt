-- A memory that holds the contents of an acceptable registry says that registry; so does the registry's image.
use mathlib.Core.Path.{◌≡◌, refl, sym, ap, ◌∙◌, fun_ext, subst}
use mathlib.Core.Bool.{false≢true, Bool, true, false, ◌&&◌, cond}
use mathlib.Core.List.{List}
use mathlib.Core.Option.{none}
use Prim.Native.Nat.{ℕ, zero, suc, ◌+◌, ◌-◌, ◌/◌, ◌%◌, ◌^◌, ◌<◌, ◌≤◌}
use native.Mathlib.Omega.{arith}
use lib.Dec.{eqb, ltb, leb}
use lib.ListN.{length, get_or, get_or-eq_default}
use borrow.Author.Tests.{leb-true, eqb-true}
use Rattle.bitrow.proofs.Sets.{point}
use Rattle.block.specs.Entry.{Settings}
use Rattle.block.specs.Reader.{within}
use Rattle.block.specs.Written.{valid_settings}
use Rattle.block.proofs.Checks.{within-bounds}
use Rattle.model.specs.Table.{Table, on, at, stands}
use Rattle.model.specs.Model.{container_slots, policy_slots, Model}
use Rattle.model.specs.Registry.{Registry}
use Rattle.model.proofs.Lists.{both}
use Rattle.store.specs.Layout.{settings_size, containers_start, container_words, policies_start, policy_words, memory_words, rows_start, row_count, container_start, policy_start, selected_row, allowed_row, word_at, row_bit}
use Rattle.store.specs.Contents.{Holds, tab}
use Rattle.store.proofs.Cases.{by-ltb}
use Rattle.store.proofs.Image.{is-tab, holds-image, image_holds, image-length}
use Rattle.store.proofs.Image.{image-words-fit}
use Rattle.formed.specs.Words.{settings_word, container_word, policy_word, settings_in, container_in, policy_in}
use Rattle.formed.specs.Registry.{model_in, bit_within, bits_in, registry_in, entry_word, stored_bit, contents_of, image, ValidEntries, Acceptable, EntriesFormed}
use Rattle.formed.proofs.StoredLaws.{word-settings, by_part, slot-container, slot-policy, stored-matrix, stored-selected, stored-allowed}
use Rattle.formed.proofs.Acceptable.{InTables}
use Rattle.formed.proofs.Slots.{Words, container-back, policy-back, container-small, policy-small}

-- ---- a slot that stands lies within its table

stands-below : {A : Type 0} (t : Table A) (i : ℕ) → stands t i ≡ true → i < length t
stands-below t i h =
    by-ltb (λ u. i < length t) i (length t) (λ l. l) (λ g. absurd (false≢true (ap (on (λ x. true)) (sym (get_or-eq_default t none g)) ∙ h)))

-- a table that is read, where bits of no slot are clear
table-back : (m : List ℕ) (n : ℕ) (row : ℕ → ℕ) (f : ℕ → ℕ → Bool) → ((x y : ℕ) → x < n → y < container_slots → row_bit m (row x) y ≡ f x y)
    → ((x y : ℕ) → f x y ≡ true → (x < n) × (y < container_slots)) → (λ x y. bit_within m n x (row x) y) ≡ f
unfolding bit_within
table-back m n row f inside small = fun_ext (λ x. fun_ext (λ y.
    by-ltb (λ t. (t && (ltb y container_slots && row_bit m (row x) y)) ≡ f x y) x n
    (λ l. by-ltb (λ t. (t && row_bit m (row x) y) ≡ f x y) y container_slots (λ k. inside x y l k) (λ k. out (f x y) (λ g. let h = (small x y g).1 in omega arith)))
    (λ l. out (f x y) (λ g. let h = (small x y g).0 in omega arith))))
  where
    out : (t : Bool) → (t ≡ true → ⊥) → false ≡ t
    out true n = absurd (n refl)
    out false n = refl

-- ---- where each part of a registry's contents stands

module _ (r : Registry) (m : List ℕ) (h : Holds m (contents_of r)) where
  pub entry-word : (k : ℕ) → k < rows_start → word_at m k ≡ entry_word r.model k
  unfolding contents_of
  entry-word k l = h.words k l

  stored-bit : (x y : ℕ) → x < row_count → y < container_slots → row_bit m x y ≡ stored_bit r.bits x y
  unfolding contents_of
  stored-bit x y hx hy = h.bits x y hx hy

  settings-words : (k : ℕ) → k < settings_size → word_at m k ≡ settings_word r.model.settings k
  settings-words k l = entry-word k (omega arith) ∙ word-settings r.model k l

  pub container-words : (c : ℕ) → c < container_slots → Words m (container_start c) container_words (container_word (at r.model.containers c))
  container-words c hc k hk = entry-word (container_start c + k) (omega arith) ∙ slot-container r.model c k hc hk

  pub policy-words : (q : ℕ) → q < policy_slots → Words m (policy_start q) policy_words (policy_word (at r.model.policies q))
  policy-words q hq k hk = entry-word (policy_start q + k) (omega arith) ∙ slot-policy r.model q k hk

  pub matrix-bit : (a b : ℕ) → a < container_slots → b < container_slots → row_bit m a b ≡ r.bits.matrix a b
  matrix-bit a b ha hb = stored-bit a b (omega arith) hb ∙ point (stored-matrix r.bits a ha) b

  pub selected-bit : (q c : ℕ) → q < policy_slots → c < container_slots → row_bit m (selected_row q) c ≡ r.bits.selected q c
  selected-bit q c hq hc = stored-bit (selected_row q) c (omega arith) hc ∙ point (stored-selected r.bits q hq) c

  pub allowed-bit : (q c : ℕ) → q < policy_slots → c < container_slots → row_bit m (allowed_row q) c ≡ r.bits.allowed q c
  allowed-bit q c hq hc = stored-bit (allowed_row q) c (omega arith) hc ∙ point (stored-allowed r.bits q hq) c

-- ---- the entries are read back, whatever the bits

module _ (r : Registry) (ok : ValidEntries r.model) (m : List ℕ) (h : Holds m (contents_of r)) where
  settings-back : settings_in m ≡ r.model.settings
  unfolding settings_in
  settings-back =
      let a : word_at m 0 ≡ r.model.settings.user_key = settings-words r m h 0 (omega arith) in
      let b : word_at m 1 ≡ r.model.settings.system_key = settings-words r m h 1 (omega arith) in
      let c : word_at m 2 ≡ r.model.settings.system_value = settings-words r m h 2 (omega arith) in
      λ i. record { user_key = a i; system_key = b i; system_value = c i }

  containers-back : tab container_slots (container_in m) ≡ r.model.containers
  containers-back =
      sym (is-tab container_slots (container_in m) r.model.containers none ok.containers
      (λ c l. sym (container-back r.model.settings m c (at r.model.containers c) (ok.container c) (container-words r m h c l))))

  policies-back : tab policy_slots (policy_in m) ≡ r.model.policies
  policies-back =
      sym (is-tab policy_slots (policy_in m) r.model.policies none ok.policies
      (λ q l. sym (policy-back r.model.settings m q (at r.model.policies q) (ok.policy q) (policy-words r m h q l))))

  pub model-back : model_in m ≡ r.model
  unfolding model_in
  model-back =
      let s : settings_in m ≡ r.model.settings = settings-back in
      let c : tab container_slots (container_in m) ≡ r.model.containers = containers-back in
      let p : tab policy_slots (policy_in m) ≡ r.model.policies = policies-back in
      λ i. record { settings = s i; containers = c i; policies = p i }

  pub entries-written : EntriesFormed m
  entries-written = record {
    whole = h.whole;
    entries = subst ValidEntries (sym model-back) ok;
    words = λ k l. entry-word r m h k l ∙ ap (λ (p : Model). entry_word p k) (sym model-back);
  }

-- ---- the registry is read back, where no bit lies beyond the tables

module _ (r : Registry) (ok : InTables r) (m : List ℕ) (h : Holds m (contents_of r)) where
  matrix-back : (λ a b. bit_within m container_slots a a b) ≡ r.bits.matrix
  matrix-back =
      table-back m container_slots (λ a. a) r.bits.matrix (matrix-bit r m h) ok.matrix

  selected-back : (λ q c. bit_within m policy_slots q (selected_row q) c) ≡ r.bits.selected
  selected-back =
      table-back m policy_slots selected_row r.bits.selected (selected-bit r m h) ok.selected

  allowed-back : (λ q c. bit_within m policy_slots q (allowed_row q) c) ≡ r.bits.allowed
  allowed-back =
      table-back m policy_slots allowed_row r.bits.allowed (allowed-bit r m h) ok.allowed

  bits_back : bits_in m ≡ r.bits
  unfolding bits_in
  bits_back =
      let f : (λ a b. bit_within m container_slots a a b) ≡ r.bits.matrix = matrix-back in
      let g : (λ q c. bit_within m policy_slots q (selected_row q) c) ≡ r.bits.selected = selected-back in
      let k : (λ q c. bit_within m policy_slots q (allowed_row q) c) ≡ r.bits.allowed = allowed-back in
      λ i. record { matrix = f i; selected = g i; allowed = k i }

pub registry-back : (r : Registry) → ValidEntries r.model → InTables r → (m : List ℕ) → Holds m (contents_of r) → registry_in m ≡ r
unfolding registry_in
registry-back r v ok m h =
    let p : model_in m ≡ r.model = model-back r v m h in
    let s : bits_in m ≡ r.bits = bits_back r ok m h in
    λ i. record { model = p i; bits = s i }

-- slots that stand lie within their tables
acceptable-in-tables : (r : Registry) → Acceptable r → InTables r
acceptable-in-tables r ok = record {
  containers = ok.entries.containers;
  policies = ok.entries.policies;
  matrix = λ a b e. both-in r.model.containers container_slots ok.entries.containers a b (ok.bits.matrix a b e);
  selected = λ q c e. both-in r.model.policies policy_slots ok.entries.policies q c (ok.bits.selected q c e);
  allowed = λ q c e. both-in r.model.policies policy_slots ok.entries.policies q c (ok.bits.allowed q c e);
}
  where
    both-in : {A : Type 0} (t : Table A) (n : ℕ) → length t ≡ n → (x c : ℕ) → (stands t x && stands r.model.containers c) ≡ true → (x < n) × (c < container_slots)
    both-in t n long x c e =
        let s = both (stands t x) (stands r.model.containers c) e in
        let a = stands-below t x s.0 in
        let b = stands-below r.model.containers c s.1 in
        let k = ok.entries.containers in
        (omega arith, omega arith)

-- ---- the image

pub image-size : (r : Registry) → length (image r) ≡ memory_words
unfolding image
image-size r = image-length (contents_of r)

pub image-contents : (r : Registry) → Holds (image r) (contents_of r)
unfolding image
image-contents r = image_holds (contents_of r)

-- the memory of a registry says that registry
pub registry-image : (r : Registry) → Acceptable r → registry_in (image r) ≡ r
registry-image r ok = registry-back r ok.entries (acceptable-in-tables r ok) (image r) (image-contents r)

-- a memory is fixed by its registry, word for word
pub image_inj : (r s : Registry) → Acceptable r → Acceptable s → image r ≡ image s → r ≡ s
image_inj r s a b e = sym (registry-image r a) ∙ ap registry_in e ∙ registry-image s b

-- a memory that holds a registry's contents is its image
pub image-written : (r : Registry) (m : List ℕ) → Holds m (contents_of r) → ((k : ℕ) → word_at m k < 2 ^ 64) → m ≡ image r
unfolding image
image-written r m h fit = holds-image h fit

-- ---- every word of an image fits 64 bits

pub record SettingsBounds (s : Settings) : Type 0 where
  pub user : (1 ≤ s.user_key) × (s.user_key ≤ 64)
  pub key : s.system_key ≤ 64
  pub value : s.system_value ≤ 65535

pub settings-bounds : (s : Settings) → valid_settings s ≡ true → SettingsBounds s
unfolding valid_settings
settings-bounds s v =
    let user = within 1 64 s.user_key in
    let key = leb s.system_key 64 in
    let value = cond (eqb s.system_key 0) (eqb s.system_value 0) (within 1 65535 s.system_value) in
    let h = both user (key && value) v in
    let g = both key value h.1 in
    record { user = within-bounds 1 64 s.user_key h.0; key = leb-true s.system_key 64 g.0; value = small (eqb s.system_key 0) g.1 }
  where
    small : (t : Bool) → cond t (eqb s.system_value 0) (within 1 65535 s.system_value) ≡ true → s.system_value ≤ 65535
    small true e = omega (arith, eqb-true s.system_value 0 e)
    small false e = (within-bounds 1 65535 s.system_value e).1

settings-small : (s : Settings) → SettingsBounds s → (k : ℕ) → settings_word s k ≤ 2 ^ 23
settings-small s b zero = omega arith
settings-small s b (suc zero) = omega arith
settings-small s b (suc (suc zero)) = omega arith
settings-small s b (suc (suc (suc k))) = omega arith

pub entry-small : (m : Model) → ValidEntries m → (k : ℕ) → entry_word m k ≤ 2 ^ 23
entry-small m ok k =
    let s = m.settings in
    by_part (λ w. w ≤ 2 ^ 23) m k
    (λ l. settings-small s (settings-bounds s ok.settings) k)
    (λ l g. container-small s (at m.containers ((k - containers_start) / container_words)) (ok.container ((k - containers_start) / container_words)) ((k - containers_start) % container_words))
    (λ g. policy-small s (at m.policies ((k - policies_start) / policy_words)) (ok.policy ((k - policies_start) / policy_words)) ((k - policies_start) % policy_words))

pub image-fits : (r : Registry) → Acceptable r → (k : ℕ) → get_or (image r) k 0 < 2 ^ 64
unfolding image contents_of
image-fits r ok k = image-words-fit (contents_of r) (λ j l. omega (arith, entry-small r.model ok.entries j)) k
