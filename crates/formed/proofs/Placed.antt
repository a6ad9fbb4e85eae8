-- A slot's words, stored, place its entry: the memory is the image of the registry with that entry, its bits as they were.
use mathlib.Core.Path.{◌≡◌, refl, sym, ap, ◌∙◌}
use mathlib.Core.Bool.{Bool, true}
use mathlib.Core.List.{List, [], ◌∷◌}
use mathlib.Core.Option.{Option, none}
use Prim.Native.Nat.{ℕ, zero, suc, ◌+◌, ◌-◌, ◌/◌, ◌%◌, ◌<◌, ◌≤◌}
use native.Mathlib.Decide.{dec_le, dec_lt}
use native.Mathlib.Omega.{arith}
use lib.ListN.{length, set, length-set}
use lib.Seq.{get_or-set_same, get_or-set_other}
use Rattle.block.specs.Entry.{Container, Policy}
use Rattle.model.specs.Table.{Table, at}
use Rattle.model.specs.Model.{container_slots, policy_slots, Model, with_container, with_policy}
use Rattle.model.specs.Registry.{Registry}
use Rattle.store.specs.Layout.{containers_start, container_words, policies_start, policy_words, rows_start, container_start, policy_start}
use Rattle.store.specs.Contents.{Holds}
use Rattle.store.specs.Memory.{slot_set, with_slot}
use Rattle.store.proofs.Carried.{holds_as, holds_by, slot-in, slot-out, slot-bits, holds-slot}
use Rattle.formed.specs.Words.{container_word, policy_word}
use Rattle.formed.specs.Registry.{model_in, registry_in, entry_word, contents_of, image, free_or, valid_container, valid_policy, ValidEntries, EntriesFormed}
use Rattle.formed.specs.Placed.{container_placed, policy_placed}
use Rattle.formed.proofs.Acceptable.{InTables, registry-in-tables}
use Rattle.formed.proofs.StoredLaws.{Fit, word-settings, word-container, word-policy, by_part, slot-container, slot-policy}
use Rattle.formed.proofs.Back.{entries-written, model-back, registry-back, image-contents, image-written}
use Rattle.formed.proofs.Reading.{entries-hold}

-- ---- the words of a slot

-- words stored from `start` on make another model's words of a model's, if these are that model's there and the others are as they were
holds-entry : (r r' : Registry) (start n : ℕ) (f : ℕ → ℕ) → start + n ≤ rows_start → r.bits ≡ r'.bits
    → ((k : ℕ) → k < n → f k ≡ entry_word r'.model (start + k)) → ((k : ℕ) → (start ≤ k → k < start + n → ⊥) → entry_word r.model k ≡ entry_word r'.model k)
    → {m : List ℕ} → Holds m (contents_of r) → Holds (slot_set m start n f) (contents_of r')
unfolding contents_of
holds-entry r r' start n f fit same here others h =
    holds_as (holds-slot h start n f fit) (contents_of r') (record {
      words = λ k l. go k (dec_le start k) (dec_lt k (start + n));
      bits = λ x y hx hy. ap (λ (g : ℕ → ℕ → Bool). g x y) (slot-bits (contents_of r) start n f) ∙ ap (λ b. (contents_of (record { model = r'.model; bits = b })).bits x y) same;
    })
  where
    go : (k : ℕ) → Dec (start ≤ k) → Dec (k < start + n) → (with_slot (contents_of r) start n f).words k ≡ entry_word r'.model k
    go k (yes a) (yes b) =
        let e : start + (k - start) ≡ k = omega arith in
        slot-in (contents_of r) start n f k a b ∙ here (k - start) (omega arith) ∙ ap (entry_word r'.model) e
    go k (no a) d = slot-out (contents_of r) start n f k (λ s t. a s) ∙ others k (λ s t. a s)
    go k (yes a) (no b) = slot-out (contents_of r) start n f k (λ s t. b t) ∙ others k (λ s t. b t)

module _ (r : Registry) (c : ℕ) (hc : c < container_slots) (long : length r.model.containers ≡ container_slots) (x : Option Container) where
  container-other : (k : ℕ) → (container_start c ≤ k → k < container_start c + container_words → ⊥) → entry_word r.model k ≡ entry_word (with_container r.model c x) k
  unfolding with_container
  container-other k n =
      let p = r.model in
      by_part (λ w. entry_word p k ≡ w) (with_container p c x) k
      (λ l. word-settings p k l)
      (λ l h. word-container p k l h ∙ ap (λ (o : Option Container). container_word o ((k - containers_start) % container_words))
      (sym (get_or-set_other p.containers c ((k - containers_start) / container_words) x none (λ e. n (omega arith) (omega arith)))))
      (λ h. word-policy p k h)

  container-here : (k : ℕ) → k < container_words → container_word x k ≡ entry_word (with_container r.model c x) (container_start c + k)
  unfolding with_container
  container-here k h =
      let e : at (set r.model.containers c x) c ≡ x = get_or-set_same r.model.containers c x none (omega arith) in
      sym (slot-container (with_container r.model c x) c k hc h ∙ ap (λ (o : Option Container). container_word o k) e)

  pub holds-container : {m : List ℕ} → Holds m (contents_of r) → Holds (slot_set m (container_start c) container_words (container_word x)) (contents_of (container_placed r c x))
  unfolding container_placed
  holds-container h = holds-entry r (container_placed r c x) (container_start c) container_words (container_word x) (omega arith) refl container-here container-other h

module _ (r : Registry) (q : ℕ) (hq : q < policy_slots) (long : length r.model.policies ≡ policy_slots) (x : Option Policy) where
  policy-other : (k : ℕ) → (policy_start q ≤ k → k < policy_start q + policy_words → ⊥) → entry_word r.model k ≡ entry_word (with_policy r.model q x) k
  unfolding with_policy
  policy-other k n =
      let p = r.model in
      by_part (λ w. entry_word p k ≡ w) (with_policy p q x) k
      (λ l. word-settings p k l)
      (λ l h. word-container p k l h)
      (λ l. word-policy p k l ∙ ap (λ (o : Option Policy). policy_word o ((k - policies_start) % policy_words))
      (sym (get_or-set_other p.policies q ((k - policies_start) / policy_words) x none (λ e. n (omega arith) (omega arith)))))

  policy-here : (k : ℕ) → k < policy_words → policy_word x k ≡ entry_word (with_policy r.model q x) (policy_start q + k)
  unfolding with_policy
  policy-here k h =
      let e : at (set r.model.policies q x) q ≡ x = get_or-set_same r.model.policies q x none (omega arith) in
      sym (slot-policy (with_policy r.model q x) q k h ∙ ap (λ (o : Option Policy). policy_word o k) e)

  holds-policy : {m : List ℕ} → Holds m (contents_of r) → Holds (slot_set m (policy_start q) policy_words (policy_word x)) (contents_of (policy_placed r q x))
  unfolding policy_placed
  holds-policy h = holds-entry r (policy_placed r q x) (policy_start q) policy_words (policy_word x) (omega arith) refl policy-here policy-other h

-- ---- entries stay valid

-- a change at one slot
set-passes : {A : Type 0} (f : A → Bool) (t : Table A) (c : ℕ) (x : Option A) → free_or f x ≡ true → ((i : ℕ) → free_or f (at t i) ≡ true)
    → (i : ℕ) → free_or f (at (set t c x) i) ≡ true
set-passes f [] c x e h i = refl
set-passes f (y ∷ t) zero x e h zero = e
set-passes f (y ∷ t) zero x e h (suc i) = h (suc i)
set-passes f (y ∷ t) (suc c) x e h zero = h 0
set-passes f (y ∷ t) (suc c) x e h (suc i) = set-passes f t c x e (λ k. h (suc k)) i

module _ (m : Model) (ok : ValidEntries m) where
  pub valid-container-placed : (c : ℕ) (x : Option Container) → valid_container m.settings x ≡ true → ValidEntries (with_container m c x)
  unfolding with_container
  valid-container-placed c x v = record {
    containers = length-set m.containers c x ∙ ok.containers;
    policies = ok.policies;
    settings = ok.settings;
    container = set-passes _ m.containers c x v ok.container;
    policy = ok.policy;
  }

  pub valid-policy-placed : (q : ℕ) (x : Option Policy) → valid_policy m.settings x ≡ true → ValidEntries (with_policy m q x)
  unfolding with_policy
  valid-policy-placed q x v = record {
    containers = ok.containers;
    policies = length-set m.policies q x ∙ ok.policies;
    settings = ok.settings;
    container = ok.container;
    policy = set-passes _ m.policies q x v ok.policy;
  }

-- ---- the memory with the slot's words

-- a memory that is the image of valid entries
module _ (r : Registry) (v : ValidEntries r.model) {e : List ℕ} (q : e ≡ image r) where
  image-held : Holds e (contents_of r)
  image-held = holds_by (image-contents r) q

  pub image-entries : EntriesFormed e
  image-entries = entries-written r v e image-held

  pub image-model : model_in e ≡ r.model
  image-model = model-back r v e image-held

  -- and of no bit beyond the tables
  pub image-says : InTables r → registry_in e ≡ r
  image-says b = registry-back r v b e image-held

-- words that fit 64 bits are the image of the registry that they hold
image-of-held : {a : List ℕ} (r : Registry) → Holds a (contents_of r) → {e : List ℕ} → e ≡ a → Fit e → e ≡ image r
image-of-held r h q fit = image-written r _ (holds_by h q) fit

module _ (m : List ℕ) (ok : EntriesFormed m) where
  entries-in : ValidEntries (registry_in m).model
  unfolding registry_in
  entries-in = ok.entries

  module _ (c : ℕ) (x : Option Container) where
    pub container-image : c < container_slots → {e : List ℕ} → e ≡ slot_set m (container_start c) container_words (container_word x) → Fit e → e ≡ image (container_placed (registry_in m) c x)
    container-image hc = image-of-held _ (holds-container (registry_in m) c hc entries-in.containers x (entries-hold m ok))

    pub container-placed-valid : valid_container (model_in m).settings x ≡ true → ValidEntries (container_placed (registry_in m) c x).model
    unfolding container_placed registry_in
    container-placed-valid v = valid-container-placed (model_in m) ok.entries c x v

    pub container-placed-in : InTables (container_placed (registry_in m) c x)
    unfolding container_placed with_container registry_in
    container-placed-in =
        let t = registry-in-tables m in
        record { containers = length-set (model_in m).containers c x ∙ t.containers; policies = t.policies; matrix = t.matrix; selected = t.selected; allowed = t.allowed }

  module _ (q : ℕ) (x : Option Policy) where
    pub policy-image : q < policy_slots → {e : List ℕ} → e ≡ slot_set m (policy_start q) policy_words (policy_word x) → Fit e → e ≡ image (policy_placed (registry_in m) q x)
    policy-image hq = image-of-held _ (holds-policy (registry_in m) q hq entries-in.policies x (entries-hold m ok))

    pub policy-placed-valid : valid_policy (model_in m).settings x ≡ true → ValidEntries (policy_placed (registry_in m) q x).model
    unfolding policy_placed registry_in
    policy-placed-valid v = valid-policy-placed (model_in m) ok.entries q x v

    pub policy-placed-in : InTables (policy_placed (registry_in m) q x)
    unfolding policy_placed with_policy registry_in
    policy-placed-in =
        let t = registry-in-tables m in
        record { containers = t.containers; policies = length-set (model_in m).policies q x ∙ t.policies; matrix = t.matrix; selected = t.selected; allowed = t.allowed }
