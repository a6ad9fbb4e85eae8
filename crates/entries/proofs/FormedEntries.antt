-- The entries of a memory whose words say them: bounds for the code that reads them, and what it reads.
use mathlib.Core.Path.{◌≡◌, sym, ap, ◌∙◌, subst}
use mathlib.Core.Bool.{true, not, ◌&&◌}
use mathlib.Core.List.{List}
use Prim.Native.Nat.{ℕ, suc, ◌+◌, ◌*◌, ◌-◌, ◌<◌}
use native.Mathlib.Decide.{ℕ_discrete}
use native.Mathlib.Omega.{arith}
use lib.Dec.{eqb}
use Rattle.block.specs.Written.{valid_labels}
use Rattle.model.specs.Table.{on, stands}
use Rattle.model.specs.Rules.{carries}
use Rattle.model.specs.Model.{container_slots, policy_slots}
use Rattle.model.specs.Findings.{same_user, is_system}
use Rattle.store.specs.Layout.{select_offset, allow_offset, container_start, policy_start, word_at}
use Rattle.formed.specs.Words.{container_word, policy_word, label_in, part_in, policy_at, settings_in}
use Rattle.formed.specs.Registry.{model_in, valid_container, valid_policy, EntriesFormed}
use Rattle.formed.proofs.Parts.{labels-some, labels-in-range}
use Rattle.formed.proofs.Slots.{valid-container, PolicyParts, valid-policy}
use Rattle.formed.proofs.Reading.{container-free, container-taken, policy-slot, policy-free, policy-taken, formed-whole, formed-container, formed-policy, formed-head, formed-parts, formed-settings}
use Rattle.formed.proofs.EntryTests.{past_word}
use Rattle.entries.specs.Entries.{PartOfLabels, ZeroPast, SlotsFormed, user_word}
use Rattle.entries.proofs.PartLabels.{label_of}
use Rattle.entries.proofs.Trials.{select-within, allow-within, container-at}
use Rattle.entries.proofs.Keys.{same-user}

module _ (m : List ℕ) (ok : EntriesFormed m) where
  formed-past : (c : ℕ) → c < container_slots → ZeroPast m (container_start c)
  formed-past c h k a b = go (ℕ_discrete (word_at m (container_start c)) 0)
    where
      go : Dec (word_at m (container_start c) ≡ 0) → word_at m k ≡ 0
      go (yes e) =
          let i = k - container_start c in
          let at : k ≡ container_start c + i = omega arith in
          ap (λ j. word_at m j) at ∙ formed-container m ok c h i (omega arith) ∙ ap (λ o. container_word o i) (container-free m c e)
      go (no n) =
          let i = k - container_start c - 1 in
          let at : k ≡ container_start c + suc i = omega arith in
          ap (λ j. word_at m j) at ∙ formed-container m ok c h (suc i) (omega arith) ∙ ap (λ o. container_word o (suc i)) (container-taken m c n)
          ∙ past_word m (container_start c) i (omega arith)

  pub formed-slots : SlotsFormed m
  formed-slots = record { container = formed-head m ok; select = λ q h. (formed-parts m ok q h).0; allow = λ q h. (formed-parts m ok q h).1; past = formed-past }

  -- the parts of a policy, which say nothing where its slot is free
  module _ (q : ℕ) (h : q < policy_slots) where
    abbrev head : ℕ
    head = word_at m (policy_start q)

    valid-parts : (head ≡ 0 → ⊥) → PolicyParts (policy_at m q)
    valid-parts n =
        valid-policy (model_in m).settings (policy_at m q)
        (subst (λ o. valid_policy (model_in m).settings o ≡ true) (policy-slot m q h ∙ policy-taken m q n) (ok.entries.policy q))

    labelled : (p : ℕ) → (head ≡ 0 → word_at m p ≡ 0) → ((head ≡ 0 → ⊥) → valid_labels 4 (part_in m p) ≡ true) → (k : ℕ) → p < k → k < p + word_at m p → 0 < word_at m k
    unfolding part_in
    labelled p free valid k a b = go (ℕ_discrete head 0)
      where
        go : Dec (head ≡ 0) → 0 < word_at m k
        go (yes e) = absurd (omega (arith, free e))
        go (no n) = labels-some m (word_at m p - 1) (p + 1) (labels-in-range 4 _ (valid n)) k (omega arith) (omega arith)

    pub formed-select : PartOfLabels m (policy_start q + select_offset)
    unfolding policy_at
    formed-select = record {
      within = select-within m (formed-whole m ok) formed-slots q h;
      label = labelled (policy_start q + select_offset) (λ e. formed-policy m ok q h select_offset (omega arith) ∙ ap (λ o. policy_word o select_offset) (policy-free m q e)) (λ n. (valid-parts n).select);
    }

    pub formed-allow : PartOfLabels m (policy_start q + allow_offset)
    unfolding policy_at
    formed-allow = record {
      within = allow-within m (formed-whole m ok) formed-slots q h;
      label = labelled (policy_start q + allow_offset) (λ e. formed-policy m ok q h allow_offset (omega arith) ∙ ap (λ o. policy_word o allow_offset) (policy-free m q e)) (λ n. (valid-parts n).allow);
    }

  module _ (c : ℕ) (s : stands (model_in m).containers c ≡ true) where
    pub formed-labels : valid_labels 8 (part_in m (container_start c)) ≡ true
    formed-labels =
        valid-container (model_in m).settings (part_in m (container_start c))
        (subst (λ o. valid_container (model_in m).settings o ≡ true) (container-at m c s) (ok.entries.container c))

    -- whether c carries the system label
    pub formed-system : is_system (model_in m) c ≡ (not (eqb (word_at m 1) 0) && carries (part_in m (container_start c)) (label_in (word_at m 1 * 65536 + word_at m 2)))
    unfolding is_system model_in settings_in
    formed-system =
        ap (λ t. not (eqb (word_at m 1) 0) && t)
        (ap (on (λ x. carries x (record { key = word_at m 1; value = word_at m 2 }))) (container-at m c s)
        ∙ ap (carries (part_in m (container_start c))) (sym (label_of (word_at m 1) (word_at m 2) (formed-settings m ok).value)))

  -- both carry the user key with one value
  pub formed-same-user : (a b : ℕ) → stands (model_in m).containers a ≡ true → stands (model_in m).containers b ≡ true
      → same_user (model_in m) a b ≡ (not (eqb (user_word m a) 0) && eqb (user_word m a) (user_word m b))
  formed-same-user a b s t = same-user m a b s t (formed-labels a s) (formed-labels b t)
