-- The system label, as the words of a memory say it.
use mathlib.Core.Path.{◌≡◌, sym, ap, ◌∙◌}
use mathlib.Core.Bool.{Bool, true, false, not, ◌&&◌}
use mathlib.Core.List.{List}
use Prim.Native.Nat.{ℕ, ◌+◌, ◌*◌, ◌≤◌}
use borrow.Author.Tests.{eq-eqb, ne_eqb}
use Rattle.model.specs.Rules.{carries}
use Rattle.model.specs.Findings.{is_system}
use Rattle.store.specs.Layout.{word_at, container_start}
use Rattle.formed.specs.Words.{label_in, part_in, settings_in}
use Rattle.formed.specs.Registry.{model_in, EntriesFormed}
use Rattle.formed.proofs.Reading.{formed-settings}
use Rattle.entries.proofs.FormedEntries.{formed-system}
use Rattle.container_findings.specs.Rows.{containers_stand}

module _ (m : List ℕ) (ok : EntriesFormed m) where
  pub system-small : (word_at m 1 ≤ 64) × (word_at m 2 ≤ 65535)
  unfolding settings_in
  system-small = ((formed-settings m ok).key, (formed-settings m ok).value)

  module _ (a : ℕ) (h : containers_stand m a ≡ true) where
    pub system-unset : word_at m 1 ≡ 0 → is_system (model_in m) a ≡ false
    system-unset z = formed-system m ok a h ∙ ap (λ t. not t && carries (part_in m (container_start a)) (label_in (word_at m 1 * 65536 + word_at m 2))) (eq-eqb (word_at m 1) 0 z)

    pub system-set : (word_at m 1 ≡ 0 → ⊥) → {t : Bool} → t ≡ carries (part_in m (container_start a)) (label_in (word_at m 1 * 65536 + word_at m 2)) → is_system (model_in m) a ≡ t
    system-set n e = formed-system m ok a h ∙ ap (λ t. not t && carries (part_in m (container_start a)) (label_in (word_at m 1 * 65536 + word_at m 2))) (ne_eqb (word_at m 1) 0 n) ∙ sym e
