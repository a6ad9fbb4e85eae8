-- What the reading of a block says of an open: refused as the reading is; accepted, the words say the settings of the block.
use mathlib.Core.Path.{◌≡◌, refl, sym, ap, ◌∙◌}
use mathlib.Core.List.{List}
use Prim.Native.Nat.{ℕ}
use lib.ListN.{length}
use Rattle.std.specs.Prelude.{Ok, Err}
use Rattle.block.specs.declared.Refusal.{Refusal}
use Rattle.block.specs.declared.Settings.{Settings as SettingsWords}
use Rattle.block.specs.Entry.{Settings}
use Rattle.block.specs.Refusal.{Read, refused, accepted}
use Rattle.block.specs.Reader.{read_settings}
use Rattle.block.specs.Reading.{settings_words, settings_of, read_words}
use Rattle.model.specs.Calls.{open_with, refusal_of, done}
use Rattle.model.specs.Registry.{opened}
use Rattle.store.specs.Layout.{memory_words}
use Rattle.formed.specs.Registry.{image}
use Rattle.steps.specs.MemoryStep.{memory_step}
use Rattle.steps.proofs.Outcomes.{open-refused, open_done}

-- ---- a reading

refused_as : (o : Read Settings) (f : Refusal) → read_words o ≡ Err f → o ≡ refused f
refused_as (refused g) f e = cc
refused_as (accepted s) f e = cc

accepted_as : (o : Read Settings) (w : SettingsWords) → read_words o ≡ Ok w → (s : Settings) × (o ≡ accepted s) × (settings_of w ≡ s)
unfolding settings_words settings_of
accepted_as (refused g) w e = cc
accepted_as (accepted s) w e = let h : settings_words s ≡ w = cc in (s, refl, ap settings_of (sym h))

-- ---- open

module _ (m b : List ℕ) (whole : length m ≡ memory_words) where
  pub open-refused-by : (f : Refusal) → read_words (read_settings b) ≡ Err f → memory_step m (open_with b) ≡ (m, refusal_of f)
  open-refused-by f e = open-refused m b whole f (refused_as (read_settings b) f e)

  pub open-answer : (m' : List ℕ) (w : SettingsWords) → read_words (read_settings b) ≡ Ok w → m' ≡ image (opened (settings_of w)) → memory_step m (open_with b) ≡ (m', done)
  open-answer m' w e h =
      let s = accepted_as (read_settings b) w e in
      open_done m b whole s.0 s.1 ∙ ap (λ x. (image (opened x), done)) (sym s.2) ∙ ap (λ x. (x, done)) (sym h)
