-- On a well-formed memory both are accepted: what the rebuild leaves, and what the audit says.
use mathlib.Core.Path.{◌≡◌, sym, ap, ◌∙◌}
use mathlib.Core.Bool.{Bool, true}
use mathlib.Core.List.{List}
use Prim.Native.Nat.{ℕ}
use Rattle.model.specs.Calls.{change, rebuild, ask, audit, done, says}
use Rattle.model.specs.Registry.{rebuilt, consistent}
use Rattle.formed.specs.Registry.{registry_in, image, well_formed}
use Rattle.steps.specs.MemoryStep.{memory_step}
use Rattle.steps.proofs.Outcomes.{rebuild-done, audit-says}

module _ (m : List ℕ) (formed : well_formed m ≡ true) where
  pub rebuild-answer : (m' : List ℕ) → m' ≡ image (rebuilt (registry_in m)) → memory_step m (change rebuild) ≡ (m', done)
  unfolding rebuilt registry_in
  rebuild-answer m' h = rebuild-done m formed ∙ ap (λ x. (x, done)) (sym h)

  pub audit-answer : (t : Bool) → t ≡ consistent (registry_in m) → memory_step m (ask audit) ≡ (m, says t)
  audit-answer t h = audit-says m formed ∙ ap (λ x. (m, says x)) (sym h)
