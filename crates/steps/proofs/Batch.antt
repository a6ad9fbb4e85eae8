-- The fold of the registry's admissions, imaged once, is the fold of the admissions on memory; and it is one pass.
use mathlib.Core.Path.{◌≡◌, refl, sym, ap, ◌∙◌}
use mathlib.Core.Bool.{true}
use mathlib.Core.List.{List, [], ◌∷◌}
use Prim.Native.Nat.{ℕ}
use Rattle.block.specs.Cut.{blocks_of}
use Rattle.model.specs.Calls.{change, admit, run}
use Rattle.model.specs.Batch.{batch_outcome}
use Rattle.model.specs.Registry.{Registry}
use Rattle.model.specs.RegistryStep.{admit_block}
use Rattle.model.proofs.Agreement.{admit-step}
use Rattle.model.proofs.Batch.{batch-passes}
use Rattle.formed.specs.Registry.{registry_in, image, Acceptable, well_formed}
use Rattle.formed.proofs.Formed.{formed-memory}
use Rattle.steps.specs.Batch.{admit_on, BatchIsAdmissions}
use Rattle.steps.proofs.Outcomes.{batch-admits}
use Rattle.steps.proofs.Refinement.{imaged, step-image}
use Rattle.steps.proofs.StaysFormed.{block-stays}

run-image : (r : Registry) → Acceptable r → (bs : List (List ℕ)) → run admit_on (image r) bs ≡ imaged (run admit_block r bs)
run-image r ok [] = refl
run-image r ok (b ∷ bs) =
    let e : admit_on (image r) b ≡ imaged (admit_block r b) = step-image r ok (change (admit b)) ∙ ap imaged (admit-step r b) in
    rw (e, run-image (admit_block r b).0 (block-stays r ok b) bs)

admissions-image : (m : List ℕ) → well_formed m ≡ true → (bs : List (List ℕ)) → run admit_on m bs ≡ imaged (run admit_block (registry_in m) bs)
admissions-image m formed bs =
    let f = formed-memory m formed in
    ap (λ (x : List ℕ). run admit_on x bs) (sym f.canonical) ∙ run-image (registry_in m) f.acceptable bs

pub batch-is-admissions : BatchIsAdmissions
unfolding BatchIsAdmissions
batch-is-admissions m bs n t formed few whole room =
    batch-admits m formed bs n t (batch-passes bs n few whole room) ∙ ap (batch_outcome t) (sym (admissions-image m formed (blocks_of bs)))
