-- The starred instances hold: a test that computes, and that it tells what is claimed.
use mathlib.Core.Path.{◌≡◌, refl, ◌∙◌}
use mathlib.Core.Bool.{Bool, true, false, not, ◌&&◌, and-eq-true_iff}
use mathlib.Core.List.{List, [], ◌∷◌}
use mathlib.Core.Option.{some}
use lib.Dec.{eqb}
use lib.ListN.{length}
use borrow.Author.Tests.{eqb-true}
use Rattle.block.specs.Bytes.{weighted, checksum}
use Rattle.block.specs.Reader
use Rattle.block.specs.Written.{sealed}
use Rattle.model.specs.Table.{all}
use Rattle.model.specs.Rules
use Rattle.model.specs.Model
use Rattle.model.specs.Model.{container_slots, matrix_bit, computed_bits}
use Rattle.model.specs.Findings
use Rattle.model.specs.Findings.{containers_of, findings, pairs_in}
use Rattle.model.specs.Registry
use Rattle.model.specs.Registry.{change_policy}
use Rattle.model.proofs.Pairs.{pairs-computed}
use Rattle.stars.specs.Stars.{same_findings, same_rows, lists, refused_at, column_is, filled, no_system}
use Rattle.stars.specs.Stars.{Instance, has_checksum, is_refused, has_findings, has_matrix, lists_first, leaves_column, Claim, AllHold, stars}

-- the test of an instance; PAIRS is counted over the standing slots
test : Instance → Bool
test (has_checksum l n) = eqb (checksum (sealed l)) n
test (is_refused l n p) = refused_at n p (Reader.read_entry no_system (sealed l))
test (has_findings m l) = same_findings (findings m (computed_bits m)) l
test (has_matrix m rows n) =
    same_rows m (containers_of m) rows
    && (eqb (length m.containers) container_slots && eqb (pairs_in (matrix_bit m) (containers_of m) (containers_of m)) n)
test (lists_first m f g) = lists (findings m (computed_bits m)) f && not (lists (findings m (computed_bits m)) g)
test (leaves_column m p b l) = all (λ t. column_is (change_policy (filled m t) 0 p (some p)) t b l) (true ∷ false ∷ [])

sound : (i : Instance) → test i ≡ true → Claim i
unfolding test Claim
sound (has_checksum l n) e = eqb-true _ n e
sound (is_refused l n p) e = e
sound (has_findings m l) e = e
sound (has_matrix m rows n) e =
    let h = (and-eq-true_iff (same_rows m (containers_of m) rows) _).0 e in
    let k = (and-eq-true_iff (eqb (length m.containers) container_slots) _).0 h.1 in
    (h.0, pairs-computed m (eqb-true _ container_slots k.0) ∙ eqb-true _ n k.1)
sound (lists_first m f g) e = e
sound (leaves_column m p b l) e = e

all_sound : (l : List Instance) → all test l ≡ true → AllHold l
unfolding AllHold
all_sound [] e = tt
all_sound (i ∷ l) e = let h = (and-eq-true_iff (test i) (all test l)).0 e in (sound i h.0, all_sound l h.1)

passes : all test stars ≡ true
unfolding test stars
    sealed checksum weighted Reader.read_entry Reader.entry_checks Reader.entry_said Reader.policy_said Reader.direction_of Reader.layout_of
    Reader.container_layout Reader.policy_layout Reader.zero_fault Reader.label_at Reader.order_fault Reader.rise_fault Reader.range_fault
    Reader.label_fault Reader.within
    Rules.reaches Rules.both_permit Rules.permits Rules.some_allows Rules.some_selects Rules.same_direction Rules.allows Rules.selects Rules.matches Rules.carries Rules.same_label
    Model.with_policy Model.computed_bits Model.matrix_bit Model.selected_bit Model.allowed_bit
    Findings.findings Findings.kinds Findings.irrelevance Findings.needless Findings.conflict Findings.shadow Findings.among Findings.connected
    Findings.system_isolation Findings.user_cross Findings.all_isolated Findings.all_reachable Findings.connects Findings.one_direction
    Findings.is_system Findings.same_user
    Registry.change_policy Registry.touched Registry.touches Registry.set_where
passes = refl

-- Document 01's starred instances, all of them.
pub stars-hold : AllHold stars
stars-hold = all_sound stars passes
