-- Rows of findings that begin after a place.
use Rattle.std.specs.Prelude.{List, ℕ, ◌-◌, ◌≤◌, ◌<◌}
use Rattle.model.specs.Findings.{Place}
use Rattle.finding_rows.specs.Slots.{SlotsOf}
use Rattle.findings.specs.Steps.{place_from}
use Rattle.findings.specs.declared.Rows.{Rows}

-- the place that they begin after
abbrev pub place_before : Rows → Place
place_before s = place_from s.kind s.slot (s.from - 1)

-- they go over the slots of a memory's findings, and the place that they begin after can be a cursor's
pub record RowsIn (m : List ℕ) (s : Rows) : Type 0 where
  pub slots : SlotsOf m s.slots.now
  pub kind : s.kind < 65536
  pub slot : s.slot < 65536
  pub from : (0 < s.from) × (s.from ≤ 65536)
