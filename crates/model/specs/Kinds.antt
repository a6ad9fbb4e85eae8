-- The numbers of the seven kinds of finding.
use Rattle.std.specs.Prelude.{ℕ}
use Rattle.model.specs.declared.Kind.{Kind}
use Rattle.model.specs.declared.Kind.TheVariants.{AllReachable, AllIsolated, UserCross, SystemIsolation, Shadow, Conflict, Irrelevance}

abbrev pub kind_number : Kind → ℕ
kind_number AllReachable = 1
kind_number AllIsolated = 2
kind_number UserCross = 3
kind_number SystemIsolation = 4
kind_number Shadow = 5
kind_number Conflict = 6
kind_number Irrelevance = 7
