-- A call that is made again where it failed.
use Rattle.std.specs.Prelude.{Result, Err}

-- calls that failed, and then one whose result is r
pub data Settles {F T E : Type 0} (step : F → Result T E → F → Type 0) : F → Result T E → F → Type 0 where
  at_once : {p q : F} {r : Result T E} → step p r q → Settles step p r q
  later : {p q s : F} {e : E} {r : Result T E} → step p (Err e) q → Settles step q r s → Settles step p r s
