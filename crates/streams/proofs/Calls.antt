-- What each call does, and a call that failed and what follows it do together, the calls made again do.
use Rattle.std.proofs.Common.{Result, Err}
use Rattle.streams.specs.Calls.{Settles}
use Rattle.streams.specs.Calls.Settles.{at_once, later}

pub settled : {F T E : Type 0} {step : F → Result T E → F → Type 0} (Done : F → Result T E → F → Type 0)
    → ((p q : F) (r : Result T E) → step p r q → Done p r q)
    → ((p q s : F) (e : E) (r : Result T E) → Done p (Err e) q → Done q r s → Done p r s)
    → {p q : F} {r : Result T E} → Settles step p r q → Done p r q
settled Done once on (at_once x) = once _ _ _ x
settled Done once on (later x y) = on _ _ _ _ _ (once _ _ _ x) (settled Done once on y)
