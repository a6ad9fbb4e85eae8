-- What limits that hold tell.
use mathlib.Core.Path.{◌≡◌}
use mathlib.Core.Bool.{true}
use mathlib.Core.List.{List, [], ◌∷◌}
use Prim.Native.Nat.{ℕ, ◌≤◌}
use borrow.Author.Tests.{leb-true}
use Rattle.std.specs.Prelude.{None}
use Rattle.block.specs.Bytes.{byte_at}
use Rattle.block.specs.Fault.{unless, Field, field_fault}
use Rattle.block.specs.Reader.{container_layout, policy_layout}
use Rattle.block.proofs.Checks.{unless-none, or_else-none, within-bounds}

-- each of these fields fits
abbrev Fit : List Field → Type 0
Fit [] = Unit {0}
Fit (x ∷ xs) = (x.fits ≡ true) × Fit xs

fields-fit : (fs : List Field) → field_fault fs ≡ None → Fit fs
fields-fit [] e = tt
fields-fit (x ∷ xs) e =
    let s = or_else-none (unless x.fits x.at) (field_fault xs) e in
    ((unless-none x.fits x.at).0 s.0, fields-fit xs s.1)

pub container-count : (b : List ℕ) → field_fault (container_layout b).limits ≡ None → byte_at b 1 ≤ 8
unfolding container_layout
container-count b e = leb-true (byte_at b 1) 8 (fields-fit (container_layout b).limits e).0

pub record PolicyLimits (b : List ℕ) : Type 0 where
  pub low : 1 ≤ byte_at b 1
  pub high : byte_at b 1 ≤ 2
  pub select : byte_at b 2 ≤ 4
  pub allow : byte_at b 3 ≤ 4

pub policy-counts : (b : List ℕ) → field_fault (policy_layout b).limits ≡ None → PolicyLimits b
unfolding policy_layout
policy-counts b e =
    let f = fields-fit (policy_layout b).limits e in
    let w = within-bounds 1 2 (byte_at b 1) f.0 in
    record { low = w.0; high = w.1; select = leb-true (byte_at b 2) 4 f.1.0; allow = leb-true (byte_at b 3) 4 f.1.1.0 }
