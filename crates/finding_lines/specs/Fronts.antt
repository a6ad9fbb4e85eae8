-- What the line of a finding begins with.
use Rattle.std.specs.Prelude.{◌≡◌, List, ◌++◌, ℕ, ◌-◌, ◌/◌, ◌%◌, ◌≤◌, length, take, drop}
use Rattle.digits.specs.Decimal.{decimal, ended}
use Rattle.text.specs.Text.{space}
use Rattle.finding_lines.specs.declared.Front.{Front}

-- a kind and an a, given as one number, with a space after each
unfoldable pub front_text : ℕ → List ℕ
front_text p = ended (decimal (p / 65536)) space ++ ended (decimal (p % 65536)) space

-- f holds the front of its kind and its a
pub record HoldsFront (f : Front) : Type 0 where
  pub size : f.length ≡ length (front_text f.pair)
  pub sizes : (4 ≤ f.length) × (f.length ≤ 6)
  pub first : f.first ≡ take 4 (front_text f.pair)
  pub last : f.last ≡ drop (f.length - 4) (front_text f.pair)
