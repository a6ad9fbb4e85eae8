-- The definitions at numbers that are written out.
use mathlib.Core.Path.{◌≡◌, refl}
use mathlib.Core.Bool.{true, false}
use mathlib.Core.List.{List, [], ◌∷◌}
use Prim.Native.Nat.{ℕ}
use Rattle.std.specs.Prelude.{Some, None}
use Rattle.bitrow.specs.Bit.{bit, bit_at}
use Rattle.bitrow.specs.Set.{less, some, has_some, part, equal, size, first_of, lowest_from}

-- the numbers 0, 2 and 255
row : List ℕ
row = 5 ∷ 0 ∷ 0 ∷ 9223372036854775808 ∷ []

highest : bit_at row 255 ≡ true
unfolding row bit_at bit
highest = refl

absent : bit_at row 1 ≡ false
unfolding row bit_at bit
absent = refl

three : size (bit_at row) 256 ≡ 3
unfolding row bit_at bit size
three = refl

start-counts : lowest_from (bit_at row) 2 ≡ Some 2
unfolding row bit_at bit lowest_from first_of
start-counts = refl

far : lowest_from (bit_at row) 3 ≡ Some 255
unfolding row bit_at bit lowest_from first_of
far = refl

past_all : lowest_from (bit_at row) 256 ≡ None
unfolding row bit_at bit lowest_from first_of
past_all = refl

fewer : part (bit_at (4 ∷ 0 ∷ 0 ∷ 0 ∷ [])) (bit_at row) ≡ true
unfolding row bit_at bit less some has_some part
fewer = refl

more : equal (bit_at (4 ∷ 0 ∷ 0 ∷ 0 ∷ [])) (bit_at row) ≡ false
unfolding row bit_at bit less some has_some part equal
more = refl
