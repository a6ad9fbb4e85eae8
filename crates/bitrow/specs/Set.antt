-- Sets of numbers, each as the test of what is in it.
use Rattle.std.specs.Prelude.{◌≡◌, Bool, true, false, not, ◌&&◌, ◌||◌, cond, ℕ, zero, suc, ◌+◌, ◌-◌, ◌≤◌, ◌<◌, eqb, ltb, leb, Option, Some, None}

unfoldable pub nothing : ℕ → Bool
nothing j = false

-- the numbers below n
unfoldable pub under : ℕ → ℕ → Bool
under n j = ltb j n

-- the numbers from i on
unfoldable pub at_least : ℕ → ℕ → Bool
at_least i j = leb i j

unfoldable pub insert : ℕ → (ℕ → Bool) → ℕ → Bool
insert i s j = eqb j i || s j

unfoldable pub remove : ℕ → (ℕ → Bool) → ℕ → Bool
remove i s j = not (eqb j i) && s j

-- what is in both
unfoldable pub meet : (ℕ → Bool) → (ℕ → Bool) → ℕ → Bool
meet s t j = s j && t j

-- what is in either
unfoldable pub join : (ℕ → Bool) → (ℕ → Bool) → ℕ → Bool
join s t j = s j || t j

-- what is in s and not in t
unfoldable pub less : (ℕ → Bool) → (ℕ → Bool) → ℕ → Bool
less s t j = s j && not (t j)

-- s has no number from n on
pub record Bounded (n : ℕ) (s : ℕ → Bool) : Type 0 where
  pub clear : (j : ℕ) → n ≤ j → s j ≡ false

-- ---- tests

-- some number below n is in s
unfoldable pub some : (ℕ → Bool) → ℕ → Bool
some s zero = false
some s (suc n) = some s n || s n

-- some number below 256 is in s
unfoldable pub has_some : (ℕ → Bool) → Bool
has_some s = some s 256

-- all of s below 256 is in t
unfoldable pub part : (ℕ → Bool) → (ℕ → Bool) → Bool
part s t = not (has_some (less s t))

-- s and t have the same numbers below 256
unfoldable pub equal : (ℕ → Bool) → (ℕ → Bool) → Bool
equal s t = part s t && part t s

-- ---- sizes

-- 1 for true, 0 for false
abbrev pub one : Bool → ℕ
one true = 1
one false = 0

-- how many of the numbers below n are in s
unfoldable pub size : (ℕ → Bool) → ℕ → ℕ
size s zero = 0
size s (suc n) = size s n + one (s n)

-- ---- searches

-- the first of the n numbers i, i + 1, .. that is in s
unfoldable pub first_of : (ℕ → Bool) → ℕ → ℕ → Option ℕ
first_of s i zero = None
first_of s i (suc n) = let rest = first_of s (i + 1) n in cond (s i) (Some i) rest

-- the lowest number of s from i on and below 256
unfoldable pub lowest_from : (ℕ → Bool) → ℕ → Option ℕ
lowest_from s i = first_of s i (256 - i)

-- j is the lowest number of s from i on, and it is below n
pub record Lowest (s : ℕ → Bool) (i n j : ℕ) : Type 0 where
  pub from : i ≤ j
  pub below : j < n
  pub there : s j ≡ true
  pub before : (k : ℕ) → i ≤ k → k < j → s k ≡ false

-- what a search of s from i on and below n has to answer
abbrev pub Finds : (ℕ → Bool) → ℕ → ℕ → Option ℕ → Type 0
Finds s i n (Some j) = Lowest s i n j
Finds s i n None = (k : ℕ) → i ≤ k → k < n → s k ≡ false
