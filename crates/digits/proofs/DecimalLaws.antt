-- A number's digits are its decimal.
use mathlib.Core.Path.{◌≡◌, refl, sym, ap, ◌∙◌, subst}
use mathlib.Core.Bool.{Bool, cond}
use mathlib.Core.List.{List, [], ◌∷◌, ◌++◌}
use Prim.Native.Nat.{ℕ, zero, suc, ◌+◌, ◌/◌, ◌%◌, ◌^◌, ◌≤◌, ◌<◌}
use native.Mathlib.Omega.{arith}
use native.Mathlib.Nat.{pow-zero, pow-succ'}
use lib.ListN.{length, set, length-append}
use borrow.Author.Tests.{lt-ltb, le-ltb}
use Rattle.buffer.specs.Buffer.{Puts}
use Rattle.buffer.proofs.BufferLaws.{puts_none, puts-size, puts-next, puts-as}
use Rattle.store.proofs.Cases.{by-ltb}
use Rattle.digits.specs.Decimal.{decimal_by, decimal}

-- one digit
one-digit : (f n : ℕ) → n < 10 → decimal_by f n ≡ (48 + n) ∷ []
one-digit zero n l = let e : 48 + n % 10 ≡ 48 + n = omega arith in ap (λ (x : ℕ). x ∷ []) e
one-digit (suc f) n l = ap (λ (t : Bool). cond t ((48 + n) ∷ []) (decimal_by f (n / 10) ++ (48 + n % 10) ∷ [])) (lt-ltb n 10 l)

-- more than one, and the last of them taken off
more-digits : (f n : ℕ) → 10 ≤ n → decimal_by (suc f) n ≡ decimal_by f (n / 10) ++ (48 + n % 10) ∷ []
more-digits f n l = ap (λ (t : Bool). cond t ((48 + n) ∷ []) (decimal_by f (n / 10) ++ (48 + n % 10) ∷ [])) (le-ltb n 10 l)

-- ---- how many digits a number has

short-by : (f k n : ℕ) → n < 10 ^ suc k → length (decimal_by f n) ≤ suc k
short-by zero k n h = omega arith
short-by (suc f) zero n h = subst (λ (l : List ℕ). length l ≤ 1) (sym (one-digit (suc f) n (omega (arith, h)))) (omega arith)
short-by (suc f) (suc k) n h =
    by-ltb (λ t. length (cond t ((48 + n) ∷ []) (decimal_by f (n / 10) ++ (48 + n % 10) ∷ [])) ≤ suc (suc k)) n 10 (λ l. omega arith)
    (λ l. omega (arith, short-by f k (n / 10) (omega (arith, h, pow-succ' 10 (suc k))), length-append (decimal_by f (n / 10)) ((48 + n % 10) ∷ [])))

pub decimal-short : (k n : ℕ) → n < 10 ^ suc k → length (decimal n) ≤ suc k
unfolding decimal
decimal-short = short-by 19

-- a number of 64 bits has 20 digits at most
pub within_20 : (n : ℕ) → n < 2 ^ 64 → length (decimal n) ≤ 20
within_20 n h = decimal-short 19 n (omega (arith, h))

-- ---- numbers of any length, the last digit apart

-- one turn more is not used
more-fuel : (f n : ℕ) → n < 10 ^ suc f → decimal_by (suc f) n ≡ decimal_by f n
more-fuel zero n h = let l : n < 10 = omega (arith, h, pow-succ' 10 0, pow-zero 10) in one-digit 1 n l ∙ sym (one-digit 0 n l)
more-fuel (suc f) n h =
    by-ltb (λ t. cond t ((48 + n) ∷ []) (decimal_by (suc f) (n / 10) ++ (48 + n % 10) ∷ []) ≡ cond t ((48 + n) ∷ []) (decimal_by f (n / 10) ++ (48 + n % 10) ∷ [])) n 10 (λ l. refl)
    (λ l. ap (λ (x : List ℕ). x ++ (48 + n % 10) ∷ []) (more-fuel f (n / 10) (omega (arith, h, pow-succ' 10 (suc f)))))

pub decimal-more : (n : ℕ) → 10 ≤ n → n < 2 ^ 64 → decimal n ≡ decimal (n / 10) ++ (48 + n % 10) ∷ []
unfolding decimal
decimal-more n l h = more-digits 18 n l ∙ ap (λ (x : List ℕ). x ++ (48 + n % 10) ∷ []) (sym (more-fuel 18 (n / 10) (omega (arith, h))))

-- ---- what is put for a number of up to three digits

pub decimal-one : (n : ℕ) → n < 10 → decimal n ≡ (48 + n) ∷ []
unfolding decimal
decimal-one = one-digit 19

pub decimal-two : (n : ℕ) → 10 ≤ n → n < 100 → decimal n ≡ (48 + n / 10) ∷ (48 + n % 10) ∷ []
decimal-two n l h = decimal-more n l (omega arith) ∙ ap (λ (x : List ℕ). x ++ (48 + n % 10) ∷ []) (decimal-one (n / 10) (omega arith))

pub decimal-three : (n : ℕ) → 100 ≤ n → n < 1000 → decimal n ≡ (48 + n / 100) ∷ (48 + n / 10 % 10) ∷ (48 + n % 10) ∷ []
decimal-three n l h =
    let e : n / 10 / 10 ≡ n / 100 = omega arith in
    decimal-more n (omega arith) (omega arith) ∙ ap (λ (x : List ℕ). x ++ (48 + n % 10) ∷ []) (decimal-two (n / 10) (omega arith) (omega arith))
    ∙ ap (λ (k : ℕ). (48 + k) ∷ (48 + n / 10 % 10) ∷ (48 + n % 10) ∷ []) e

pub one-long : (n : ℕ) → n < 10 → length (decimal n) ≡ 1
one-long n h = ap length (decimal-one n h)

pub two-long : (n : ℕ) → 10 ≤ n → n < 100 → length (decimal n) ≡ 2
two-long n l h = ap length (decimal-two n l h)

pub three-long : (n : ℕ) → 100 ≤ n → n < 1000 → length (decimal n) ≡ 3
three-long n l h = ap length (decimal-three n l h)

pub more-long : (n : ℕ) → 10 ≤ n → n < 2 ^ 64 → length (decimal n) ≡ length (decimal (n / 10)) + 1
more-long n l h = ap length (decimal-more n l h) ∙ length-append (decimal (n / 10)) ((48 + n % 10) ∷ [])

module _ {d : List ℕ} where
  put_first : (a : ℕ) → 0 < length d → Puts d 0 (a ∷ []) (set d 0 a) 1
  put_first a h = puts-next (puts_none (omega arith)) a h

  put_next : {t e : List ℕ} {k : ℕ} (b : ℕ) → Puts d 0 t e k → k < length d → Puts d 0 (t ++ b ∷ []) (set e k b) (k + 1)
  put_next b g h = puts-next g b (omega (arith, h, puts-size g))

  pub put-one : {n : ℕ} → n < 10 → 0 < length d → Puts d 0 (decimal n) (set d 0 (48 + n)) 1
  put-one {n} l h = puts-as (put_first (48 + n) h) (sym (decimal-one n l))

  pub put-two : {n : ℕ} → 10 ≤ n → n < 100 → 1 < length d → Puts d 0 (decimal n) (set (set d 0 (48 + n / 10)) 1 (48 + n % 10)) 2
  put-two {n} l m h = puts-as (put_next (48 + n % 10) (put_first (48 + n / 10) (omega arith)) h) (sym (decimal-two n l m))

  pub put-three : {n : ℕ} → 100 ≤ n → n < 1000 → 2 < length d → Puts d 0 (decimal n) (set (set (set d 0 (48 + n / 100)) 1 (48 + n / 10 % 10)) 2 (48 + n % 10)) 3
  put-three {n} l m h =
      puts-as (put_next (48 + n % 10) (put_next (48 + n / 10 % 10) (put_first (48 + n / 100) (omega arith)) (omega arith)) h) (sym (decimal-three n l m))

  pub put-more : {n : ℕ} {e : List ℕ} {k : ℕ} → Puts d 0 (decimal (n / 10)) e k → 10 ≤ n → n < 2 ^ 64 → k < length d → Puts d 0 (decimal n) (set e k (48 + n % 10)) (k + 1)
  put-more {n} g l h r = puts-as (put_next (48 + n % 10) g r) (sym (decimal-more n l h))

pub ruleset decimals = (one-long, two-long, three-long, more-long, put-one, put-two, put-three, put-more)
