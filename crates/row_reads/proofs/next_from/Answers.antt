-- A word with a bit left ends the search, and one with none moves it to the next word.
use Rattle.std.proofs.Common.{◌≡◌, sym, ap, ◌∙◌, arith, rules, List, ℕ, ◌+◌, ◌*◌, ◌/◌, ◌%◌, ◌^◌, ◌<◌, ◌≤◌, max, get_or, Some}
use Rattle.std.specs.Int.Count.{count_trailing_zeros}
use Rattle.bitrow.specs.Bit.{bit_at, Row}
use Rattle.bitrow.specs.Set.{lowest_from}
use Rattle.bitrow.proofs.Searches.{at-lowest, nothing-lowest, lowest-skip}
use Rattle.bitrow.proofs.Rows.{rest-lowest, rest-clear}
use Rattle.row_reads.proofs.next_from.Goals as goal

-- word k of the row from the number m on, which is in it
module _ (r : List ℕ) (k m : ℕ) (e : k ≡ m / 64) where
  hit : Row r → m < 256 → 0 < get_or r k 0 / 2 ^ (m % 64) → lowest_from (bit_at r) m ≡ Some (m + count_trailing_zeros 64 (get_or r k 0 / 2 ^ (m % 64)))
  hit p h z = rw e (at-lowest (bit_at r) m _ (rest-lowest r m p h (rw e at z)))

  miss : (n : ℕ) → m ≤ n → n ≤ 64 * (k + 1) → get_or r k 0 / 2 ^ (m % 64) ≤ 0 → lowest_from (bit_at r) m ≡ lowest_from (bit_at r) n
  miss n h l z =
      let z0 : get_or r k 0 / 2 ^ (m % 64) ≡ 0 = omega arith in
      lowest-skip (bit_at r) m n h (λ j a b. rest-clear r m (rw e at z0) j a (omega arith))

pub loop-k-init : goal.loop-k-init
loop-k-init c =
    let e : c.args.i ≡ max c.args.i (64 * (c.args.i / 64)) = omega arith in
    ap (lowest_from (bit_at c.args.row)) e

pub returns-then-rest-gt0 : goal.returns-then-rest-gt0
returns-then-rest-gt0 c =
    let m = c.max-from in
    let s = lowest_from (bit_at c.args.row) in
    sym (c.loop-k.invariant ∙ sym (ap s m.ensures) ∙ hit c.args.row c.loop-k.k m.result (omega arith) (search rules) (omega arith) c.if-rest-gt0.true)

pub loop-k-preserved : goal.loop-k-preserved
loop-k-preserved c =
    let m = c.max-from in
    let s = lowest_from (bit_at c.args.row) in
    c.loop-k.invariant ∙ sym (ap s m.ensures) ∙ miss c.args.row c.loop-k.k m.result (omega arith) _ (omega arith) (omega arith) c.if-rest-gt0.false

pub returns : goal.returns
returns c =
    sym (c.loop-k.invariant ∙ nothing-lowest _ _ (λ k a b. absurd (omega arith)))
