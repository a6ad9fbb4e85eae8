-- What a piece of input does: bytes to the started block, and whole blocks to the registry.
use Rattle.std.specs.Prelude.{Bool, cond, not, ◌&&◌, List, [], ℕ, ◌+◌, ◌*◌, ◌-◌, ◌/◌, min, eqb, ltb, length, take}
use Rattle.std.proofs.Math.Seq.{paste}
use Rattle.block.specs.Cut.{blocks_of}
use Rattle.sheets.specs.declared.State.TheVariants.{Taking, Counting}
use Rattle.sheets.specs.Blocks.{Taken, taken, admits_all, end_of}
use Rattle.sheets.specs.Left.{Left, left}

-- ---- one block

-- how many bytes of a piece of n go to a started block of f
abbrev pub share : ℕ → ℕ → ℕ
share f n = min (512 - f) n

-- more is to come before the block of e bytes is whole
abbrev pub waits : ℕ → Bool → Bool
waits e ended = ltb e 512 && not ended

abbrev pub with_block : List ℕ → ℕ → Taken → Left
with_block k n x = left x.memory k x.text x.state n

-- after n blocks, where the buffer k holds e bytes of the next, c of them from the piece
unfoldable pub take_with : List ℕ → List ℕ → Bool → ℕ → ℕ → ℕ → Left
take_with m k ended n e c =
    cond (waits e ended) (left m k [] (Taking n e) c)
    (cond (eqb e 0) (left m k (end_of n).0 (end_of n).1 c)
    (with_block k c (taken m (take e k) n)))

-- One block at most. The number of the last block that is taken is the largest of 64 bits; then the input counts as ended.
unfoldable pub take_one : List ℕ → List ℕ → List ℕ → Bool → ℕ → ℕ → Left
take_one m k p ended n f =
    let c = share f (length p) in
    cond (eqb n 18446744073709551615) (left m k [] Counting 0) (take_with m (paste k f p c) ended n (f + c) c)

-- ---- several blocks

-- how many whole blocks a step takes at once of so many bytes, after n others: at most 128, no more than lines of 72 bytes find room,
-- and none beyond the last number of a block
unfoldable pub blocks_at_once : ℕ → ℕ → ℕ → ℕ
blocks_at_once room bytes n = min 128 (min (bytes / 512) (min (room / 72) (18446744073709551615 - n)))

-- after n blocks and f bytes of the next: the first of all, and one that is started, are taken alone
unfoldable pub whole_blocks : ℕ → ℕ → ℕ → ℕ → ℕ
whole_blocks room bytes n f = cond (eqb n 0) 0 (cond (eqb f 0) (blocks_at_once room bytes n) 0)

-- the first j blocks of a piece, after n others
abbrev pub take_several : List ℕ → List ℕ → List ℕ → ℕ → ℕ → Left
take_several m k p n j = let r = admits_all m n (blocks_of (take (512 * j) p)) in left r.0 k r.1 (Taking (n + j) 0) (512 * j)

-- ---- a step

-- room is the length of the buffer for the text
unfoldable pub take_step : List ℕ → List ℕ → List ℕ → Bool → ℕ → ℕ → ℕ → Left
take_step m k p ended room n f =
    let j = whole_blocks room (length p) n f in
    cond (eqb j 0) (take_one m k p ended n f) (take_several m k p n j)
