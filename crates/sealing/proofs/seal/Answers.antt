-- Zeros are put up to byte 509 and add nothing: so the sum is that of all before the checksum.
use mathlib.Core.Path.{◌≡◌, ap, ◌∙◌}
use mathlib.Core.List.{List, ◌++◌}
use Prim.Native.Nat.{ℕ, ◌-◌}
use native.Mathlib.Omega.{arith}
use lib.ListN.{length, take, drop, replicate, length-drop}
use borrow.Rule.Slice.PartMut.{same_len_mid}
use lib.Seq.{length-take-le}
use Rattle.std.proofs.lemmas.Slice.{take-put_mid}
use Rattle.sealing.proofs.SealingLaws.{filled-sealed}
use Rattle.sealing.proofs.seal.Goals as goal

pub returns : goal.returns
returns c =
    let d = c.args.block.now in
    let at = c.args.at in
    let n : length (take (510 - at) (drop at d)) ≡ 510 - at = length-take-le (510 - at) (drop at d) (omega (arith, length-drop at d)) in
    let zeros : c.fill.new.self ≡ replicate (510 - at) 0 = c.fill.ensures.after (λ y h. h) ∙ ap (λ (k : ℕ). replicate k 0) n in
    let long : length c.fill.new.self ≡ 510 - at = c.fill.ensures.len ∙ n in
    let front = take-put_mid at (510 - at) d c.fill.new.self 510 (omega arith) (omega arith) ∙ ap (λ (l : List ℕ). take at d ++ l) zeros in
    rw c.two_bytes.ensures (filled-sealed _ c.requires (same_len_mid at (510 - at) d _ c.fill.ensures.len ∙ c.requires.long) front)
