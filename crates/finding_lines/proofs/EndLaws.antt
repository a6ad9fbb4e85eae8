-- The table of the last numbers, and what is copied of its entries.
use mathlib.Core.Path.{◌≡◌, refl, sym, ap, ◌∙◌}
use mathlib.Core.List.{List, [], ◌∷◌, ◌++◌}
use Prim.Native.Nat.{ℕ, ◌+◌, ◌-◌, ◌≤◌, ◌<◌}
use native.Mathlib.Omega.{arith}
use lib.ListN.{length, take, get_or, length-append}
use lib.Seq.{take-take, take_at}
use borrow.Rule.Slice.PartMut.{put_mid}
use Rattle.buffer.specs.Buffer.{Puts}
use Rattle.buffer.proofs.BufferLaws.{puts-lent}
use Rattle.store.specs.Contents.{tab}
use Rattle.store.proofs.Image.{get_or-tab}
use Rattle.digits.specs.Decimal.{decimal, ended}
use Rattle.digits.proofs.DecimalLaws.{one-long, two-long, three-long}
use Rattle.text.specs.Text.{newline}
use Rattle.finding_lines.specs.declared.ends.TheConstants.{ENDS}
use Rattle.finding_lines.specs.Ends.{padded_end}

-- every entry, by one computation
as-table : ENDS ≡ tab 256 padded_end
unfolding tab padded_end decimal
as-table = refl

pub entry : (b : ℕ) → b < 256 → get_or ENDS b [] ≡ padded_end b
entry b h = ap (λ t. get_or t b []) as-table ∙ get_or-tab 256 padded_end b [] h

-- the first n bytes of an entry, where the number has n - 1 digits
end-cut : (b n : ℕ) → length (decimal b) + 1 ≡ n → n ≤ 4 → take n (padded_end b) ≡ ended (decimal b) newline
unfolding padded_end
end-cut b n e h =
    take-take n 4 (ended (decimal b) newline ++ 0 ∷ 0 ∷ []) h
    ∙ take_at (ended (decimal b) newline) (0 ∷ 0 ∷ []) n (length-append (decimal b) (newline ∷ []) ∙ e)

-- and copied to the start of a buffer
end-put : (b n : ℕ) {d part : List ℕ} → part ≡ take n (padded_end b) → length (decimal b) + 1 ≡ n → n ≤ 4 → 4 ≤ length d
    → Puts d 0 (ended (decimal b) newline) (put_mid 0 (n - 0) d part) n
end-put b n {d} {part} p e h r =
    puts-lent 0 n (omega arith) (omega arith) (omega (arith, length-append (decimal b) (newline ∷ []))) (p ∙ end-cut b n e h)

pub end-one : (b : ℕ) → b < 10 → {d part : List ℕ} → part ≡ take 2 (padded_end b) → 4 ≤ length d → Puts d 0 (ended (decimal b) newline) (put_mid 0 2 d part) 2
end-one b h p r = end-put b 2 p (omega (arith, one-long b h)) (omega arith) r

pub end-two : (b : ℕ) → 10 ≤ b → b < 100 → {d part : List ℕ} → part ≡ take 3 (padded_end b) → 4 ≤ length d → Puts d 0 (ended (decimal b) newline) (put_mid 0 3 d part) 3
end-two b l h p r = end-put b 3 p (omega (arith, two-long b l h)) (omega arith) r

pub end-three : (b : ℕ) → 100 ≤ b → b < 256 → {d part : List ℕ} → part ≡ padded_end b → 4 ≤ length d → Puts d 0 (ended (decimal b) newline) (put_mid 0 4 d part) 4
unfolding padded_end
end-three b l h p r =
    end-put b 4 (p ∙ sym (take-take 4 4 (ended (decimal b) newline ++ 0 ∷ 0 ∷ []) (omega arith))) (omega (arith, three-long b l (omega arith))) (omega arith) r
