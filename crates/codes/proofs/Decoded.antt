-- Each number is read back by division: the refusal from the top byte, a finding and the counts from their fields.
use mathlib.Core.Path.{◌≡◌, refl, ap, ap₂, ◌∙◌}
use mathlib.Core.Bool.{Bool, true, false}
use mathlib.Core.List.{List, [], ◌∷◌, map}
use Prim.Native.Nat.{ℕ, zero, suc, ◌+◌, ◌*◌, ◌/◌, ◌%◌, ◌≤◌, ◌<◌}
use native.Mathlib.Omega.{arith}
use Rattle.block.specs.Entry.{Entry, container, policy}
use Rattle.block.specs.Reader.{entry_said}
use Rattle.model.specs.declared.Finding.{Finding}
use Rattle.model.specs.Findings.{Place, place_of, moved, finding_code}
use Rattle.model.specs.Calls.{ask_reaches, ask_user, next_finding, list_findings, counts, audit, write}
use Rattle.model.specs.Calls.{Call, open_with, change, admit, admit_batch, remove_container, remove_policy, rebuild, ask}
use Rattle.model.specs.Calls.{Answer, refusal, done, container_at, policy_at, says, found, no_finding, findings_put, counted, file_put, batch_put, pairs_of, written}
use Rattle.model.specs.Batch.{tallied}
use Rattle.model.proofs.Lists.{All}
use Rattle.findings.proofs.Walk.{SmallPlace}
use Rattle.codes.specs.Codes.{refusal_code, counts_code, truth_code, code_of}

-- ---- the answer that a number says

-- what stands in the top byte, where nothing was written
unfoldable pub top_byte : List ℕ → ℕ → ℕ
top_byte [] n = n / 72057594037927936
top_byte (x ∷ w) n = 0

unfoldable pub finding_of : ℕ → Finding
finding_of n = record { kind = n / 4294967296; a = n / 65536 % 65536; b = n % 65536 }

unfoldable pub counted_of : ℕ → Answer
counted_of n = counted (n % 65536) (n / 65536 % 65536) (n / 4294967296)

abbrev pub found_of : ℕ → Answer
found_of zero = no_finding
found_of (suc n) = found (finding_of (suc n)) (place_of (finding_of (suc n)))

abbrev pub truth_of : ℕ → Bool
truth_of zero = false
truth_of (suc n) = true

abbrev pub slot_of : Entry → ℕ → Answer
slot_of (container x) n = container_at n
slot_of (policy p) n = policy_at n

-- where the call was accepted
abbrev pub accepted_as : Call → List ℕ → ℕ → Answer
accepted_as (open_with b) w n = done
accepted_as (change (admit b)) w n = slot_of (entry_said b) n
accepted_as (change (admit_batch bs k t)) w n = batch_put (pairs_of w) (tallied t (pairs_of w))
accepted_as (change (remove_container c)) w n = done
accepted_as (change (remove_policy q)) w n = done
accepted_as (change rebuild) w n = done
accepted_as (ask (ask_reaches a b)) w n = says (truth_of n)
accepted_as (ask (ask_user c v)) w n = says (truth_of n)
accepted_as (ask (next_finding c)) w n = found_of n
accepted_as (ask (list_findings c k)) w n = findings_put w (moved c (map finding_of w))
accepted_as (ask counts) w n = counted_of n
accepted_as (ask audit) w n = says (truth_of n)
accepted_as (ask (write k)) w n = file_put w

-- the refusal of that number at p, or a where it is 0
abbrev pub refusal_or : ℕ → ℕ → Answer → Answer
refusal_or zero p a = a
refusal_or (suc n) p a = refusal (suc n) p

-- what stands in the low 16 bits
unfoldable pub low_bits : ℕ → ℕ
low_bits n = n % 65536

-- the call's answer, by what was written and the number
abbrev pub decoded : Call → List ℕ → ℕ → Answer
decoded call w n = refusal_or (top_byte w n) (low_bits n) (accepted_as call w n)

-- ---- the answers that their numbers say

-- the number of a, which says x where the call was accepted, says a
abbrev pub Decodes : Answer → Answer → Type 0
Decodes x a = refusal_or (top_byte (written a) (code_of a)) (low_bits (code_of a)) x ≡ a

module _ (n p : ℕ) (few : p ≤ 510) where
  top-refusal : top_byte [] (code_of (refusal n p)) ≡ n
  unfolding top_byte refusal_code
  top-refusal = omega arith

  low-refusal : low_bits (code_of (refusal n p)) ≡ p
  unfolding low_bits refusal_code
  low-refusal = omega arith

  pub decodes-refusal : (x : Answer) → 0 < n → Decodes x (refusal n p)
  decodes-refusal x h = ap₂ (λ k q. refusal_or k q x) top-refusal low-refusal ∙ pick n h
    where
      pick : (k : ℕ) → 0 < k → refusal_or k p x ≡ refusal k p
      pick zero h = absurd (omega arith)
      pick (suc k) h = refl

-- of an accepted call: its number is below the top byte, or something was written
pub decodes-accepted : (x a : Answer) → top_byte (written a) (code_of a) ≡ 0 → x ≡ a → Decodes x a
decodes-accepted x a t e = ap (λ k. refusal_or k (low_bits (code_of a)) x) t ∙ e

top_small : (n : ℕ) → n < 72057594037927936 → top_byte [] n ≡ 0
unfolding top_byte
top_small n h = omega arith

pub top-zero : (w : List ℕ) → top_byte w 0 ≡ 0
unfolding top_byte
top-zero [] = omega arith
top-zero (x ∷ w) = refl

pub top-done : top_byte [] (code_of done) ≡ 0
top-done = top_small (code_of done) (omega arith)

pub top-none : top_byte [] (code_of no_finding) ≡ 0
top-none = top_small (code_of no_finding) (omega arith)

pub top-container : (c : ℕ) → c < 256 → top_byte [] (code_of (container_at c)) ≡ 0
top-container c h = top_small c (omega arith)

pub top-policy : (q : ℕ) → q < 128 → top_byte [] (code_of (policy_at q)) ≡ 0
top-policy q h = top_small q (omega arith)

pub top-truth : (t : Bool) → top_byte [] (code_of (says t)) ≡ 0
top-truth true = top_small (truth_code true) (omega arith)
top-truth false = top_small (truth_code false) (omega arith)

pub truth-back : (t : Bool) → truth_of (code_of (says t)) ≡ t
truth-back true = refl
truth-back false = refl

-- ---- findings

-- a finding whose number says it, and is not 0
pub record InRange (g : Finding) : Type 0 where
  pub some : 0 < g.kind
  pub small : SmallPlace (place_of g)

module _ (g : Finding) (c : Place) (i : InRange g) where
  pub top-found : top_byte [] (code_of (found g c)) ≡ 0
  unfolding finding_code
  top-found = top_small (code_of (found g c)) (omega (arith, i.small.small_kind, i.small.small_a, i.small.small_b))

  finding-back : finding_of (code_of (found g c)) ≡ g
  unfolding finding_of finding_code
  finding-back =
      let n = code_of (found g c) in
      let x : n / 4294967296 ≡ g.kind = omega (arith, i.small.small_a, i.small.small_b) in
      let y : n / 65536 % 65536 ≡ g.a = omega (arith, i.small.small_a, i.small.small_b) in
      let z : n % 65536 ≡ g.b = omega (arith, i.small.small_a, i.small.small_b) in
      λ j. record { kind = x j; a = y j; b = z j }

  -- no finding's number is that of none
  found_some : 0 < code_of (found g c)
  unfolding finding_code
  found_some = omega (arith, i.some)

pub none-back : found_of (code_of no_finding) ≡ no_finding
none-back = refl

pub found_back : (g : Finding) → InRange g → found_of (code_of (found g (place_of g))) ≡ found g (place_of g)
found_back g i = pick (code_of (found g (place_of g))) (found_some g (place_of g) i) ∙ ap (λ x. found x (place_of x)) (finding-back g (place_of g) i)
  where
    pick : (n : ℕ) → 0 < n → found_of n ≡ found (finding_of n) (place_of (finding_of n))
    pick zero h = absurd (omega arith)
    pick (suc n) h = refl

pub findings-back : (l : List Finding) → All InRange l → map finding_of (map finding_code l) ≡ l
findings-back [] t = refl
findings-back (g ∷ l) t = ap₂ ◌∷◌ (finding-back g (place_of g) t.0) (findings-back l t.1)

pub top-put : (l : List Finding) (c : Place) → top_byte (written (findings_put (map finding_code l) c)) (code_of (findings_put (map finding_code l) c)) ≡ 0
unfolding top_byte
top-put [] c = omega arith
top-put (g ∷ l) c = refl

-- ---- a file

pub top-file : (w : List ℕ) → top_byte (written (file_put w)) (code_of (file_put w)) ≡ 0
unfolding top_byte
top-file [] = omega arith
top-file (x ∷ w) = refl

-- ---- counts

low_field : (q n : ℕ) → q < 65536 → (q + n * 65536) % 65536 ≡ q
low_field q n h = omega arith

module _ (c q n : ℕ) (h : c ≤ 256) (k : q ≤ 128) (l : n ≤ 65536) where
  pub top-counted : top_byte [] (code_of (counted c q n)) ≡ 0
  unfolding counts_code
  top-counted = top_small (code_of (counted c q n)) (omega arith)

  pub counted_back : counted_of (code_of (counted c q n)) ≡ counted c q n
  unfolding counted_of counts_code
  counted_back =
      let v = code_of (counted c q n) in
      let x : v % 65536 ≡ c = omega arith in
      let u : v / 65536 ≡ q + n * 65536 = omega arith in
      let y : v / 65536 % 65536 ≡ q = ap (λ k. k % 65536) u ∙ low_field q n (omega arith) in
      let z : v / 4294967296 ≡ n = omega arith in
      λ j. counted (x j) (y j) (z j)
