-- No two cases of an answer say the same; and a call that is refused, or that asks, leaves every word as it was.
use mathlib.Core.Path.{◌≡◌, refl, sym, ap, ap₂, ◌∙◌}
use mathlib.Core.Bool.{Bool, false}
use mathlib.Core.List.{List, [], ◌∷◌}
use Prim.Native.Nat.{ℕ}
use native.Mathlib.Nat.{zero-add}
use lib.ListN.{length, get_or}
use Rattle.model.specs.Findings.{Place}
use Rattle.buffer.specs.Buffer.{overwritten, Puts}
use Rattle.buffer.proofs.BufferLaws.{puts-start}
use Rattle.model.specs.Calls.{Call, Answer, refusal, refusal_of, written}
use Rattle.steps.specs.MemoryStep.{changes, memory_step}
use Rattle.steps.proofs.Refused.{refused-unchanged, query-unchanged}
use Rattle.findings.specs.declared.Cursor.{Cursor}
use Rattle.findings.specs.Steps.{cursor_place}
use Rattle.std.specs.Prelude.{Option, Some, None, Result, Ok, Err, IsErrAnd, ok_or}
use Rattle.std.proofs.lemmas.Result.{err_from_is_err_and}
use Rattle.block.specs.declared.Reason.{Reason}
use Rattle.block.specs.declared.Refusal.{Refusal}
use Rattle.block.specs.declared.Reason.TheVariants.{MemorySize, NotWellFormed, BlockLength, Checksum, Kind, Limit, Range, Order, Unused, BeyondTable, FreeSlot, TableFull, BufferLength, BatchLength}
use Rattle.block.specs.Refusal.{reason_number}
use Rattle.model.specs.declared.Finding.{Finding}
use Rattle.findings.specs.declared.Put.{Put}
use Rattle.answers.specs.declared.Admitted.{Admitted}
use Rattle.answers.specs.declared.Admitted.TheVariants as admitted
use Rattle.answers.specs.declared.Counts.{Counts}
use Rattle.answers.specs.Answers.{open_answer, outcome_answer, reply_answer, admitted_answer, next_answer, put_answer, count_put, counted_answer, file_answer, count_bytes}

-- ---- no two say the same

-- the reasons by number, from 0 on
abbrev reasons : List Reason
reasons =
    MemorySize
    ∷ MemorySize
    ∷ NotWellFormed
    ∷ BlockLength
    ∷ Checksum
    ∷ Kind
    ∷ Limit
    ∷ Range
    ∷ Order
    ∷ Unused
    ∷ BeyondTable
    ∷ FreeSlot
    ∷ TableFull
    ∷ BufferLength
    ∷ BatchLength
    ∷ []

abbrev reason_numbered : ℕ → Reason
reason_numbered n = get_or reasons n MemorySize

reason-back : (r : Reason) → reason_numbered (reason_number r) ≡ r
reason-back MemorySize = refl
reason-back NotWellFormed = refl
reason-back BlockLength = refl
reason-back Checksum = refl
reason-back Kind = refl
reason-back Limit = refl
reason-back Range = refl
reason-back Order = refl
reason-back Unused = refl
reason-back BeyondTable = refl
reason-back FreeSlot = refl
reason-back TableFull = refl
reason-back BufferLength = refl
reason-back BatchLength = refl

reason-injective : (r s : Reason) → reason_number r ≡ reason_number s → r ≡ s
reason-injective r s e = sym (reason-back r) ∙ ap reason_numbered e ∙ reason-back s

-- the reason that a refusal says
refused-alike : {A : Type 0} (r s : Reason) → refusal (reason_number r) 0 ≡ refusal (reason_number s) 0 → ◌≡◌ {A = Result A Reason} (Err r) (Err s)
refused-alike r s e = let h : reason_number r ≡ reason_number s = cc in ap Err (reason-injective r s h)

-- the reason and the position that a refusal says
refusal-alike : {A : Type 0} (f g : Refusal) → refusal_of f ≡ refusal_of g → ◌≡◌ {A = Result A Refusal} (Err f) (Err g)
refusal-alike f g e =
    let h : reason_number f.reason ≡ reason_number g.reason = cc in
    let p : f.position ≡ g.position = cc in
    ap₂ (λ r q. Err (record { reason = r; position = q })) (reason-injective f.reason g.reason h) p

open-injective : (x y : Result (Unit {0}) Refusal) → open_answer x ≡ open_answer y → x ≡ y
open-injective (Err f) (Err g) e = refusal-alike f g e
open-injective (Err f) (Ok v) e = cc
open-injective (Ok u) (Err g) e = cc
open-injective (Ok u) (Ok v) e = refl

outcome-injective : (x y : Result (Unit {0}) Reason) → outcome_answer x ≡ outcome_answer y → x ≡ y
outcome-injective (Err r) (Err s) e = refused-alike r s e
outcome-injective (Err r) (Ok v) e = cc
outcome-injective (Ok u) (Err s) e = cc
outcome-injective (Ok u) (Ok v) e = refl

reply-injective : (x y : Result Bool Reason) → reply_answer x ≡ reply_answer y → x ≡ y
reply-injective (Err r) (Err s) e = refused-alike r s e
reply-injective (Err r) (Ok t) e = cc
reply-injective (Ok t) (Err s) e = cc
reply-injective (Ok t) (Ok u) e = cc

admitted-injective : (x y : Result Admitted Refusal) → admitted_answer x ≡ admitted_answer y → x ≡ y
admitted-injective (Err f) (Err g) e = refusal-alike f g e
admitted-injective (Err r) (Ok (admitted.Container d)) e = cc
admitted-injective (Err r) (Ok (admitted.Policy t)) e = cc
admitted-injective (Ok (admitted.Container c)) (Err s) e = cc
admitted-injective (Ok (admitted.Container c)) (Ok (admitted.Container d)) e =
    let h : c.0 ≡ d.0 = cc in
    ap (λ i. Ok (admitted.Container (record { 0 = i }))) h
admitted-injective (Ok (admitted.Container c)) (Ok (admitted.Policy t)) e = cc
admitted-injective (Ok (admitted.Policy q)) (Err s) e = cc
admitted-injective (Ok (admitted.Policy q)) (Ok (admitted.Container d)) e = cc
admitted-injective (Ok (admitted.Policy q)) (Ok (admitted.Policy t)) e =
    let h : q.0 ≡ t.0 = cc in
    ap (λ i. Ok (admitted.Policy (record { 0 = i }))) h

-- the cursor that stands at a place
abbrev cursor_at : Place → Cursor
cursor_at p = record { kind = p.kind; a = p.a; b = p.b }

next-injective : (x y : Result (Option (Finding × Cursor)) Reason) → next_answer x ≡ next_answer y → x ≡ y
next-injective (Err r) (Err s) e = refused-alike r s e
next-injective (Err r) (Ok (Some h)) e = cc
next-injective (Err r) (Ok None) e = cc
next-injective (Ok (Some g)) (Err s) e = cc
next-injective (Ok (Some g)) (Ok (Some h)) e =
    let f : g.0 ≡ h.0 = cc in
    let p : cursor_place g.1 ≡ cursor_place h.1 = cc in
    ap₂ (λ g q. Ok (Some (g, cursor_at q))) f p
next-injective (Ok (Some g)) (Ok None) e = cc
next-injective (Ok None) (Err s) e = cc
next-injective (Ok None) (Ok (Some h)) e = cc
next-injective (Ok None) (Ok None) e = cc

-- whatever the lists that the findings were put into
put-injective : (x y : Result Put Reason) (d e : List ℕ) → put_answer x d ≡ put_answer y e → count_put x ≡ count_put y → x ≡ y
put-injective (Err r) (Err s) d e h k = refused-alike r s h
put-injective (Err r) (Ok q) d e h k = cc
put-injective (Ok p) (Err s) d e h k = cc
put-injective (Ok p) (Ok q) d e h k =
    let c : cursor_place p.cursor ≡ cursor_place q.cursor = cc in
    ap₂ (λ n r. Ok (record { count = n; cursor = cursor_at r })) k c

counted-injective : (x y : Result Counts Reason) → counted_answer x ≡ counted_answer y → x ≡ y
counted-injective (Err r) (Err s) e = refused-alike r s e
counted-injective (Err r) (Ok c) e = cc
counted-injective (Ok c) (Err s) e = cc
counted-injective (Ok c) (Ok d) e =
    let x : c.containers ≡ d.containers = cc in
    let y : c.policies ≡ d.policies = cc in
    let z : c.pairs ≡ d.pairs = cc in
    λ j. Ok (record { containers = x j; policies = y j; pairs = z j })

-- whatever the buffers that the file was put into
file-injective : (x y : Result ℕ Reason) (d e : List ℕ) → file_answer x d ≡ file_answer y e → count_bytes x ≡ count_bytes y → x ≡ y
file-injective (Err r) (Err s) d e h k = refused-alike r s h
file-injective (Err r) (Ok j) d e h k = cc
file-injective (Ok i) (Err s) d e h k = cc
file-injective (Ok i) (Ok j) d e h k = ap Ok k

-- ---- what a `?` returns

pub returned : {A E : Type 0} {o : Result A E} {r : E} → IsErrAnd o (λ x. x ≡ r) → o ≡ Err r
returned {A} {E} {o} h = let e = err_from_is_err_and o h in e.1 ∙ ap Err e.2

-- what a `?` makes of the reason that an `ok_or` gives
pub ok_or-reason : {A B E F : Type 0} (into : E → F) (o : Result A F) (q : Option B) (s : E) {r : E} → IsErrAnd o (λ x. x ≡ into r) → Err r ≡ ok_or q s → IsErrAnd o (λ x. x ≡ into s)
ok_or-reason into (Err x) None s {r} h e = let k : r ≡ s = cc in h ∙ ap into k
ok_or-reason into (Err x) (Some b) s h e = cc
ok_or-reason into (Ok y) q s h e = h

-- a call that is refused, and whose answer says so
pub turned : {A E : Type 0} (m : List ℕ) (call : Call) (say : Result A E → Answer) {o : Result A E} {r : E} → IsErrAnd o (λ x. x ≡ r)
    → memory_step m call ≡ (m, say (Err r)) → (m, say o) ≡ memory_step m call
turned m call say h e = ap (λ x. (m, say x)) (returned h) ∙ sym e

-- ---- calls that write into another buffer that they are lent

module _ (m : List ℕ) (call : Call) where
  -- what such a call promises: of its answer, of how much it wrote, and of the buffer d, which it leaves as e
  abbrev pub Promised : List ℕ → List ℕ → Answer → ℕ → Type 0
  Promised d e a k =
      let s = memory_step m call in
      ((m, a) ≡ s) × ((k ≡ length (written s.1)) × (e ≡ overwritten d (written s.1)))

  pub promised-refused : (d : List ℕ) (n p : ℕ) → memory_step m call ≡ (m, refusal n p) → Promised d d (refusal n p) 0
  unfolding overwritten
  promised-refused d n p h = (sym h, (ap (λ s. length (written s.1)) (sym h), ap (λ s. overwritten d (written s.1)) (sym h)))

  pub promised-turned : {A : Type 0} (say : Result A Reason → Answer) (count : Result A Reason → ℕ) {o : Result A Reason} {r : Reason} (d : List ℕ) → IsErrAnd o (λ x. x ≡ r)
      → say (Err r) ≡ refusal (reason_number r) 0 → count (Err r) ≡ 0 → memory_step m call ≡ (m, refusal (reason_number r) 0) → Promised d d (say o) (count o)
  promised-turned say count {o} {r} d h q z e =
      let p = promised-refused d (reason_number r) 0 e in
      let w = returned h in
      (ap (λ x. (m, say x)) w ∙ ap (λ (x : Answer). (m, x)) q ∙ p.0, (ap count w ∙ z ∙ p.1.0, p.1.1))

  pub promised-put : {d e : List ℕ} {k : ℕ} (a b : Answer) → a ≡ b → memory_step m call ≡ (m, b) → Puts d 0 (written b) e k → Promised d e a k
  promised-put {d} {e} {k} a b q h g = (
    ap (λ (x : Answer). (m, x)) q ∙ sym h,
    (g.stops ∙ zero-add _ ∙ ap (λ s. length (written s.1)) (sym h), puts-start g ∙ ap (λ s. overwritten d (written s.1)) (sym h)),
  )

-- ---- what a call leaves alone

-- A call that promises `(memory at exit, answer) ≡ memory_step (memory at entry) call` and is refused, or asks, leaves every word
-- as it was.
module _ (m m' : List ℕ) (a : Answer) (call : Call) (promise : (m', a) ≡ memory_step m call) where
  pub refused-leaves : (n p : ℕ) → a ≡ refusal n p → m' ≡ m
  refused-leaves n p e = ap (λ (r : List ℕ × Answer). r.0) promise ∙ refused-unchanged m call n p (sym (ap (λ (r : List ℕ × Answer). r.1) promise) ∙ e)

  -- so of a list that it was lent besides
  pub refused-keeps : (d e : List ℕ) → e ≡ overwritten d (written (memory_step m call).1) → (n p : ℕ) → a ≡ refusal n p → e ≡ d
  unfolding overwritten
  refused-keeps d e h n p q = h ∙ ap (λ x. overwritten d (written x)) (sym (ap (λ (r : List ℕ × Answer). r.1) promise) ∙ q)

  pub query-leaves : changes call ≡ false → m' ≡ m
  query-leaves e = ap (λ (p : List ℕ × Answer). p.0) promise ∙ query-unchanged m call e
