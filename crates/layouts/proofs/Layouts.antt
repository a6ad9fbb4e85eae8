-- Two runs and two ranges, of which one of each may be empty, say what the two layouts do.
use mathlib.Core.Path.{◌≡◌, refl, sym, ap, ◌∙◌}
use mathlib.Core.List.{List, [], ◌∷◌, ◌++◌}
use Prim.Native.Nat.{ℕ, ◌+◌, ◌*◌, ◌≤◌}
use native.Mathlib.Nat.{le_trans}
use native.Mathlib.Omega.{arith}
use Rattle.std.specs.Prelude.{Option, None, Some, Result, ⊤}
use Rattle.std.specs.Option.{option_or}
use Rattle.block.specs.declared.Reason.TheVariants.{Limit, Range, Order, Unused}
use Rattle.block.specs.declared.Refusal.{Refusal}
use Rattle.layouts.specs.declared.Body.{Body}
use Rattle.block.specs.Bytes.{byte_at}
use Rattle.block.specs.Fault.{first_in, field_fault}
use Rattle.block.specs.Refusal.{Check, check, first_refusal}
use Rattle.block.specs.Reader.{Run, Span, range_fault, order_fault, range_faults, order_faults, unused_fault, container_layout, policy_layout}
use Rattle.layouts.specs.Steps.{runs_of, unused_of, body_checks, layout_checks}
use Rattle.block.proofs.Limits.{container-count, policy-counts}
use Rattle.block_bytes.specs.Used.{UsedEnd}
use Rattle.block_bytes.proofs.Zeros.{no_byte, used-zeros}

-- ---- an empty run and an empty range find no fault

-- an item that finds no fault may be left out
module _ {A : Type 0} where
  first_in-without : (f : A → Option ℕ) (xs : List A) (x : A) (ys : List A) → f x ≡ None → first_in f (xs ++ (x ∷ ys)) ≡ first_in f (xs ++ ys)
  first_in-without f [] x ys e = ap (λ (z : Option ℕ). option_or z (first_in f ys)) e
  first_in-without f (w ∷ xs) x ys e = ap (option_or (f w)) (first_in-without f xs x ys e)

no-label-range : (b : List ℕ) (p : ℕ) → range_fault b p 0 ≡ None
unfolding range_fault
no-label-range b p = refl

no-label-order : (b : List ℕ) (p : ℕ) → order_fault b p 0 ≡ None
unfolding order_fault
no-label-order b p = refl

empty-run : (b : List ℕ) (rs qs : List Run) (p : ℕ) (us : List Span) → body_checks b (rs ++ (record { start = p; count = 0 } ∷ qs)) us ≡ body_checks b (rs ++ qs) us
unfolding body_checks
empty-run b rs qs p us =
    let range : range_faults b (rs ++ (record { start = p; count = 0 } ∷ qs)) ≡ range_faults b (rs ++ qs) = first_in-without _ rs _ qs (no-label-range b p) in
    let order : order_faults b (rs ++ (record { start = p; count = 0 } ∷ qs)) ≡ order_faults b (rs ++ qs) = first_in-without _ rs _ qs (no-label-order b p) in
    ap (λ (f : Option ℕ). check Range f ∷ check Order (order_faults b (rs ++ (record { start = p; count = 0 } ∷ qs))) ∷ check Unused (unused_fault b us) ∷ []) range
    ∙ ap (λ (f : Option ℕ). check Range (range_faults b (rs ++ qs)) ∷ check Order f ∷ check Unused (unused_fault b us) ∷ []) order

empty-range : (b : List ℕ) (rs : List Run) (us vs : List Span) (p : ℕ) → body_checks b rs (us ++ (record { from = p; to = p } ∷ vs)) ≡ body_checks b rs (us ++ vs)
unfolding body_checks
empty-range b rs us vs p =
    ap (λ (f : Option ℕ). check Range (range_faults b rs) ∷ check Order (order_faults b rs) ∷ check Unused f ∷ []) (first_in-without _ us _ vs (no_byte b p))

-- ---- the code's layouts say what the definitions' do

-- the rest is looked at up to e
abbrev container_body : ℕ → ℕ → Body
container_body n e =
    record {
      first = record { start = 4; count = n };
      second = record { start = 4 + 4 * n; count = 0 };
      head = record { from = 2; to = 4 };
      rest = record { from = 4 + 4 * n; to = e };
    }

abbrev policy_body : ℕ → ℕ → ℕ → Body
policy_body m n e =
    record {
      first = record { start = 4; count = m };
      second = record { start = 4 + 4 * m; count = n };
      head = record { from = 4; to = 4 };
      rest = record { from = 4 + 4 * (m + n); to = e };
    }

-- what layout_test answers of a body
abbrev answered : List ℕ → Option ℕ → Body → Result ⊤ Refusal
answered b f y = first_refusal (check Limit f ∷ body_checks b (runs_of y) (unused_of y))

-- y, with its rest looked at up to e
abbrev rest_to : ℕ → Body → Body
rest_to e y = record { first = y.first; second = y.second; head = y.head; rest = record { from = y.rest.from; to = e } }

rest-to : (b : List ℕ) (e : ℕ) → UsedEnd b e → (f : Option ℕ) (y : Body) → (f ≡ None → y.rest.from ≤ 36) → answered b f (rest_to e y) ≡ answered b f (rest_to 510 y)
unfolding body_checks runs_of unused_of
rest-to b e u None y l = rw (used-zeros b e y.rest.from u (le_trans (l refl) u.low))
rest-to b e u (Some p) y l = refl

pub container-layout : (b : List ℕ) (f : Option ℕ) (n e : ℕ) → UsedEnd b e → f ≡ field_fault (container_layout b).limits → n ≡ byte_at b 1 → answered b f (container_body n e) ≡ first_refusal (layout_checks b (container_layout b))
unfolding layout_checks container_layout runs_of unused_of
container-layout b f n e u q h =
    rest-to b e u f (container_body n e) (λ z. omega (arith, container-count b (sym q ∙ z)))
    ∙ ap (λ (g : Option ℕ). answered b g (container_body n 510)) q
    ∙ ap (λ (k : ℕ). answered b (field_fault (container_layout b).limits) (container_body k 510)) h
    ∙ ap (λ (cs : List Check). first_refusal (check Limit (field_fault (container_layout b).limits) ∷ cs)) (empty-run b (record { start = 4; count = byte_at b 1 } ∷ []) [] (4 + 4 * byte_at b 1) _)

pub policy-layout : (b : List ℕ) (f : Option ℕ) (m n e : ℕ) → UsedEnd b e → f ≡ field_fault (policy_layout b).limits → m ≡ byte_at b 2 → n ≡ byte_at b 3 → answered b f (policy_body m n e) ≡ first_refusal (layout_checks b (policy_layout b))
unfolding layout_checks policy_layout runs_of unused_of
policy-layout b f m n e u q h k =
    rest-to b e u f (policy_body m n e) (λ z. let l = policy-counts b (sym q ∙ z) in omega arith)
    ∙ ap (λ (g : Option ℕ). answered b g (policy_body m n 510)) q
    ∙ ap (λ (i : ℕ). answered b (field_fault (policy_layout b).limits) (policy_body i n 510)) h
    ∙ ap (λ (j : ℕ). answered b (field_fault (policy_layout b).limits) (policy_body (byte_at b 2) j 510)) k
    ∙ ap (λ (cs : List Check). first_refusal (check Limit (field_fault (policy_layout b).limits) ∷ cs)) (empty-range b (policy_layout b).runs [] (policy_layout b).unused 4)
