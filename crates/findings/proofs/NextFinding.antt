-- The walk over a memory's findings, row after row: what it comes to is the model's next finding.
use mathlib.Core.Path.{◌≡◌, refl, sym, ap, ap₂, ◌∙◌, fun_ext, subst}
use mathlib.Core.Bool.{Bool, true, false, cond}
use mathlib.Core.List.{List, [], ◌∷◌, ◌++◌, map, append_assoc, append-nil}
use mathlib.Core.Option.{Option, none, some}
use Prim.Native.Nat.{ℕ, zero, suc, ◌+◌, ◌-◌, ◌≤◌, ◌<◌}
use native.Mathlib.Numerals.{add-one}
use native.Mathlib.Nat.{sub-zero, suc-sub-suc}
use native.Mathlib.Decide.{dec_lt}
use native.Mathlib.Omega.{arith}
use lib.ListN.{length, take, length-append}
use lib.Seq.{take-nil}
use Rattle.bitrow.specs.Set.{under, at_least, meet}
use Rattle.model.specs.declared.Finding.{Finding}
use Rattle.model.specs.Findings.{Place, finding, shown, place_of, next_after, walk, moved}
use Rattle.model.proofs.Next.{Least, NoneAfter, shown-is, shown-none, is-shown}
use Rattle.formed.specs.Registry.{model_in, bits_in}
use Rattle.findings.specs.Steps.{place_from}
use Rattle.findings.specs.RowSteps.{row_number}
use Rattle.container_findings.specs.Rows.{shown_at}
use Rattle.row_listing.specs.Listing.{members, row_findings}
use Rattle.findings.proofs.Walk.{SmallPlace, Come, there_in, sized-there, come-start, come-found, come-skip, come-row, come-later, come-end}
use Rattle.findings.proofs.Inside.{shown-inside}
use Rattle.row_listing.proofs.Members.{members-cut}

there-shown : (m : List ℕ) → there_in (shown_at m) ≡ shown (model_in m) (bits_in m)
unfolding shown_at shown
there-shown m = fun_ext (λ g. refl)

-- the next finding by a memory
abbrev pub next_in : List ℕ → Place → Option Finding
next_in m = next_after (model_in m) (bits_in m)

pub next-sized : (m : List ℕ) (p : Place) (g : Finding) → next_in m p ≡ some g → SmallPlace (place_of g)
next-sized m p g e = sized-there (shown_at m) (shown-inside m) g (ap (λ t. t g) (there-shown m) ∙ (is-shown (model_in m) (bits_in m) p g e).is)

-- where a walk from p has come to
pub walk-sized : (m : List ℕ) (n : ℕ) (p : Place) → SmallPlace p → SmallPlace (moved p (walk (next_in m) n p))
walk-sized m zero p s = s
walk-sized m (suc n) p s = pick (next_in m p) refl (λ g e. walk-sized m n (place_of g) (next-sized m p g e))
  where
    pick : (o : Option Finding) → next_in m p ≡ o → ((g : Finding) → next_in m p ≡ some g → SmallPlace (moved (place_of g) (walk (next_in m) n (place_of g))))
        → SmallPlace (moved p (elim o [ none ↦ [] | some g ↦ g ∷ walk (next_in m) n (place_of g) ]))
    pick none e f = s
    pick (some g) e f = f g e

-- ---- the walk from the place p to the next finding

abbrev pub ComeIn : List ℕ → Place → ℕ → ℕ → ℕ → Type 0
ComeIn m p k a from = Come (shown_at m) p k a from

module _ (m : List ℕ) (p : Place) (s : SmallPlace p) where
  pub reached-start : ComeIn m p p.kind p.a (p.b + 1)
  reached-start = come-start (shown_at m) (shown-inside m) p s

  reached-found : (k a from : ℕ) → ComeIn m p k a from → shown_at m k a from ≡ true → next_in m p ≡ some (finding k a from)
  reached-found k a from c t =
      let g = finding k a from in
      shown-is (model_in m) (bits_in m) p g (subst (λ there. Least there p g) (there-shown m) (come-found (shown_at m) (shown-inside m) p s k a from c t))

  reached-skip : (k a from : ℕ) → ComeIn m p k a from → a < 256 → from < 256 → shown_at m k a from ≡ false → ComeIn m p k a (suc from)
  reached-skip = come-skip (shown_at m) (shown-inside m) p s

  reached-row : (k a from : ℕ) → ComeIn m p k a from → a < 256 → 256 ≤ from → ComeIn m p k (a + 1) 0
  reached-row = come-row (shown_at m) (shown-inside m) p s

  reached-later : (k a from j b : ℕ) → ComeIn m p k a from → k ≤ j → (j ≡ k → a < b) → b ≤ 65536
      → ((x y z : ℕ) → shown_at m x y z ≡ true → row_number k a ≤ row_number x y → row_number x y < row_number j b → ⊥) → ComeIn m p j b 0
  reached-later = come-later (shown_at m) (shown-inside m) p s

  reached-end : (k a from : ℕ) → ComeIn m p k a from → 8 ≤ k → next_in m p ≡ none
  reached-end k a from c h =
      shown-none (model_in m) (bits_in m) p (subst (λ there. NoneAfter there p) (there-shown m) (come-end (shown_at m) (shown-inside m) p s k a from c h))

-- ---- the walk over rows

-- From p a walk of n findings goes over l and on from there; if there are more to find it has come to k, a and all b from `from` on.
pub record WalkOver (m : List ℕ) (p : Place) (n : ℕ) (l : List Finding) (k a from : ℕ) : Type 0 where
  pub goes : walk (next_in m) n p ≡ l ++ walk (next_in m) (n - length l) (moved p l)
  pub sized : SmallPlace (moved p l)
  pub reached : length l < n → ComeIn m (moved p l) k a from

pub moved-append : (p : Place) (l r : List Finding) → moved p (l ++ r) ≡ moved (moved p l) r
moved-append p [] r = refl
moved-append p (g ∷ l) r = moved-append (place_of g) l r

module _ (m : List ℕ) where
  pub walked_none : {p : Place} {n k a from : ℕ} → SmallPlace p → (0 < n → ComeIn m p k a from) → WalkOver m p n [] k a from
  walked_none {p} {n} s c = record { goes = ap (λ j. walk (next_in m) j p) (sym (sub-zero n)); sized = s; reached = c }

  walked_next : {p : Place} {n k a from : ℕ} {g : Finding} {l : List Finding} → next_in m p ≡ some g → WalkOver m (place_of g) n l k a from → WalkOver m p (suc n) (g ∷ l) k a from
  walked_next {p} {n} {k} {a} {from} {g} {l} e w = record {
    goes = rw (e, walk) (ap (λ t. g ∷ t) (w.goes ∙ ap (λ j. l ++ walk (next_in m) j (moved (place_of g) l)) (sym (suc-sub-suc n (length l)))));
    sized = w.sized;
    reached = λ h. w.reached (omega arith);
  }

  -- and then over r
  pub walked_then : {p : Place} {n k a from j b f : ℕ} {l r : List Finding} → WalkOver m p n l k a from → WalkOver m (moved p l) (n - length l) r j b f → WalkOver m p n (l ++ r) j b f
  walked_then {p} {n} {k} {a} {from} {j} {b} {f} {l} {r} w v =
      let e = moved-append p l r in
      let size = length-append l r in
      let z : n - length l - length r ≡ n - length (l ++ r) = omega arith in
      record {
        goes =
            w.goes ∙ ap (λ t. l ++ t) (v.goes ∙ ap₂ (λ i q. r ++ walk (next_in m) i q) z (sym e))
            ∙ sym (append_assoc l r (walk (next_in m) (n - length (l ++ r)) (moved p (l ++ r))));
        sized = subst SmallPlace (sym e) v.sized;
        reached = λ h. subst (λ q. ComeIn m q j b f) (sym e) (v.reached (omega arith));
      }

  -- over what a row has from i on, as many as are wanted
  module _ (k a : ℕ) (h : a < 256) where
    walked-members : (n i : ℕ) → n ≡ 256 - i → (p : Place) → SmallPlace p → ComeIn m p k a i → (r : ℕ) → WalkOver m p r (take r (map (finding k a) (members (shown_at m k a) i n))) k (a + 1) 0
    unfolding members
    walked-members zero i e p s c r = subst (λ l. WalkOver m p r l k (a + 1) 0) (sym (take-nil r)) (walked_none s (λ l. reached-row m p s k a i c h (omega arith)))
    walked-members (suc n) i e p s c r = pick (shown_at m k a i) refl r (walked-members n (suc i) (omega arith))
      where
        rest : List ℕ
        rest = members (shown_at m k a) (suc i) n

        pick : (t : Bool) → shown_at m k a i ≡ t → (r : ℕ)
            → ((q : Place) → SmallPlace q → ComeIn m q k a (suc i) → (r : ℕ) → WalkOver m q r (take r (map (finding k a) rest)) k (a + 1) 0)
            → WalkOver m p r (take r (map (finding k a) (cond t (i ∷ rest) rest))) k (a + 1) 0
        pick false t r ih = ih p s (reached-skip m p s k a i c h (omega arith) t) r
        pick true t zero ih = walked_none s (λ l. absurd (omega arith))
        pick true t (suc r) ih =
            let z = sized-there (shown_at m) (shown-inside m) (finding k a i) t in
            walked_next (reached-found m p s k a i c t) (ih (place_from k a i) z (subst (ComeIn m (place_from k a i) k a) (add-one i) (reached-start m (place_from k a i) z)) r)

    -- over a row, cut at `from`
    pub walked_row : {from : ℕ} {row cut : ℕ → Bool} → row ≡ shown_at m k a → cut ≡ meet row (meet (at_least from) (under 256))
        → {p : Place} → SmallPlace p → (n : ℕ) → ComeIn m p k a from → WalkOver m p n (take n (row_findings k a cut)) k (a + 1) 0
    unfolding row_findings
    walked_row {from} {row} {cut} e f {p} s n c =
        let q = f ∙ ap (λ t. meet t (meet (at_least from) (under 256))) e in
        subst (λ l. WalkOver m p n (take n (map (finding k a) l)) k (a + 1) 0) (sym (ap (λ t. members t 0 256) q ∙ members-cut (shown_at m k a) from 256))
        (walked-members (256 - from) from refl p s c n)

  module _ {p : Place} {n k a from : ℕ} {l : List Finding} (w : WalkOver m p n l k a from) where
    -- no finding is from there on and before the slot b of kind j, which is further on
    pub walked-later : (j b : ℕ) → k ≤ j → (j ≡ k → a < b) → b ≤ 65536
        → ((x y z : ℕ) → shown_at m x y z ≡ true → row_number k a ≤ row_number x y → row_number x y < row_number j b → ⊥) → WalkOver m p n l j b 0
    walked-later j b f h u n = record { goes = w.goes; sized = w.sized; reached = λ q. reached-later m (moved p l) w.sized k a from j b (w.reached q) f h u n }

    -- all that were wanted, or no kind is left
    pub walked_all : (k < 8 → n ≤ length l) → walk (next_in m) n p ≡ l
    walked_all end = w.goes ∙ ap (λ r. l ++ r) (go (dec_lt (length l) n) (dec_lt k 8)) ∙ append-nil l
      where
        go : Dec (length l < n) → Dec (k < 8) → walk (next_in m) (n - length l) (moved p l) ≡ []
        go (no h) d = let z : n - length l ≡ 0 = omega arith in ap (λ j. walk (next_in m) j (moved p l)) z
        go (yes h) (yes q) = absurd (omega (arith, end q))
        go (yes h) (no q) =
            let o : n - length l ≡ suc (n - length l - 1) = omega arith in
            let e = reached-end m (moved p l) w.sized k a from (w.reached h) (omega arith) in
            ap (λ j. walk (next_in m) j (moved p l)) o ∙ rw (e, walk)
