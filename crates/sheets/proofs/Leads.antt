-- The findings after a place, one after another.
use mathlib.Core.Path.{◌≡◌, refl}
use mathlib.Core.List.{List, [], ◌∷◌}
use mathlib.Core.Option.{Option, none, some}
use Prim.Native.Nat.{ℕ, zero, suc, ◌≤◌, ◌<◌}
use native.Mathlib.Omega.{arith}
use lib.ListN.{length, take, drop}
use Rattle.model.specs.declared.Finding.{Finding}
use Rattle.model.specs.Findings.{Place, place_of, walk, moved}
use Rattle.model.proofs.Next.{Leads, is-shown}
use Rattle.formed.specs.Registry.{model_in, bits_in}
use Rattle.findings.proofs.Walk.{SmallPlace, rank_of, lt-after}
use Rattle.findings.proofs.NextFinding.{next_in, next-sized}
use Rattle.text.proofs.LineLaws.{Small}

-- after a walk along the list, what is left of it leads on
pub leads-on : (next : Place → Option Finding) (n : ℕ) (p : Place) (l : List Finding) → Leads next p l → Leads next (moved p (take n l)) (drop n l)
leads-on next zero p l h = h
leads-on next (suc n) p [] h = h
leads-on next (suc n) p (x ∷ l) h = leads-on next n (place_of x) l h.1

module _ (m : List ℕ) where
  pub leads-small : (p : Place) (l : List Finding) → Leads (next_in m) p l → Small l
  leads-small p [] h = tt
  leads-small p (x ∷ l) h = let s = next-sized m p x h.0 in (s.small_a, s.small_b, leads-small (place_of x) l h.1)

  -- a walk that meets some finding has moved on
  abbrev Rises : Place → List Finding → Type 0
  Rises p l = (rank_of p ≤ rank_of (moved p l)) × (0 < length l → rank_of p < rank_of (moved p l))

  pub walk-rises : (n : ℕ) (p : Place) → SmallPlace p → Rises p (walk (next_in m) n p)
  walk-rises zero p s = (omega arith, λ z. absurd (omega arith))
  walk-rises (suc n) p s = pick (next_in m p) refl (walk-rises n)
    where
      pick : (o : Option Finding) → next_in m p ≡ o → ((q : Place) → SmallPlace q → Rises q (walk (next_in m) n q))
          → Rises p (elim o [ none ↦ [] | some g ↦ g ∷ walk (next_in m) n (place_of g) ])
      pick none e ih = (omega arith, λ z. absurd (omega arith))
      pick (some g) e ih =
          let t = next-sized m p g e in
          let l = lt-after p g s t (is-shown (model_in m) (bits_in m) p g e).later in
          let r = (ih (place_of g) t).0 in
          (omega (arith, l, r), λ _. omega (arith, l, r))
