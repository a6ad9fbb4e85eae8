-- A walk over a memory's findings: each has a kind of 1 to 7, and an a and a b below 256.
use mathlib.Core.Path.{◌≡◌, refl}
use mathlib.Core.List.{List, [], ◌∷◌, map}
use mathlib.Core.Option.{Option, none, some}
use Prim.Native.Nat.{ℕ, zero, suc}
use Rattle.std.specs.List.{All}
use Rattle.std.proofs.lemmas.List.Elements.{All-nil, All-cons}
use Rattle.model.specs.declared.Finding.{Finding}
use Rattle.model.specs.Findings.{Place, shown, place_of, walk, finding_code}
use Rattle.model.proofs.Next.{is-shown}
use Rattle.formed.specs.Registry.{model_in, bits_in}
use Rattle.container_findings.specs.Rows.{shown_at}
use Rattle.findings.proofs.Walk.{Inside}
use Rattle.findings.proofs.Inside.{shown-inside}
use Rattle.findings.proofs.NextFinding.{next_in}

next-inside : (m : List ℕ) (p : Place) (g : Finding) → next_in m p ≡ some g → Inside g.kind g.a g.b
unfolding shown_at shown
next-inside m p g e = shown-inside m g.kind g.a g.b (is-shown (model_in m) (bits_in m) p g e).is

-- what holds of the number of every finding that lies there holds of each that is listed
pub listed-inside : (P : ℕ → Type 0) → ((g : Finding) → Inside g.kind g.a g.b → P (finding_code g)) → (m : List ℕ) (n : ℕ) (p : Place) → All P (map finding_code (walk (next_in m) n p))
listed-inside P f m zero p = All-nil P
listed-inside P f m (suc n) p = pick (next_in m p) (λ g e. f g (next-inside m p g e)) (λ g. listed-inside P f m n (place_of g))
  where
    pick : (o : Option Finding) → ((g : Finding) → o ≡ some g → P (finding_code g)) → ((g : Finding) → All P (map finding_code (walk (next_in m) n (place_of g))))
        → All P (map finding_code (elim o [ none ↦ [] | some g ↦ g ∷ walk (next_in m) n (place_of g) ]))
    pick none h r = All-nil P
    pick (some g) h r = All-cons P (finding_code g) (map finding_code (walk (next_in m) n (place_of g))) (h g refl) (r g)
