-- Where no bit is named all stays.
use mathlib.Core.Path.{◌≡◌, refl, sym, ap}
use mathlib.Core.Bool.{Bool, false, cond}
use mathlib.Core.List.{List}
use Prim.Native.Nat.{ℕ, ◌<◌}
use Rattle.model.specs.Model.{matrix_bit}
use Rattle.model.specs.Registry.{Registry, set_where}
use Rattle.store.proofs.Carried.{SameContents, holds_as}
use Rattle.formed.specs.Registry.{registry_in, contents_of, image, EntriesFormed}
use Rattle.formed.proofs.Reading.{entries-hold}
use Rattle.formed.proofs.Back.{image-written}
use Rattle.formed.proofs.StoredLaws.{Fit, stored-cong}
use Rattle.matrix_resets.specs.Resets.{reset_where}

named_none : (r : Registry) (f : ℕ → ℕ → Bool) → ((x y : ℕ) → x < 256 → y < 256 → f x y ≡ false) → SameContents (contents_of r) (contents_of (reset_where r f))
unfolding contents_of reset_where set_where
named_none r f e = record {
  words = λ k l. refl;
  bits = λ x y a b. stored-cong _ _ x y a (λ i l _. sym (ap (λ (u : Bool). cond u (matrix_bit r.model i y) (r.bits.matrix i y)) (e i y l b))) (λ q l _. refl) (λ q l _. refl);
}

pub reset-none : (m : List ℕ) → EntriesFormed m → Fit m → (named : ℕ → ℕ → Bool) → ((x y : ℕ) → x < 256 → y < 256 → named x y ≡ false) → m ≡ image (reset_where (registry_in m) named)
reset-none m ok fit named e = image-written (reset_where (registry_in m) named) m (holds_as (entries-hold m ok) _ (named_none (registry_in m) named e)) fit
