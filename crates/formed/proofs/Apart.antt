-- A memory is well formed exactly if its words say entries and every bit that is set is of standing slots: the two apart.
use mathlib.Core.Path.{◌≡◌, sym}
use mathlib.Core.Bool.{true}
use mathlib.Core.Logic.{◌↔◌}
use mathlib.Core.List.{List}
use Prim.Native.Nat.{ℕ}
use Rattle.model.specs.Registry.{BitsStand}
use Rattle.formed.specs.Registry.{registry_in, EntriesFormed, well_formed}
use Rattle.formed.proofs.StoredLaws.{Fit}
use Rattle.formed.proofs.Back.{image-written}
use Rattle.formed.proofs.Formed.{formed-memory, memory-formed, formed-entries}
use Rattle.formed.proofs.Reading.{entries-hold}

pub formed-apart : (m : List ℕ) → Fit m → (well_formed m ≡ true) ↔ (EntriesFormed m × BitsStand (registry_in m))
unfolding registry_in
formed-apart m fit = (
  λ e. (formed-entries m e, (formed-memory m e).acceptable.bits),
  λ h. memory-formed m (record {
    whole = h.0.whole;
    acceptable = record { entries = h.0.entries; bits = h.1 };
    canonical = sym (image-written (registry_in m) m (entries-hold m h.0) fit);
  }),
)
