-- What a call leaves of the memory that it was lent, and its answer.
use Rattle.std.specs.Prelude.{Bool, true, false, not, cond, List, [], ◌∷◌, ◌++◌, ℕ, eqb, length}
use Rattle.std.specs.Prelude.{Result, Ok, Err, ⊤}
use Rattle.block.specs.declared.Refusal.{Refusal}
use Rattle.block.specs.declared.Reason.TheVariants.{MemorySize, NotWellFormed}
use Rattle.block.specs.Refusal.{Check, check, first_refusal}
use Rattle.model.specs.Calls.{Call, open_with, change, ask}
use Rattle.model.specs.Calls.{Answer, refusal_of}
use Rattle.model.specs.Refusals.{where0, refusals}
use Rattle.model.specs.RegistryStep.{accepted_step}
use Rattle.store.specs.Layout.{memory_words}
use Rattle.formed.specs.Registry.{registry_in, image, well_formed}

-- 1. "The memory lent for the book is not of the book's size."
abbrev pub other_size : List ℕ → Bool
other_size m = not (eqb (length m) memory_words)

-- 2. "The memory holds no well-formed book (not checked by open)."
abbrev pub formed_check : List ℕ → List Check
formed_check m = check NotWellFormed (where0 (not (well_formed m))) ∷ []

abbrev pub meets_formed : List ℕ → Call → List Check
meets_formed m (open_with b) = []
meets_formed m (change c) = formed_check m
meets_formed m (ask q) = formed_check m

-- all refusals that a call meets, in their order
unfoldable pub memory_refusals : List ℕ → Call → List Check
memory_refusals m call = check MemorySize (where0 (other_size m)) ∷ (meets_formed m call ++ refusals (registry_in m) call)

-- "The calls that ask change nothing."
abbrev pub changes : Call → Bool
changes (open_with b) = true
changes (change c) = true
changes (ask q) = false

-- A refused call and a query leave the memory itself; an accepted change leaves the image of the changed registry.
abbrev pub memory_outcome : List ℕ → Call → Result ⊤ Refusal → List ℕ × Answer
memory_outcome m call (Err f) = (m, refusal_of f)
memory_outcome m call (Ok tt) =
    let r = accepted_step (registry_in m) call in
    (cond (changes call) (image r.0) m, r.1)

unfoldable pub memory_step : List ℕ → Call → List ℕ × Answer
memory_step m call = memory_outcome m call (first_refusal (memory_refusals m call))
