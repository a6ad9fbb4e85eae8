-- What a list of admissions leaves, told in one pass: all entries placed first, then each bit that one of them touches set once.
use Rattle.std.specs.Prelude.{◌≡◌, Bool, List, ℕ, eqb}
use Rattle.model.specs.Table.{any, on}
use Rattle.model.specs.Calls.{Answer, said, run}
use Rattle.model.specs.ModelStep.{admitting_block}
use Rattle.model.specs.Registry.{Registry}
use Rattle.model.specs.RegistryStep.{admit_block}
use Rattle.model.specs.Settled.{settled}

-- the slots that containers came to, and those that policies came to, by the answers
unfoldable pub containers_came : List Answer → ℕ → Bool
containers_came l c = any (λ a. on (eqb c) (said a).container) l

unfoldable pub policies_came : List Answer → ℕ → Bool
policies_came l q = any (λ a. on (eqb q) (said a).policy) l

-- the entries of the blocks placed, every stored bit as it was
unfoldable pub entries_placed : Registry → List (List ℕ) → Registry
entries_placed r bs = record { model = (run admitting_block r.model bs).0; bits = r.bits }

unfoldable pub one_pass : Registry → List (List ℕ) → Registry × List Answer
one_pass r bs =
    let l = (run admitting_block r.model bs).1 in
    (settled (containers_came l) (policies_came l) (entries_placed r bs), l)

-- Of any registry, consistent or not: after admissions one after another a stored bit is the rules' bit over the entries at the end if
-- some admission touched it, and the old one otherwise.
unfoldable pub AdmittedOnce : Type 0
AdmittedOnce = (r : Registry) (bs : List (List ℕ)) → run admit_block r bs ≡ one_pass r bs
