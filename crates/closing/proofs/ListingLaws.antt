-- What a listing of lines is of the call's answer.
use mathlib.Core.Path.{◌≡◌, refl, sym, ap, ◌∙◌, subst}
use mathlib.Core.Bool.{Bool, true, cond}
use mathlib.Core.List.{List, map}
use Prim.Native.Nat.{ℕ, ◌≤◌, ◌<◌}
use native.Mathlib.Omega.{arith}
use lib.ListN.{length, length-map}
use lib.Dec.{ltb}
use borrow.Author.Tests.{lt-ltb, le-ltb}
use Rattle.std.specs.Prelude.{Option, Some, None}
use Rattle.buffer.specs.Buffer.{Puts}
use Rattle.model.specs.declared.Finding.{Finding}
use Rattle.model.specs.Findings.{Place, next_after, walk, moved, finding_code}
use Rattle.model.specs.Calls.{ask, list_findings}
use Rattle.formed.specs.Registry.{model_in, bits_in, well_formed}
use Rattle.steps.specs.MemoryStep.{memory_step}
use Rattle.steps.proofs.Outcomes.{findings-answers}
use Rattle.findings.specs.declared.Cursor.{Cursor}
use Rattle.findings.specs.Steps.{cursor_place}
use Rattle.text.specs.Lines.{code_lines}
use Rattle.sheets.specs.declared.State.{State}
use Rattle.sheets.specs.declared.State.TheVariants.{Listing, Finished}
use Rattle.sheets.specs.Told.{Tells}
use Rattle.sheets.specs.Closing.{cursor_to, listing}
use Rattle.listing_lines.specs.GoesOn.{GoesOn}

module _ (m : List ℕ) (formed : well_formed m ≡ true) (p : Place) (n : ℕ) where
  abbrev found : List Finding
  found = walk (next_after (model_in m) (bits_in m)) n p

  -- by what is listed
  module _ {d e : List ℕ} {put : ℕ} (g : Puts d 0 (code_lines (map finding_code found)) e put) where
    told : (s : State) → s ≡ cond (ltb (length (map finding_code found)) n) Finished (Listing (cursor_to (moved p found)))
        → Tells (listing n (memory_step m (ask (list_findings p n))).1) d e (record { state = s; put = put })
    told s q = subst (λ a. Tells (listing n a.1) d e (record { state = s; put = put })) (sym (findings-answers m formed p n)) (record { text = g; state = q })

    -- none is left
    pub tells-last : (o : Option Cursor) → o ≡ None → GoesOn n p found o → Tells (listing n (memory_step m (ask (list_findings p n))).1) d e (record { state = Finished; put = put })
    tells-last o w b =
        let h : length found < n = subst (GoesOn n p found) w b in
        told Finished (sym (ap (λ t. cond t Finished (Listing (cursor_to (moved p found)))) (lt-ltb (length (map finding_code found)) n (omega (arith, length-map found finding_code)))))

    -- it goes on
    pub tells-on : (o : Option Cursor) (c : Cursor) → o ≡ Some c → GoesOn n p found o → Tells (listing n (memory_step m (ask (list_findings p n))).1) d e (record { state = Listing c; put = put })
    tells-on o c w b =
        let h : (length found ≡ n) × (cursor_place c ≡ moved p found) = subst (GoesOn n p found) w b in
        let k = h.0 in
        told (Listing c)
        (ap (λ q. Listing (cursor_to q)) h.1
        ∙ sym (ap (λ t. cond t Finished (Listing (cursor_to (moved p found)))) (le-ltb (length (map finding_code found)) n (omega (arith, k, length-map found finding_code)))))
