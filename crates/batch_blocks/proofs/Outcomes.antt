-- Each outcome of a block, in the form in which a function's `return` cites it.
use mathlib.Core.Path.{◌≡◌, sym, ap, ◌∙◌}
use mathlib.Core.List.{List}
use mathlib.Core.Option.{Option, none, some}
use Prim.Native.Nat.{ℕ}
use Rattle.block.specs.declared.Refusal.{Refusal}
use Rattle.block.specs.declared.Reason.TheVariants.{TableFull}
use Rattle.block.specs.Entry.{Entry}
use Rattle.block.specs.Refusal.{lone_refusal, refused, accepted}
use Rattle.block.specs.Reader.{read_entry, AcceptedAs}
use Rattle.model.specs.Model.{Model}
use Rattle.model.specs.Calls.{Answer, refusal_of}
use Rattle.model.specs.ModelStep.{admitting}
use Rattle.formed.specs.Registry.{model_in, bits_in, registry_in, image, EntriesFormed}
use Rattle.formed.proofs.StoredLaws.{Fit}
use Rattle.formed.proofs.Back.{image-written}
use Rattle.formed.proofs.Reading.{entries-hold}
use Rattle.batch_blocks.specs.Blocks.{block_placed}

module _ (m b : List ℕ) where
  -- by what the model's admission gives
  placed_by : (s : Model × Answer) → admitting (model_in m) (read_entry (model_in m).settings b) ≡ s → block_placed m b ≡ (image (record { model = s.0; bits = bits_in m }), s.1)
  unfolding block_placed
  placed_by s e = ap (λ (s : Model × Answer). (image (record { model = s.0; bits = bits_in m }), s.1)) e

  -- a refusal leaves every word
  placed-refused : EntriesFormed m → Fit m → (f : Refusal) → admitting (model_in m) (read_entry (model_in m).settings b) ≡ (model_in m, refusal_of f) → block_placed m b ≡ (m, refusal_of f)
  unfolding registry_in
  placed-refused ok fit f e = placed_by (model_in m, refusal_of f) e ∙ ap (λ (l : List ℕ). (l, refusal_of f)) (sym (image-written (registry_in m) m (entries-hold m ok) fit))

  pub block_refused : EntriesFormed m → Fit m → (f : Refusal) → read_entry (model_in m).settings b ≡ refused f → block_placed m b ≡ (m, refusal_of f)
  unfolding admitting
  block_refused ok fit f e = placed-refused ok fit f (ap (admitting (model_in m)) e)

  -- a block that says the entry x, which comes to the lowest free slot of its table as the model says
  module _ (x : Entry) (read : AcceptedAs (model_in m).settings b x) (comes : Option ℕ → Model × Answer) (lowest : Option ℕ) (placed : admitting (model_in m) (accepted x) ≡ comes lowest) where
    by : (o : Option ℕ) → lowest ≡ o → admitting (model_in m) (read_entry (model_in m).settings b) ≡ comes o
    by o h = ap (admitting (model_in m)) read ∙ placed ∙ ap comes h

    pub entry-full : EntriesFormed m → Fit m → comes none ≡ (model_in m, refusal_of (lone_refusal TableFull)) → lowest ≡ none → block_placed m b ≡ (m, refusal_of (lone_refusal TableFull))
    entry-full ok fit full h = placed-refused ok fit (lone_refusal TableFull) (by none h ∙ full)

    pub entry-came : (i : ℕ) (m' : List ℕ) → lowest ≡ some i → m' ≡ image (record { model = (comes (some i)).0; bits = bits_in m }) → block_placed m b ≡ (m', (comes (some i)).1)
    entry-came i m' h q = placed_by (comes (some i)) (by (some i) h) ∙ ap (λ (l : List ℕ). (l, (comes (some i)).1)) (sym q)
