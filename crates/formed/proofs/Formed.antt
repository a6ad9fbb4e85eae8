-- A memory is well formed exactly if it is whole, says an acceptable registry, and is that registry's image.
use mathlib.Core.Path.{◌≡◌, refl, sym, ap, ap₂, subst, ◌∙◌}
use mathlib.Core.Bool.{false≢true, true, ◌&&◌}
use mathlib.Core.Logic.{◌↔◌}
use mathlib.Core.List.{List, [], ◌∷◌}
use Prim.Native.Nat.{ℕ}
use lib.Dec.{eqb}
use lib.ListN.{length}
use borrow.Author.Tests.{eqb-true, eq-eqb}
use Rattle.model.specs.Registry.{Registry}
use Rattle.model.proofs.Lists.{both}
use Rattle.store.specs.Layout.{memory_words, Whole}
use Rattle.store.specs.Contents.{Holds}
use Rattle.formed.specs.Registry.{registry_in, contents_of, image, acceptable, Acceptable, EntriesFormed, same_words, well_formed}
use Rattle.formed.proofs.Back.{entries-written, image-size, image-contents, registry-image}
use Rattle.formed.proofs.Acceptable.{acceptable-test, test-acceptable}

words_same-law : (a b : List ℕ) → same_words a b ≡ true → a ≡ b
words_same-law [] [] e = refl
words_same-law [] (y ∷ b) e = absurd (false≢true e)
words_same-law (x ∷ a) [] e = absurd (false≢true e)
words_same-law (x ∷ a) (y ∷ b) e =
    let h = both (eqb x y) (same_words a b) e in
    ap₂ (λ (n : ℕ) (l : List ℕ). n ∷ l) (eqb-true x y h.0) (words_same-law a b h.1)

same_self : (a : List ℕ) → same_words a a ≡ true
same_self [] = refl
same_self (x ∷ a) = ap₂ ◌&&◌ (eq-eqb x x refl) (same_self a)

same-words : (a b : List ℕ) → a ≡ b → same_words a b ≡ true
same-words a b e = subst (λ (l : List ℕ). same_words a l ≡ true) e (same_self a)

pub record FormedMemory (m : List ℕ) : Type 0 where
  pub whole : Whole m
  pub acceptable : Acceptable (registry_in m)
  pub canonical : image (registry_in m) ≡ m

module _ (m : List ℕ) where
  -- the three tests; the laws below cite this, so that a wrong one is met once
  formed-tests : well_formed m ≡ (eqb (length m) memory_words && (acceptable (registry_in m) && same_words (image (registry_in m)) m))
  unfolding well_formed
  formed-tests = refl

  pub formed-memory : well_formed m ≡ true → FormedMemory m
  formed-memory e =
      let h = both (eqb (length m) memory_words) (acceptable (registry_in m) && same_words (image (registry_in m)) m) (sym formed-tests ∙ e) in
      let g = both (acceptable (registry_in m)) (same_words (image (registry_in m)) m) h.1 in
      record {
        whole = eqb-true (length m) memory_words h.0;
        acceptable = test-acceptable m g.0;
        canonical = words_same-law (image (registry_in m)) m g.1;
      }

  pub memory-formed : FormedMemory m → well_formed m ≡ true
  memory-formed f =
      formed-tests
      ∙ ap₂ ◌&&◌ (eq-eqb (length m) memory_words f.whole)
      (ap₂ ◌&&◌ (acceptable-test (registry_in m) f.acceptable) (same-words (image (registry_in m)) m f.canonical))

  pub formed-exactly : (well_formed m ≡ true) ↔ FormedMemory m
  formed-exactly = (formed-memory, memory-formed)

  -- the words before the rows say the entries
  pub formed-entries : well_formed m ≡ true → EntriesFormed m
  unfolding registry_in
  formed-entries e =
      let f = formed-memory e in
      entries-written (registry_in m) f.acceptable.entries m
      (subst (λ (l : List ℕ). Holds l (contents_of (registry_in m))) f.canonical (image-contents (registry_in m)))

-- the memory of an acceptable registry is well formed
pub acceptable-image : (r : Registry) → Acceptable r → well_formed (image r) ≡ true
acceptable-image r ok =
    let e = registry-image r ok in
    memory-formed (image r) (record {
      whole = image-size r;
      acceptable = subst Acceptable (sym e) ok;
      canonical = ap image e;
    })
