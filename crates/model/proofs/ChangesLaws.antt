-- Lawful changes one after another leave what one pass leaves, and bits by the rules stay so.
use mathlib.Core.Path.{◌≡◌, refl, sym, ap, fun_ext, ◌∙◌}
use mathlib.Core.Bool.{Bool, true, false, ◌||◌, cond, or-true}
use mathlib.Core.List.{List, [], ◌∷◌}
use Rattle.model.specs.Table.{any}
use Rattle.model.proofs.Lists.{neither}
use Rattle.model.proofs.Changes.{Changes, entries_after, set_bits, bits_after, set_once, touched_along, Lawful, AllFit}

module _ {S C I : Type 0} (T : Changes S C I) (Fitting : S → C → Type 0) (law : Lawful T Fitting) where
  untouched-along : (s : S) (cs : List C) (i : I) → AllFit T Fitting s cs → touched_along T s cs i ≡ false
      → T.rule (entries_after T s cs) i ≡ T.rule s i
  untouched-along s [] i g e = refl
  untouched-along s (c ∷ cs) i g e =
      let h = neither (T.touches s c i) (touched_along T (T.apply s c) cs i) e in
      untouched-along (T.apply s c) cs i g.1 h.1 ∙ law.untouched s c i g.0 h.0

  kept-along : (s : S) (cs : List C) (d : C) (i : I) → touched_along T s cs i ≡ false
      → T.touches (entries_after T s cs) d i ≡ T.touches s d i
  kept-along s [] d i e = refl
  kept-along s (c ∷ cs) d i e =
      let h = neither (T.touches s c i) (touched_along T (T.apply s c) cs i) e in
      kept-along (T.apply s c) cs d i h.1 ∙ law.kept s c d i h.0

  -- what is touched may be told over the entries at the end
  told-at-end : (s : S) (cs : List C) (i : I) → touched_along T s cs i ≡ any (λ c. T.touches (entries_after T s cs) c i) cs
  told-at-end s [] i = refl
  told-at-end s (c ∷ cs) i =
      pick (touched_along T (T.apply s c) cs i) refl
      ∙ ap (λ t. T.touches (entries_after T s (c ∷ cs)) c i || t) (told-at-end (T.apply s c) cs i)
    where
      pick : (t : Bool) → touched_along T (T.apply s c) cs i ≡ t
          → (T.touches s c i || touched_along T (T.apply s c) cs i) ≡ (T.touches (entries_after T s (c ∷ cs)) c i || touched_along T (T.apply s c) cs i)
      pick true e = rw e (or-true (T.touches s c i) ∙ sym (or-true (T.touches (entries_after T s (c ∷ cs)) c i)))
      pick false e = ap (λ t. t || touched_along T (T.apply s c) cs i) (sym (kept-along (T.apply s c) cs c i e ∙ law.own s c i))

  -- the bit left is by the rules over the entries at the end if it was touched at some time, and else the old one
  bits-along : (s : S) (cs : List C) (i : I) (old : I → Bool) → AllFit T Fitting s cs
      → bits_after T s cs old i ≡ cond (touched_along T s cs i) (T.rule (entries_after T s cs) i) (old i)
  unfolding set_bits
  bits-along s [] i old g = refl
  bits-along s (c ∷ cs) i old g =
      bits-along (T.apply s c) cs i (set_bits T s c old) g.1 ∙ pick (T.touches s c i) (touched_along T (T.apply s c) cs i) refl refl
    where
      pick : (u v : Bool) → T.touches s c i ≡ u → touched_along T (T.apply s c) cs i ≡ v
          → cond (touched_along T (T.apply s c) cs i) (T.rule (entries_after T (T.apply s c) cs) i) (set_bits T s c old i)
          ≡ cond (T.touches s c i || touched_along T (T.apply s c) cs i) (T.rule (entries_after T (T.apply s c) cs) i) (old i)
      pick true true e f = rw (e, f)
      pick true false e f = rw (e, f) (sym (untouched-along (T.apply s c) cs i g.1 f))
      pick false true e f = rw (e, f)
      pick false false e f = rw (e, f)

  -- One after another is one pass, whatever the old bits were.
  pub once : (s : S) (cs : List C) (old : I → Bool) → AllFit T Fitting s cs → bits_after T s cs old ≡ set_once T (entries_after T s cs) cs old
  unfolding set_once
  once s cs old g =
      fun_ext λ i. bits-along s cs i old g ∙ ap (λ t. cond t (T.rule (entries_after T s cs) i) (old i)) (told-at-end s cs i)

  -- Bits by the rules stay by the rules.
  pub computed-after : (s : S) (cs : List C) → AllFit T Fitting s cs → bits_after T s cs (T.rule s) ≡ T.rule (entries_after T s cs)
  computed-after s cs g = fun_ext λ i. bits-along s cs i (T.rule s) g ∙ pick i (touched_along T s cs i) refl
    where
      pick : (i : I) (t : Bool) → touched_along T s cs i ≡ t
          → cond (touched_along T s cs i) (T.rule (entries_after T s cs) i) (T.rule s i) ≡ T.rule (entries_after T s cs) i
      pick i true e = rw e
      pick i false e = rw e (sym (untouched-along s cs i g e))
