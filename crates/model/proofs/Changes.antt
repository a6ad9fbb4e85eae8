-- Changes of entries and the bits stored beside them, of any sort, and the three laws that the theory asks of them.
use mathlib.Core.Path.{◌≡◌}
use mathlib.Core.Bool.{Bool, false, ◌||◌, cond}
use mathlib.Core.List.{List, [], ◌∷◌}
use Rattle.model.specs.Table.{any}

-- Over entries S, changes C and the places I of stored bits.
pub record Changes (S C I : Type 0) : Type 0 where
  pub apply : S → C → S
  -- the bit by the rules
  pub rule : S → I → Bool
  -- the change may alter that bit
  pub touches : S → C → I → Bool

module _ {S C I : Type 0} (T : Changes S C I) where
  -- the entries after changes, one after another
  abbrev pub entries_after : S → List C → S
  entries_after s [] = s
  entries_after s (c ∷ cs) = entries_after (T.apply s c) cs

  -- "sets these bits by the rules from the entries as they then stand, and changes no other kept bit"
  unfoldable pub set_bits : S → C → (I → Bool) → I → Bool
  set_bits s c old i = cond (T.touches s c i) (T.rule (T.apply s c) i) (old i)

  -- the bits after changes, one after another
  abbrev pub bits_after : S → List C → (I → Bool) → I → Bool
  bits_after s [] old = old
  bits_after s (c ∷ cs) old = bits_after (T.apply s c) cs (set_bits s c old)

  -- in one pass: the entries are s at the end, and what any change touches there is set once
  unfoldable pub set_once : S → List C → (I → Bool) → I → Bool
  set_once s cs old i = cond (any (λ c. T.touches s c i) cs) (T.rule s i) (old i)

  -- touched by one of the changes, at its time
  abbrev pub touched_along : S → List C → I → Bool
  touched_along s [] i = false
  touched_along s (c ∷ cs) i = T.touches s c i || touched_along (T.apply s c) cs i

module _ {S C I : Type 0} (T : Changes S C I) (Fitting : S → C → Type 0) where
  -- Nothing but these three is used of the rules.
  pub record Lawful : Type 0 where
    -- a bit that a change does not touch is by the rules what it was
    pub untouched : (s : S) (c : C) (i : I) → Fitting s c → T.touches s c i ≡ false → T.rule (T.apply s c) i ≡ T.rule s i
    -- what a change touches can be told before it and after it
    pub own : (s : S) (c : C) (i : I) → T.touches (T.apply s c) c i ≡ T.touches s c i
    -- where it does not touch, what others touch stays
    pub kept : (s : S) (c d : C) (i : I) → T.touches s c i ≡ false → T.touches (T.apply s c) d i ≡ T.touches s d i

  -- each change fits the entries that it meets
  abbrev pub AllFit : S → List C → Type 0
  AllFit s [] = Unit {0}
  AllFit s (c ∷ cs) = Fitting s c × AllFit (T.apply s c) cs
