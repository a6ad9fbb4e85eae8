-- Some steps of the report, one after another, and what was written of their text.
use Rattle.std.specs.Prelude.{◌≡◌, Bool, true, List, [], ◌++◌, ℕ, length, drop, Option, Some, IfSome}
use Rattle.std.specs.Io.KnownBytes.{Appends}
use Rattle.sheets.specs.declared.State.{State}
use Rattle.sheets.specs.Left.{Left}
use Rattle.sheets.specs.Step.{report_step, finished_in}
use Rattle.streams.specs.Bytes.{AppendsSome}

-- Where the report stands between two steps: the registry's memory, the started block, the state, and the input that is still to come.
pub record Point : Type 0 where
  pub memory : List ℕ
  pub block : List ℕ
  pub state : State
  pub coming : List ℕ

-- the step from a point that is lent the piece p, and where it leads, with q after the piece
abbrev pub step_from : Point → List ℕ → Bool → ℕ → Left
step_from a p ended room = report_step a.memory a.block p ended room a.state

abbrev pub next_point : Left → List ℕ → List ℕ → Point
next_point x p q = record { memory = x.memory; block = x.block; state = x.state; coming = drop x.used p ++ q }

-- Steps lead from the point a to another. Each is lent any piece p of the input, with q after it; that the input has ended is said only
-- where nothing comes after the piece. The text is what they put, joined.
pub data Steps (a : Point) : Point → List ℕ → Type 0 where
  none : Steps a a []
  more : (b : Point) (text p q : List ℕ) (ended : Bool) (room : ℕ) → Steps a b text → b.coming ≡ p ++ q → (ended ≡ true → q ≡ [])
      → Steps a (next_point (step_from b p ended room) p q) (text ++ (step_from b p ended room).text)

-- Where the report stands for the pump, which may not know the input that is still to come.
pub record Place : Type 0 where
  pub memory : List ℕ
  pub block : List ℕ
  pub state : State
  pub coming : Option (List ℕ)

abbrev pub place : List ℕ → List ℕ → State → Option (List ℕ) → Place
place m k s i = record { memory = m; block = k; state = s; coming = i }

-- the same where it knows it
abbrev pub known_at : Place → List ℕ → Point
known_at a i = record { memory = a.memory; block = a.block; state = a.state; coming = i }

-- ---- where steps led, and their text, of a writer that held the bytes `old`, and holds `new`

-- Steps led from the point a to some other, and of that and of their text holds what Q says.
pub record Led (a : Point) (Q : Point → List ℕ → Type 0) : Type 0 where
  pub to : Point
  pub text : List ℕ
  pub steps : Steps a to text
  pub so : Q to text

-- to b, and all of the text was written
pub record Reached (b : Place) (old new : Option (List ℕ)) (to : Point) (text : List ℕ) : Type 0 where
  pub there : b ≡ place to.memory to.block to.state (Some to.coming)
  pub written : Appends old new text

-- to the end of the sheet, and all of the text was written
pub record ReachedEnd (old new : Option (List ℕ)) (to : Point) (text : List ℕ) : Type 0 where
  pub is_end : finished_in to.state ≡ true
  pub written : Appends old new text

-- of the text only the first bytes were written
pub record CutOff (old new : Option (List ℕ)) (to : Point) (text : List ℕ) : Type 0 where
  pub written : AppendsSome old new text (length text)

-- the same from a place on, where the input that is still to come is known there
pub record Went (a : Place) (Q : Point → List ℕ → Type 0) : Type 0 where
  pub known : IfSome a.coming (λ i. Led (known_at a i) Q)

abbrev pub WentTo : Place → Place → Option (List ℕ) → Option (List ℕ) → Type 0
WentTo a b old new = Went a (Reached b old new)

abbrev pub WentToEnd : Place → Option (List ℕ) → Option (List ℕ) → Type 0
WentToEnd a old new = Went a (ReachedEnd old new)

abbrev pub Stopped : Place → Option (List ℕ) → Option (List ℕ) → Type 0
Stopped a old new = Went a (CutOff old new)
