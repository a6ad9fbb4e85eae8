-- The steps that the pump takes, one after another, and that the text of all of them is the sheet.
use Rattle.std.proofs.Common.{◌≡◌, true, ℕ, ◌+◌, ◌-◌, ◌^◌, ◌≤◌, ◌<◌, List, [], ◌++◌, Option, None, Some, IfSome, length, take, drop, slice_range, refl, sym, ap, ◌∙◌, subst, append_assoc, append-nil, arith, length-append, length-take, length-drop}
use Rattle.std.proofs.Math.Seq.{take-append_seam, take-append-add}
use Rattle.std.proofs.lemmas.Bool.{false≢true}
use Rattle.std.proofs.lemmas.List.{drop-take, drop-drop, take-append-le}
use Rattle.std.proofs.KnownBytes.{Appends-nil, Appends-trans}
use Rattle.std.specs.Io.KnownBytes.{Keeps, Appends, prepend_known}
use Rattle.store.specs.Layout.{memory_words}
use Rattle.buffer.specs.Buffer.{Puts}
use Rattle.sheets.specs.declared.State.{State}
use Rattle.sheets.specs.declared.State.TheVariants.{Taking, Counting, Listing, Finished}
use Rattle.sheets.specs.declared.Stepped.{Stepped}
use Rattle.sheets.specs.Left.{Left, Does}
use Rattle.sheets.specs.Sheet.{sheet}
use Rattle.sheets.specs.Step.{report_step, start_state, finished_in}
use Rattle.sheets.proofs.Due.{Due, Onward, before-first}
use Rattle.sheets.proofs.Onward.{step-onward}
use Rattle.streams.specs.declared.Input.{Input}
use Rattle.streams.specs.declared.Input.TheVariants.{Unused, Ended}
use Rattle.streams.specs.Bytes.{Within, ended_in, piece_of, left_in, after, unread, to_come, AppendsSome}
use Rattle.lister.specs.Steps.{Point, step_from, next_point, Steps, Place, place, known_at, Led, Reached, ReachedEnd, CutOff, Went, WentTo, WentToEnd, Stopped}
use Rattle.lister.specs.Steps.Steps.{none, more}

-- ---- what is known where the input is

if_known : {P Q : List ℕ → Type 0} (k : Option (List ℕ)) → ((i : List ℕ) → k ≡ Some i → P i → Q i) → IfSome k P → IfSome k Q
if_known None f h = tt
if_known (Some i) f h = f i refl h

known_as : (P : List ℕ → Type 0) (k : Option (List ℕ)) (i : List ℕ) → k ≡ Some i → IfSome k P → P i
known_as P None i e h = absurd (let z : ◌≡◌ {A = Option (List ℕ)} None (Some i) → ⊥ = λ d. cc in z e)
known_as P (Some j) i e h = let d : j ≡ i = cc in subst P d h

-- ---- steps after steps

joined : {a b c : Point} {t u : List ℕ} → Steps a b t → Steps b c u → Steps a c (t ++ u)
joined {a} {b} {t = t} s none = subst (Steps a b) (sym (append-nil t)) s
joined {a} {t = t} s (more d u p q ended room r e f) =
    subst (Steps a (next_point (step_from d p ended room) p q)) (append_assoc t u (step_from d p ended room).text)
    (more d (t ++ u) p q ended room (joined s r) e f)

pub went_nowhere : (a : Place) (w : Option (List ℕ)) → WentTo a a w w
went_nowhere a w = record { known = nowhere a.coming refl }
  where
    nowhere : (k : Option (List ℕ)) → a.coming ≡ k → IfSome k (λ i. Led (known_at a i) (Reached a w w))
    nowhere None e = tt
    nowhere (Some i) e = record { to = known_at a i; text = []; steps = none; so = record { there = ap (λ k. place a.memory a.block a.state k) e; written = Appends-nil w } }

module _ {a b : Place} {old new : Option (List ℕ)} (went : WentTo a b old new) where
  -- what holds of where the next steps led and of their text, holds of it with the text before it
  led_on : {Q R : Point → List ℕ → Type 0} → ((to : Point) (x t : List ℕ) → Appends old new x → Q to t → R to (x ++ t)) → Went b Q → Went a R
  led_on {Q} {R} h on = record {
    known = if_known a.coming (λ i _ x.
        let y = known_as (λ j. Led (known_at b j) Q) b.coming x.to.coming (ap (λ p. p.coming) x.so.there) on.known in
        record {
          to = y.to;
          text = x.text ++ y.text;
          steps = joined x.steps (subst (λ p. Steps p y.to y.text) (ap (λ p. known_at p x.to.coming) x.so.there) y.steps);
          so = h y.to x.text y.text x.so.written y.so;
        }) went.known;
  }

  pub went_on : {c : Place} {next : Option (List ℕ)} → WentTo b c new next → WentTo a c old next
  went_on {next = next} = led_on (λ to x t w q. record { there = q.there; written = Appends-trans old new next x t w q.written })

  pub ended_on : {next : Option (List ℕ)} → WentToEnd b new next → WentToEnd a old next
  ended_on {next} = led_on (λ to x t w q. record { is_end = q.is_end; written = Appends-trans old new next x t w q.written })

  pub stopped_on : {next : Option (List ℕ)} → Stopped b new next → Stopped a old next
  stopped_on {next} = led_on (λ to x t w q.
      let k = q.written.0 in
      record {
        written = (length x + k, omega (arith, q.written.1, length-append x t), subst (Appends old next) (sym (take-append-add x t k)) (Appends-trans old new next x (take k t) w q.written.2));
      })

pub ended_there : {a b : Place} {old new : Option (List ℕ)} → finished_in b.state ≡ true → WentTo a b old new → WentToEnd a old new
ended_there {a} e went = record {
  known = if_known a.coming (λ i _ x. record {
    to = x.to;
    text = x.text;
    steps = x.steps;
    so = record { is_end = sym (ap (λ p. finished_in p.state) x.so.there) ∙ e; written = x.so.written };
  }) went.known;
}

-- ---- a piece of the input in a buffer

range-after : (bytes : List ℕ) (a e u : ℕ) → u ≤ e - a → slice_range bytes (a + u) e ≡ drop u (slice_range bytes a e)
range-after bytes a e u h =
    let n : e - a ≡ u + (e - (a + u)) = omega arith in
    rw (n, drop-take u (e - (a + u)) (drop a bytes), drop-drop u a bytes) refl

piece-after : (bytes : List ℕ) (from : Input) (u : ℕ) → u ≤ left_in from → piece_of bytes (after from u) ≡ drop u (piece_of bytes from)
piece-after bytes (Unused a e) u h = range-after bytes a e u h
piece-after bytes Ended u h = let n : u ≡ 0 = omega (arith, h) in rw n refl

unread-after : (from : Input) (u : ℕ) (left : Option (List ℕ)) → unread (after from u) left ≡ unread from left
unread-after (Unused a e) u left = refl
unread-after Ended u left = refl

pub piece-within : (bytes : List ℕ) (from : Input) → length (piece_of bytes from) ≤ left_in from
piece-within bytes (Unused a e) = omega (arith, length-take (e - a) (drop a bytes))
piece-within bytes Ended = omega arith

pub piece_fed : (bytes : List ℕ) (from : Input) → Within from (length bytes) → left_in from ≤ length (piece_of bytes from)
piece_fed bytes (Unused a e) h = omega (arith, length-take (e - a) (drop a bytes), length-drop a bytes)
piece_fed bytes Ended h = omega arith

pub within_after : (from : Input) (room u : ℕ) → Within from room → u ≤ left_in from → Within (after from u) room
within_after (Unused a e) room u w h = (omega arith, w.1)
within_after Ended room u w h = tt

pub ended_within : (from : Input) (room : ℕ) → ended_in from ≡ true → Within from room
ended_within (Unused a e) room h = absurd (false≢true h)
ended_within Ended room h = tt

pub ended_used : (from : Input) → ended_in from ≡ true → left_in from ≡ 0
ended_used (Unused a e) h = absurd (false≢true h)
ended_used Ended h = refl

pub ruleset pieces = (piece-within, piece_fed)

-- where no byte that was read is left, it is no matter in which buffer none is
pub used_up : (bytes : List ℕ) (from : Input) (left : Option (List ℕ)) → left_in from ≡ 0 → to_come bytes from left ≡ unread from left
used_up bytes (Unused a e) left h = rw h (nothing_before left)
  where
    nothing_before : (k : Option (List ℕ)) → prepend_known [] k ≡ k
    nothing_before None = refl
    nothing_before (Some l) = refl
used_up bytes Ended None h = refl
used_up bytes Ended (Some l) h = refl

pub within_start : (from : Input) (room : ℕ) → from ≡ Unused 0 0 → Within from room
within_start from room e = rw e (omega arith, omega arith)

-- ---- the same place, its input in another buffer

module _ (m k : List ℕ) (s : State) (from : Input) (left w : Option (List ℕ)) where
  same_place : {i j : Option (List ℕ)} → i ≡ j → WentTo (place m k s i) (place m k s j) w w
  same_place {i} e = subst (λ x. WentTo (place m k s i) (place m k s x) w w) e (went_nowhere (place m k s i) w)

  pub into_buffer : (bytes : List ℕ) → left_in from ≡ 0 → WentTo (place m k s (unread from left)) (place m k s (to_come bytes from left)) w w
  into_buffer bytes h = same_place (sym (used_up bytes from left h))

  pub out_of_buffer : (bytes : List ℕ) → left_in from ≡ 0 → WentTo (place m k s (to_come bytes from left)) (place m k s (unread from left)) w w
  out_of_buffer bytes h = same_place (used_up bytes from left h)

-- before the first read
pub at_start : (m k bytes : List ℕ) (s r : State) (from : Input) (left w : Option (List ℕ)) → from ≡ Unused 0 0 → r ≡ s → WentTo (place m k s left) (place m k r (to_come bytes from left)) w w
at_start m k bytes s r from left w e f = rw (e, f) (into_buffer m k s (Unused 0 0) left w bytes refl)

-- ---- a turn

ended-none : (from : Input) (left : Option (List ℕ)) (q : List ℕ) → unread from left ≡ Some q → ended_in from ≡ true → q ≡ []
ended-none (Unused a e) left q h t = absurd (false≢true t)
ended-none Ended None q h t = absurd (let z : ◌≡◌ {A = Option (List ℕ)} None (Some q) → ⊥ = λ d. cc in z h)
ended-none Ended (Some l) q h t = cc

-- what was put is the text
put-taken : (d t e : List ℕ) (stop : ℕ) → Puts d 0 t e stop → take stop e ≡ t
put-taken d t e stop p =
    let n : stop ≡ length t = omega (arith, p.stops) in
    rw (n, p.text) (take-append_seam t (drop stop d))

steps-to : {a : Point} {t : List ℕ} (m n k l i : List ℕ) (s r : State) → n ≡ m → l ≡ k → r ≡ s
    → Steps a (record { memory = m; block = k; state = s; coming = i }) t → Steps a (record { memory = n; block = l; state = r; coming = i }) t
steps-to m n k l i s r e f g h = rw (e, f, g) h

-- the input that is known, by the piece that a step is lent
in_parts : (k : Option (List ℕ)) (p i : List ℕ) (rest : Option (List ℕ)) → k ≡ Some i → Keeps k (prepend_known p rest) → (q : List ℕ) × (rest ≡ Some q) × (i ≡ p ++ q)
in_parts None p i rest e h = absurd (let z : ◌≡◌ {A = Option (List ℕ)} None (Some i) → ⊥ = λ d. cc in z e)
in_parts (Some x) p i None e h = absurd h
in_parts (Some x) p i (Some q) e h = let d : x ≡ i = cc in (q, refl, sym d ∙ sym h)

module _ (m k bytes o e n l : List ℕ) (s : State) (before left old new : Option (List ℕ)) (from : Input) (done : Stepped) (does : Does (report_step m k (piece_of bytes from) (ended_in from) (length o) s) n l o e done) (kept : Keeps before (to_come bytes from left)) where
  abbrev y : Left
  y = report_step m k (piece_of bytes from) (ended_in from) (length o) s

  all-put : take done.put e ≡ y.text
  all-put = put-taken o y.text e done.put does.text

  abbrev Parts : List ℕ → Type 0
  Parts i = (q : List ℕ) × (unread from left ≡ Some q) × (i ≡ piece_of bytes from ++ q)

  step-in : (i : List ℕ) → (z : Parts i) → Steps (record { memory = m; block = k; state = s; coming = i }) (next_point y (piece_of bytes from) z.0) y.text
  step-in i z = more _ [] (piece_of bytes from) z.0 (ended_in from) (length o) none z.2 (ended-none from left z.0 z.1)

  -- all of its text was written
  pub turned : done.used ≤ left_in from → Appends old new (take done.put e) → WentTo (place m k s before) (place n l done.state (to_come bytes (after from done.used) left)) old new
  turned h w = record { known = known before refl }
    where
      leads : (i : List ℕ) → Parts i → Led (record { memory = m; block = k; state = s; coming = i }) (Reached (place n l done.state (to_come bytes (after from done.used) left)) old new)
      leads i z =
          let used : piece_of bytes (after from done.used) ≡ drop y.used (piece_of bytes from) =
          piece-after bytes from done.used h ∙ ap (λ u. drop u (piece_of bytes from)) does.used in
          let rest : unread (after from done.used) left ≡ Some z.0 = unread-after from done.used left ∙ z.1 in
          record {
            to = record { memory = n; block = l; state = done.state; coming = drop y.used (piece_of bytes from) ++ z.0 };
            text = y.text;
            steps = steps-to y.memory n y.block l _ y.state done.state does.memory does.block does.state (step-in i z);
            so = record { there = rw (used, rest) refl; written = subst (Appends old new) all-put w };
          }

      known : (b : Option (List ℕ)) → before ≡ b
          → IfSome b (λ i. Led (record { memory = m; block = k; state = s; coming = i }) (Reached (place n l done.state (to_come bytes (after from done.used) left)) old new))
      known None d = tt
      known (Some i) d = leads i (in_parts before (piece_of bytes from) i (unread from left) d kept)

  -- only the first bytes of it were written
  pub cut_off : AppendsSome old new (take done.put e) (length (take done.put e)) → Stopped (place m k s before) old new
  cut_off w = record { known = known before refl }
    where
      known : (b : Option (List ℕ)) → before ≡ b → IfSome b (λ i. Led (record { memory = m; block = k; state = s; coming = i }) (CutOff old new))
      known None d = tt
      known (Some i) d =
          let z = in_parts before (piece_of bytes from) i (unread from left) d kept in
          record {
            to = next_point y (piece_of bytes from) z.0;
            text = y.text;
            steps = step-in i z;
            so = record { written = subst (λ (t : List ℕ). AppendsSome old new t (length t)) all-put w };
          }

-- no step was taken, and nothing written
pub stopped_there : (a : Place) (w : Option (List ℕ)) → Stopped a w w
stopped_there a w = record { known = there a.coming }
  where
    there : (k : Option (List ℕ)) → IfSome k (λ i. Led (known_at a i) (CutOff w w))
    there None = tt
    there (Some i) = record { to = known_at a i; text = []; steps = none; so = record { written = (0, omega arith, Appends-nil w) } }

-- ---- the sheet

-- What the steps from a to b put is the first of what was due at a, and the rest is due at b.
record Joins (a b : Point) (t r : List ℕ) : Type 0 where
  pub rest : List ℕ
  pub text : r ≡ t ++ rest
  pub size : length b.block ≡ 512
  pub due : Due b.state b.memory b.block b.coming rest

steps-due : {a b : Point} {t : List ℕ} (r : List ℕ) → Steps a b t → length a.block ≡ 512 → Due a.state a.memory a.block a.coming r → Joins a b t r
steps-due r none h d = record { rest = r; text = refl; size = h; due = d }
steps-due r (more b t p q ended room s e f) h d =
    let x = steps-due r s h d in
    let y : Onward x.rest (step_from b p ended room) (drop (step_from b p ended room).used p ++ q) =
    step-onward b.memory b.block p q x.rest ended room b.state x.size f (subst (λ i. Due b.state b.memory b.block i x.rest) e x.due) in
    record {
      rest = y.rest;
      text = x.text ∙ ap (λ l. t ++ l) y.text ∙ sym (append_assoc t (step_from b p ended room).text y.rest);
      size = y.size;
      due = y.due;
    }

none-due : (s : State) (m k i r : List ℕ) → finished_in s ≡ true → Due s m k i r → r ≡ []
none-due (Taking n f) m k i r e d = absurd (false≢true e)
none-due Counting m k i r e d = absurd (false≢true e)
none-due (Listing c) m k i r e d = absurd (false≢true e)
none-due Finished m k i r e d = d

module _ (m k : List ℕ) (words : length m ≡ memory_words) (size : length k ≡ 512) where
  abbrev start_at : List ℕ → Point
  start_at i = record { memory = m; block = k; state = start_state; coming = i }

  starts : (i : List ℕ) → length i < 2 ^ 64 → Due start_state m k i (sheet i)
  unfolding sheet
  starts i short = record { part = omega arith; few = omega (arith, short); after = before-first refl words refl }

  pub whole : (known old new : Option (List ℕ)) → WentToEnd (place m k start_state known) old new → IfSome known (λ i. length i < 2 ^ 64 → Appends old new (sheet i))
  whole known old new h = if_known known (λ i _ x short.
      let y = steps-due (sheet i) x.steps size (starts i short) in
      let all : sheet i ≡ x.text = y.text ∙ ap (λ l. x.text ++ l) (none-due x.to.state x.to.memory x.to.block x.to.coming y.rest x.so.is_end y.due) ∙ append-nil x.text in
      subst (Appends old new) (sym all) x.so.written) h.known

  pub part : (known old new : Option (List ℕ)) → Stopped (place m k start_state known) old new → IfSome known (λ i. length i < 2 ^ 64 → AppendsSome old new (sheet i) (length (sheet i)))
  part known old new h = if_known known (λ i _ x short.
      let y = steps-due (sheet i) x.steps size (starts i short) in
      let n = x.so.written.0 in
      let same : take n (sheet i) ≡ take n x.text = ap (take n) y.text ∙ take-append-le n x.text y.rest x.so.written.1 in
      let few : length (sheet i) ≡ length x.text + length y.rest = ap length y.text ∙ length-append x.text y.rest in
      (n, omega (arith, x.so.written.1, few), subst (Appends old new) (sym same) x.so.written.2)) h.known
