-- A text written in pieces.
use Rattle.std.proofs.Common.{◌≡◌, ℕ, ◌-◌, ◌≤◌, List, [], ◌++◌, Option, Some, None, Result, Ok, Err, OnErr, take, drop, length, refl, sym, ap, ◌∙◌, subst, append_assoc, append-nil, take-append-drop, arith, length-append, length-drop}
use Rattle.std.proofs.Math.Seq.{take_at, take_all}
use Rattle.std.proofs.KnownBytes.{Appends-nil, Appends-trans}
use Rattle.std.specs.Io.KnownBytes.{Keeps, Appends}
use Rattle.streams.specs.Bytes.{AppendsSome}

-- Of the text, all but the rest was written.
pub record Written (a b : Option (List ℕ)) (text rest : List ℕ) : Type 0 where
  pub done : List ℕ
  pub parts : text ≡ done ++ rest
  pub grown : Appends a b done

pub written-none : (a : Option (List ℕ)) (text : List ℕ) → Written a a text text
written-none a text = record { done = []; parts = refl; grown = Appends-nil a }

-- k bytes of the rest more
pub written_on : {a b c : Option (List ℕ)} {text rest : List ℕ} (k n : ℕ) → n ≡ length rest - k → Written a b text rest → Appends b c (take k rest) → Written a c text (take n (drop k rest))
written_on {a} {b} {c} {text} {rest} k n e w p = record {
  done = w.done ++ take k rest;
  parts =
      w.parts ∙ ap (λ (l : List ℕ). w.done ++ l) (sym (take-append-drop k rest)) ∙ sym (append_assoc w.done (take k rest) (drop k rest))
      ∙ ap (λ (l : List ℕ). (w.done ++ take k rest) ++ l) (sym (take_all n (drop k rest) (omega (arith, length-drop k rest))));
  grown = Appends-trans a b c w.done (take k rest) w.grown p;
}

pub written-all : {a b : Option (List ℕ)} {text rest : List ℕ} → Written a b text rest → rest ≡ [] → Appends a b text
written-all {a} {b} {text} w e = subst (Appends a b) (sym (append-nil w.done) ∙ ap (λ (l : List ℕ). w.done ++ l) (sym e) ∙ sym w.parts) w.grown

-- no byte was put
pub appends-nothing : (a b : Option (List ℕ)) → Keeps a b → Appends a b []
appends-nothing None b h = tt
appends-nothing (Some x) None h = h
appends-nothing (Some x) (Some y) h = h ∙ sym (append-nil x)

-- no more of it was written
pub written-part : {a b : Option (List ℕ)} {text rest : List ℕ} (c : Option (List ℕ)) → Written a b text rest → Appends b c [] → AppendsSome a c text (length text)
written-part {a} {b} {text} {rest} c w p =
    let same : w.done ++ [] ≡ take (length w.done) text = append-nil w.done ∙ sym (ap (take (length w.done)) w.parts ∙ take_at w.done rest (length w.done) refl) in
    let few : length w.done ≤ length text = omega (arith, ap length w.parts ∙ length-append w.done rest) in
    (length w.done, few, subst (Appends a c) same (Appends-trans a b c w.done [] w.grown p))

pub on_err : {T E : Type 0} (r : Result T E) {P : Type 0} → P → OnErr r P
on_err (Ok x) p = tt
on_err (Err e) p = p
