-- What is put into a buffer, piece after piece.
use mathlib.Core.Path.{◌≡◌, sym, ap, ap₂, ◌∙◌, subst}
use mathlib.Core.List.{List, [], ◌∷◌, ◌++◌, append_assoc, append-nil}
use Prim.Native.Nat.{ℕ, suc, ◌+◌, ◌-◌, ◌≤◌, ◌<◌}
use native.Mathlib.Omega.{arith}
use native.Mathlib.Numerals.{add-one}
use native.Mathlib.Nat.{add-zero, zero-add}
use lib.ListN.{length, take, drop, get_or, set, length-append, length-drop, take-append-drop}
use lib.Seq.{length-take-le, take-length, take-suc, drop-cons, append_snoc, drop-append-add, drop-drop, set_at, take_at}
use borrow.Rule.Slice.PartMut.{put_mid, post_of, Post-is}
use Rattle.buffer.specs.Buffer.{overwritten, Puts}

pub puts_none : {d : List ℕ} {at : ℕ} → at ≤ length d → Puts d at [] d at
puts_none {d} {at} h = record {
  stops = sym (add-zero at);
  room = h;
  text = sym (take-append-drop at d) ∙ ap (λ (l : List ℕ). l ++ drop at d) (sym (append-nil (take at d)));
}

module _ {d t e : List ℕ} {at stop : ℕ} (g : Puts d at t e stop) where
  -- what stands before its end
  before : length (take at d ++ t) ≡ stop
  before = length-append (take at d) t ∙ ap (λ (k : ℕ). k + length t) (length-take-le at d (omega (arith, g.stops, g.room))) ∙ sym g.stops

  pub puts-size : length e ≡ length d
  puts-size = ap length g.text ∙ length-append (take at d ++ t) (drop stop d) ∙ ap₂ (λ (x y : ℕ). x + y) before (length-drop stop d) ∙ (let h = g.room in omega (arith, h))

  -- one more
  pub puts-next : (b : ℕ) → stop < length e → Puts d at (t ++ b ∷ []) (set e stop b) (stop + 1)
  puts-next b h =
      let l : stop < length d = omega (arith, h, puts-size) in
      let p = take at d ++ t in
      record {
        stops = omega (arith, g.stops, length-append t (b ∷ []));
        room = omega (arith, l);
        text =
            ap (λ (x : List ℕ). set x stop b) (g.text ∙ ap (λ (x : List ℕ). p ++ x) (drop-cons d stop 0 l))
            ∙ set_at p (get_or d stop 0) (drop (suc stop) d) b stop before
            ∙ sym (append_snoc p b (drop (suc stop) d))
            ∙ ap₂ (λ (x y : List ℕ). x ++ y) (append_assoc (take at d) t (b ∷ [])) (ap (λ (k : ℕ). drop k d) (sym (add-one stop)));
      }

  pub puts-as : {u : List ℕ} → t ≡ u → Puts d at u e stop
  puts-as {u} q = subst (λ (l : List ℕ). Puts d at l e stop) q g

  -- another text behind it
  pub puts_then : {u f : List ℕ} {r : ℕ} → Puts e stop u f r → Puts d at (t ++ u) f r
  puts_then {u} {f} {r} h =
      let p = take at d ++ t in
      let n = h.stops in
      record {
        stops = omega (arith, g.stops, n, length-append t u);
        room = omega (arith, h.room, puts-size);
        text =
            h.text
            ∙ ap₂ (λ (x y : List ℕ). x ++ u ++ y) (ap (take stop) g.text ∙ take_at p (drop stop d) stop before)
            (ap₂ drop n g.text ∙ ap (λ (k : ℕ). drop (k + length u) (p ++ drop stop d)) (sym before) ∙ drop-append-add p (drop stop d) (length u)
            ∙ drop-drop (length u) stop d ∙ ap (λ (k : ℕ). drop k d) (sym n))
            ∙ ap (λ (x : List ℕ). x ++ drop r d) (append_assoc (take at d) t u);
      }

-- a part that was lent, and holds t when it is back
pub puts-lent : {d t part : List ℕ} (at stop : ℕ) → at ≤ stop → stop ≤ length d → length t ≡ stop - at → part ≡ t → Puts d at t (put_mid at (stop - at) d part) stop
puts-lent {d} {t} at stop h r n q = record {
  stops = omega arith;
  room = r;
  text =
      ap (λ (l : List ℕ). take at d ++ (l ++ post_of at (stop - at) d)) q
      ∙ ap (λ (l : List ℕ). take at d ++ (t ++ l)) (Post-is at stop d h)
      ∙ sym (append_assoc (take at d) t (drop stop d));
}

-- ---- a list, copied one after another

module _ (w : List ℕ) {d : List ℕ} {at : ℕ} where
  pub copy-none : at ≤ length d → Puts d at (take 0 w) d (at + 0)
  copy-none h = subst (Puts d at [] d) (sym (add-zero at)) (puts_none h)

  pub copy-next : (i : ℕ) {e : List ℕ} → Puts d at (take i w) e (at + i) → i < length w → at + i < length e → Puts d at (take (i + 1) w) (set e (at + i) (get_or w i 0)) (at + (i + 1))
  copy-next i {e} g h k =
      let q : at + i + 1 ≡ at + (i + 1) = omega arith in
      let t : take i w ++ get_or w i 0 ∷ [] ≡ take (i + 1) w = sym (take-suc w i 0 h) ∙ ap (λ (j : ℕ). take j w) (sym (add-one i)) in
      subst (Puts d at (take (i + 1) w) (set e (at + i) (get_or w i 0))) q
      (subst (λ (l : List ℕ). Puts d at l (set e (at + i) (get_or w i 0)) (at + i + 1)) t (puts-next g (get_or w i 0) k))

  -- and one more after it
  pub copy-all : (i : ℕ) {e : List ℕ} → Puts d at (take i w) e (at + i) → i ≡ length w → (b : ℕ) → at + length w < length e → Puts d at (w ++ b ∷ []) (set e (at + length w) b) (at + length w + 1)
  copy-all i {e} g h b k =
      puts-next (subst (λ (l : List ℕ). Puts d at l e (at + length w)) (take-length w) (subst (λ (j : ℕ). Puts d at (take j w) e (at + j)) h g)) b k

-- what is put at the start is laid over
pub puts-start : {d t e : List ℕ} {stop : ℕ} → Puts d 0 t e stop → e ≡ overwritten d t
unfolding overwritten
puts-start {d} {t} g = g.text ∙ ap (λ (k : ℕ). t ++ drop k d) (g.stops ∙ zero-add (length t))

-- and read back
pub puts-taken : {d t e : List ℕ} {stop : ℕ} → Puts d 0 t e stop → take stop e ≡ t
puts-taken {d} {t} {e} {stop} g = ap (take stop) g.text ∙ take_at t (drop stop d) stop (sym (g.stops ∙ zero-add (length t)))
