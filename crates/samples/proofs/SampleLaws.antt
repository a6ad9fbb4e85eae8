-- What the stores leave: labels after labels, a body over zeros, the checksum after it.
use Rattle.std.proofs.Common.{◌≡◌, ℕ, zero, suc, ◌+◌, ◌-◌, ◌*◌, ◌/◌, ◌%◌, ◌<◌, ◌≤◌, min, List, [], ◌∷◌, ◌++◌, length, take, drop, set, replicate, sym, refl, ap, ◌∙◌, ap₂, add-zero, add-suc, suc-add, zero-add, add-one, arith, append_assoc, length-append, length-set, take_at, drop_at}
use lib.ListN.{length-replicate, replicate-append-replicate, get_or-append}
use lib.Seq.{sets, sets-eq, drop-drop}
use borrow.Rule.Slice.PartMut.{put_mid}
use Rattle.block.specs.Bytes.{checksum}
use Rattle.block.specs.Written.{number_bytes}
use Rattle.block.proofs.Weights.{same-weight}
use Rattle.samples.specs.declared.Shape.{Shape}
use Rattle.samples.specs.Samples.{rising_labels, front, body, block_of_shape}

-- ---- stores

-- bytes copied over a part
pub copied : (l : List ℕ) (a k : ℕ) (ys vs : List ℕ) → ys ≡ vs → k ≡ length vs → a + k ≤ length l → put_mid a k l ys ≡ sets l a vs
copied l a k ys vs p e h =
    ap₂ (λ (x y : List ℕ). take a l ++ (x ++ y)) p (drop-drop k a l ∙ ap (λ (n : ℕ). drop (a + n) l) e) ∙ sym (append_assoc (take a l) vs (drop (a + length vs) l))
    ∙ sym (sets-eq vs l a (omega (arith, e)))

sets-append : (l : List ℕ) (i : ℕ) (us vs : List ℕ) → sets l i (us ++ vs) ≡ sets (sets l i us) (i + length us) vs
sets-append l i [] vs = ap (λ (n : ℕ). sets l n vs) (sym (add-zero i))
sets-append l i (u ∷ us) vs = sets-append (set l i u) (suc i) us vs ∙ ap (λ (n : ℕ). sets (sets (set l i u) (suc i) us) n vs) (suc-add i (length us) ∙ sym (add-suc i (length us)))

-- ---- labels

rising-length : (key n : ℕ) → length (rising_labels key n) ≡ 4 * n
unfolding rising_labels
rising-length key zero = refl
rising-length key (suc n) =
    let e = rising-length key n in
    length-append (rising_labels key n) _ ∙ omega arith

-- one label more, put after the first k
pub rising-next : (b d e : List ℕ) (key k at : ℕ) → at ≡ 4 + 4 * k → d ≡ sets b 4 (rising_labels key k) → e ≡ sets d at (0 ∷ (key + k) % 256 ∷ 0 ∷ 1 ∷ []) → e ≡ sets b 4 (rising_labels key (k + 1))
unfolding rising_labels
rising-next b d e key k at a p w =
    let h : at ≡ 4 + length (rising_labels key k) = a ∙ ap (λ (n : ℕ). 4 + n) (sym (rising-length key k)) in
    w ∙ rw (p, h) (sym (sets-append b 4 (rising_labels key k) (0 ∷ (key + k) % 256 ∷ 0 ∷ 1 ∷ [])))
    ∙ ap (λ (n : ℕ). sets b 4 (rising_labels key n)) (sym (add-one k))

-- the labels after the first four bytes
pub front-sets : (s : Shape) (b d e : List ℕ) → d ≡ sets b 0 (s.kind ∷ s.one ∷ s.two ∷ s.three ∷ []) → e ≡ sets d 4 (rising_labels s.key (min s.labels 9)) → e ≡ sets b 0 (front s)
unfolding front
front-sets s b d e p q = q ∙ ap (λ (l : List ℕ). sets l 4 (rising_labels s.key (min s.labels 9))) p

front_length : (s : Shape) → length (front s) ≤ 510
unfolding front
front_length s = let e = rising-length s.key (min s.labels 9) in omega arith

-- ---- over zeros

abbrev zeros : ℕ → List ℕ
zeros n = replicate n 0

take-zeros : (n m : ℕ) → take n (zeros (n + m)) ≡ zeros n
take-zeros n m = ap (take n) (sym (replicate-append-replicate n m 0)) ∙ take_at (zeros n) (zeros m) n (length-replicate n 0)

drop-zeros : (k n : ℕ) → k ≤ n → drop k (zeros n) ≡ zeros (n - k)
drop-zeros k n h =
    let e : n ≡ k + (n - k) = omega arith in
    ap (λ (j : ℕ). drop k (zeros j)) e ∙ ap (drop k) (sym (replicate-append-replicate k (n - k) 0)) ∙ drop_at (zeros k) (zeros (n - k)) k (length-replicate k 0)

over_zeros : (vs : List ℕ) (n m : ℕ) → length vs ≤ n → sets (take n (zeros (n + m))) 0 vs ≡ vs ++ zeros (n - length vs)
over_zeros vs n m h =
    ap (λ (l : List ℕ). sets l 0 vs) (take-zeros n m)
    ∙ sets-eq vs (zeros n) 0 (rw (length-replicate {A = ℕ} n 0) (omega arith))
    ∙ ap (λ (l : List ℕ). vs ++ l) (ap (λ (k : ℕ). drop k (zeros n)) (zero-add (length vs)) ∙ drop-zeros (length vs) n h)

pub body-made : (s : Shape) (b : List ℕ) → b ≡ set (sets (take 510 (zeros 512)) 0 (front s)) s.at s.byte → b ≡ body s
unfolding body
body-made s b e = e ∙ ap (λ (l : List ℕ). set l s.at s.byte) (over_zeros (front s) 510 2 (front_length s))

-- ---- the checksum after the body

filled-length : (vs : List ℕ) (n at a : ℕ) → length vs ≤ n → length (set (vs ++ zeros (n - length vs)) at a) ≡ n
filled-length vs n at a h = simp (length-set, length-append, length-replicate) (omega arith)

body-length : (s : Shape) → length (body s) ≡ 510
unfolding body
body-length s = filled-length (front s) 510 s.at s.byte (front_length s)

pub body-room : (s : Shape) (b : List ℕ) → b ≡ body s → length (b ++ 0 ∷ 0 ∷ []) ≡ 512
body-room s b e = length-append b (0 ∷ 0 ∷ []) ∙ ap (λ (n : ℕ). n + 2) (ap length e ∙ body-length s)

pub checksum-small : (b : List ℕ) → checksum b < 65521
unfolding checksum
checksum-small b = omega arith

pub number-copied : (b bytes new : List ℕ) (n k : ℕ) → n < 65536 → bytes ≡ n / 256 % 256 ∷ n % 256 ∷ [] → new ≡ bytes → k ≡ 2 → 510 + k ≤ length b → put_mid 510 k b new ≡ sets b 510 (number_bytes n)
number-copied b bytes new n k l p q e h =
    let high : n / 256 % 256 ≡ n / 256 = omega arith in
    copied b 510 k new (number_bytes n) (q ∙ p ∙ ap (λ (x : ℕ). x ∷ n % 256 ∷ []) high) e h

-- what stands after the body does not show in it
checksum-body : (b c : List ℕ) → length b ≡ 510 → checksum (b ++ c) ≡ checksum b
unfolding checksum
checksum-body b c h = ap (λ (n : ℕ). n % 65521) (same-weight (b ++ c) b 510 (λ k l. get_or-append b c 0 k (rw h l)))

two-sets : (b : List ℕ) (x y : ℕ) → sets (b ++ 0 ∷ 0 ∷ []) (length b) (x ∷ y ∷ []) ≡ b ++ x ∷ y ∷ []
two-sets [] x y = refl
two-sets (a ∷ b) x y = ap (λ (l : List ℕ). a ∷ l) (two-sets b x y)

pub block_made : (s : Shape) (b e : List ℕ) → b ≡ body s → e ≡ sets (b ++ 0 ∷ 0 ∷ []) 510 (number_bytes ((checksum (b ++ 0 ∷ 0 ∷ []) + s.above) % 65521)) → e ≡ block_of_shape s
unfolding block_of_shape
block_made s b e p q =
    let h : length b ≡ 510 = ap length p ∙ body-length s in
    q
    ∙ ap (λ (n : ℕ). sets (b ++ 0 ∷ 0 ∷ []) n (number_bytes ((checksum (b ++ 0 ∷ 0 ∷ []) + s.above) % 65521))) (sym h)
    ∙ two-sets b _ _
    ∙ ap (λ (n : ℕ). b ++ number_bytes ((n + s.above) % 65521)) (checksum-body b (0 ∷ 0 ∷ []) h)
    ∙ ap (λ (l : List ℕ). l ++ number_bytes ((checksum l + s.above) % 65521)) p
