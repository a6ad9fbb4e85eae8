-- A block's bytes, put one number after another: the labels of a part, and the whole front of each sort of block.
use mathlib.Core.Path.{◌≡◌, refl, sym, ap, ap₂, ◌∙◌, subst}
use mathlib.Core.List.{List, [], ◌∷◌, ◌++◌, map}
use Prim.Native.Nat.{ℕ, zero, suc, ◌+◌, ◌*◌, ◌/◌, ◌%◌, ◌<◌, ◌≤◌}
use native.Mathlib.Omega.{arith}
use lib.ListN.{length, get_or, take, length-append, length-map, length-take}
use lib.Seq.{take_all}
use Rattle.block.specs.Entry.{Label, Settings, Policy, container, policy}
use Rattle.block.specs.Written.{number_bytes, label_bytes, direction_number, sealed, block_of, settings_block}
use Rattle.block.proofs.LabelLists.{length-bytes}
use Rattle.formed.specs.Words.{label_in}
use Rattle.sealing.specs.Sealing.{Summed, Lengthens}
use Rattle.sealing.proofs.SealingLaws.{lengthens-then, lengthens-none, sealed-front}
use Rattle.entry_blocks.specs.Labels.{LabelsFit}

-- ---- labels

abbrev labelled : List ℕ → List Label
labelled ws = map label_in ws

-- k labels and the next word's
labels-then : (ws : List ℕ) (k : ℕ) → k < length ws → let w = get_or ws k 0 in
    label_bytes (labelled (take k ws)) ++ (number_bytes (w / 65536) ++ number_bytes (w % 65536)) ≡ label_bytes (labelled (take (suc k) ws))
unfolding label_in
labels-then [] k h = absurd (omega arith)
labels-then (x ∷ ws) zero h = refl
labels-then (x ∷ ws) (suc k) h =
    let l : k < length ws = omega arith in
    ap (λ (l : List ℕ). number_bytes (x / 65536) ++ (number_bytes (x % 65536) ++ l)) (labels-then ws k l)

bytes-length : (ws : List ℕ) (k : ℕ) → k ≤ length ws → length (label_bytes (labelled (take k ws))) ≡ 4 * k
bytes-length ws k h = omega (arith, length-bytes (labelled (take k ws)), length-map (take k ws) label_in, length-take k ws)

-- the first k labels are put, up to byte `to`
pub record LabelsPut (ws : List ℕ) (d : List ℕ) (at : ℕ) (e : List ℕ) (k to sum : ℕ) : Type 0 where
  pub until : k ≤ length ws
  pub place : to ≡ at + 4 * k
  pub bytes : Lengthens d at (label_bytes (labelled (take k ws))) e sum

pub put-none : {ws d : List ℕ} {at sum : ℕ} → Summed d at sum → LabelsPut ws d at d 0 at sum
put-none g = record { until = omega arith; place = omega arith; bytes = lengthens-none g }

module _ {ws d e : List ℕ} {at k to sum : ℕ} (g : LabelsPut ws d at e k to sum) where
  behind : to ≡ at + length (label_bytes (labelled (take k ws)))
  behind = omega (arith, g.place, bytes-length ws k g.until)

  pub put-summed : Summed e to sum
  put-summed = subst (λ (i : ℕ). Summed e i sum) (sym behind) g.bytes.summed

  -- room for one more
  pub put-room : LabelsFit ws at → k < length ws → to + 4 ≤ 510
  put-room f l = omega (arith, g.place, f.room)

  pub put_next : k < length ws → {f h : List ℕ} {r s : ℕ} → Lengthens e to (number_bytes (get_or ws k 0 / 65536)) f r
      → Lengthens f (to + 2) (number_bytes (get_or ws k 0 % 65536)) h s → LabelsPut ws d at h (k + 1) (to + 4) s
  put_next l {f} {h} {r} {s} x y =
      let w = get_or ws k 0 in
      let next : suc k ≡ k + 1 = omega arith in
      let four : Lengthens e to (number_bytes (w / 65536) ++ number_bytes (w % 65536)) h s = lengthens-then x y in
      record {
        until = omega arith;
        place = omega (arith, g.place);
        bytes = subst (λ (t : List ℕ). Lengthens d at t h s) (labels-then ws k l ∙ ap (λ (n : ℕ). label_bytes (labelled (take n ws))) next)
            (lengthens-then g.bytes (subst (λ (i : ℕ). Lengthens e i (number_bytes (w / 65536) ++ number_bytes (w % 65536)) h s) behind four));
      }

  pub put_all : length ws ≤ k → Lengthens d at (label_bytes (labelled ws)) e sum
  put_all l = subst (λ (v : List ℕ). Lengthens d at (label_bytes (labelled v)) e sum) (take_all k ws l) g.bytes

-- behind all of them
pub labels-summed : (ws : List ℕ) {d e : List ℕ} {at sum : ℕ} → Lengthens d at (label_bytes (map label_in ws)) e sum → Summed e (at + 4 * length ws) sum
labels-summed ws {d} {e} {at} {sum} g =
    let k : at + length (label_bytes (map label_in ws)) ≡ at + 4 * length ws = omega (arith, length-bytes (map label_in ws), length-map ws label_in) in
    subst (λ (i : ℕ). Summed e i sum) k g.summed

-- ---- the front of a block

-- sealed behind what was put
sealed-as : {d t e f : List ℕ} {r : ℕ} (n : ℕ) → Lengthens d 0 t e r → length t ≡ n → f ≡ sealed (take n e) → f ≡ sealed t
sealed-as {d} {t} {e} n g q s = s ∙ ap sealed (ap (λ (k : ℕ). take k e) (sym q) ∙ sealed-front g)

pub settings-block : (s : Settings) {d e f g h : List ℕ} {q r t : ℕ} → Lengthens d 0 (83 ∷ s.user_key ∷ []) e q → Lengthens e 2 (s.system_key ∷ 0 ∷ []) f r
    → Lengthens f 4 (number_bytes s.system_value) g t → h ≡ sealed (take 6 g) → h ≡ settings_block s
unfolding settings_block
settings-block s x y z w = sealed-as 6 (lengthens-then (lengthens-then x y) z) refl w

pub container-block : (c : List Label) (n : ℕ) {d e f g h : List ℕ} {q r t : ℕ} → length c ≡ n → Lengthens d 0 (67 ∷ n ∷ []) e q → Lengthens e 2 (0 ∷ 0 ∷ []) f r
    → Lengthens f 4 (label_bytes c) g t → h ≡ sealed (take (4 + 4 * n) g) → h ≡ block_of (container c)
unfolding block_of
container-block c n k x y z w =
    sealed-as (4 + 4 * n) (lengthens-then (lengthens-then x y) z) (omega (arith, length-bytes c)) w ∙ ap (λ (i : ℕ). sealed (67 ∷ i ∷ 0 ∷ 0 ∷ label_bytes c)) (sym k)

-- n is the number of its direction
pub policy-block : (p : Policy) (n s a : ℕ) {d e f g h i : List ℕ} {q r t u : ℕ} → n ≡ direction_number p.direction → length p.select ≡ s → length p.allow ≡ a
    → Lengthens d 0 (80 ∷ n ∷ []) e q → Lengthens e 2 (s ∷ a ∷ []) f r
    → Lengthens f 4 (label_bytes p.select) g t → Lengthens g (4 + 4 * s) (label_bytes p.allow) h u → i ≡ sealed (take (4 + 4 * s + 4 * a) h) → i ≡ block_of (policy p)
unfolding block_of
policy-block p n s a {g = g} {h} {u = u} way selects allows x y z v w =
    let selected = label_bytes p.select in
    let allowed = label_bytes p.allow in
    let behind : 4 + 4 * s ≡ 0 + length (80 ∷ n ∷ s ∷ a ∷ selected) = omega (arith, length-bytes p.select) in
    let front = lengthens-then (lengthens-then (lengthens-then x y) z) (subst (λ (k : ℕ). Lengthens g k allowed h u) behind v) in
    sealed-as (4 + 4 * s + 4 * a) front (omega (arith, length-append selected allowed, length-bytes p.select, length-bytes p.allow)) w
    ∙ ap (λ (k : ℕ). sealed (80 ∷ k ∷ s ∷ a ∷ (selected ++ allowed))) way
    ∙ ap₂ (λ (j k : ℕ). sealed (80 ∷ direction_number p.direction ∷ j ∷ k ∷ (selected ++ allowed))) (sym selects) (sym allows)
