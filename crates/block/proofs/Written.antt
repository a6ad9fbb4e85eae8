-- The block that says an entry, or settings, reads back as it, exactly if it is valid.
use mathlib.Core.Path.{◌≡◌, refl, sym, ap, ◌∙◌}
use mathlib.Core.Logic.{◌↔◌}
use mathlib.Core.Bool.{true, ◌||◌, and-eq-true_iff}
use mathlib.Core.List.{List, [], ◌∷◌, ◌++◌, append_assoc}
use Prim.Native.Nat.{ℕ, ◌+◌, ◌*◌, ◌≤◌}
use native.Mathlib.Omega.{arith}
use borrow.Author.Tests.{leb-true}
use lib.Dec.{eqb, leb}
use lib.ListN.{length, length-append}
use Rattle.block.specs.declared.Direction.{Direction}
use Rattle.block.specs.declared.Direction.TheVariants.{Ingress as ingress, Egress as egress}
use Rattle.std.specs.Prelude.{None}
use Rattle.block.specs.Entry.{Label, Policy, Settings, Entry, container, policy}
use Rattle.block.specs.Bytes.{byte_at}
use Rattle.block.specs.Reader.{within, zero_fault, unused_fault, is_container, layout_of, container_layout, policy_layout, direction_of, container_said, policy_said, entry_said, settings_unused, settings_said, read_settings, read_entry}
use Rattle.block.specs.Refusal.{accepted}
use Rattle.block.specs.Written.{number_bytes, sealed, label_bytes, direction_number, block_of, settings_block, valid_labels, valid_entry, valid_settings}
use Rattle.block.proofs.Faults.{clear_none}
use Rattle.block.proofs.LabelLists.{labels-read, length-bytes}
use Rattle.block.proofs.Accepted.{SettingsRead, settings-accepted, EntryRead, entry-accepted, settings-clear, entry-clear, settings-valid, accepted-valid}
use Rattle.block.proofs.Sealed.{number-back, sealed-begins, sealed-length, sealed-checked, sealed-unused}

-- ---- what a block says is what it was written from

pub direction-back : (d : Direction) → direction_of (direction_number d) ≡ d
unfolding direction_of
direction-back ingress = refl
direction-back egress = refl

policy-back : (p : Policy) (rest : List ℕ) → policy_said (80 ∷ direction_number p.direction ∷ length p.select ∷ length p.allow ∷ (label_bytes p.select ++ (label_bytes p.allow ++ rest))) ≡ p
unfolding policy_said
policy-back p rest =
    let head : List ℕ = 80 ∷ direction_number p.direction ∷ length p.select ∷ length p.allow ∷ [] in
    let next : 4 + 4 * length p.select ≡ length (head ++ label_bytes p.select) = omega (arith, length-bytes p.select) in
    let s = labels-read head p.select (label_bytes p.allow ++ rest) in
    let a = rw append_assoc at (labels-read (head ++ label_bytes p.select) p.allow rest) in
    simp (direction-back, s, next, a)

entry-back : (e : Entry) → entry_said (block_of e) ≡ e
unfolding entry_said container_said block_of
entry-back (container c) = rw sealed-begins (ap container (labels-read (67 ∷ length c ∷ 0 ∷ 0 ∷ []) c _))
entry-back (policy p) = rw (sealed-begins, append_assoc) (ap policy (policy-back p _))

settings-back : (s : Settings) → settings_said (settings_block s) ≡ s
unfolding settings_said settings_block
settings-back s = rw (sealed-begins, number-back)

-- ---- a block that is written reads back

short : (limit : ℕ) (ls : List Label) → valid_labels limit ls ≡ true → length ls ≤ limit
unfolding valid_labels
short limit ls v = leb-true (length ls) limit ((and-eq-true_iff (leb (length ls) limit) _).0 v).0

reads : (s : Settings) (e : Entry) (front : List ℕ) → let b = sealed front in length front ≤ 510 → entry_said b ≡ e → valid_entry s e ≡ true → (is_container b || eqb (byte_at b 0) 80) ≡ true → (is_container b || within 1 2 (byte_at b 1)) ≡ true → unused_fault b (layout_of b).unused ≡ None → EntryRead b e
reads s e front h q v k d u =
    let c = entry-clear s (sealed front) ∙ (and-eq-true_iff _ _).1 (d, ap (valid_entry s) q ∙ v) in
    let l = (and-eq-true_iff _ _).0 c in
    let r = (and-eq-true_iff _ _).0 l.1 in
    record { long = sealed-length front h; checked = sealed-checked front h; kind = k; limits = clear_none _ l.0; ranges = clear_none _ r.0; orders = clear_none _ r.1; unused = u; says = sym q }

direction-number : (d : Direction) → within 1 2 (direction_number d) ≡ true
unfolding within
direction-number ingress = refl
direction-number egress = refl

zero-at-3 : (x y z : ℕ) (rest : List ℕ) → zero_fault (x ∷ y ∷ z ∷ 0 ∷ rest) 3 4 ≡ None
unfolding zero_fault
zero-at-3 x y z rest = refl

zero-at-2 : (x y : ℕ) (rest : List ℕ) → zero_fault (x ∷ y ∷ 0 ∷ 0 ∷ rest) 2 4 ≡ None
unfolding zero_fault
zero-at-2 x y rest = refl

entry-reads : (s : Settings) (e : Entry) → valid_entry s e ≡ true → EntryRead (block_of e) e
unfolding block_of valid_entry layout_of container_layout policy_layout
entry-reads s (container c) v =
    let front : List ℕ = 67 ∷ length c ∷ 0 ∷ 0 ∷ label_bytes c in
    let n = length-bytes c in
    let h : length front ≤ 510 = omega (arith, short 8 c v) in
    let u = ap (λ (b : List ℕ). unused_fault (sealed front) (layout_of b).unused) (sealed-begins front) in
    let z = ap (λ (b : List ℕ). zero_fault b 2 4) (sealed-begins front) ∙ zero-at-2 67 (length c) _ in
    let w = sealed-unused front h (4 + 4 * length c) (omega arith) in
    reads s (container c) front h (entry-back (container c)) v (rw sealed-begins) (rw sealed-begins) (u ∙ rw (z, w))
entry-reads s (policy p) v =
    let front : List ℕ = 80 ∷ direction_number p.direction ∷ length p.select ∷ length p.allow ∷ (label_bytes p.select ++ label_bytes p.allow) in
    let n : length front ≡ 4 + 4 * (length p.select + length p.allow) = omega (arith, length-append (label_bytes p.select) (label_bytes p.allow), length-bytes p.select, length-bytes p.allow) in
    let o = (and-eq-true_iff _ _).0 v in
    let h : length front ≤ 510 = omega (arith, short 4 p.select o.0, short 4 p.allow o.1) in
    let u = ap (λ (b : List ℕ). unused_fault (sealed front) (layout_of b).unused) (sealed-begins front) in
    let w = sealed-unused front h (4 + 4 * (length p.select + length p.allow)) (omega arith) in
    reads s (policy p) front h (entry-back (policy p)) v (rw sealed-begins) (rw (sealed-begins, direction-number)) (u ∙ rw w)

settings-reads : (s : Settings) → valid_settings s ≡ true → SettingsRead (settings_block s) s
unfolding settings_block settings_unused
settings-reads s v =
    let front : List ℕ = 83 ∷ s.user_key ∷ s.system_key ∷ 0 ∷ number_bytes s.system_value in
    let h : length front ≤ 510 = omega arith in
    let b = sealed front in
    let q : settings_said b ≡ s = settings-back s in
    let z = ap (λ (l : List ℕ). zero_fault l 3 4) (sealed-begins front) ∙ zero-at-3 83 s.user_key s.system_key _ in
    let w = sealed-unused front h 6 (omega arith) in
    record { long = sealed-length front h; checked = sealed-checked front h; kind = rw sealed-begins; ranges = clear_none _ (settings-clear b ∙ ap valid_settings q ∙ v); unused = rw (z, w); says = sym q }

-- each block has its 512 bytes
pub written-length : (s : Settings) (e : Entry) → valid_entry s e ≡ true → length (block_of e) ≡ 512
written-length s e v = (entry-reads s e v).long

pub settings-length : (s : Settings) → length (settings_block s) ≡ 512
unfolding settings_block
settings-length s = sealed-length (83 ∷ s.user_key ∷ s.system_key ∷ 0 ∷ number_bytes s.system_value) (omega arith)

pub written_read : (s : Settings) (e : Entry) → valid_entry s e ≡ true → read_entry s (block_of e) ≡ accepted e
written_read s e v = (entry-accepted s (block_of e) e).1 (entry-reads s e v)

pub settings-read : (s : Settings) → valid_settings s ≡ true → read_settings (settings_block s) ≡ accepted s
settings-read s v = (settings-accepted (settings_block s) s).1 (settings-reads s v)

-- an entry is valid exactly if its block reads back as it
pub valid-exactly : (s : Settings) (e : Entry) → (valid_entry s e ≡ true) ↔ (read_entry s (block_of e) ≡ accepted e)
valid-exactly s e = (written_read s e, accepted-valid s (block_of e) e)

pub settings-exactly : (s : Settings) → (valid_settings s ≡ true) ↔ (read_settings (settings_block s) ≡ accepted s)
settings-exactly s = (settings-read s, settings-valid (settings_block s) s)
