-- Sets of policies within others, and the loops: numbers of a set one after another, each done where it is no longer among the rest.
use mathlib.Core.Path.{◌≡◌, refl, sym, ap, ap₂, ◌∙◌, subst}
use mathlib.Core.Bool.{Bool, true, false, ◌&&◌, ◌||◌, or-true, true≢false}
use mathlib.Core.List.{List, []}
use Prim.Native.Nat.{ℕ, zero, suc, ◌+◌, ◌*◌, ◌/◌, ◌%◌, ◌^◌, ◌≤◌, ◌<◌}
use native.Mathlib.Decide.{ℕ_discrete}
use native.Mathlib.Nat.{zero-add}
use Rattle.std.proofs.lemmas.List.{get_or_past}
use native.Mathlib.Omega.{arith}
use lib.ListN.{length, get_or, set}
use Rattle.bitrow.specs.Bit.{bit, bit_at}
use Rattle.bitrow.specs.Set.{nothing, under, remove, meet, join, Lowest}
use Rattle.bitrow.proofs.Sets.{point, nothing-at, meet-at, under-in, join-at, remove-other}
use Rattle.bitrow.proofs.Words.{bit-zero}
use Rattle.formed.specs.Registry.{bits_in}
use Rattle.model.specs.Model.{container_slots}
use Rattle.entries.proofs.Trials.{policy-below}
use Rattle.sets.specs.Sets.{bits}
use Rattle.container_findings.specs.Rows.{policies_stand}
use Rattle.selecting.specs.declared.Filling.TheVariants.{Later, Filled}
use Rattle.selecting.specs.declared.Selecting.{Selecting}
use Rattle.selecting.specs.Selecting.{Within, Shaped, Put, Entered, noted, NotedFor, Joined, EachSelecting, SelectingIn, Sharing, Covering}
use Rattle.selecting.proofs.RowLaws.{shaped-set, put-there, put-kept}

within-self : (s : ℕ → Bool) → Within s s
within-self s = record { each = λ j h. h }

within-again : {s t u : ℕ → Bool} → Within s t → Within t u → Within s u
within-again f g = record { each = λ j h. g.each j (f.each j h) }

within-join-left : (s t : ℕ → Bool) → Within s (join s t)
within-join-left s t = record { each = λ j h. join-at s t j ∙ ap (λ b. b || t j) h }

within-join-right : (s t : ℕ → Bool) → Within t (join s t)
within-join-right s t = record { each = λ j h. join-at s t j ∙ ap (λ b. s j || b) h ∙ or-true (s j) }

within-join : {s t u : ℕ → Bool} → Within s u → Within t u → Within (join s t) u
within-join {s} {t} {u} f g = record { each = λ j h. go j (s j) refl (sym (join-at s t j) ∙ h) }
  where
    go : (j : ℕ) (b : Bool) → s j ≡ b → (b || t j) ≡ true → u j ≡ true
    go j true e h = f.each j e
    go j false e h = g.each j h

-- ---- of a set, P holds of the numbers that are not among the rest

pub record Done (all : ℕ → Bool) (P : ℕ → Type 0) (rest : ℕ → Bool) : Type 0 where
  pub done : (i : ℕ) → all i ≡ true → rest i ≡ false → P i

done-none : (all : ℕ → Bool) (P : ℕ → Type 0) → Done all P all
done-none all P = record { done = λ i h n. absurd (true≢false (sym h ∙ n)) }

module _ (all : ℕ → Bool) (P : ℕ → Type 0) {rest : ℕ → Bool} (g : Done all P rest) where
  done-next : (Q : ℕ → Type 0) (k : ℕ) {next : ℕ → Bool} → next ≡ remove k rest → ((i : ℕ) → P i → Q i) → Q k → Done all Q next
  done-next Q k {next} d f q = record { done = λ i h n. go i h n (ℕ_discrete i k) }
    where
      go : (i : ℕ) → all i ≡ true → next i ≡ false → Dec (i ≡ k) → Q i
      go i h n (yes e) = subst Q (sym e) q
      go i h n (no o) = f i (g.done i h (sym (point d i ∙ remove-other k rest i o) ∙ n))

  done-all : ((i : ℕ) → rest i ≡ false) → (i : ℕ) → all i ≡ true → P i
  done-all n i h = g.done i h (n i)

word-clear : (rest : ℕ) → rest ≤ 0 → (i : ℕ) → bit rest i ≡ false
word-clear rest h i = let e : rest ≡ 0 = omega arith in ap (λ w. bit w i) e ∙ bit-zero i

-- ---- a policy put into rows, word by word

pub record Entering (b first word : ℕ) (before after : List (List ℕ)) (rest : ℕ) : Type 0 where
  pub small : rest < 2 ^ 64
  pub shape : Shaped container_slots after
  pub there : Done (bit word) (λ i. bits after (first + i) b ≡ true) (bit rest)
  pub kept : (c : ℕ) → Within (bits before c) (bits after c)

module _ (b first word : ℕ) where
  abbrev in_row : List (List ℕ) → ℕ → Type 0
  in_row rows i = bits rows (first + i) b ≡ true

  pub entering-none : {rows : List (List ℕ)} → Shaped container_slots rows → word < 2 ^ 64 → Entering b first word rows rows word
  entering-none {rows} s h = record { small = h; shape = s; there = done-none (bit word) (in_row rows); kept = λ c. within-self (bits rows c) }

  module _ {before after : List (List ℕ)} {rest : ℕ} (g : Entering b first word before after rest) where
    pub entering-next : (k : ℕ) (row : List ℕ) {next : ℕ} → bit next ≡ remove k (bit rest) → next < rest
        → first + k < container_slots → Put b (get_or after (first + k) []) row
        → Entering b first word before (set after (first + k) row) next
    entering-next k row d l i p =
        let rows = set after (first + k) row in
        let h : first + k < length after = omega (arith, g.shape.size) in
        let kept = put-kept after (first + k) b row h p in
        record {
          small = omega (arith, l, g.small);
          shape = shaped-set g.shape (first + k) row (p.width ∙ g.shape.width (first + k) i);
          there = done-next (bit word) (in_row after) g.there (in_row rows) k d (λ i t. (kept (first + i)).each b t) (put-there after (first + k) b row h p);
          kept = λ c. within-again (g.kept c) (kept c);
        }

    pub entering-all : rest ≤ 0 → Entered b first (bit word) before after
    entering-all h = record { shape = g.shape; there = done-all (bit word) (in_row after) g.there (word-clear rest h); kept = g.kept }

-- each of the four words of a row
module _ (r : List ℕ) (P : ℕ → Type 0) (e : length r ≡ 4)
    (f : (i : ℕ) → bit (get_or r 0 0) i ≡ true → P (0 + i)) (g : (i : ℕ) → bit (get_or r 1 0) i ≡ true → P (64 + i))
    (h : (i : ℕ) → bit (get_or r 2 0) i ≡ true → P (128 + i)) (j : (i : ℕ) → bit (get_or r 3 0) i ≡ true → P (192 + i)) where
  by-word : (k i : ℕ) → bit (get_or r k 0) i ≡ true → P (k * 64 + i)
  by-word zero i t = f i t
  by-word (suc zero) i t = g i t
  by-word (suc (suc zero)) i t = h i t
  by-word (suc (suc (suc zero))) i t = j i t
  by-word (suc (suc (suc (suc k)))) i t = absurd (true≢false (sym t ∙ ap (λ (w : ℕ). bit w i) (get_or_past r (suc (suc (suc (suc k)))) 0 (omega (arith, e))) ∙ bit-zero i))

  by-words : (c : ℕ) → bit_at r c ≡ true → P (0 + c)
  unfolding bit_at
  by-words c t = let d : c / 64 * 64 + c % 64 ≡ 0 + c = omega arith in subst P d (by-word (c / 64) (c % 64) t)

pub entered-row : (r : List ℕ) → length r ≡ 4 → {b : ℕ} {v w x y z : List (List ℕ)}
    → Entered b 0 (bit (get_or r 0 0)) v w → Entered b 64 (bit (get_or r 1 0)) w x → Entered b 128 (bit (get_or r 2 0)) x y → Entered b 192 (bit (get_or r 3 0)) y z
    → Entered b 0 (bit_at r) v z
entered-row r e {b} {v} {w} {x} {y} {z} f g h j = record {
  shape = j.shape;
  there = by-words r (λ c. bits z c b ≡ true) e
      (λ i t. (j.kept (0 + i)).each b ((h.kept (0 + i)).each b ((g.kept (0 + i)).each b (f.there i t))))
      (λ i t. (j.kept (64 + i)).each b ((h.kept (64 + i)).each b (g.there i t)))
      (λ i t. (j.kept (128 + i)).each b (h.there i t))
      j.there;
  kept = λ c. within-again (f.kept c) (within-again (g.kept c) (within-again (h.kept c) (j.kept c)));
}

-- ---- a policy noted in a table

-- in the rows of those containers
pub noted-rows : {b : ℕ} {r s : ℕ → Bool} {t u : Selecting} → r ≡ s → u.wide ≡ t.wide → Entered b 0 r t.rows u.rows → NotedFor b s t u
noted-rows {b} {r} {s} {t} {u} q e n = record {
  shape = n.shape;
  there = λ c h. (within-join-left (bits u.rows c) (bit_at u.wide)).each b (subst (λ i. bits u.rows i b ≡ true) (zero-add c) (n.there c (point q c ∙ h)));
  kept = λ c. within-join (within-again (n.kept c) (within-join-left (bits u.rows c) (bit_at u.wide)))
      (subst (λ w. Within (bit_at w) (noted u.rows u.wide c)) e (within-join-right (bits u.rows c) (bit_at u.wide)));
}

-- among the wide ones
pub noted-wide : {b : ℕ} (s : ℕ → Bool) {t u : Selecting} → Shaped container_slots t.rows → u.rows ≡ t.rows → Put b t.wide u.wide → NotedFor b s t u
noted-wide {b} s {t} {u} h e p = record {
  shape = subst (λ r. Shaped container_slots r) (sym e) h;
  there = λ c i. (within-join-right (bits u.rows c) (bit_at u.wide)).each b p.there;
  kept = λ c. within-join (subst (λ r. Within (bits r c) (noted u.rows u.wide c)) e (within-join-left (bits u.rows c) (bit_at u.wide)))
      (within-again p.kept (within-join-right (bits u.rows c) (bit_at u.wide)));
}

-- ---- every policy

-- the policies that are not to come are noted for the containers that they select
pub record NotedSoFar (m : List ℕ) (t : Selecting) (rest : ℕ → Bool) : Type 0 where
  pub shape : Shaped container_slots t.rows
  pub there : Done (policies_stand m) (λ b. (c : ℕ) → (bits_in m).selected b c ≡ true → noted t.rows t.wide c b ≡ true) rest

module _ (m : List ℕ) where
  abbrev is_noted : Selecting → ℕ → Type 0
  is_noted t b = (c : ℕ) → (bits_in m).selected b c ≡ true → noted t.rows t.wide c b ≡ true

  pub so_far-none : {t : Selecting} {standing rest : ℕ → Bool} → Shaped container_slots t.rows → standing ≡ policies_stand m → rest ≡ meet standing (under 128) → NotedSoFar m t rest
  so_far-none {t} {standing} {rest} s e f = record {
    shape = s;
    there = record {
      done = λ b h n.
          let t : rest b ≡ true = point f b ∙ meet-at standing (under 128) b ∙ ap₂ ◌&&◌ (point e b ∙ h) (under-in 128 b (policy-below m b h)) in
          absurd (true≢false (sym t ∙ n));
    };
  }

  module _ {t : Selecting} {rest : ℕ → Bool} (g : NotedSoFar m t rest) where
    pub so_far-next : {b : ℕ} {left : ℕ → Bool} {next : Selecting} → left ≡ remove b rest → NotedFor b ((bits_in m).selected b) t next → NotedSoFar m next left
    so_far-next {b} {left} {next} d n = record {
      shape = n.shape;
      there = done-next (policies_stand m) (is_noted t) g.there (is_noted next) b d (λ q f c h. (n.kept c).each q (f c h)) n.there;
    }

    pub so_far-all : rest ≡ nothing → EachSelecting m t.rows t.wide
    so_far-all e = record { shape = g.shape; policy = λ b c h s. done-all (policies_stand m) (is_noted t) g.there (λ i. point e i ∙ nothing-at i) b h c s }

-- ---- rows joined, word by word

pub record Joining (first word : ℕ) (rows : List (List ℕ)) (so_far joined : ℕ → Bool) (rest : ℕ) : Type 0 where
  pub small : rest < 2 ^ 64
  pub kept : Within so_far joined
  pub row : Done (bit word) (λ i. Within (bits rows (first + i)) joined) (bit rest)

module _ (first word : ℕ) (rows : List (List ℕ)) where
  abbrev row_in : (ℕ → Bool) → ℕ → Type 0
  row_in joined i = Within (bits rows (first + i)) joined

  pub joining-none : (s : ℕ → Bool) → word < 2 ^ 64 → Joining first word rows s s word
  joining-none s h = record { small = h; kept = within-self s; row = done-none (bit word) (row_in s) }

  module _ {so_far joined : ℕ → Bool} {rest : ℕ} (g : Joining first word rows so_far joined rest) where
    pub joining-next : (k : ℕ) {next : ℕ} {all : ℕ → Bool} → bit next ≡ remove k (bit rest) → next < rest → all ≡ join joined (bits rows (first + k))
        → Joining first word rows so_far all next
    joining-next k {next} {all} d l e =
        let left : Within joined all = subst (Within joined) (sym e) (within-join-left joined (bits rows (first + k))) in
        let right : Within (bits rows (first + k)) all = subst (Within (bits rows (first + k))) (sym e) (within-join-right joined (bits rows (first + k))) in
        record {
          small = omega (arith, l, g.small);
          kept = within-again g.kept left;
          row = done-next (bit word) (row_in joined) g.row (row_in all) k d (λ i t. within-again t left) right;
        }

    pub joining-all : rest ≤ 0 → Joined first (bit word) rows so_far joined
    joining-all h = record { kept = g.kept; row = done-all (bit word) (row_in joined) g.row (word-clear rest h) }

pub joined-row : (r : List ℕ) → length r ≡ 4 → (rows : List (List ℕ)) {v w x y z t : ℕ → Bool} → t ≡ z
    → Joined 0 (bit (get_or r 0 0)) rows v w → Joined 64 (bit (get_or r 1 0)) rows w x → Joined 128 (bit (get_or r 2 0)) rows x y → Joined 192 (bit (get_or r 3 0)) rows y z
    → Joined 0 (bit_at r) rows v t
joined-row r e rows {v} {w} {x} {y} {z} {t} q f g h j = record {
  kept = within-again (within-again (within-again (within-again f.kept g.kept) h.kept) j.kept) last;
  row = by-words r (λ c. Within (bits rows c) t) e
      (λ i n. within-again (within-again (within-again (within-again (f.row i n) g.kept) h.kept) j.kept) last)
      (λ i n. within-again (within-again (within-again (g.row i n) h.kept) j.kept) last)
      (λ i n. within-again (within-again (h.row i n) j.kept) last)
      (λ i n. within-again (j.row i n) last);
}
  where
    last : Within z t
    last = record { each = λ i n. point q i ∙ n }

-- ---- those that select a container of a set, and those that select all

module _ (m : List ℕ) (who : ℕ → Bool) where
  -- all policies do
  pub sharing-all : {s : ℕ → Bool} → s ≡ under 256 → Sharing m who s
  sharing-all {s} e = record { policy = λ b c h t w. point e b ∙ under-in 256 b (omega (arith, policy-below m b h)) }

  pub sharing-rows : (rows : List (List ℕ)) (wide : List ℕ) {s : ℕ → Bool} → EachSelecting m rows wide → Joined 0 who rows (bit_at wide) s → Sharing m who s
  sharing-rows rows wide {s} f j = record {
    policy = λ b c h t w. (within-join (subst (λ i. Within (bits rows i) s) (zero-add c) (j.row c w)) j.kept).each b (f.policy b c h t);
  }

  pub covering-all : {s : ℕ → Bool} → s ≡ under 256 → Covering m who s
  covering-all {s} e = record { policy = λ b h f. point e b ∙ under-in 256 b (omega (arith, policy-below m b h)) }

  pub covering-row : (rows : List (List ℕ)) (wide : List ℕ) {s : ℕ → Bool} (c : ℕ) → EachSelecting m rows wide → Lowest who 0 256 c → s ≡ noted rows wide c → Covering m who s
  covering-row rows wide {s} c f l e = record { policy = λ b h g. point e b ∙ f.policy b c h (g c l.below l.there) }

-- ---- a table that is not filled, and one that is

pub later-filled : (n : ℕ) → Later n ≡ Filled → ⊥
later-filled n e = cc

module _ (m : List ℕ) {t : Selecting} where
  pub not-filled : Shaped container_slots t.rows → (t.filling ≡ Filled → ⊥) → SelectingIn m t
  not-filled s n = record { shape = s; filled = λ e. absurd (n e) }

  pub now-filled : EachSelecting m t.rows t.wide → SelectingIn m t
  now-filled e = record { shape = e.shape; filled = λ f. e }
