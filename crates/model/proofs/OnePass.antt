-- Blocks one after another make changes, each of which fits; by the theory of changes these leave what one pass leaves. Admissions free
-- no slot: so each policy that came stands at its slot at the end, and the slots that came tell what the pass touches.
use mathlib.Core.Path.{◌≡◌, refl, sym, ap, ap₂, subst, fun_ext, ◌∙◌}
use mathlib.Core.Bool.{Bool, true, false, true≢false, ◌&&◌, ◌||◌, cond}
use mathlib.Core.List.{List, [], ◌∷◌}
use mathlib.Core.Option.{Option, none, some}
use Prim.Native.Nat.{ℕ}
use native.Mathlib.Omega.{arith}
use lib.Dec.{eqb}
use lib.ListN.{set}
use lib.Seq.{get_or-set_same}
use borrow.Author.Tests.{eqb-true}
use Rattle.block.specs.Entry.{Policy}
use Rattle.model.specs.Table.{Table, any, on, at, stands, lowest_free}
use Rattle.model.specs.Rules.{reaches}
use Rattle.model.specs.Model.{Model, with_container, with_policy, matrix_bit, selected_bit, allowed_bit, computed_bits}
use Rattle.model.specs.Calls.{Answer, refusal, run}
use Rattle.model.specs.ModelStep.{admitting_block}
use Rattle.model.specs.Registry.{Registry, BitsStand, set_where}
use Rattle.model.specs.RegistryStep.{admit_block}
use Rattle.model.specs.Settled.{settled}
use Rattle.model.specs.OnePass.{containers_came, policies_came, entries_placed, one_pass, AdmittedOnce}
use Rattle.model.proofs.Lists.{All, both}
use Rattle.model.proofs.Tables.{lowest-is-free}
use Rattle.model.proofs.Lowest.{lowest-below}
use Rattle.model.proofs.Changes.{Changes, entries_after, set_bits, bits_after, set_once, Lawful, AllFit}
use Rattle.model.proofs.ChangesLaws.{once}
use Rattle.model.proofs.Book.{reflexive, BitPlace, EntryChange, container_becomes, policy_becomes, put_entry, bit_by_rules, touched_by, book_changes}
use Rattle.model.proofs.BookLawful.{other-slot, book-lawful}
use Rattle.model.proofs.WrittenRules.{both_directions, written_rules, model_book, model-laws, registry_with, registry-change}
use Rattle.model.proofs.Clear.{stored_at}
use Rattle.model.proofs.Came.{touched_at, touched_came, none_came, Sits, one-came}
use Rattle.model.proofs.Admission.{Comes, slot_answer, comes-fits, Outcome, turned, came, outcome}

abbrev model_changes : Changes Model (EntryChange Policy) BitPlace
model_changes = book_changes model_book

-- ---- what the blocks change

record Pass (m : Model) (old : BitPlace → Bool) (bs : List (List ℕ)) : Type 0 where
  changes : List (EntryChange Policy)
  answers : List Answer
  come : AllFit model_changes Comes m changes
  entries : run admitting_block m bs ≡ (entries_after model_changes m changes, answers)
  stored : run admit_block (registry_with m old) bs ≡ (registry_with (entries_after model_changes m changes) (bits_after model_changes m changes old), answers)
  -- where the policies that came stand at their slots
  touched : (n : Model) → All (Sits n) changes → (i : BitPlace) → any (λ c. touched_by model_book n c i) changes ≡ touched_came n answers i

pass : (m : Model) (old : BitPlace → Bool) (bs : List (List ℕ)) → Pass m old bs
unfolding book_changes registry_with containers_came policies_came
pass m old [] = record { changes = []; answers = []; come = tt; entries = refl; stored = refl; touched = λ n s i. sym (none_came n i) }
pass m old (b ∷ bs) = after (outcome (registry_with m old) b) (λ n bits. pass n bits bs)
  where
    after : Outcome (registry_with m old) b → ((n : Model) (bits : BitPlace → Bool) → Pass n bits bs) → Pass m old (b ∷ bs)
    after (turned n q e s) rest =
        let p = rest m old in
        record {
          changes = p.changes;
          answers = refusal n q ∷ p.answers;
          come = p.come;
          entries = rw e (ap (λ t. (t.0, refusal n q ∷ t.1)) p.entries);
          stored = rw s (ap (λ t. (t.0, refusal n q ∷ t.1)) p.stored);
          touched = p.touched;
        }
    after (came c g e s) rest =
        let p = rest (put_entry model_book m c) (set_bits model_changes m c old) in
        record {
          changes = c ∷ p.changes;
          answers = slot_answer c ∷ p.answers;
          come = (g, p.come);
          entries = rw e (ap (λ t. (t.0, slot_answer c ∷ t.1)) p.entries);
          stored = rw (s, registry-change m old c) (ap (λ t. (t.0, slot_answer c ∷ t.1)) p.stored);
          touched = λ n h i. ap (λ t. touched_by model_book n c i || t) (p.touched n h.1 i) ∙ sym (one-came n c h.0 p.answers i);
        }

-- ---- what stands stays

abbrev Stays : {A : Type 0} → Table A → Table A → Type 0
Stays {A} s t = (i : ℕ) (x : A) → at s i ≡ some x → at t i ≡ some x

set-stays : {A : Type 0} (t : Table A) (i : ℕ) (y : Option A) → lowest_free t ≡ some i → Stays t (set t i y)
set-stays t i y e j x h = pick (eqb j i) refl
  where
    pick : (u : Bool) → eqb j i ≡ u → at (set t i y) j ≡ some x
    pick true g =
        let n : at t j ≡ none = ap (at t) (eqb-true j i g) ∙ lowest-is-free t i e in
        let z : ◌≡◌ {A = ℕ} 0 1 = cc in
        absurd (omega arith)
    pick false g = other-slot t i j y g ∙ h

record AllStay (m n : Model) : Type 0 where
  containers : Stays m.containers n.containers
  policies : Stays m.policies n.policies

change-stays : (m : Model) (c : EntryChange Policy) → Comes m c → AllStay m (put_entry model_book m c)
unfolding put_entry model_book with_container with_policy
change-stays m (container_becomes c x) g = record { containers = set-stays m.containers c x g; policies = λ i y h. h }
change-stays m (policy_becomes q p x) g = record { containers = λ i y h. h; policies = set-stays m.policies q x g.0 }

changes-stay : (m : Model) (cs : List (EntryChange Policy)) → AllFit model_changes Comes m cs → AllStay m (entries_after model_changes m cs)
unfolding book_changes
changes-stay m [] g = record { containers = λ i x h. h; policies = λ i x h. h }
changes-stay m (c ∷ cs) g =
    let h = change-stays m c g.0 in
    let k = changes-stay (put_entry model_book m c) cs g.1 in
    record { containers = λ i x e. k.containers i x (h.containers i x e); policies = λ i x e. k.policies i x (h.policies i x e) }

-- each policy that came stands at its slot
change-sits : (m n : Model) (c : EntryChange Policy) → Comes m c → AllStay (put_entry model_book m c) n → Sits n c
unfolding put_entry model_book with_policy
change-sits m n (container_becomes c x) g s = tt
change-sits m n (policy_becomes q p x) g s = s.policies q p (get_or-set_same m.policies q x none (lowest-below m.policies q g.0) ∙ g.1)

changes-sit : (m : Model) (cs : List (EntryChange Policy)) → AllFit model_changes Comes m cs → All (Sits (entries_after model_changes m cs)) cs
unfolding book_changes
changes-sit m [] g = tt
changes-sit m (c ∷ cs) g =
    let n = put_entry model_book m c in
    (change-sits m (entries_after model_changes n cs) c g.0 (changes-stay n cs g.1), changes-sit n cs g.1)

-- ---- one pass

lawful : Lawful model_changes Comes
unfolding book_changes
lawful =
    let l = book-lawful model_book model-laws in
    record { untouched = λ m c i g. l.untouched m c i (comes-fits m c g); own = l.own; kept = l.kept }

set-settled : (m : Model) (old : BitPlace → Bool) (cs qs : ℕ → Bool)
    → registry_with m (λ i. cond (touched_at m cs qs i) (bit_by_rules model_book m i) (old i)) ≡ settled cs qs (registry_with m old)
unfolding registry_with settled set_where computed_bits matrix_bit selected_bit allowed_bit reaches bit_by_rules model_book written_rules reflexive both_directions
set-settled m old cs qs = refl

module _ (m : Model) (old : BitPlace → Bool) (bs : List (List ℕ)) where
  abbrev made : Pass m old bs
  made = pass m old bs

  -- the entries at the end
  abbrev end : Model
  end = entries_after model_changes m made.changes

  bits-once : bits_after model_changes m made.changes old ≡ (λ i. cond (touched_came end made.answers i) (bit_by_rules model_book end i) (old i))
  unfolding set_once book_changes
  bits-once =
      once model_changes Comes lawful m made.changes old made.come
      ∙ fun_ext λ i. ap (λ t. cond t (bit_by_rules model_book end i) (old i)) (made.touched end (changes-sit m made.changes made.come) i)

  one-pass : run admit_block (registry_with m old) bs ≡ one_pass (registry_with m old) bs
  unfolding one_pass entries_placed registry_with
  one-pass =
      made.stored
      ∙ ap (λ f. (registry_with end f, made.answers)) bits-once
      ∙ ap (λ r. (r, made.answers)) (set-settled end old (containers_came made.answers) (policies_came made.answers))
      ∙ ap (λ t. (settled (containers_came t.1) (policies_came t.1) (registry_with t.0 old), t.1)) (sym made.entries)

pub admitted-once : AdmittedOnce
unfolding AdmittedOnce registry_with
admitted-once r bs = one-pass r.model (stored_at r) bs

-- ---- the entries placed first

stands-stay : {A : Type 0} (s t : Table A) → Stays s t → (i : ℕ) → stands s i ≡ true → stands t i ≡ true
stands-stay {A} s t h i = pick (at s i) refl
  where
    pick : (o : Option A) → at s i ≡ o → on (λ x. true) o ≡ true → stands t i ≡ true
    pick none k e = absurd (true≢false (sym e))
    pick (some x) k e = ap (on (λ x. true)) (h i x k)

both-stay : {A B : Type 0} (s t : Table A) (u v : Table B) → Stays s t → Stays u v → (i j : ℕ)
    → (stands s i && stands u j) ≡ true → (stands t i && stands v j) ≡ true
both-stay s t u v h k i j e =
    let p = both (stands s i) (stands u j) e in
    ap₂ ◌&&◌ (stands-stay s t h i p.0) (stands-stay u v k j p.1)

-- Admissions free no slot: with the entries placed first, under the old bits, no bit of a free slot is set.
pub placed-stand : (r : Registry) (bs : List (List ℕ)) → BitsStand r → BitsStand (entries_placed r bs)
unfolding entries_placed
placed-stand r bs h =
    let m = r.model in
    let p = pass m (stored_at r) bs in
    let n = entries_after model_changes m p.changes in
    let s = changes-stay m p.changes p.come in
    subst (λ t. BitsStand (record { model = t.0; bits = r.bits })) (sym p.entries)
    (record {
      matrix = λ a b e. both-stay m.containers n.containers m.containers n.containers s.containers s.containers a b (h.matrix a b e);
      selected = λ q c e. both-stay m.policies n.policies m.containers n.containers s.policies s.containers q c (h.selected q c e);
      allowed = λ q c e. both-stay m.policies n.policies m.containers n.containers s.policies s.containers q c (h.allowed q c e);
    })
