-- The written rules.
use Rattle.std.specs.Prelude.{Bool, true, false, not, ◌&&◌, ◌||◌, List, ℕ, eqb}
use Rattle.block.specs.declared.Direction.{Direction}
use Rattle.block.specs.declared.Direction.TheVariants.{Ingress as ingress, Egress as egress}
use Rattle.block.specs.Entry.{Label, Container, Policy}
use Rattle.model.specs.Table.{Table, any, all, on}

-- the label itself, key and value
unfoldable pub same_label : Label → Label → Bool
same_label l m = eqb l.key m.key && eqb l.value m.value

unfoldable pub carries : Container → Label → Bool
carries c l = any (same_label l) c

-- "A part of a policy matches a container if the container carries every label of the part, key and value. A part with no
-- labels matches every container."
unfoldable pub matches : List Label → Container → Bool
matches part c = all (carries c) part

-- "It selects the containers that its select part matches and allows those that its allow part matches."
unfoldable pub selects : Policy → Container → Bool
selects p c = matches p.select c

unfoldable pub allows : Policy → Container → Bool
allows p c = matches p.allow c

unfoldable pub same_direction : Direction → Direction → Bool
same_direction ingress ingress = true
same_direction ingress egress = false
same_direction egress ingress = false
same_direction egress egress = true

-- some standing policy of direction d selects c
unfoldable pub some_selects : Direction → Table Policy → Container → Bool
some_selects d ps c = any (on (λ p. same_direction d p.direction && selects p c)) ps

-- some standing policy of direction d selects c and allows o
unfoldable pub some_allows : Direction → Table Policy → Container → Container → Bool
some_allows d ps c o = any (on (λ p. same_direction d p.direction && (selects p c && allows p o))) ps

-- "Egress lets a go to b if no egress policy selects a, or some egress policy selects a and allows b. Ingress lets b take a
-- if no ingress policy selects b, or some ingress policy selects b and allows a."
unfoldable pub permits : Direction → Table Policy → Container → Container → Bool
permits d ps c o = not (some_selects d ps c) || some_allows d ps c o

-- "a reaches b if both let it."
unfoldable pub both_permit : Table Policy → Container → Container → Bool
both_permit ps a b = permits egress ps a b && permits ingress ps b a

-- Document 01 goes on: "This includes a = b." Document 02, Note 3, mends it: "Document 01 puts a = b through the policies, which is
-- wrong. A standing container now always reaches itself." So it does here: x and y stand at the slots a and b.
unfoldable pub reaches : Table Policy → ℕ → ℕ → Container → Container → Bool
reaches ps a b x y = eqb a b || both_permit ps x y
