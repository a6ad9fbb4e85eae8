-- What a table of the policies that select each container holds, and what is read of it.
use Rattle.std.specs.Prelude.{◌≡◌, Bool, true, List, [], ℕ, ◌+◌, ◌<◌, length, get_or}
use Rattle.bitrow.specs.Bit.{bit_at}
use Rattle.bitrow.specs.Set.{join}
use Rattle.model.specs.Model.{container_slots}
use Rattle.formed.specs.Registry.{bits_in}
use Rattle.sets.specs.Sets.{bits}
use Rattle.container_findings.specs.Rows.{policies_stand}
use Rattle.selecting.specs.declared.Filling.TheVariants.{Filled}
use Rattle.selecting.specs.declared.Selecting.{Selecting}

-- every number of s is in t
pub record Within (s t : ℕ → Bool) : Type 0 where
  pub each : (j : ℕ) → s j ≡ true → t j ≡ true

-- n rows of two words
pub record Shaped (n : ℕ) (rows : List (List ℕ)) : Type 0 where
  pub size : length rows ≡ n
  pub width : (c : ℕ) → c < n → length (get_or rows c []) ≡ 2

-- policy b is put into a row, which loses none and gets no longer
pub record Put (b : ℕ) (before after : List ℕ) : Type 0 where
  pub width : length after ≡ length before
  pub there : bit_at after b ≡ true
  pub kept : Within (bit_at before) (bit_at after)

-- policy b is put into the row of each container first + i where s has i, and no row loses any
pub record Entered (b first : ℕ) (s : ℕ → Bool) (before after : List (List ℕ)) : Type 0 where
  pub shape : Shaped container_slots after
  pub there : (i : ℕ) → s i ≡ true → bits after (first + i) b ≡ true
  pub kept : (c : ℕ) → Within (bits before c) (bits after c)

-- the policies that are noted for container c: those of its row, and the wide ones
abbrev pub noted : List (List ℕ) → List ℕ → ℕ → ℕ → Bool
noted rows wide c = join (bits rows c) (bit_at wide)

-- policy b is noted for each container that s has, and those noted before stay so
pub record NotedFor (b : ℕ) (s : ℕ → Bool) (before after : Selecting) : Type 0 where
  pub shape : Shaped container_slots after.rows
  pub there : (c : ℕ) → s c ≡ true → noted after.rows after.wide c b ≡ true
  pub kept : (c : ℕ) → Within (noted before.rows before.wide c) (noted after.rows after.wide c)

-- t has what is so far, and the row of each container first + i where s has i
pub record Joined (first : ℕ) (s : ℕ → Bool) (rows : List (List ℕ)) (so_far t : ℕ → Bool) : Type 0 where
  pub kept : Within so_far t
  pub row : (i : ℕ) → s i ≡ true → Within (bits rows (first + i)) t

-- for each container every standing policy is noted that selects it, by the stored sets: it is in the container's row, or it is wide
pub record EachSelecting (m : List ℕ) (rows : List (List ℕ)) (wide : List ℕ) : Type 0 where
  pub shape : Shaped container_slots rows
  pub policy : (b c : ℕ) → policies_stand m b ≡ true → (bits_in m).selected b c ≡ true → noted rows wide c b ≡ true

-- where the table is filled, its rows and the wide policies are such
pub record SelectingIn (m : List ℕ) (t : Selecting) : Type 0 where
  pub shape : Shaped container_slots t.rows
  pub filled : t.filling ≡ Filled → EachSelecting m t.rows t.wide

-- s has every standing policy that selects a container of who, by the stored sets
pub record Sharing (m : List ℕ) (who s : ℕ → Bool) : Type 0 where
  pub policy : (b c : ℕ) → policies_stand m b ≡ true → (bits_in m).selected b c ≡ true → who c ≡ true → s b ≡ true

-- s has every standing policy that selects all containers of who, by the stored sets
pub record Covering (m : List ℕ) (who s : ℕ → Bool) : Type 0 where
  pub policy : (b : ℕ) → policies_stand m b ≡ true → ((c : ℕ) → c < container_slots → who c ≡ true → (bits_in m).selected b c ≡ true) → s b ≡ true
