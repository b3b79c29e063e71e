-- A guard with its first flag fixed: triplets over one flag fewer, which have its value in every state that agrees.
use Rattle.std.specs.Prelude.{ℕ, suc, ◌+◌, ◌*◌, ◌-◌, ◌/◌, ◌≤◌, ◌<◌, ◌≡◌, Bool, true, List, ◌⊎◌, length, get_or}
use Rattle.ground.specs.Choice.{choose}
use Rattle.notation.specs.Triplets.{triplet_variable, negation}
use Rattle.notation.specs.clauses.Shape.{Names, Shape, kind_at, y_at, z_at}
use Rattle.ground.specs.Bits.{bit}
use Rattle.truth.specs.Connectives.{gate}
use Rattle.truth.specs.clauses.Computed.{literal_value, computed}

-- the literal r, of true or of an operand's variable, always has the value of a triplet of this kind of y and z
pub record Stands (kind y z r : ℕ) : Type 0 where
  pub value : (v : ℕ → Bool) → v 0 ≡ true → literal_value v r ≡ gate kind (literal_value v y) (literal_value v z)
  pub of : (r / 2 ≡ 0) ⊎ ((r / 2 ≡ y / 2) ⊎ (r / 2 ≡ z / 2))

-- x, or a literal that stands for a triplet of this kind of y and z
abbrev pub Simplified : ℕ → ℕ → ℕ → ℕ → ℕ → Type 0
Simplified kind y z x r = (r ≡ x) ⊎ Stands kind y z r

-- the c triplets of ys, at the literal r, have the value of the triplets of xs at the root, in every state whose bit n is b
pub record Fixed (n : ℕ) (b : Bool) (xs : List ℕ) (count root : ℕ) (ys : List ℕ) (c r : ℕ) : Type 0 where
  pub few : c ≤ count
  pub shape : Shape n c ys
  pub named : Names n c r
  pub valued : (s : ℕ) → bit s n ≡ b → literal_value (computed n s ys c) r ≡ literal_value (computed (suc n) s xs count) root

-- the table says that a variable became the literal t, and of every other variable what it said
pub record PutAt (to : List ℕ) (v t : ℕ) (after : List ℕ) : Type 0 where
  pub long : length after ≡ length to
  pub even : get_or after (2 * v) 0 ≡ t
  pub odd : get_or after (2 * v + 1) 0 ≡ negation t
  pub others : (l : ℕ) → (l / 2 ≡ v → ⊥) → get_or after l 0 ≡ get_or to l 0

-- and so of triplet j
abbrev pub Put : List ℕ → ℕ → ℕ → List ℕ → Type 0
Put to j t after = PutAt to (triplet_variable (suc j)) t after

-- the table at the start, below m: true and false stay, the first flag is b, each further flag is one less
pub record StartedBy (b : Bool) (to after : List ℕ) (m : ℕ) : Type 0 where
  pub long : length after ≡ length to
  pub top : get_or after 0 0 ≡ 0
  pub bottom : get_or after 1 0 ≡ 1
  pub first : get_or after 2 0 ≡ choose b 0 1
  pub not_first : get_or after 3 0 ≡ choose b 1 0
  pub others : (l : ℕ) → 4 ≤ l → l < m → get_or after l 0 ≡ l - 2

-- triplet j is of kind 0 or 1, and what became of its operands lies below it
pub record Operands (xs : List ℕ) (j : ℕ) (to : List ℕ) : Type 0 where
  pub kind : kind_at xs j ≤ 1
  pub y : (y_at xs j < length to) × (get_or to (y_at xs j) 0 / 2 < triplet_variable (suc j))
  pub z : (z_at xs j < length to) × (get_or to (z_at xs j) 0 / 2 < triplet_variable (suc j))

-- triplet j became the literal t: one that stands for it, or that of the next triplet of ys, of the same kind
pub record TripletFixed (xs : List ℕ) (j : ℕ) (to : List ℕ) (c : ℕ) (ys to' : List ℕ) (c' : ℕ) (ys' : List ℕ) : Type 0 where
  pub t : ℕ
  pub put : Put to j t to'
  pub agree : (k : ℕ) → k < 3 * c → get_or ys' k 0 ≡ get_or ys k 0
  pub became : ((c' ≡ c) × Stands (kind_at xs j) (get_or to (y_at xs j) 0) (get_or to (z_at xs j) 0) t)
      ⊎ ((c' ≡ suc c) × (t ≡ 2 * triplet_variable (suc c)) × (kind_at ys' c ≡ kind_at xs j) × (y_at ys' c ≡ get_or to (y_at xs j) 0)
      × (z_at ys' c ≡ get_or to (z_at xs j) 0))
