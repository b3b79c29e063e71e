-- A guard with flags fixed: triplets over fewer flags, which have its value in every state that agrees.
use Rattle.std.specs.Prelude.{ℕ, ◌+◌, ◌*◌, ◌-◌, ◌/◌, ◌≤◌, ◌<◌, ◌≡◌, List, [], get_or}
use Rattle.notation.specs.Triplets.{negation}
use Rattle.notation.specs.clauses.Shape.{Names, Shape}
use Rattle.ground.specs.Bits.{bit}
use Rattle.truth.specs.clauses.Computed.{literal_value, computed}

-- what a table says of a literal
abbrev pub reading : List ℕ → ℕ → ℕ
reading to l = get_or to l 0

-- the table at the start, over n flags: true and false stay, a flag became a literal of true or of one of the flags that are left
pub record Table (less n : ℕ) (f : ℕ → ℕ) : Type 0 where
  pub top : f 0 ≡ 0
  pub bottom : f 1 ≡ 1
  pub within : (i : ℕ) → 0 < i → i ≤ n → f (2 * i) / 2 ≤ less
  pub odd : (i : ℕ) → 0 < i → i ≤ n → f (2 * i + 1) ≡ negation (f (2 * i))

-- the state s of the flags that are left stands for the state t of all n: what a flag became has in s the flag's value in t
abbrev pub Reads : ℕ → ℕ → (ℕ → ℕ) → ℕ → ℕ → Type 0
Reads less n f s t = (i : ℕ) → 0 < i → i ≤ n → literal_value (computed less s [] 0) (f (2 * i)) ≡ bit t (n - i)

-- the first j triplets of xs over n flags became the c triplets of ys over the flags that are left:
-- f l is what became of the literal l, and has in every state its value in each state for which that one stands by R
pub record Folding (less n : ℕ) (R : ℕ → ℕ → Type 0) (xs : List ℕ) (j : ℕ) (f : ℕ → ℕ) (c : ℕ) (ys : List ℕ) : Type 0 where
  pub few : c ≤ j
  pub shape : Shape less c ys
  pub named : (l : ℕ) → Names n j l → Names less c (f l)
  pub valued : (s t l : ℕ) → R s t → Names n j l → literal_value (computed less s ys c) (f l) ≡ literal_value (computed n t xs j) l

-- the c triplets of ys, at the literal r, have the value of the triplets of xs at the root, where a state stands for another by the table
pub record Folded (less n : ℕ) (f : ℕ → ℕ) (xs : List ℕ) (count root : ℕ) (ys : List ℕ) (c r : ℕ) : Type 0 where
  pub few : c ≤ count
  pub shape : Shape less c ys
  pub named : Names less c r
  pub valued : (s t : ℕ) → Reads less n f s t → literal_value (computed less s ys c) r ≡ literal_value (computed n t xs count) root
