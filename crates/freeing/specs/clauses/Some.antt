-- A guard with some of its flags fixed: triplets over the others, numbered in order.
use Rattle.std.specs.Prelude.{ℕ, zero, suc, ◌+◌, ◌*◌, ◌-◌, ◌≤◌, ◌<◌, ◌≡◌, Bool, List, length, get_or}
use Rattle.ground.specs.Choice.{choose}
use Rattle.notation.specs.Triplets.{negation}
use Rattle.notation.specs.clauses.Shape.{Names, Shape}
use Rattle.ground.specs.Bits.{bit}
use Rattle.truth.specs.clauses.Computed.{literal_value, computed}

-- a mask keeps flag i of n: the first flag is the highest bit
abbrev pub keeps : ℕ → ℕ → ℕ → Bool
keeps n keep i = bit keep (n - i)

-- how many of flags 1 to i are free
unfoldable pub free_of : (ℕ → Bool) → ℕ → ℕ
free_of kept zero = 0
free_of kept (suc i) = free_of kept i + choose (kept (suc i)) 0 1

-- what a flag becomes: kept, the literal of its value; free, the flag of its number
abbrev pub flag_literal : Bool → Bool → ℕ → ℕ
flag_literal kept value number = choose kept (choose value 0 1) (2 * number)

-- the state s of the free flags stands for the state t of all n: t has the gap's value at a kept flag, and that of s at a free one
abbrev pub StandsFor : ℕ → (ℕ → Bool) → ℕ → ℕ → ℕ → Type 0
StandsFor n kept gap s t = (i : ℕ) → 0 < i → i ≤ n → bit t (n - i) ≡ choose (kept i) (bit gap (n - i)) (bit s (free_of kept n - free_of kept i))

-- the table at the start, up to flag i: true and false stay, each flag became its literal, and so many are free
pub record Begun (n keep state i : ℕ) (to after : List ℕ) (count : ℕ) : Type 0 where
  pub long : length after ≡ length to
  pub free : count ≡ free_of (keeps n keep) i
  pub top : get_or after 0 0 ≡ 0
  pub bottom : get_or after 1 0 ≡ 1
  pub even : (k : ℕ) → 0 < k → k ≤ i → get_or after (2 * k) 0 ≡ flag_literal (keeps n keep k) (bit state (n - k)) (free_of (keeps n keep) k)
  pub odd : (k : ℕ) → 0 < k → k ≤ i → get_or after (2 * k + 1) 0 ≡ negation (get_or after (2 * k) 0)

-- the c triplets of ys over the free flags, at the literal r, have the value of the triplets of xs at the root, in every state that stands for another
pub record FixedSome (n keep state : ℕ) (xs : List ℕ) (count root : ℕ) (ys : List ℕ) (m c r : ℕ) : Type 0 where
  pub flags : m ≡ free_of (keeps n keep) n
  pub few : c ≤ count
  pub shape : Shape m c ys
  pub named : Names m c r
  pub valued : (s t : ℕ) → StandsFor n (keeps n keep) state s t → literal_value (computed m s ys c) r ≡ literal_value (computed n t xs count) root
