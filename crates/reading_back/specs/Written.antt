-- A guard as text: what is written of any tree, with brackets only where the levels need them.
use Rattle.std.specs.Prelude.{ℕ, zero, suc, ◌+◌, ◌≤◌, max, ◌≡◌, Bool, true, false, List, [], ◌∷◌, ◌++◌, map, ◌⊎◌, length, take, drop, eqb, ltb}
use Rattle.notation.specs.Ceilings.{text_ceiling, code_ceiling, bracket_ceiling, flag_ceiling, connective_ceiling}
use Rattle.notation.specs.Tokens.{Code, Sign, same, implies, or, and, code_byte}
use Rattle.ground.specs.Choice.{choose}
use Rattle.notation.specs.Walk.{Flag}
use Rattle.notation.specs.Guard.{Guard, flag, truth, negated, joined, connectives}

-- the signs `=`, `>`, `|` and `&` as bytes
unfoldable pub sign_byte : Sign → ℕ
sign_byte same = 61
sign_byte implies = 62
sign_byte or = 124
sign_byte and = 38

-- the level of a sign, from the loosest; operands stand at level 4
unfoldable pub level_of : Sign → ℕ
level_of same = 0
level_of implies = 1
level_of or = 2
level_of and = 3

-- the level at which the left side of a sign stands: its own where it groups to the left
unfoldable pub left_of : Sign → ℕ
left_of same = 0
left_of implies = 2
left_of or = 2
left_of and = 3

-- the level at which the right side of a sign stands: its own where it groups to the right
unfoldable pub right_of : Sign → ℕ
right_of same = 1
right_of implies = 1
right_of or = 3
right_of and = 4

-- a text, in brackets where they are needed
unfoldable pub bracketed : Bool → List ℕ → List ℕ
bracketed needed text = choose needed (40 ∷ (text ++ (41 ∷ []))) text

-- the text of a guard where one of the level l may stand: a looser sign stands in brackets
unfoldable pub written : (ℕ → Code) → ℕ → Guard → List ℕ
written codes l (flag i) = codes i
written codes l (truth b) = 35 ∷ choose b 49 48 ∷ []
written codes l (negated g) = 33 ∷ written codes 4 g
written codes l (joined s g h) =
    bracketed (ltb (level_of s) l) (written codes (left_of s) g ++ (sign_byte s ∷ written codes (right_of s) h))

-- how many brackets are open at once in that text
unfoldable pub nesting : ℕ → Guard → ℕ
nesting l (flag i) = 0
nesting l (truth b) = 0
nesting l (negated g) = nesting 4 g
nesting l (joined s g h) = choose (ltb (level_of s) l) 1 0 + max (nesting (left_of s) g) (nesting (right_of s) h)

-- flag i stands in a guard
abbrev pub Stands : ℕ → Guard → Type 0
Stands i (flag j) = i ≡ j
Stands i (truth b) = ⊥
Stands i (negated g) = Stands i g
Stands i (joined s g h) = Stands i g ⊎ Stands i h

-- a number is one of a list
unfoldable pub among : ℕ → List ℕ → Bool
among i [] = false
among i (j ∷ w) = choose (eqb i j) true (among i w)

-- the flags met after w by going through a guard from the left, each once
unfoldable pub met : List ℕ → Guard → List ℕ
met w (flag i) = choose (among i w) w (w ++ (i ∷ []))
met w (truth b) = w
met w (negated g) = met w g
met w (joined s g h) = met (met w g) h

-- the flags of a guard by first appearance
unfoldable pub order : Guard → List ℕ
order g = met [] g

-- the place of a number in a list, counted from 1
unfoldable pub place_in : List ℕ → ℕ → ℕ
place_in [] i = 1
place_in (j ∷ w) i = choose (eqb i j) 1 (suc (place_in w i))

-- a guard with other numbers for its flags
unfoldable pub renamed : (ℕ → ℕ) → Guard → Guard
renamed f (flag i) = flag (f i)
renamed f (truth b) = truth b
renamed f (negated g) = negated (renamed f g)
renamed f (joined s g h) = joined s (renamed f g) (renamed f h)

-- a guard with its flags numbered by first appearance
unfoldable pub renumbered : Guard → Guard
renumbered g = renamed (place_in (order g)) g

-- 1 to n
unfoldable pub up_to : ℕ → List ℕ
up_to zero = []
up_to (suc n) = up_to n ++ (suc n ∷ [])

-- how many bytes of a guard's text stand before flag i first does
unfoldable pub before : (ℕ → Code) → ℕ → Guard → ℕ → ℕ
before codes l (flag j) i = 0
before codes l (truth b) i = 0
before codes l (negated g) i = 1 + before codes 4 g i
before codes l (joined s g h) i =
    choose (ltb (level_of s) l) 1 0
    + choose (among i (order g)) (before codes (left_of s) g i) (length (written codes (left_of s) g) + 1 + before codes (right_of s) h i)

-- the flags of a guard by first appearance, each with its code and the place where that first stands in the text
unfoldable pub flags_of : (ℕ → Code) → Guard → List Flag
flags_of codes g = map (λ i. record { place = before codes 0 g i; name = codes i }) (order g)

-- every byte is a code byte
unfoldable pub code_bytes : Code → Bool
code_bytes [] = true
code_bytes (b ∷ c) = choose (code_byte b) (code_bytes c) false

-- a code: one code byte or more, up to the ceiling
pub record IsCode (c : Code) : Type 0 where
  pub some : 1 ≤ length c
  pub short : length c ≤ code_ceiling
  pub bytes : code_bytes c ≡ true

-- the guard g, its flags written by their codes, is within the ceilings
pub record WithinCeilings (codes : ℕ → Code) (g : Guard) : Type 0 where
  pub coded : (i : ℕ) → Stands i g → IsCode (codes i)
  pub apart : (i j : ℕ) → Stands i g → Stands j g → codes i ≡ codes j → i ≡ j
  pub flags : length (order g) ≤ flag_ceiling
  pub connectives : connectives g ≤ connective_ceiling
  pub brackets : nesting 0 g ≤ bracket_ceiling
  pub text : length (written codes 0 g) ≤ text_ceiling

-- the code of a flag stands in the text at the flag's place
abbrev pub Placed : List ℕ → Flag → Type 0
Placed text f = take (length f.name) (drop f.place text) ≡ f.name

-- so for each of a list of flags
abbrev pub EachPlaced : List ℕ → List Flag → Type 0
EachPlaced text [] = Unit {0}
EachPlaced text (f ∷ u) = Placed text f × EachPlaced text u
