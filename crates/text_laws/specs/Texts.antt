-- What a text says of its flags: its codes from the left, the flags of a tree from the left, and where a code stands.
use Rattle.std.specs.Prelude.{ℕ, zero, suc, ◌≡◌, ◌⊎◌, List, [], ◌∷◌, ◌++◌}
use Rattle.notation.specs.Ceilings.{bracket_ceiling}
use Rattle.notation.specs.Tokens.{Code, Token, Tokens, stray, long, code, hash, bang, sign, opening, closing, end, at}
use Rattle.notation.specs.Walk.{Flag, seen}
use Rattle.notation.specs.Guard.{Guard, flag, truth, negated, joined}
use Rattle.notation.specs.Grammar.{Level, same_of, operand_of, in_brackets}

-- what the grammar reads of a whole text
abbrev pub whole : Level
whole = same_of (λ v us. operand_of (in_brackets bracket_ceiling) v us)

-- the code that a token is, if it is one
unfoldable pub code_of : Token → List Code
code_of stray = []
code_of long = []
code_of (code c) = c ∷ []
code_of (hash b) = []
code_of bang = []
code_of (sign s) = []
code_of opening = []
code_of closing = []

-- the codes of a text from the left, each time one stands
unfoldable pub codes_in : Tokens → List Code
codes_in (end p) = []
codes_in (at p t ts) = code_of t ++ codes_in ts

-- the flags of a tree from the left, each time one stands
unfoldable pub leaves : Guard → List ℕ
leaves (flag i) = i ∷ []
leaves (truth b) = []
leaves (negated g) = leaves g
leaves (joined s g h) = leaves g ++ leaves h

-- the codes seen once each of a list is, at place p
unfoldable pub seen_at : ℕ → List Code → List Flag → List Flag
seen_at p [] u = u
seen_at p (c ∷ cs) u = seen_at p cs (seen p c u)

-- the codes seen once all of a text are: each by first appearance, with the place where it then stands
unfoldable pub seen_in : List Flag → Tokens → List Flag
seen_in u (end p) = u
seen_in u (at p t ts) = seen_in (seen_at p (code_of t) u) ts

-- the code c stands at place p
abbrev pub Stands : ℕ → Code → Tokens → Type 0
Stands p c (end q) = ⊥
Stands p c (at q t ts) = ((p ≡ q) × (code c ≡ t)) ⊎ Stands p c ts

-- f is flag i of the list, i counted from 1
abbrev pub IsFlag : ℕ → Flag → List Flag → Type 0
IsFlag i f [] = ⊥
IsFlag zero f (g ∷ u) = ⊥
IsFlag (suc zero) f (g ∷ u) = f ≡ g
IsFlag (suc (suc i)) f (g ∷ u) = IsFlag (suc i) f u
