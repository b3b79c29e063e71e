-- What a level of the reader asks and answers: the tree, the walk and the triplets of the operand that it read.
use Rattle.std.specs.Prelude.{ℕ, ◌+◌, ◌-◌, ◌*◌, ◌≤◌, ◌<◌, ◌≡◌, false, List, ◌++◌, length, take, get_or, Result, Ok, Err}
use Rattle.notation.specs.Ceilings.{bracket_ceiling, connective_ceiling}
use Rattle.notation.specs.Tokens.{Tokens, Sign, same, implies, or, and}
use Rattle.notation.specs.Walk.{Flag, refused, walk, operand, after}
use Rattle.notation.specs.Guard.{Guard, connectives}
use Rattle.notation.specs.Grammar.{Level, found, sign_next, operand_of, in_brackets, left_level, right_level}
use Rattle.notation.specs.Triplets.{literal, triplets, numbers, literal_ceiling}
use Rattle.notation.specs.clauses.Cut.{ahead}
use Rattle.notation.specs.clauses.Codes.{flags_in}
use Rattle.notation.specs.declared.codes.Code.{Code}
use Rattle.notation.specs.declared.refusal.Refused.{Refused}
use Rattle.notation.specs.declared.place.Place.{Place}
use Rattle.operands.specs.clauses.Steps.{At, Part, binding, place, Standing}
use Rattle.operands.specs.declared.waiting.Stack.{Stack}

-- the level L, with enough room for further operands, reads the guard g from the tokens ts, d brackets being open
pub record Reads (L : ℕ → Level) (d k : ℕ) (u : List Flag) (m : ℕ) (ts : Tokens) (g : Guard) (u' : List Flag) (m' : ℕ) (ts' : Tokens) : Type 0
  where
    pub parsed : (f : ℕ) → connective_ceiling ≤ f + m → L f u ts ≡ found g u' ts'
    pub walked : walk operand d u m ts ≡ walk after d u' m' ts'
    pub signs : m' ≡ m + connectives g
    pub stops : (s : Sign) → binding s ≤ k → sign_next s ts' ≡ false

-- the triplets of the guard g have been written after c others, and l is its literal
pub record Writes (c c' : ℕ) (out out' : List ℕ) (g : Guard) (l : ℕ) : Type 0 where
  pub literal : l ≡ literal c g
  pub small : l ≤ literal_ceiling
  pub count : c' ≡ c + connectives g
  pub written : take (3 * c') out' ≡ take (3 * c) out ++ numbers (triplets c g)

-- an operand was read from where the reader stood
pub record FoundPart (L : ℕ → Level) (d k : ℕ) (text : List ℕ) (at : At) (codes : List Code) (out : List ℕ) (p : Part) (codes' : List Code)
    (out' : List ℕ) : Type 0 where
  pub guard : Guard
  pub reads : Reads L d k (flags_in text codes at.flags) at.signs (ahead text at.token)
      guard (flags_in text codes' p.at.flags) p.at.signs (ahead text p.at.token)
  pub writes : Writes at.count p.at.count out out' guard p.literal
  pub standing : Standing text codes' p.at
  pub later : at.token.start < p.at.token.start

-- a level that takes no heed of the room for further operands
abbrev pub plain : Level → ℕ → Level
plain L f u ts = L u ts

-- the operands where d brackets are open
abbrev pub operands_at : ℕ → Level
operands_at d = operand_of (in_brackets (bracket_ceiling - d))

-- the level whose operands a sign joins, and how many signs bind tighter
abbrev pub below_of : Sign → Level → Level
below_of and operands = operands
below_of or operands = left_level and operands
below_of implies operands = left_level or (left_level and operands)
below_of same operands = right_level implies (left_level or (left_level and operands))

abbrev pub tighter : Sign → ℕ
tighter and = 0
tighter or = 1
tighter implies = 2
tighter same = 3

-- a literal, with where the reader stands after its operand
abbrev pub part : ℕ → Place → Part
part l p = record { literal = l; at = place p }

-- the lent tables have their rooms
pub record Rooms (out : List ℕ) (wait : Stack) : Type 0 where
  pub triplets : length out ≡ 3 * connective_ceiling
  pub literals : length wait.literals ≡ connective_ceiling

-- what a level asks, d brackets being open: no more literals wait than signs were seen
pub record Asks (text : List ℕ) (p : Place) (d : ℕ) (codes : List Code) (out : List ℕ) (wait : Stack) : Type 0 where
  pub rooms : Rooms out wait
  pub standing : Standing text codes (place p)
  pub waits : wait.count ≤ p.signs
  pub brackets : d ≤ bracket_ceiling

-- the literals that waited still wait
pub record Still (wait wait' : Stack) : Type 0 where
  pub waits : wait'.count ≡ wait.count
  pub others : (i : ℕ) → i < wait.count → get_or wait'.literals i 0 ≡ get_or wait.literals i 0

-- what a level answers
pub record Says (L : ℕ → Level) (d k : ℕ) (text : List ℕ) (p : Place) (codes : List Code) (out : List ℕ) (wait : Stack) (r : Result ℕ Refused) (p' : Place)
    (codes' : List Code) (out' : List ℕ) (wait' : Stack) : Type 0 where
  pub found : (l : ℕ) → r ≡ Ok l → FoundPart L d k text (place p) codes out (part l p') codes' out'
  pub refused : (x : Refused) → r ≡ Err x →
      walk operand d (flags_in text codes p.flags) p.signs (ahead text p.token) ≡ refused p'.refusal.reason p'.refusal.place
  pub still : (l : ℕ) → r ≡ Ok l → Still wait wait'
  pub rooms : Rooms out' wait'

-- the first operand of a chain that the sign s joins was read from p₀, and the reader stands at p after it
abbrev pub First : Sign → ℕ → List ℕ → Place → List Code → List ℕ → ℕ → Place → List Code → List ℕ → Type 0
First s d text p₀ codes₀ out₀ l p codes out = FoundPart (plain (below_of s (operands_at d))) d (tighter s) text (place p₀) codes₀ out₀ (part l p)
    codes out

-- what the rest of a chain asks: a first operand was read from some place
pub record Begun (s : Sign) (d : ℕ) (text : List ℕ) (l : ℕ) (p : Place) (codes : List Code) (out : List ℕ) (wait : Stack) : Type 0 where
  pub from : Place
  pub from_codes : List Code
  pub from_out : List ℕ
  pub first : First s d text from from_codes from_out l p codes out
  pub rooms : Rooms out wait
  pub waits : wait.count ≤ p.signs
  pub brackets : d ≤ bracket_ceiling

-- what it answers: wherever the first operand was read from, the chain is read from there
abbrev pub ChainSays : Sign → ℕ → List ℕ → ℕ → Place → List Code → List ℕ → Stack → Result ℕ Refused → Place → List Code
    → List ℕ → Stack → Type 0
ChainSays s d text l p codes out wait r p' codes' out' wait' =
    (p₀ : Place) (codes₀ : List Code) (out₀ : List ℕ) (wait₀ : Stack) → First s d text p₀ codes₀ out₀ l p codes out → Still wait₀ wait →
    Says (plain (left_level s (below_of s (operands_at d)))) d (tighter s + 1) text p₀ codes₀ out₀ wait₀ r p' codes' out' wait'
