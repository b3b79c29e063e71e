-- What a step of the reader over its lent place promises, and what an operand of one token does.
use Rattle.std.specs.Prelude.{ℕ, suc, ◌+◌, ◌-◌, ◌≤◌, ◌<◌, ◌≡◌, Bool, true, false, List, [], length, get_or, Result, Ok, Err}
use Rattle.notation.specs.Ceilings.{flag_ceiling, connective_ceiling}
use Rattle.notation.specs.Tokens as tokens
use Rattle.notation.specs.Tokens.{Sign}
use Rattle.notation.specs.Walk.{Flag, refused, walk, operand, after}
use Rattle.notation.specs.Guard.{Guard, connectives}
use Rattle.notation.specs.Grammar.{Level, found, past, same_sign, closed, operand_of}
use Rattle.notation.specs.Triplets.{literal, triplets, triplet_of, triplet_variable, literal_of, literal_ceiling}
use Rattle.notation.specs.clauses.Writing.{triplet_at}
use Rattle.notation.specs.clauses.Cut.{ahead, ends, sign_of, FaultyHere}
use Rattle.notation.specs.clauses.Codes.{codes_room, flags_in, InText}
use Rattle.notation.specs.declared.refusal.Refused.{Refused}
use Rattle.notation.specs.declared.codes.Code.{Code}
use Rattle.notation.specs.declared.place.Kind.{Kind}
use Rattle.notation.specs.declared.place.Kind.TheVariants as kind
use Rattle.notation.specs.declared.place.Token.{Token}
use Rattle.notation.specs.declared.place.Place.{Place}
use Rattle.operands.specs.declared.waiting.Stack.{Stack}

-- how tight a sign binds, from tightest to loosest
abbrev pub binding : Sign → ℕ
binding tokens.and = 1
binding tokens.or = 2
binding tokens.implies = 3
binding tokens.same = 4

-- a kind is the sign s
unfoldable pub kind_is : Sign → Kind → Bool
kind_is s kind.End = false
kind_is s kind.Code = false
kind_is s (kind.Truth b) = false
kind_is s kind.Bang = false
kind_is s (kind.Sign c) = same_sign s (sign_of c)
kind_is s kind.Opening = false
kind_is s kind.Closing = false

-- a kind is any sign
abbrev pub joins : Kind → Bool
joins kind.End = false
joins kind.Code = false
joins (kind.Truth b) = false
joins kind.Bang = false
joins (kind.Sign c) = true
joins kind.Opening = false
joins kind.Closing = false

-- a kind is `!`
abbrev pub bangs : Kind → Bool
bangs kind.End = false
bangs kind.Code = false
bangs (kind.Truth b) = false
bangs kind.Bang = true
bangs (kind.Sign c) = false
bangs kind.Opening = false
bangs kind.Closing = false

-- a kind is `)`
abbrev pub closes : Kind → Bool
closes kind.End = false
closes kind.Code = false
closes (kind.Truth b) = false
closes kind.Bang = false
closes (kind.Sign c) = false
closes kind.Opening = false
closes kind.Closing = true

-- where the reader stands: the token ahead, and how many flags, signs and triplets lie behind
pub record At : Type 0 where
  pub token : Token
  pub flags : ℕ
  pub signs : ℕ
  pub count : ℕ

-- an operand that was read: its literal, and where the reader stands after it
pub record Part : Type 0 where
  pub literal : ℕ
  pub at : At

-- where the reader stands, read off the lent place
abbrev pub place : Place → At
place p = record { token = p.token; flags = p.flags; signs = p.signs; count = p.count }

-- a token of the text
pub record TokenFits (text : List ℕ) (t : Token) : Type 0 where
  pub moves : ends t.kind ≡ false → t.start < t.next
  pub inside : t.next ≤ length text

-- where the reader stands is right: the token ahead, the table, and the numbers behind
pub record Standing (text : List ℕ) (codes : List Code) (at : At) : Type 0 where
  pub token : TokenFits text at.token
  pub in_text : InText text codes at.flags
  pub table : length codes ≡ codes_room
  pub flags : at.flags ≤ flag_ceiling
  pub signs : at.signs ≤ connective_ceiling
  pub count : at.count ≤ at.signs

-- one token further, with m signs behind, and nothing else changed
pub record Advanced (text : List ℕ) (at : At) (m : ℕ) (to : At) : Type 0 where
  pub tokens : past (ahead text at.token) ≡ ahead text to.token
  pub token : TokenFits text to.token
  pub later : at.token.start < to.token.start
  pub flags : to.flags ≡ at.flags
  pub signs : to.signs ≡ m
  pub count : to.count ≡ at.count

-- past any token, or what follows is faulty
pub record AdvancedSays (text : List ℕ) (p : Place) (r : Result Unit Refused) (p' : Place) : Type 0 where
  pub taken : r ≡ Ok tt → Advanced text (place p) p.signs (place p')
  pub refused : (e : Refused) → r ≡ Err e → FaultyHere (past (ahead text p.token)) p'.refusal

-- past a sign: one more is counted, or the walk is refused
pub record PastSignSays (text : List ℕ) (p : Place) (r : Result Unit Refused) (p' : Place) : Type 0 where
  pub taken : r ≡ Ok tt → Advanced text (place p) (p.signs + 1) (place p') × (p.signs < connective_ceiling)
  pub refused : (e : Refused) → r ≡ Err e → (d : ℕ) (u : List Flag) →
      walk after d u p.signs (ahead text p.token) ≡ refused p'.refusal.reason p'.refusal.place

-- the literal l past a token, or what follows is faulty
pub record PastTokenSays (text : List ℕ) (p : Place) (l : ℕ) (r : Result ℕ Refused) (p' : Place) : Type 0 where
  pub found : (m : ℕ) → r ≡ Ok m → Advanced text (place p) p.signs (place p') × (m ≡ l)
  pub refused : (e : Refused) → r ≡ Err e → FaultyHere (past (ahead text p.token)) p'.refusal

-- an operand that is no bracket was read: a guard with no connective, wherever it stands
pub record Atom (text : List ℕ) (at : At) (codes : List Code) (l : ℕ) (to : At) (codes' : List Code) : Type 0 where
  pub guard : Guard
  pub plainly : connectives guard ≡ 0
  pub nothing : (c : ℕ) → triplets c guard ≡ []
  pub literally : (c : ℕ) → l ≡ literal c guard
  pub small : l ≤ literal_ceiling
  pub parsed : (inner : Level) → operand_of inner (flags_in text codes at.flags) (ahead text at.token)
      ≡ found guard (flags_in text codes' to.flags) (ahead text to.token)
  pub walked : (d : ℕ) → walk operand d (flags_in text codes at.flags) at.signs (ahead text at.token)
      ≡ walk after d (flags_in text codes' to.flags) to.signs (ahead text to.token)
  pub signs : to.signs ≡ at.signs
  pub count : to.count ≡ at.count
  pub standing : Standing text codes' to
  pub later : at.token.start < to.token.start

-- such an operand, or the walk is refused
pub record AtomSays (text : List ℕ) (p : Place) (codes : List Code) (r : Result ℕ Refused) (p' : Place) (codes' : List Code) : Type 0 where
  pub found : (l : ℕ) → r ≡ Ok l → Atom text (place p) codes l (place p') codes'
  pub refused : (e : Refused) → r ≡ Err e → (d : ℕ) →
      walk operand d (flags_in text codes p.flags) p.signs (ahead text p.token) ≡ refused p'.refusal.reason p'.refusal.place

-- `#0` or `#1`, whatever the table holds
abbrev pub TruthSays : List ℕ → Place → Result ℕ Refused → Place → Type 0
TruthSays text p r p' = (codes : List Code) → Standing text codes (place p) → AtomSays text p codes r p' codes

-- past a closing bracket the guard in brackets is an operand
pub record Closed (text : List ℕ) (at to : At) : Type 0 where
  pub advanced : Advanced text at at.signs to
  pub walked : (d : ℕ) (u : List Flag) (m : ℕ) → walk after (suc d) u m (ahead text at.token) ≡ walk after d u m (ahead text to.token)
  pub parsed : (g : Guard) (u : List Flag) → closed g u (ahead text at.token) ≡ found g u (ahead text to.token)

-- past it, or another token cannot stand there
pub record ClosedSays (text : List ℕ) (p : Place) (r : Result Unit Refused) (p' : Place) : Type 0 where
  pub taken : r ≡ Ok tt → Closed text (place p) (place p')
  pub refused : (e : Refused) → r ≡ Err e → (d : ℕ) (u : List Flag) (m : ℕ) →
      walk after (suc d) u m (ahead text p.token) ≡ refused p'.refusal.reason p'.refusal.place

-- two operands joined: the reader has written one triplet more
abbrev pub joined_part : Sign → Part → Part
joined_part s right = record {
  literal = literal_of s (triplet_variable (right.at.count + 1));
  at = record { token = right.at.token; flags = right.at.flags; signs = right.at.signs; count = right.at.count + 1 };
}

-- the literals l and r joined
pub record JoinedSays (s : Sign) (l r : ℕ) (p : Place) (out : List ℕ) (x : ℕ) (p' : Place) (out' : List ℕ) : Type 0 where
  pub joined : ◌≡◌ {A = Part} (record { literal = x; at = place p' }) (joined_part s (record { literal = r; at = place p }))
  pub written : out' ≡ triplet_at out p.count (triplet_of s l r)

-- one literal more waits, on top of the others
pub record Pushed (l : ℕ) (wait wait' : Stack) : Type 0 where
  pub waits : wait'.count ≡ wait.count + 1
  pub last : get_or wait'.literals wait.count 0 ≡ l
  pub others : (i : ℕ) → i < wait.count → get_or wait'.literals i 0 ≡ get_or wait.literals i 0
  pub table : length wait'.literals ≡ connective_ceiling

-- the literal on top was taken, and the others wait
pub record Popped (wait : Stack) (l : ℕ) (wait' : Stack) : Type 0 where
  pub last : l ≡ get_or wait.literals (wait.count - 1) 0
  pub waits : wait'.count ≡ wait.count - 1
  pub others : wait'.literals ≡ wait.literals
