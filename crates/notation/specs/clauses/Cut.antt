-- What the token ahead stands for in the text, and what cutting it promises.
use Rattle.std.specs.Prelude.{ℕ, ◌+◌, ◌-◌, ◌≤◌, ◌<◌, ◌≡◌, Bool, true, false, List, length, take, drop, get_or, eqb}
use Rattle.notation.specs.Tokens as tokens
use Rattle.notation.specs.Tokens.{Tokens, Sign, end, at, code, hash, bang, sign, opening, closing, code_byte, code_run, tokens_from, tokens_at}
use Rattle.ground.specs.Choice.{choose}
use Rattle.notation.specs.Walk.{Wanted, Flag, refused, walk}
use Rattle.notation.specs.declared.refusal.Refusal.{Refusal}
use Rattle.notation.specs.declared.place.Connective.{Connective}
use Rattle.notation.specs.declared.place.Connective.TheVariants as connective
use Rattle.notation.specs.declared.place.Kind.{Kind}
use Rattle.notation.specs.declared.place.Kind.TheVariants as kind
use Rattle.notation.specs.declared.place.Token.{Token}
use Rattle.notation.specs.declared.tokens.Class.{Class}
use Rattle.notation.specs.declared.tokens.Class.TheVariants as class

-- what a byte can be the first of
unfoldable pub class_of : ℕ → Class
class_of b =
    choose (eqb b 32) class.Space
    (choose (code_byte b) class.Code
    (choose (eqb b 35) class.Hash
    (choose (eqb b 33) (class.Mark kind.Bang)
    (choose (eqb b 38) (class.Mark (kind.Sign connective.And))
    (choose (eqb b 124) (class.Mark (kind.Sign connective.Or))
    (choose (eqb b 62) (class.Mark (kind.Sign connective.Implies))
    (choose (eqb b 61) (class.Mark (kind.Sign connective.Same))
    (choose (eqb b 40) (class.Mark kind.Opening) (choose (eqb b 41) (class.Mark kind.Closing) class.Stray)))))))))

-- the bytes of a text from place s up to place e
abbrev pub part : ℕ → ℕ → List ℕ → List ℕ
part s e text = take (e - s) (drop s text)

-- the sign that a connective is
abbrev pub sign_of : Connective → Sign
sign_of connective.Same = tokens.same
sign_of connective.Implies = tokens.implies
sign_of connective.Or = tokens.or
sign_of connective.And = tokens.and

-- the tokens from one on that starts at s and ends before e
unfoldable pub ahead_as : Kind → List ℕ → ℕ → ℕ → Tokens
ahead_as kind.End text s e = end s
ahead_as kind.Code text s e = at s (code (part s e text)) (tokens_at text e)
ahead_as (kind.Truth b) text s e = at s (hash b) (tokens_at text e)
ahead_as kind.Bang text s e = at s bang (tokens_at text e)
ahead_as (kind.Sign c) text s e = at s (sign (sign_of c)) (tokens_at text e)
ahead_as kind.Opening text s e = at s opening (tokens_at text e)
ahead_as kind.Closing text s e = at s closing (tokens_at text e)

-- the tokens from the token t on
abbrev pub ahead : List ℕ → Token → Tokens
ahead text t = ahead_as t.kind text t.start t.next

-- the text ends here
abbrev pub ends : Kind → Bool
ends kind.End = true
ends kind.Code = false
ends (kind.Truth b) = false
ends kind.Bang = false
ends (kind.Sign c) = false
ends kind.Opening = false
ends kind.Closing = false

-- from a place on spaces stand up to r, where none does
pub record PastSpaces (text : List ℕ) (from r : ℕ) : Type 0 where
  pub tokens : tokens_at text from ≡ tokens_at text r
  pub later : from ≤ r
  pub inside : r ≤ length text
  pub stops : r < length text → get_or text r 0 ≡ 32 → ⊥

-- from a place on code bytes stand up to r
pub record CodeEnd (text : List ℕ) (from r : ℕ) : Type 0 where
  pub run : r ≡ from + length (code_run (drop from text))
  pub inside : r ≤ length text

-- a byte of the class k, which is no space, stands at a place
pub record Starts (text : List ℕ) (start : ℕ) (k : Class) : Type 0 where
  pub inside : start < length text
  pub class : class_of (get_or text start 0) ≡ k
  pub no_space : get_or text start 0 ≡ 32 → ⊥

-- the token t is the next in the text from a place on
pub record NextToken (text : List ℕ) (from : ℕ) (t : Token) : Type 0 where
  pub tokens : tokens_at text from ≡ ahead text t
  pub later : from ≤ t.start
  pub moves : ends t.kind ≡ false → t.start < t.next
  pub inside : t.next ≤ length text

-- the walk is refused at these tokens, whatever came before
abbrev pub FaultyHere : Tokens → Refusal → Type 0
FaultyHere ts f = (w : Wanted) (d : ℕ) (u : List Flag) (m : ℕ) → walk w d u m ts ≡ refused f.reason f.place
