-- Where the reader stands, and what refusing there and cutting the next token promise.
use Rattle.std.specs.Prelude.{ℕ, ◌≡◌, List, Result, Ok, Err}
use Rattle.notation.specs.clauses.Cut.{NextToken, FaultyHere}
use Rattle.notation.specs.Tokens.{tokens_at}
use Rattle.notation.specs.declared.refusal.Reason.{Reason}
use Rattle.notation.specs.declared.refusal.Reason.TheVariants.{OutOfPlace}
use Rattle.notation.specs.declared.refusal.Refused.{Refused}
use Rattle.notation.specs.declared.place.Kind.TheVariants as kind
use Rattle.notation.specs.declared.place.Place.{Place}

-- before the first token from a place of the text on, where n flags have been seen before
abbrev pub before : ℕ → ℕ → Place
before from n = record {
  token = record { kind = kind.End; start = 0; next = from };
  flags = n;
  signs = 0;
  count = 0;
  refusal = record { reason = OutOfPlace; place = 0 };
}

-- what lies behind is as it was
pub record SameBehind (p p' : Place) : Type 0 where
  pub flags : p'.flags ≡ p.flags
  pub signs : p'.signs ≡ p.signs
  pub count : p'.count ≡ p.count

-- the place holds this refusal now
pub record RefusedAt (n : Reason) (s : ℕ) (p p' : Place) : Type 0 where
  pub refusal : p'.refusal ≡ record { reason = n; place = s }
  pub behind : SameBehind p p'

-- the place holds this refusal now, and the rest is as it was
pub record RefusedOnly (n : Reason) (s : ℕ) (p p' : Place) : Type 0 where
  pub now : RefusedAt n s p p'
  pub token : p'.token ≡ p.token

-- the next token from a place of the text on is ahead now, or it is faulty
pub record CutSays (text : List ℕ) (from : ℕ) (p : Place) (r : Result Unit Refused) (p' : Place) : Type 0 where
  pub taken : r ≡ Ok tt → NextToken text from p'.token
  pub refused : (e : Refused) → r ≡ Err e → FaultyHere (tokens_at text from) p'.refusal
  pub behind : SameBehind p p'
