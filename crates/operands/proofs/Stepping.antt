-- How the reader goes from token to token: laws by the kind of the token ahead.
use Prim.Native.Nat.{ℕ, suc, ◌+◌, ◌≤◌, ◌<◌}
use native.Mathlib.Numerals.{add-one}
use native.Mathlib.Omega.{arith}
use mathlib.Core.Path.{◌≡◌, refl, sym, ap, ◌∙◌}
use mathlib.Core.Bool.{true, false, true≢false}
use mathlib.Core.List.{List}
use Rattle.std.specs.Prelude.{Result, Err}
use lib.Dec.{eqb}
use borrow.Author.Tests.{le-leb, lt-leb}
use Rattle.notation.specs.Ceilings.{connective_ceiling}
use Rattle.notation.specs.Tokens.{Sign, same, implies, or, and, tokens_at}
use Rattle.notation.specs.Walk.{Flag, refused, walk, operand, after, within}
use Rattle.notation.specs.Grammar.{same_sign, is_sign, sign_next, past}
use Rattle.notation.specs.clauses.Cut.{ahead_as, ahead, ends, sign_of}
use Rattle.notation.specs.clauses.Place.{RefusedAt, CutSays}
use Rattle.notation.proofs.Placing.{never_both}
use Rattle.operands.specs.clauses.Steps.{binding, kind_is, joins, TokenFits, AdvancedSays, PastSignSays}
use Rattle.notation.specs.declared.refusal.Reason.TheVariants.{ManyConnectives}
use Rattle.notation.specs.declared.refusal.Refusal.{Refusal}
use Rattle.notation.specs.declared.refusal.Refused.{Refused}
use Rattle.notation.specs.declared.place.Kind.{Kind}
use Rattle.notation.specs.declared.place.Kind.TheVariants as kind
use Rattle.notation.specs.declared.place.Place.{Place}

-- signs are the same where they bind as tight
pub same-binding : (s t : Sign) → eqb (binding s) (binding t) ≡ same_sign s t
unfolding same_sign
same-binding same same = refl
same-binding same implies = refl
same-binding same or = refl
same-binding same and = refl
same-binding implies same = refl
same-binding implies implies = refl
same-binding implies or = refl
same-binding implies and = refl
same-binding or same = refl
same-binding or implies = refl
same-binding or or = refl
same-binding or and = refl
same-binding and same = refl
same-binding and implies = refl
same-binding and or = refl
same-binding and and = refl

-- whether a sign stands next is told by the kind of the token ahead
pub next-kind : (s : Sign) (k : Kind) (text : List ℕ) (p e : ℕ) → sign_next s (ahead_as k text p e) ≡ kind_is s k
unfolding sign_next is_sign ahead_as kind_is
next-kind s kind.End text p e = refl
next-kind s kind.Code text p e = refl
next-kind s (kind.Truth b) text p e = refl
next-kind s kind.Bang text p e = refl
next-kind s (kind.Sign c) text p e = refl
next-kind s kind.Opening text p e = refl
next-kind s kind.Closing text p e = refl

-- a kind that is some sign joins, and is not the end
pub sign-joins : (s : Sign) (k : Kind) → kind_is s k ≡ true → joins k ≡ true
unfolding kind_is
sign-joins s kind.End e = absurd (true≢false (sym e))
sign-joins s kind.Code e = absurd (true≢false (sym e))
sign-joins s (kind.Truth b) e = absurd (true≢false (sym e))
sign-joins s kind.Bang e = absurd (true≢false (sym e))
sign-joins s (kind.Sign c) e = refl
sign-joins s kind.Opening e = absurd (true≢false (sym e))
sign-joins s kind.Closing e = absurd (true≢false (sym e))

pub joins-on : (k : Kind) → joins k ≡ true → ends k ≡ false
joins-on kind.End e = absurd (true≢false (sym e))
joins-on kind.Code e = refl
joins-on (kind.Truth b) e = refl
joins-on kind.Bang e = refl
joins-on (kind.Sign c) e = refl
joins-on kind.Opening e = refl
joins-on kind.Closing e = refl

-- after a token that is not the end come the tokens from its end on
pub past-ahead : (k : Kind) (text : List ℕ) (p e : ℕ) → ends k ≡ false → past (ahead_as k text p e) ≡ tokens_at text e
unfolding past ahead_as
past-ahead kind.End text p e h = absurd (true≢false h)
past-ahead kind.Code text p e h = refl
past-ahead (kind.Truth b) text p e h = refl
past-ahead kind.Bang text p e h = refl
past-ahead (kind.Sign c) text p e h = refl
past-ahead kind.Opening text p e h = refl
past-ahead kind.Closing text p e h = refl

-- a sign past the ceiling is refused
pub sign-refused : (k : Kind) (text : List ℕ) (p e d : ℕ) (u : List Flag) (m : ℕ) → joins k ≡ true → connective_ceiling ≤ m →
    walk after d u m (ahead_as k text p e) ≡ refused ManyConnectives p
unfolding walk within ahead_as
sign-refused kind.End text p e d u m h l = absurd (true≢false (sym h))
sign-refused kind.Code text p e d u m h l = absurd (true≢false (sym h))
sign-refused (kind.Truth b) text p e d u m h l = absurd (true≢false (sym h))
sign-refused kind.Bang text p e d u m h l = absurd (true≢false (sym h))
sign-refused (kind.Sign c) text p e d u m h l = rw (lt-leb (suc m) connective_ceiling (omega arith))
sign-refused kind.Opening text p e d u m h l = absurd (true≢false (sym h))
sign-refused kind.Closing text p e d u m h l = absurd (true≢false (sym h))

-- a sign within the ceiling is passed
pub sign-passed : (k : Kind) (text : List ℕ) (p e d : ℕ) (u : List Flag) (m : ℕ) → joins k ≡ true → m < connective_ceiling →
    walk after d u m (ahead_as k text p e) ≡ walk operand d u (m + 1) (past (ahead_as k text p e))
unfolding walk within ahead_as past
sign-passed kind.End text p e d u m h l = absurd (true≢false (sym h))
sign-passed kind.Code text p e d u m h l = absurd (true≢false (sym h))
sign-passed (kind.Truth b) text p e d u m h l = absurd (true≢false (sym h))
sign-passed kind.Bang text p e d u m h l = absurd (true≢false (sym h))
sign-passed (kind.Sign c) text p e d u m h l = rw (add-one, le-leb (suc m) connective_ceiling l)
sign-passed kind.Opening text p e d u m h l = absurd (true≢false (sym h))
sign-passed kind.Closing text p e d u m h l = absurd (true≢false (sym h))

after-it : (text : List ℕ) (p : Place) → ends p.token.kind ≡ false → past (ahead text p.token) ≡ tokens_at text p.token.next
after-it text p on = past-ahead p.token.kind text p.token.start p.token.next on

-- the token after the one ahead, or a faulty one
pub advanced-says : {text : List ℕ} {p p' : Place} {r : Result Unit Refused} → TokenFits text p.token → ends p.token.kind ≡ false →
    CutSays text p.token.next p r p' → AdvancedSays text p r p'
advanced-says {text} {p} fits on c = record {
  taken = λ e.
      let n = c.taken e in
      record {
        tokens = after-it text p on ∙ n.tokens;
        token = record { moves = n.moves; inside = n.inside };
        later = omega (arith, fits.moves on, n.later);
        flags = c.behind.flags;
        signs = c.behind.signs;
        count = c.behind.count;
      };
  refused = λ x e w d u m. ap (walk w d u m) (after-it text p on) ∙ c.refused x e w d u m;
}

-- one sign more is counted
abbrev pub counted : Place → Place
counted p = record {
  token = p.token;
  flags = p.flags;
  signs = p.signs + 1;
  count = p.count;
  refusal = p.refusal;
}

module _ (text : List ℕ) (p : Place) (fits : TokenFits text p.token) (j : joins p.token.kind ≡ true) where
  -- past a sign that is within the ceiling
  pub past-sign-says : {p' : Place} {r : Result Unit Refused} → p.signs < connective_ceiling → CutSays text p.token.next (counted p) r p' →
      PastSignSays text p r p'
  past-sign-says l c =
      let on = joins-on p.token.kind j in
      record {
        taken = λ e.
            let n = c.taken e in (
              record {
                tokens = after-it text p on ∙ n.tokens;
                token = record { moves = n.moves; inside = n.inside };
                later = omega (arith, fits.moves on, n.later);
                flags = c.behind.flags;
                signs = c.behind.signs;
                count = c.behind.count;
              },
              l,
            );
        refused = λ x e d u.
            sign-passed p.token.kind text p.token.start p.token.next d u p.signs j l
            ∙ ap (walk operand d u (p.signs + 1)) (after-it text p on) ∙ c.refused x e operand d u (p.signs + 1);
      }

  -- past the ceiling it is refused
  pub past-sign-refused : {p' : Place} {x : Refused} → connective_ceiling ≤ p.signs → RefusedAt ManyConnectives p.token.start p p' →
      PastSignSays text p (Err x) p'
  past-sign-refused l c = record {
    taken = λ e. never_both e refl;
    refused = λ _ _ d u.
        sign-refused p.token.kind text p.token.start p.token.next d u p.signs j l
        ∙ ap (λ (f : Refusal). refused f.reason f.place) (sym c.refusal);
  }

same_self : (s : Sign) → same_sign s s ≡ true
unfolding same_sign
same_self same = refl
same_self implies = refl
same_self or = refl
same_self and = refl

-- where no sign stands next, the token ahead is none
pub stops-joins : (k : Kind) (text : List ℕ) (p e : ℕ) → ((s : Sign) → binding s ≤ 4 → sign_next s (ahead_as k text p e) ≡ false) → joins k
    ≡ false
unfolding ahead_as sign_next is_sign
stops-joins kind.End text p e h = refl
stops-joins kind.Code text p e h = refl
stops-joins (kind.Truth b) text p e h = refl
stops-joins kind.Bang text p e h = refl
stops-joins (kind.Sign c) text p e h = absurd (true≢false (sym (same_self (sign_of c)) ∙ h (sign_of c) (loosest (sign_of c))))
  where
    loosest : (s : Sign) → binding s ≤ 4
    loosest same = omega arith
    loosest implies = omega arith
    loosest or = omega arith
    loosest and = omega arith
stops-joins kind.Opening text p e h = refl
stops-joins kind.Closing text p e h = refl
