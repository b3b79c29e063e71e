-- Operands: a code, `#0` or `#1`, brackets and `!`, as the grammar, the walk and the triplets have them.
use Prim.Native.Nat.{ℕ, suc, ◌+◌, ◌*◌, ◌≤◌, ◌<◌}
use native.Mathlib.Omega.{arith}
use mathlib.Core.Path.{◌≡◌, refl, sym, ap, subst, ◌∙◌}
use mathlib.Core.Bool.{Bool, true, false, true≢false}
use mathlib.Core.List.{List, [], ◌∷◌, ◌++◌}
use lib.ListN.{length, set, length-append, length-set}
use Rattle.std.specs.Prelude.{Result, Err}
use lib.Dec.{leb}
use borrow.Author.Tests.{le-leb, lt-leb}
use Rattle.notation.specs.Ceilings.{flag_ceiling}
use Rattle.notation.specs.Tokens.{Tokens, Sign, same, implies, or, and, code, hash, at as token-at}
use Rattle.ground.specs.Choice.{choose}
use Rattle.notation.specs.Walk.{Flag, refused, walk, operand, after, within, known, seen}
use Rattle.notation.specs.Guard.{Guard, flag, truth, connectives}
use Rattle.notation.specs.Grammar.{Level, found, number, past, closed, operand_of}
use Rattle.notation.specs.Triplets.{literal, triplets, literal_ceiling}
use Rattle.notation.specs.clauses.Cut.{part, ahead_as, ahead, ends}
use Rattle.notation.specs.clauses.Codes.{flags_in, flag_at, code_at, InText, Keyed, PlaceOf}
use Rattle.notation.specs.clauses.Place.{RefusedAt}
use Rattle.operands.specs.clauses.Steps.{
  At,
  binding,
  joins,
  bangs,
  closes,
  place,
  Standing,
  Advanced,
  AdvancedSays,
  PastTokenSays,
  Atom,
  AtomSays,
  ClosedSays,
}
use Rattle.notation.specs.declared.refusal.Reason.TheVariants.{OutOfPlace, ManyFlags}
use Rattle.notation.specs.declared.refusal.Refusal.{Refusal}
use Rattle.notation.specs.declared.codes.Code.{Code}
use Rattle.notation.specs.declared.place.Kind.{Kind}
use Rattle.notation.specs.declared.place.Kind.TheVariants as kind
use Rattle.notation.specs.declared.place.Place.{Place}
use Rattle.notation.specs.declared.refusal.Refused.{Refused}
use Rattle.notation.proofs.Coding.{known-number, flags-length, flags-entered, in-text-entered}
use Rattle.notation.proofs.Placing.{never_both}

-- no sign binds tighter than `&`
pub no-tighter : (s : Sign) → binding s ≤ 0 → ⊥
no-tighter same h = omega arith
no-tighter implies h = omega arith
no-tighter or h = omega arith
no-tighter and h = omega arith

-- where the reader stands with n flags
abbrev pub with_flags : At → ℕ → At
with_flags at n = record { token = at.token; flags = n; signs = at.signs; count = at.count }

-- an operand of one token: a guard with no connective, after which the reader has n flags
pub record OneToken (text : List ℕ) (at : At) (codes codes' : List Code) (n : ℕ) (g : Guard) (l : ℕ) : Type 0 where
  pub plainly : connectives g ≡ 0
  pub nothing : (c : ℕ) → triplets c g ≡ []
  pub literally : (c : ℕ) → l ≡ literal c g
  pub small : l ≤ literal_ceiling
  pub parsed : (inner : Level) → operand_of inner (flags_in text codes at.flags) (ahead text at.token) ≡ found g (flags_in text codes' n)
      (past (ahead text at.token))
  pub walked : (d : ℕ) → walk operand d (flags_in text codes at.flags) at.signs (ahead text at.token) ≡ walk after d (flags_in text codes' n)
      at.signs (past (ahead text at.token))
  pub standing : Standing text codes' (with_flags at n)

module _ {text : List ℕ} {at : At} {codes codes' : List Code} {n : ℕ} {g : Guard} {l : ℕ} (o : OneToken text at codes codes' n g l) where
  -- such an operand, once the reader is past its token
  atom-found : (to : At) → Advanced text (with_flags at n) at.signs to → Atom text at codes l to codes'
  atom-found to a = record {
    guard = g;
    plainly = o.plainly;
    nothing = o.nothing;
    literally = o.literally;
    small = o.small;
    parsed = λ inner.
        o.parsed inner ∙ ap (λ (ts : Tokens). found g (flags_in text codes' n) ts) a.tokens
        ∙ ap (λ (k : ℕ). found g (flags_in text codes' k) (ahead text to.token)) (sym a.flags);
    walked = λ d.
        o.walked d ∙ ap (λ (ts : Tokens). walk after d (flags_in text codes' n) at.signs ts) a.tokens
        ∙ ap (λ (k : ℕ). walk after d (flags_in text codes' k) at.signs (ahead text to.token)) (sym a.flags)
        ∙ ap (λ (k : ℕ). walk after d (flags_in text codes' to.flags) k (ahead text to.token)) (sym a.signs);
    signs = a.signs;
    count = a.count;
    standing = record {
      token = a.token;
      in_text = subst (λ (k : ℕ). InText text codes' k) (sym a.flags) o.standing.in_text;
      table = o.standing.table;
      flags = omega (arith, a.flags, o.standing.flags);
      signs = omega (arith, a.signs, o.standing.signs);
      count = omega (arith, a.count, a.signs, o.standing.count);
    };
    later = a.later;
  }

-- the reader stands as at p, with n flags
abbrev pub flags_stored : ℕ → Place → Place
flags_stored n p = record { token = p.token; flags = n; signs = p.signs; count = p.count; refusal = p.refusal }

-- the operand of one token, from where its token was passed
pub atom-says : {text : List ℕ} {p : Place} {codes codes' : List Code} {n : ℕ} {g : Guard} {l : ℕ} → OneToken text (place p) codes codes' n g l →
    {p' : Place} {r : Result ℕ Refused} → PastTokenSays text (flags_stored n p) l r p' → AtomSays text p codes r p' codes'
atom-says {text} {p} {codes} {codes'} {n} {g} {l} o {p'} {r} a = record {
  found = λ m e.
      let q = a.found m e in
      subst (λ (k : ℕ). Atom text (place p) codes k (place p') codes') (sym q.1) (atom-found o (place p') q.0);
  refused = λ x e d. o.walked d ∙ a.refused x e after d (flags_in text codes' n) p.signs;
}

-- the token ahead, told by its kind
ahead-truth : (k : Kind) (text : List ℕ) (p e : ℕ) (b : Bool) → k ≡ kind.Truth b → ahead_as k text p e ≡ token-at p (hash b)
    (past (ahead_as k text p e))
unfolding ahead_as past
ahead-truth k text p e b q = rw q

ahead-code : (k : Kind) (text : List ℕ) (p e : ℕ) → k ≡ kind.Code → ahead_as k text p e ≡ token-at p (code (part p e text))
    (past (ahead_as k text p e))
unfolding ahead_as past
ahead-code k text p e q = rw q

literal-truth : (b : Bool) (c : ℕ) → literal c (truth b) ≡ choose b 0 1
unfolding literal
literal-truth true c = refl
literal-truth false c = refl

-- `#0` or `#1` is an operand
pub truth-token : (text : List ℕ) (at : At) (codes : List Code) (b : Bool) (l : ℕ) → Standing text codes at → at.token.kind ≡ kind.Truth b →
    l ≡ choose b 0 1 → l ≤ 1 →
    OneToken text at codes codes at.flags (truth b) l
unfolding operand_of walk connectives triplets
truth-token text at codes b l st k e h = record {
  plainly = refl;
  nothing = λ c. refl;
  literally = λ c. e ∙ sym (literal-truth b c);
  small = omega arith;
  parsed = λ inner. ap (operand_of inner (flags_in text codes at.flags)) (ahead-truth at.token.kind text at.token.start at.token.next b k);
  walked = λ d. ap (walk operand d (flags_in text codes at.flags) at.signs) (ahead-truth at.token.kind text at.token.start at.token.next b k);
  standing = st;
}

module _ (text : List ℕ) (at : At) (codes : List Code) (st : Standing text codes at) (k : at.token.kind ≡ kind.Code) where
  flags : List Flag
  flags = flags_in text codes at.flags

  name : List ℕ
  name = part at.token.start at.token.next text

  ahead-is : ahead text at.token ≡ token-at at.token.start (code name) (past (ahead text at.token))
  unfolding name
  ahead-is = ahead-code at.token.kind text at.token.start at.token.next k

  -- the grammar at a code
  code-parsed : (inner : Level) → operand_of inner flags (ahead text at.token) ≡ found (flag (number name flags))
      (seen at.token.start name flags) (past (ahead text at.token))
  unfolding operand_of
  code-parsed inner = ap (operand_of inner flags) ahead-is

  -- the walk at a code
  code-walked : (d : ℕ) → walk operand d flags at.signs (ahead text at.token)
      ≡ within (length (seen at.token.start name flags)) flag_ceiling ManyFlags at.token.start
      (walk after d (seen at.token.start name flags) at.signs (past (ahead text at.token)))
  unfolding walk
  code-walked d = ap (walk operand d flags at.signs) ahead-is

  module _ (r : ℕ) (pl : PlaceOf text codes at.flags (code_at text at.token.start at.token.next) r) where
    numbered : number name flags ≡ r + 1
    unfolding name flags
    numbered = pl.numbered

    is_known : (t : Bool) → leb (r + 1) at.flags ≡ t → known name flags ≡ t
    unfolding flags
    is_known t e = known-number name flags ∙ rw (numbered, flags-length text codes at.flags) e

    -- a code that is known
    known-seen : r < at.flags → seen at.token.start name flags ≡ flags
    unfolding seen
    known-seen h = rw (is_known true (le-leb (r + 1) at.flags (omega arith)))

    new-seen : at.flags ≤ r → seen at.token.start name flags ≡ flags ++ (flag_at text at.token.start at.token.next ∷ [])
    unfolding seen name
    new-seen h = rw (is_known false (lt-leb (r + 1) at.flags (omega arith)))

    -- is an operand
    pub known-token : r < at.flags → (l : ℕ) → l ≡ 2 * (r + 1) → OneToken text at codes codes at.flags (flag (r + 1)) l
    unfolding connectives triplets literal flags within
    known-token h l e = record {
      plainly = refl;
      nothing = λ c. refl;
      literally = λ c. e;
      small = omega (arith, st.flags);
      parsed = λ inner. code-parsed inner ∙ rw (numbered, known-seen h);
      walked = λ d. code-walked d ∙ rw (known-seen h, flags-length text codes at.flags, le-leb at.flags flag_ceiling st.flags);
      standing = st;
    }

    same_place : at.flags ≤ r → r ≡ at.flags
    same_place h = omega (arith, pl.small)

    longer : at.flags ≤ r → length (seen at.token.start name flags) ≡ at.flags + 1
    unfolding flags
    longer h = ap length (new-seen h) ∙ length-append flags (flag_at text at.token.start at.token.next ∷ []) ∙ rw
        (flags-length text codes at.flags)

    -- a code that is new is an operand too, and is entered into the table
    pub new-token : at.flags ≤ r → at.flags < flag_ceiling → (l : ℕ) → l ≡ 2 * (r + 1) → Keyed text (code_at text at.token.start at.token.next) →
        OneToken text at codes (set codes at.flags (code_at text at.token.start at.token.next)) (at.flags + 1) (flag (r + 1)) l
    unfolding connectives triplets literal within flags
    new-token h i l e key =
        let u' = new-seen h ∙ sym (flags-entered text codes at.flags (code_at text at.token.start at.token.next) (omega (arith, st.table))) in
        record {
          plainly = refl;
          nothing = λ c. refl;
          literally = λ c. e;
          small = omega (arith, same_place h);
          parsed = λ inner. code-parsed inner ∙ rw (numbered, u');
          walked = λ d. code-walked d ∙ rw (longer h, le-leb (at.flags + 1) flag_ceiling (omega arith), u');
          standing = record {
            token = st.token;
            in_text = in-text-entered text codes at.flags (code_at text at.token.start at.token.next) (omega (arith, st.table)) st.in_text key;
            table = simp length-set st.table;
            flags = omega arith;
            signs = st.signs;
            count = st.count;
          };
        }

    -- unless there are as many flags as there may be
    pub too_many : at.flags ≤ r → flag_ceiling ≤ at.flags → (d : ℕ) →
        walk operand d (flags_in text codes at.flags) at.signs (ahead text at.token) ≡ refused ManyFlags at.token.start
    unfolding within flags
    too_many h i d = code-walked d ∙ rw (longer h, lt-leb (at.flags + 1) flag_ceiling (omega arith))

-- a 25th flag
pub too-many-says : {text : List ℕ} {p : Place} {codes : List Code} {p' : Place} {y : Refused} →
    ((d : ℕ) → walk operand d (flags_in text codes p.flags) p.signs (ahead text p.token) ≡ refused ManyFlags p.token.start) →
    RefusedAt ManyFlags p.token.start p p' → AtomSays text p codes (Err y) p' codes
too-many-says h c = record {
  found = λ l e. never_both e refl;
  refused = λ _ _ d. h d ∙ ap (λ (f : Refusal). refused f.reason f.place) (sym c.refusal);
}

-- at a closing bracket the guard in brackets is an operand
closing-walked : (k : Kind) (text : List ℕ) (p e d : ℕ) (u : List Flag) (m : ℕ) → closes k ≡ true →
    walk after (suc d) u m (ahead_as k text p e) ≡ walk after d u m (past (ahead_as k text p e))
unfolding walk ahead_as past
closing-walked kind.End text p e d u m h = absurd (true≢false (sym h))
closing-walked kind.Code text p e d u m h = absurd (true≢false (sym h))
closing-walked (kind.Truth b) text p e d u m h = absurd (true≢false (sym h))
closing-walked kind.Bang text p e d u m h = absurd (true≢false (sym h))
closing-walked (kind.Sign c) text p e d u m h = absurd (true≢false (sym h))
closing-walked kind.Opening text p e d u m h = absurd (true≢false (sym h))
closing-walked kind.Closing text p e d u m h = refl

closing-parsed : (k : Kind) (text : List ℕ) (p e : ℕ) (g : Guard) (u : List Flag) → closes k ≡ true →
    closed g u (ahead_as k text p e) ≡ found g u (past (ahead_as k text p e))
unfolding closed ahead_as past
closing-parsed kind.End text p e g u h = absurd (true≢false (sym h))
closing-parsed kind.Code text p e g u h = absurd (true≢false (sym h))
closing-parsed (kind.Truth b) text p e g u h = absurd (true≢false (sym h))
closing-parsed kind.Bang text p e g u h = absurd (true≢false (sym h))
closing-parsed (kind.Sign c) text p e g u h = absurd (true≢false (sym h))
closing-parsed kind.Opening text p e g u h = absurd (true≢false (sym h))
closing-parsed kind.Closing text p e g u h = refl

-- another token, no sign, cannot stand there
pub no-closing : (k : Kind) (text : List ℕ) (p e d : ℕ) (u : List Flag) (m : ℕ) → joins k ≡ false → closes k ≡ false →
    walk after (suc d) u m (ahead_as k text p e) ≡ refused OutOfPlace p
unfolding walk ahead_as
no-closing kind.End text p e d u m i h = refl
no-closing kind.Code text p e d u m i h = refl
no-closing (kind.Truth b) text p e d u m i h = refl
no-closing kind.Bang text p e d u m i h = refl
no-closing (kind.Sign c) text p e d u m i h = absurd (true≢false i)
no-closing kind.Opening text p e d u m i h = refl
no-closing kind.Closing text p e d u m i h = absurd (true≢false h)

pub closing-on : (k : Kind) → closes k ≡ true → ends k ≡ false
closing-on kind.End e = absurd (true≢false (sym e))
closing-on kind.Code e = refl
closing-on (kind.Truth b) e = refl
closing-on kind.Bang e = refl
closing-on (kind.Sign c) e = refl
closing-on kind.Opening e = refl
closing-on kind.Closing e = refl

module _ {text : List ℕ} {p p' : Place} where
  pub closed-says : {r : Result Unit Refused} → closes p.token.kind ≡ true → AdvancedSays text p r p' → ClosedSays text p r p'
  closed-says k a = record {
    taken = λ e.
        let v = a.taken e in
        record {
          advanced = v;
          walked = λ d u m. closing-walked p.token.kind text p.token.start p.token.next d u m k ∙ ap (walk after d u m) v.tokens;
          parsed = λ g u. closing-parsed p.token.kind text p.token.start p.token.next g u k ∙ ap (found g u) v.tokens;
        };
    refused = λ x e d u m. closing-walked p.token.kind text p.token.start p.token.next d u m k ∙ a.refused x e after d u m;
  }

  pub closed-refused : {x : Refused} → joins p.token.kind ≡ false → closes p.token.kind ≡ false → RefusedAt OutOfPlace p.token.start p p' →
      ClosedSays text p (Err x) p'
  closed-refused j k c = record {
    taken = λ e. never_both e refl;
    refused = λ _ _ d u m.
        no-closing p.token.kind text p.token.start p.token.next d u m j k ∙ ap (λ (f : Refusal). refused f.reason f.place) (sym c.refusal);
  }

-- no operand starts with the end, a sign or a closing bracket
abbrev pub opens : Kind → Bool
opens kind.End = false
opens kind.Code = true
opens (kind.Truth b) = true
opens kind.Bang = true
opens (kind.Sign c) = false
opens kind.Opening = true
opens kind.Closing = false

pub no-opener : (k : Kind) → bangs k ≡ false → (k ≡ kind.Code → ⊥) → ((b : Bool) → k ≡ kind.Truth b → ⊥) → (k ≡ kind.Opening → ⊥) →
    opens k ≡ false
no-opener kind.End b c t o = refl
no-opener kind.Code b c t o = absurd (c refl)
no-opener (kind.Truth x) b c t o = absurd (t x refl)
no-opener kind.Bang b c t o = absurd (true≢false b)
no-opener (kind.Sign s) b c t o = refl
no-opener kind.Opening b c t o = absurd (o refl)
no-opener kind.Closing b c t o = refl

pub no_operand : (k : Kind) (text : List ℕ) (p e d : ℕ) (u : List Flag) (m : ℕ) → opens k ≡ false →
    walk operand d u m (ahead_as k text p e) ≡ refused OutOfPlace p
unfolding walk ahead_as
no_operand kind.End text p e d u m h = refl
no_operand kind.Code text p e d u m h = absurd (true≢false h)
no_operand (kind.Truth b) text p e d u m h = absurd (true≢false h)
no_operand kind.Bang text p e d u m h = absurd (true≢false h)
no_operand (kind.Sign c) text p e d u m h = refl
no_operand kind.Opening text p e d u m h = absurd (true≢false h)
no_operand kind.Closing text p e d u m h = refl
