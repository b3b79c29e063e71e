-- Operands that hold operands: brackets, and `!` before an operand.
use Prim.Native.Nat.{ℕ, zero, suc, ◌+◌, ◌-◌, ◌*◌, ◌/◌, ◌%◌, ◌≤◌, ◌<◌}
use native.Mathlib.Numerals.{add-one}
use native.Mathlib.Omega.{arith}
use mathlib.Core.Path.{◌≡◌, refl, sym, ap, subst, ◌∙◌}
use mathlib.Core.Bool.{true, false, true≢false}
use mathlib.Core.List.{List, ◌++◌}
use lib.ListN.{take}
use borrow.Author.Tests.{le-leb, lt-leb}
use Rattle.notation.specs.Ceilings.{connective_ceiling, bracket_ceiling}
use Rattle.notation.specs.Tokens.{Tokens, Sign, opening, bang, at as token-at}
use Rattle.notation.specs.Walk.{Flag, refused, walk, operand, after, within}
use Rattle.notation.specs.Guard.{Guard, negated, connectives}
use Rattle.notation.specs.Grammar.{Level, Parsed, found, follow, past, closed, operand_of, in_brackets, same_of, to_the_right, right_level}
use Rattle.notation.specs.Triplets.{Triplet, literal, triplets, numbers, negation, literal_ceiling}
use Rattle.notation.specs.clauses.Writing.{signed}
use Rattle.notation.specs.clauses.Cut.{ahead_as, ahead, ends, FaultyHere}
use Rattle.notation.specs.clauses.Codes.{flags_in, InText}
use Rattle.notation.specs.declared.codes.Code.{Code}
use Rattle.operands.specs.clauses.Steps.{At, Part, bangs, TokenFits, Standing, Advanced, Closed}
use Rattle.levels.specs.clauses.Levels.{plain, FoundPart, operands_at}
use Rattle.notation.specs.declared.refusal.Reason.TheVariants.{ManyBrackets}
use Rattle.notation.specs.declared.refusal.Refusal.{Refusal}
use Rattle.notation.specs.declared.place.Kind.{Kind}
use Rattle.notation.specs.declared.place.Kind.TheVariants as kind
use Rattle.operands.proofs.Operands.{no-tighter}

-- a level that groups to the right, with all the room that there can be
pub right_is : (s : Sign) (next : Level) (d k : ℕ) (text : List ℕ) (at : At) (codes : List Code) (out : List ℕ) (p : Part) (codes' : List Code)
    (out' : List ℕ) →
    FoundPart (to_the_right s next) d k text at codes out p codes' out' → FoundPart (plain (right_level s next)) d k text at codes out p codes' out'
unfolding right_level
right_is s next d k text at codes out p codes' out' f = record {
  guard = f.guard;
  reads = record {
    parsed = λ _ _. f.reads.parsed connective_ceiling (omega arith);
    walked = f.reads.walked;
    signs = f.reads.signs;
    stops = f.reads.stops;
  };
  writes = f.writes;
  standing = f.standing;
  later = f.later;
}

-- an opening bracket
ahead-opening : (k : Kind) (text : List ℕ) (p e : ℕ) → k ≡ kind.Opening → ahead_as k text p e ≡ token-at p opening (past (ahead_as k text p e))
unfolding ahead_as past
ahead-opening k text p e q = rw q

module _ (text : List ℕ) (at : At) (k : at.token.kind ≡ kind.Opening) (d : ℕ) where
  opening-is : ahead text at.token ≡ token-at at.token.start opening (past (ahead text at.token))
  opening-is = ahead-opening at.token.kind text at.token.start at.token.next k

  -- one too many
  pub bracket-refused : (u : List Flag) (m : ℕ) → bracket_ceiling ≤ d → walk operand d u m (ahead text at.token) ≡ refused ManyBrackets at.token.start
  unfolding walk within
  bracket-refused u m h = ap (walk operand d u m) opening-is ∙ rw (lt-leb (suc d) bracket_ceiling (omega arith))

  -- the walk goes on inside
  pub bracket-walked : (u : List Flag) (m : ℕ) → d < bracket_ceiling → walk operand d u m (ahead text at.token) ≡ walk operand (d + 1) u m
      (past (ahead text at.token))
  unfolding walk within
  bracket-walked u m h = ap (walk operand d u m) opening-is ∙ rw (add-one, le-leb (suc d) bracket_ceiling h)

  -- the grammar goes on inside
  bracket-parsed : (u : List Flag) → d < bracket_ceiling →
      operands_at d u (ahead text at.token) ≡ follow (same_of (operands_at (d + 1)) u (past (ahead text at.token))) (λ g v us. closed g v us)
  unfolding operand_of in_brackets
  bracket-parsed u h =
      let less : bracket_ceiling - d ≡ suc (bracket_ceiling - (d + 1)) = omega arith in
      ap (operands_at d u) opening-is ∙ ap (λ (n : ℕ). follow (in_brackets n u (past (ahead text at.token))) (λ g v us. closed g v us)) less

  module _ (codes : List Code) (out : List ℕ) (inside : At) (a : Advanced text at at.signs inside) (h : d < bracket_ceiling) where
    -- what stands inside, said of the tokens past the bracket
    into : walk operand d (flags_in text codes at.flags) at.signs (ahead text at.token)
        ≡ walk operand (d + 1) (flags_in text codes inside.flags) inside.signs (ahead text inside.token)
    into =
        bracket-walked (flags_in text codes at.flags) at.signs h
        ∙ ap (λ (n : ℕ). walk operand (d + 1) (flags_in text codes n) at.signs (past (ahead text at.token))) (sym a.flags)
        ∙ ap (λ (n : ℕ). walk operand (d + 1) (flags_in text codes inside.flags) n (past (ahead text at.token))) (sym a.signs)
        ∙ ap (walk operand (d + 1) (flags_in text codes inside.flags) inside.signs) a.tokens

    -- a refusal inside is the bracket's
    pub inside-refused : (f : Refusal) → walk operand (d + 1) (flags_in text codes inside.flags) inside.signs
        (ahead text inside.token) ≡ refused f.reason f.place →
        walk operand d (flags_in text codes at.flags) at.signs (ahead text at.token) ≡ refused f.reason f.place
    inside-refused f e = into ∙ e

    pub inside-standing : Standing text codes at → Standing text codes inside
    inside-standing st = record {
      token = a.token;
      in_text = subst (λ (n : ℕ). InText text codes n) (sym a.flags) st.in_text;
      table = st.table;
      flags = omega (arith, a.flags, st.flags);
      signs = omega (arith, a.signs, st.signs);
      count = omega (arith, a.count, a.signs, st.count);
    }

    module _ {part : Part} {codes' : List Code} {out' : List ℕ} (p : FoundPart (plain (same_of (operands_at (d + 1))))
        (d + 1) 4 text inside codes out part codes'
        out') where
      -- no closing bracket follows
      pub never-closed : (f : Refusal) → ((e : ℕ) (u : List Flag) (m : ℕ) → walk after (suc e) u m (ahead text part.at.token) ≡ refused
          f.reason f.place) →
          walk operand d (flags_in text codes at.flags) at.signs (ahead text at.token) ≡ refused f.reason f.place
      never-closed f e = into ∙ p.reads.walked ∙ ap (λ (n : ℕ). walk after n (flags_in text codes' part.at.flags) part.at.signs
          (ahead text part.at.token)) (add-one d) ∙ e d (flags_in text codes' part.at.flags) part.at.signs

      -- the guard in brackets
      pub bracket-found : (q : At) → Closed text part.at q →
          FoundPart (plain (operands_at d)) d 0 text at codes out (record { literal = part.literal; at = q }) codes' out'
      unfolding follow
      bracket-found q c = record {
        guard = p.guard;
        reads = record {
          parsed = λ f i.
              bracket-parsed (flags_in text codes at.flags) h
              ∙ ap (λ (x : Parsed). follow x (λ g v us. closed g v us))
              (ap (λ (n : ℕ). same_of (operands_at (d + 1)) (flags_in text codes n) (past (ahead text at.token))) (sym a.flags)
              ∙ ap (same_of (operands_at (d + 1)) (flags_in text codes inside.flags)) a.tokens ∙ p.reads.parsed f (omega (arith, a.signs)))
              ∙ c.parsed p.guard (flags_in text codes' part.at.flags)
              ∙ ap (λ (n : ℕ). found p.guard (flags_in text codes' n) (ahead text q.token)) (sym c.advanced.flags);
          walked =
              into ∙ p.reads.walked
              ∙ ap (λ (n : ℕ). walk after n (flags_in text codes' part.at.flags) part.at.signs (ahead text part.at.token)) (add-one d)
              ∙ c.walked d (flags_in text codes' part.at.flags) part.at.signs
              ∙ ap (λ (n : ℕ). walk after d (flags_in text codes' n) part.at.signs (ahead text q.token)) (sym c.advanced.flags)
              ∙ ap (λ (n : ℕ). walk after d (flags_in text codes' q.flags) n (ahead text q.token)) (sym c.advanced.signs);
          signs = omega (arith, c.advanced.signs, p.reads.signs, a.signs);
          stops = λ s b. absurd (no-tighter s b);
        };
        writes = record {
          literal = p.writes.literal ∙ ap (λ (n : ℕ). literal n p.guard) a.count;
          small = p.writes.small;
          count = omega (arith, c.advanced.count, p.writes.count, a.count);
          written = ap (λ (n : ℕ). take (3 * n) out') c.advanced.count ∙ p.writes.written ∙ ap
              (λ (n : ℕ). take (3 * n) out ++ numbers (triplets n p.guard)) a.count;
        };
        standing = record {
          token = c.advanced.token;
          in_text = subst (λ (n : ℕ). InText text codes' n) (sym c.advanced.flags) p.standing.in_text;
          table = p.standing.table;
          flags = omega (arith, c.advanced.flags, p.standing.flags);
          signs = omega (arith, c.advanced.signs, p.standing.signs);
          count = omega (arith, c.advanced.count, c.advanced.signs, p.standing.count);
        };
        later = omega (arith, a.later, p.later, c.advanced.later);
      }

-- a literal is turned not at all by 0
pub signed-not : (l : ℕ) → signed l 0 ≡ l
unfolding signed
signed-not l = omega arith

twice : (l n : ℕ) → n ≡ 2 * (l / 2) + (l + 1) % 2 → 2 * (n / 2) + (n + 1) % 2 ≡ l
twice l n e = omega arith

-- negating a literal turns it once more
pub signed-once-more : (odd l : ℕ) → odd ≤ 1 → signed (negation l) odd ≡ signed l (1 - odd)
unfolding signed negation
signed-once-more zero l h = signed-not (negation l)
signed-once-more (suc zero) l h = twice l (negation l) refl ∙ sym (signed-not l)
signed-once-more (suc (suc n)) l h = absurd (omega arith)

pub signed-small : (odd l : ℕ) → odd ≤ 1 → l ≤ literal_ceiling → signed l odd ≤ literal_ceiling
unfolding signed
signed-small odd l h i = omega arith

ahead-bang : (k : Kind) (text : List ℕ) (p e : ℕ) → bangs k ≡ true → ahead_as k text p e ≡ token-at p bang (past (ahead_as k text p e))
unfolding ahead_as past
ahead-bang kind.End text p e h = absurd (true≢false (sym h))
ahead-bang kind.Code text p e h = absurd (true≢false (sym h))
ahead-bang (kind.Truth b) text p e h = absurd (true≢false (sym h))
ahead-bang kind.Bang text p e h = refl
ahead-bang (kind.Sign c) text p e h = absurd (true≢false (sym h))
ahead-bang kind.Opening text p e h = absurd (true≢false (sym h))
ahead-bang kind.Closing text p e h = absurd (true≢false (sym h))

pub bang-on : (k : Kind) → bangs k ≡ true → ends k ≡ false
bang-on kind.End e = absurd (true≢false (sym e))
bang-on kind.Code e = refl
bang-on (kind.Truth b) e = refl
bang-on kind.Bang e = refl
bang-on (kind.Sign c) e = refl
bang-on kind.Opening e = refl
bang-on kind.Closing e = refl

-- the guard h is g behind some `!`, an odd number of them where odd is 1
pub record Turned (odd : ℕ) (g h : Guard) : Type 0 where
  pub literally : (c : ℕ) → literal c h ≡ signed (literal c g) odd
  pub nothing : (c : ℕ) → triplets c h ≡ triplets c g
  pub plainly : connectives h ≡ connectives g

-- the reader has passed `!` from where it stood to here, an odd number of them where odd is 1
pub record Bangs (text : List ℕ) (at here : At) (odd : ℕ) : Type 0 where
  pub walked : (d : ℕ) (u : List Flag) (m : ℕ) → walk operand d u m (ahead text at.token) ≡ walk operand d u m (ahead text here.token)
  pub parsed : (inner : Level) (u : List Flag) (g : Guard) (v : List Flag) (us : Tokens) → operand_of inner u (ahead text here.token) ≡ found g v us →
      (h : Guard) × (operand_of inner u (ahead text at.token) ≡ found h v us) × Turned odd g h
  pub parity : odd ≤ 1
  pub flags : here.flags ≡ at.flags
  pub signs : here.signs ≡ at.signs
  pub count : here.count ≡ at.count
  pub token : TokenFits text here.token
  pub later : at.token.start ≤ here.token.start

-- none so far
pub bangs-none : (text : List ℕ) (at : At) → TokenFits text at.token → Bangs text at at 0
bangs-none text at t = record {
  walked = λ d u m. refl;
  parsed = λ inner u g v us e. (g, e, record { literally = λ c. sym (signed-not (literal c g)); nothing = λ c. refl; plainly = refl });
  parity = omega arith;
  flags = refl;
  signs = refl;
  count = refl;
  token = t;
  later = omega arith;
}

module _ (text : List ℕ) (at here : At) (odd : ℕ) (b : Bangs text at here odd) (k : bangs here.token.kind ≡ true) where
  bang-is : ahead text here.token ≡ token-at here.token.start bang (past (ahead text here.token))
  bang-is = ahead-bang here.token.kind text here.token.start here.token.next k

  bang-parsed : (inner : Level) (u : List Flag) (g : Guard) (v : List Flag) (us : Tokens) → operand_of inner u (past (ahead text here.token)) ≡ found g
      v us →
      operand_of inner u (ahead text here.token) ≡ found (negated g) v us
  unfolding operand_of follow
  bang-parsed inner u g v us e = ap (operand_of inner u) bang-is ∙ ap (λ (x : Parsed). follow x (λ y w ws. found (negated y) w ws)) e

  bang-walked : (d : ℕ) (u : List Flag) (m : ℕ) → walk operand d u m (ahead text here.token) ≡ walk operand d u m (past (ahead text here.token))
  unfolding walk
  bang-walked d u m = ap (walk operand d u m) bang-is

  -- what follows is faulty
  pub bangs-refused : (f : Refusal) → FaultyHere (past (ahead text here.token)) f → (d : ℕ) (u : List Flag) (m : ℕ) →
      walk operand d u m (ahead text at.token) ≡ refused f.reason f.place
  bangs-refused f a d u m = b.walked d u m ∙ bang-walked d u m ∙ a operand d u m

  -- one more
  pub bangs-more : (to : At) → Advanced text here here.signs to → Bangs text at to (1 - odd)
  unfolding literal triplets connectives
  bangs-more to a = record {
    walked = λ d u m. b.walked d u m ∙ bang-walked d u m ∙ ap (walk operand d u m) a.tokens;
    parsed = λ inner u g v us e.
        let r = b.parsed inner u (negated g) v us (bang-parsed inner u g v us (ap (operand_of inner u) a.tokens ∙ e)) in (
          r.0,
          r.1,
          record {
            literally = λ c. r.2.literally c ∙ signed-once-more odd (literal c g) b.parity;
            nothing = λ c. r.2.nothing c;
            plainly = r.2.plainly;
          },
        );
    parity = omega arith;
    flags = a.flags ∙ b.flags;
    signs = a.signs ∙ b.signs;
    count = a.count ∙ b.count;
    token = a.token;
    later = omega (arith, b.later, a.later);
  }

module _ (text : List ℕ) (at here : At) (odd : ℕ) (b : Bangs text at here odd) (codes : List Code) where
  here-walked : (d : ℕ) → walk operand d (flags_in text codes at.flags) at.signs (ahead text at.token) ≡ walk operand d
      (flags_in text codes here.flags) here.signs (ahead text here.token)
  here-walked d =
      b.walked d (flags_in text codes at.flags) at.signs
      ∙ ap (λ (n : ℕ). walk operand d (flags_in text codes n) at.signs (ahead text here.token)) (sym b.flags)
      ∙ ap (λ (n : ℕ). walk operand d (flags_in text codes here.flags) n (ahead text here.token)) (sym b.signs)

  pub here-standing : Standing text codes at → Standing text codes here
  here-standing st = record {
    token = b.token;
    in_text = subst (λ (n : ℕ). InText text codes n) (sym b.flags) st.in_text;
    table = st.table;
    flags = omega (arith, b.flags, st.flags);
    signs = omega (arith, b.signs, st.signs);
    count = omega (arith, b.count, b.signs, st.count);
  }

  -- the operand behind them is refused
  pub behind-refused : (d : ℕ) (f : Refusal) → walk operand d (flags_in text codes here.flags) here.signs (ahead text here.token) ≡ refused
      f.reason f.place →
      walk operand d (flags_in text codes at.flags) at.signs (ahead text at.token) ≡ refused f.reason f.place
  behind-refused d f e = here-walked d ∙ e

  -- the operand behind them, turned
  pub behind-found : (d : ℕ) (out : List ℕ) {p : Part} {codes' : List Code} {out' : List ℕ} → FoundPart (plain (operands_at d)) d 0 text here codes out p
      codes' out' →
      FoundPart (plain (operands_at d)) d 0 text at codes out (record { literal = signed p.literal odd; at = p.at }) codes' out'
  behind-found d out {p} {codes'} {out'} r =
      let t = b.parsed (in_brackets (bracket_ceiling - d)) (flags_in text codes here.flags) r.guard (flags_in text codes' p.at.flags)
      (ahead text p.at.token) (r.reads.parsed connective_ceiling (omega arith)) in
      record {
        guard = t.0;
        reads = record {
          parsed = λ f i. ap (λ (n : ℕ). operands_at d (flags_in text codes n) (ahead text at.token)) (sym b.flags) ∙ t.1;
          walked = here-walked d ∙ r.reads.walked;
          signs = omega (arith, r.reads.signs, b.signs, t.2.plainly);
          stops = r.reads.stops;
        };
        writes = record {
          literal = ap (λ (l : ℕ). signed l odd) (r.writes.literal ∙ ap (λ (n : ℕ). literal n r.guard) b.count) ∙ sym
              (t.2.literally at.count);
          small = signed-small odd p.literal b.parity r.writes.small;
          count = omega (arith, r.writes.count, b.count, t.2.plainly);
          written = r.writes.written ∙ ap (λ (n : ℕ). take (3 * n) out ++ numbers (triplets n r.guard)) b.count ∙ ap
              (λ (x : List Triplet). take (3 * at.count) out ++ numbers x) (sym (t.2.nothing at.count));
        };
        standing = r.standing;
        later = omega (arith, b.later, r.later);
      }
